use Rattle.std.proofs.Common.{◌≡◌, ap, ◌∙◌, arith}
use Rattle.std.specs.Prelude.{slice_get}
use Rattle.pg_law_runs.specs.Deeds.{owners_of}
use Rattle.pg_law_course.proofs.TurnNumbers.{ascend, own_turn}
use Rattle.pg_law_course.proofs.the_turns_of_a_thread_ascend.Goals as goal

pub returns-clause-own : goal.returns-clause-own
returns-clause-own c t i g turns e =
    let k = own_turn t 0 (owners_of turns) i g e in
    let same : g ≡ k.turn = (let n = k.number in omega (arith, n)) in
    ap (slice_get (owners_of turns)) same ∙ k.own

pub returns-clause-ascend : goal.returns-clause-ascend
returns-clause-ascend c t i j g h turns e f l = ascend t 0 (owners_of turns) i j g h e f l
