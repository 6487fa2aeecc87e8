use Rattle.std.proofs.Common.{◌≡◌, drop}
use Rattle.std.specs.List.{list_all}
use Rattle.pg_precondition.specs.Scratches.{AreFirst}
use Rattle.pg_precondition.specs.Values.{holds, numbers_of}
use Rattle.pg_precondition.proofs.checks.all_hold.Given as goal

abbrev pub invariant-loop-check : goal.invariant-loop-check
invariant-loop-check l =
    (list_all (holds (numbers_of l.fn.input l.fn.nodes)) l.fn.checks ≡ list_all (holds (numbers_of l.fn.input l.fn.nodes)) (drop l.check-index l.fn.checks))
    × AreFirst l.fn.input l.fn.nodes l.scratch.numbers × (l.scratch.room ≡ l.fn.scratch.room)
