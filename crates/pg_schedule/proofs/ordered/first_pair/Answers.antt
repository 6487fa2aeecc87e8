use Rattle.std.proofs.Common.{◌+◌, drop, take, arith, sym, ap, ◌∙◌}
use Rattle.std.specs.Prelude.{slice_get}
use Rattle.pg_run_trace.specs.Races as races
use Rattle.pg_schedule.proofs.StepPositions.{timed_length}
use Rattle.pg_schedule.specs.Partners.{earlier_of}
use Rattle.pg_schedule.proofs.UnorderedSearch.{none_unmarked, pairs_end, pairs_next}
use Rattle.pg_schedule.proofs.NumberedSteps.{get_some}
use Rattle.pg_schedule.proofs.RaceTable.{marks_before}
use Rattle.pg_schedule.proofs.ordered.first_pair.Goals as goal
use Rattle.pg_schedule.proofs.ordered.first_pair.Goals.{then-mark_at+in_default, else-mark_at}

pub mark_at-requires : goal.mark_at-requires
mark_at-requires c = let l = marks_before races.recorded c.args.t.now.steps c.args.before.now c.requires.before in omega (arith, l)

pub returns-in-Some : goal.returns-in-Some
returns-in-Some c =
    let ys = races.timed_by races.recorded c.args.t.now.steps in
    let j = c.loop-j.j in
    let l = timed_length races.recorded c.args.t.now.steps in
    let at = get_some ys j (omega (arith, l)) in
    let p = sym (c.earlier.ensures ∙ ap (earlier_of ys j) at.1) ∙ c.in-Some.is in
    sym (c.loop-j.invariant ∙ pairs_next ys j at.0 at.1 ∙ ap (λ o. races.pair_or j o (races.unordered_in (take (j + 1) ys) (j + 1) (drop (j + 1) ys))) p)

pub loop-j-preserved : goal.loop-j-preserved
loop-j-preserved c =
    let ys = races.timed_by races.recorded c.args.t.now.steps in
    let j = c.loop-j.j in
    let l = timed_length races.recorded c.args.t.now.steps in
    let at = get_some ys j (omega (arith, l)) in
    elim c.if-mark_at.branch [
      | then-mark_at+in_default w ↦ c.loop-j.invariant ∙ pairs_next ys j at.0 at.1
          ∙ ap (λ o. races.pair_or j o (races.unordered_in (take (j + 1) ys) (j + 1) (drop (j + 1) ys))) (sym (w.earlier.ensures ∙ ap (earlier_of ys j) at.1) ∙ w.in_default.is)
      | else-mark_at w ↦ c.loop-j.invariant ∙ pairs_next ys j at.0 at.1
          ∙ ap (λ o. races.pair_or j o (races.unordered_in (take (j + 1) ys) (j + 1) (drop (j + 1) ys)))
          (none_unmarked c.args.t.now.steps j at.0 c.mark_at.result at.1 (sym (ap (λ l. slice_get l j) c.requires.before) ∙ c.mark_at.ensures) w.if-mark_at.false)
    ]

pub returns : goal.returns
returns c =
    let l = timed_length races.recorded c.args.t.now.steps in
    sym (c.loop-j.invariant ∙ pairs_end (races.timed_by races.recorded c.args.t.now.steps) c.loop-j.j (omega (arith, l)))
