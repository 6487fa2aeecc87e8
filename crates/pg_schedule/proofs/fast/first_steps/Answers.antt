use Rattle.std.proofs.Common.{[], map, length, sym, ap, ◌∙◌}
use Rattle.pg_run_trace.specs.Races as defs
use Rattle.pg_schedule.proofs.StepPositions.{timed_length}
use Rattle.pg_schedule.specs.Touches.{before_in, behind_in}
use Rattle.pg_schedule.specs.Touching.{backward, forward}
use Rattle.pg_schedule.proofs.AnsweredSteps.{beside_own}
use Rattle.pg_schedule.proofs.UnorderedSearch.{intervals_length_of, intervals_within}
use Rattle.pg_schedule.proofs.fast.first_steps.Goals as goal

pub touches-requires-clause-as_many : goal.touches-requires-clause-as_many
touches-requires-clause-as_many c = intervals_length_of defs.asked c.args.t.now.steps c.args.intervals.now c.requires.intervals

pub touches-requires-clause-within : goal.touches-requires-clause-within
touches-requires-clause-within c = intervals_within defs.asked c.args.t.now.steps c.args.intervals.now c.requires.intervals

pub touches-requires-2-clause-as_many : goal.touches-requires-2-clause-as_many
touches-requires-2-clause-as_many c = intervals_length_of defs.asked c.args.t.now.steps c.args.intervals.now c.requires.intervals

pub touches-requires-2-clause-within : goal.touches-requires-2-clause-within
touches-requires-2-clause-within c = intervals_within defs.asked c.args.t.now.steps c.args.intervals.now c.requires.intervals

pub firsts-requires-clause-before : goal.firsts-requires-clause-before
firsts-requires-clause-before c =
    c.as_slice-3.ensures.value ∙ c.in_ok-before.ensures
    ∙ ap (before_in []) (c.as_slice.ensures.value ∙ c.in_ok-forward.ensures ∙ ap (map forward) (beside_own defs.asked c.args.t.now.steps c.args.intervals.now c.requires.intervals))

pub firsts-requires-clause-behind : goal.firsts-requires-clause-behind
firsts-requires-clause-behind c =
    let ns = c.args.intervals.now in
    let ys = defs.timed_by defs.asked c.args.t.now.steps in
    let n = intervals_length_of defs.asked c.args.t.now.steps ns c.requires.intervals ∙ sym (timed_length defs.asked c.args.t.now.steps) in
    c.as_slice-4.ensures.value ∙ c.in_ok-behind.ensures
    ∙ ap behind_in (c.as_slice-2.ensures.value ∙ c.in_ok-backward.ensures ∙ ap (map (backward (length ns))) (beside_own defs.asked c.args.t.now.steps ns c.requires.intervals)
    ∙ ap (λ k. map (backward k) ys) n)
