use Rattle.std.proofs.Common.{[], map, ap, ◌∙◌}
use Rattle.pg_run_trace.specs.Races as races
use Rattle.pg_schedule.specs.Touches.{before_in}
use Rattle.pg_schedule.specs.Touching.{forward}
use Rattle.pg_schedule.proofs.AnsweredSteps.{beside_own}
use Rattle.pg_schedule.proofs.UnorderedSearch.{intervals_length_of, intervals_within}
use Rattle.pg_schedule.proofs.ordered.is_ordered.Goals as goal

pub touches-requires-clause-as_many : goal.touches-requires-clause-as_many
touches-requires-clause-as_many c = intervals_length_of races.recorded c.args.t.now.steps _ (c.as_slice.ensures.value ∙ c.in_ok-intervals.ensures)

pub touches-requires-clause-within : goal.touches-requires-clause-within
touches-requires-clause-within c = intervals_within races.recorded c.args.t.now.steps _ (c.as_slice.ensures.value ∙ c.in_ok-intervals.ensures)

pub first_pair-requires-clause-before : goal.first_pair-requires-clause-before
first_pair-requires-clause-before c =
    c.as_slice-4.ensures.value ∙ c.in_ok-before.ensures
    ∙ ap (before_in []) (c.as_slice-2.ensures.value ∙ c.in_ok-touches.ensures
    ∙ ap (map forward) (beside_own races.recorded c.args.t.now.steps _ (c.as_slice.ensures.value ∙ c.in_ok-intervals.ensures)))
