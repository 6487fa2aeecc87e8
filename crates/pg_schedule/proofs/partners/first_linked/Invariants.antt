use Rattle.std.proofs.Common.{◌≡◌, ◌≤◌, length}
use Rattle.std.specs.List.{find}
use Rattle.pg_schedule.specs.Unordered.{timed_of}
use Rattle.pg_run_trace.specs.Races as races
use Rattle.pg_schedule.specs.Links.{is_unordered_at, linked}
use Rattle.pg_schedule.proofs.partners.first_linked.Given as goal

abbrev pub invariant-loop-at : goal.invariant-loop-at
invariant-loop-at l = record {
  within : l.at ≤ length l.links.links.items;
  found : find (is_unordered_at (races.timed_by races.asked l.t.steps) (timed_of l.x)) (linked l.links.links.items l.at)
      ≡ find (is_unordered_at (races.timed_by races.asked l.t.steps) (timed_of l.x)) (linked l.links.links.items l.from);
}

abbrev pub decreases-loop-at : goal.decreases-loop-at
decreases-loop-at l = l.at
