use Rattle.std.proofs.Common.{◌≡◌}
use Rattle.std.specs.Prelude.{◌&&◌}
use Rattle.std.specs.List.{position_from}
use Rattle.pg_law_threads.specs.Intervals.{Timed}
use Rattle.pg_schedule.specs.Unordered.{timed_of}
use Rattle.pg_schedule.specs.Touches.{any_byte}
use Rattle.pg_run_trace.specs.Races as races
use Rattle.pg_run_trace.specs.Steps.{range_of}
use Rattle.pg_run_trace.specs.declared.step.Step.{Step}
use Rattle.pg_schedule.specs.Links.{accesses_byte}
use Rattle.pg_schedule.proofs.partners.first_at.Given as goal

abbrev pub invariant-loop-k : goal.invariant-loop-k
invariant-loop-k l = l.first ≡ position_from (λ (y : Timed Step). any_byte (λ b. accesses_byte b y.did && races.is_unordered (timed_of l.x) y) (range_of l.access).start l.k) 0
    (races.timed_by races.asked l.t.steps)
