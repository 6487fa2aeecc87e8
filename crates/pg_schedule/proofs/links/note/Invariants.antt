use Rattle.std.proofs.Common.{ℕ, List, ◌<◌}
use Rattle.pg_run_trace.specs.Races.{is_in}
use Rattle.pg_run_trace.specs.Steps.{range_of}
use Rattle.pg_schedule.specs.Links.{AreListed, with_step}
use Rattle.pg_schedule.proofs.links.note.Given as goal

abbrev pub invariant-loop-k : goal.invariant-loop-k
invariant-loop-k l = (n : ℕ) (steps : ℕ → List ℕ) → l.i < n → AreListed n l.fn.links steps
    → AreListed n l.links (λ b. with_step l.i steps b (is_in (record { start = (range_of l.access).start; bytes = l.k }) b))
