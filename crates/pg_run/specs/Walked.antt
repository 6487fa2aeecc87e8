-- Walks and guided runs without their traces.
use Rattle.std.specs.Prelude.{◌≡◌, ℕ, [], Option, Some, None}
use Rattle.pg_run.specs.declared.guided_end.GuidedEnd.{GuidedEnd}
use Rattle.pg_run.specs.State.{State}
use Rattle.pg_run.specs.Guided.{GuidedRun, Walk}

abbrev pub untraced : Walk → Walk
untraced w = record w { trace = [] }

-- the run ends in this state, after so many turns, with this end
pub record EndsAs (r : GuidedRun) (s : State) (k : ℕ) (e : GuidedEnd) : Type 0 where
  pub state_is : r.state ≡ s
  pub turns_is : r.turns ≡ k
  pub end_is : r.end ≡ e
