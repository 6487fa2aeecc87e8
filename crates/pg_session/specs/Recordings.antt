-- What comes of recording an input.
use Rattle.std.specs.Prelude.{ℕ, ℤ, List}
use Rattle.pg_session.specs.declared.runner.Recording.{Recording}
use Rattle.pg_session.specs.declared.runner.Recording.TheVariants.{Kept, Refused, Untested}
use Rattle.pg_session.specs.Sessions.{Runs}

abbrev pub ComesOfRecording : {V : Type 0} → Runs V → List ℤ → Recording V → Type 0
ComesOfRecording runs input (Kept entry run) = runs.recorded input entry run.output.items run.end
ComesOfRecording runs input (Refused refusal output) = runs.refused input refusal output.items
ComesOfRecording runs input Untested = runs.untested input

-- how many inputs were recorded
abbrev pub recordings_of : {V : Type 0} → Recording V → ℕ
recordings_of (Kept entry run) = 1
recordings_of (Refused refusal output) = 1
recordings_of Untested = 0
