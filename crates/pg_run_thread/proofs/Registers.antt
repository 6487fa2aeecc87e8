-- A thread that has ended has no registers.
use Rattle.std.proofs.Common.{◌≡◌, ℕ, List, [], ◌∷◌, length, true, None, refl, arith}
use Rattle.std.specs.Prelude.{◌==◌, slice_get}
use Rattle.std.proofs.lemmas.Bool.Decides.{nat_tests}
use Rattle.pg_run_thread.specs.LocalState.{Frame}
use Rattle.pg_run_thread.specs.Operands.{flat}
use Rattle.pg_run_thread.specs.Step.{top_registers}

pub no_registers : (fs : List Frame) (r : ℕ) → (length fs == 0) ≡ true → flat (slice_get (top_registers fs) r) ≡ None
no_registers [] r h = refl
no_registers (f ∷ fs) r h = absurd (grind (arith, nat_tests))
