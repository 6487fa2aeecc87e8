-- How many registers the calls of the steps of a run have.
use Rattle.std.specs.Prelude.{◌≡◌, ◌<◌, ℕ, List, length, Some, slice_get}
use Rattle.pg_slice_rules.specs.Known.{Reference, SymbolicState, registers_of, thread_of, top_of, under_top}
use Rattle.pg_slice_rules.specs.Moments.{Moment, thread_in}
use Rattle.pg_law_least.specs.Keeps.{every}
use Rattle.pg_law_demands.specs.Along.{known_at}
use Rattle.pg_slice_back.specs.declared.registers.Counts.{Counts}

-- of the present call of a thread, and of the call under it, and how many threads there are
pub record AreCountsOf (s : SymbolicState) (t : ℕ) (c : Counts) : Type 0 where
  pub present : c.present ≡ length (registers_of s t)
  pub under : c.under ≡ length (top_of (under_top (thread_of s t).calls))
  pub threads : c.threads ≡ length s.threads

-- before step n, which this is
abbrev pub IsCounted : Reference → ℕ → Moment → Counts → Type 0
IsCounted R n m c = AreCountsOf (known_at R every n) (thread_in m) c

-- before each step
pub record AreCounted (R : Reference) (cs : List Counts) : Type 0 where
  pub by : (n : ℕ) (m : Moment) → slice_get R.moments n ≡ Some m → (c : Counts) × (slice_get cs n ≡ Some c) × IsCounted R n m c

-- before each of the first n steps
pub record AreCountedTo (R : Reference) (n : ℕ) (cs : List Counts) : Type 0 where
  pub by : (j : ℕ) (m : Moment) → j < n → slice_get R.moments j ≡ Some m → (c : Counts) × (slice_get cs j ≡ Some c) × IsCounted R j m c
