-- How many registers the calls of the threads have, as they are kept.
use Rattle.std.specs.Prelude.{◌≡◌, ℕ, suc, List, [], ◌∷◌, length, Some, slice_get, slice_index_or}
use Rattle.pg_slice_rules.specs.Known.{SymbolicState, thread_of}
use Rattle.pg_slice_back.specs.Lens.{lens_of}
use Rattle.pg_slice_back.specs.declared.counts.Held.{Held}
use Rattle.pg_slice_back.specs.declared.counts.Calls.{Calls}

-- the calls from the one before this number down, with so many registers
abbrev pub IsStack : List Held → ℕ → List ℕ → Type 0
IsStack held h [] = h ≡ 0
IsStack held h (l ∷ ls) = (i : ℕ) × (c : Held) × (h ≡ suc i) × (slice_get held i ≡ Some c) × (c.count ≡ l) × IsStack held c.under ls

-- those of the threads are those of what is known
pub record AreStacks (calls : Calls) (s : SymbolicState) : Type 0 where
  pub as_many : length calls.tops.items ≡ length s.threads
  pub stacks : (t : ℕ) → IsStack calls.held.items (slice_index_or calls.tops.items t 0) (lens_of (thread_of s t).calls)
