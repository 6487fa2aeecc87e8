-- The parts of what is known along a run, one by one, and what may be asked of one.
use Rattle.std.specs.Prelude.{◌≡◌, ℕ, suc, ◌==◌, not, List, [], ◌∷◌, length, Bool, true, false, if◌then◌else◌, slice_index_or}
use Rattle.pg_law_least.specs.pg_slice_rules.SymbolicValues.{Symbolic, Known, Bounded, Unknown, unset}
use Rattle.pg_law_least.specs.pg_slice_rules.Known.{SymbolicState, thread_of}

-- a register of a call of a thread, the call by how many calls the thread has with it on top; a byte; the word of a thread
pub data Cell : Type 0 where
  Register : ℕ → ℕ → ℕ → Cell
  Byte : ℕ → Cell
  Word : ℕ → Cell

-- that a cell is known, or, where it isn't to be known whole, that its bounds are
pub record Demand : Type 0 where
  pub cell : Cell
  pub whole : Bool

-- the call of a thread that has so many calls with it on top
abbrev pub call_at : ℕ → List (List Symbolic) → List Symbolic
call_at k [] = []
call_at k (rs ∷ calls) = if suc (length calls) == k then rs else call_at k calls

abbrev pub cell_symbolic : SymbolicState → Cell → Symbolic
cell_symbolic s (Register t k r) = slice_index_or (call_at k (thread_of s t).calls) r unset
cell_symbolic s (Byte b) = s.bytes b
cell_symbolic s (Word t) = slice_index_or s.words t unset

abbrev pub is_met : Bool → Symbolic → Bool
is_met whole (Known f g) = true
is_met whole (Bounded f x) = not whole
is_met whole (Unknown x) = false

-- the demand is met by what is known
abbrev pub IsMet : SymbolicState → Demand → Type 0
IsMet s q = is_met q.whole (cell_symbolic s q.cell) ≡ true
