-- The cells from which the loads of a path read.
use Rattle.std.specs.Prelude.{◌≡◌, ℕ, List, Some, slice_get}
use Rattle.std.specs.List.{AllByRecursion}
use Rattle.pg_slice_rules.specs.Known.{SymbolicState}
use Rattle.pg_slice_passes.specs.pg_slice_replay.Paths.{cell_of}
use Rattle.pg_law_demands.specs.Cells.{IsMet}
use Rattle.pg_law_demands.specs.Back.{of_bytes}

-- the eight bytes are known that a load reads, so many bytes from a pointer
abbrev pub IsCellMet : SymbolicState → ℕ → ℕ → Type 0
IsCellMet s word k = AllByRecursion (IsMet s) (of_bytes (cell_of word k).start 8)

-- those of loads by their pointers and offsets
abbrev pub AreCellsMet : SymbolicState → List ℕ → List ℕ → Type 0
AreCellsMet s words ks = (i word k : ℕ) → slice_get words i ≡ Some word → slice_get ks i ≡ Some k → IsCellMet s word k
