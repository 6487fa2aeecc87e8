-- Values that have to be known.
use Rattle.std.specs.Prelude.{ℕ, List}
use Rattle.std.specs.List.{AllByRecursion}
use Rattle.pg_slice_rules.specs.Known.{SymbolicState}
use Rattle.pg_law_demands.specs.Cells.{IsMet}
use Rattle.pg_law_demands.specs.Back.{of_value}
use Rattle.pg_slice_back.specs.declared.moves.Wanted.{Wanted}

-- those of a call of a thread are known
abbrev pub AreWanted : SymbolicState → ℕ → ℕ → List Wanted → Type 0
AreWanted s t k xs = AllByRecursion (λ (x : Wanted). AllByRecursion (IsMet s) (of_value t k x.whole x.value)) xs
