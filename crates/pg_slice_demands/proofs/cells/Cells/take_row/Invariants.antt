use Rattle.std.proofs.Common.{◌≡◌, ◌≤◌, ◌<◌, ℕ, Bool, Some}
use Rattle.std.specs.Prelude.{length}
use Rattle.pg_slice_demands.specs.CellLists.{cell_at}
use Rattle.pg_slice_demands.proofs.cells.Cells.take_row.Given as goal

abbrev pub invariant-loop-place : goal.invariant-loop-place
invariant-loop-place l = ((q : ℕ) (w : Bool) → cell_at l.self q ≡ Some w → cell_at l.initial.self q ≡ Some w)
    × ((q : ℕ) → (l.initial.from ≤ q → q < l.initial.to → ⊥) → cell_at l.self q ≡ cell_at l.initial.self q)
    × (length l.self ≤ length l.initial.self)
