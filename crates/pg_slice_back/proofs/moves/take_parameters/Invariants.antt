use Rattle.std.proofs.Common.{◌≡◌, ℕ, suc, Bool, Some, slice_get}
use Rattle.std.specs.List.{AllByRecursion}
use Rattle.pg_ir.specs.declared.value.Value.{Value}
use Rattle.pg_slice_rules.specs.Known.{SymbolicState}
use Rattle.pg_law_demands.specs.Cells.{IsMet}
use Rattle.pg_law_demands.specs.Back.{of_value, register_demand}
use Rattle.pg_slice_back.specs.Leaves.{IsLess}
use Rattle.pg_slice_back.specs.Met.{AreMet}
use Rattle.pg_slice_back.specs.Wanted.{AreWanted}
use Rattle.pg_slice_back.proofs.moves.take_parameters.Given as goal

abbrev pub invariant-loop-i : goal.invariant-loop-i
invariant-loop-i l =
    IsLess l.initial.demanded l.demanded
    × ((after before : SymbolicState) → AreMet after l.initial.demanded →
    ((i : ℕ) (z : Value) (b : Bool) → slice_get l.args i ≡ Some z → IsMet after (register_demand l.at.thread.0 (suc l.at.depth) i b)
    → AllByRecursion (IsMet before) (of_value l.at.thread.0 l.at.depth b z)) →
    AreWanted before l.at.thread.0 l.at.depth l.wanted.items)
