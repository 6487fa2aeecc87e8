use Rattle.std.specs.List.{AllByRecursion}
use Rattle.pg_slice_rules.specs.Known.{SymbolicState}
use Rattle.pg_law_demands.specs.Cells.{IsMet}
use Rattle.pg_law_demands.specs.Back.{of_values}
use Rattle.pg_slice_back.specs.Met.{AreMet}
use Rattle.pg_slice_back.proofs.moves.put_values.Given as goal

abbrev pub invariant-loop-i : goal.invariant-loop-i
invariant-loop-i l = (s : SymbolicState) → AreMet s l.initial.demanded → AllByRecursion (IsMet s) (of_values l.at.thread.0 l.at.depth l.values) → AreMet s l.demanded
