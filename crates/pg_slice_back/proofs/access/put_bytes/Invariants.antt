use Rattle.std.specs.List.{AllByRecursion}
use Rattle.pg_slice_rules.specs.Known.{SymbolicState}
use Rattle.pg_law_demands.specs.Cells.{IsMet}
use Rattle.pg_law_demands.specs.Back.{of_bytes}
use Rattle.pg_slice_back.specs.Met.{AreMet}
use Rattle.pg_slice_back.proofs.access.put_bytes.Given as goal

abbrev pub invariant-loop-i : goal.invariant-loop-i
invariant-loop-i l = (s : SymbolicState) → AreMet s l.initial.demanded → AllByRecursion (IsMet s) (of_bytes l.start l.count) → AreMet s l.demanded
