use Rattle.pg_slice_rules.specs.Known.{SymbolicState}
use Rattle.pg_slice_back.specs.Cells.{AreCellsMet}
use Rattle.pg_slice_back.specs.Met.{AreMet}
use Rattle.pg_slice_back.proofs.paths.put_cells.Given as goal

abbrev pub invariant-loop-i : goal.invariant-loop-i
invariant-loop-i l = (s : SymbolicState) → AreCellsMet s l.pointers l.offsets → AreMet s l.initial.demanded → AreMet s l.demanded
