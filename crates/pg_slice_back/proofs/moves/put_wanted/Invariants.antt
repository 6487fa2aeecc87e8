use Rattle.pg_slice_rules.specs.Known.{SymbolicState}
use Rattle.pg_slice_back.specs.Met.{AreMet}
use Rattle.pg_slice_back.specs.Wanted.{AreWanted}
use Rattle.pg_slice_back.proofs.moves.put_wanted.Given as goal

abbrev pub invariant-loop-i : goal.invariant-loop-i
invariant-loop-i l = (s : SymbolicState) → AreMet s l.initial.demanded → AreWanted s l.at.thread.0 l.at.depth l.wanted → AreMet s l.demanded
