use Rattle.std.proofs.Common.{List, drop, length}
use Rattle.pg_num.specs.Places.{ByteRange}
use Rattle.pg_precondition.specs.Nodes.{NodeList}
use Rattle.pg_slice_memory.specs.pg_slice_rules.Rules.{path_needs}
use Rattle.pg_slice_memory.specs.pg_slice_values.SymbolicNodes.{Grew, IsSymbolicNode, symbolic_by}
use Rattle.pg_slice_memory.specs.Changes.{AreSymbolicNodes, symbolics_of}
use Rattle.pg_slice_checks.specs.Asks.{Adds}
use Rattle.pg_slice_checks.specs.Paths.{AreCells}
use Rattle.pg_slice_checks.specs.declared.asked.Asked.{Asked}
use Rattle.pg_slice_checks.proofs.path.path_needs.Given as goal

-- what is still asked behind the loads so far is what is left of the whole
abbrev pub invariant-loop-i : goal.invariant-loop-i
invariant-loop-i l =
    Grew l.initial.nodes l.nodes
    × IsSymbolicNode (length l.nodes) l.s
    × AreSymbolicNodes (length l.nodes) l.memory
    × ((ns : NodeList) (cells : List ByteRange) (done : Asked) → Grew l.nodes ns → AreCells l.path.offsets.now l.path.pointers.now cells →
    Adds ns (path_needs (symbolics_of l.p ns l.memory) (symbolic_by ns l.s) (drop l.i l.path.offsets.now) (drop l.i l.path.pointers.now) (drop l.i cells) l.path.last) l.asked done →
    Adds ns (path_needs (symbolics_of l.p ns l.memory) (symbolic_by ns l.initial.s) l.path.offsets.now l.path.pointers.now cells l.path.last) l.initial.asked done)
