use Rattle.std.proofs.Common.{map, length}
use Rattle.std.specs.List.{AllByRecursion}
use Rattle.pg_precondition.specs.Nodes.{NodeList}
use Rattle.pg_slice_memory.specs.pg_slice_values.SymbolicNodes.{IsSymbolicNode, symbolic_by}
use Rattle.pg_slice_checks.specs.Asks.{Adds}
use Rattle.pg_slice_checks.specs.Steps as steps
use Rattle.pg_slice_checks.specs.Steps.{below}
use Rattle.pg_slice_checks.proofs.step.equal_needs.Given as goal

abbrev pub invariant-loop-k : goal.invariant-loop-k
invariant-loop-k l = (ns : NodeList) → AllByRecursion (IsSymbolicNode (length ns)) l.operands → Adds ns (steps.equal_needs (map (symbolic_by ns) l.operands) l.event (below l.k)) l.initial.asked l.asked
