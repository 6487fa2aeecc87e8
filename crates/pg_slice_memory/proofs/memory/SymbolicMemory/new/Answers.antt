use Rattle.std.proofs.Common.{ap}
use mathlib.Core.Path.{fun_ext}
use Rattle.pg_slice_memory.specs.declared.symbolic_node.SymbolicByte.{SymbolicByte}
use Rattle.pg_slice_memory.specs.SymbolicNodes.{byte_symbolic}
use Rattle.pg_slice_memory.proofs.ByteChanges.{no_stamps, symbolic_nodes_none}
use Rattle.pg_slice_memory.proofs.memory.SymbolicMemory.new.Goals as goal

pub invariant_of-result : goal.invariant_of-result
invariant_of-result c = no_stamps c.new.result.items c.new-2.result c.new.ensures.items c.new-2.ensures

pub returns-clause-symbolic : goal.returns-clause-symbolic
returns-clause-symbolic c = λ p ns. fun_ext (λ b. ap (λ (s : SymbolicByte). byte_symbolic p ns b s) (symbolic_nodes_none c.new.result.items b c.new.ensures.items))

pub returns-clause-names : goal.returns-clause-names
returns-clause-names c = λ n. record { names = λ b. rw (symbolic_nodes_none c.new.result.items b c.new.ensures.items) tt }
