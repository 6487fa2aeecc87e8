use Rattle.std.proofs.Common.{arith, sym, subst}
use Rattle.pg_slice_memory.specs.declared.symbolic_node.SymbolicByte.{SymbolicByte}
use Rattle.pg_slice_memory.specs.Loads.{IsByteNode}
use Rattle.pg_slice_memory.specs.SymbolicNodes.{byte_symbolic}
use Rattle.pg_slice_memory.proofs.ReadBytes.{initial_node, ok_both, part_node}
use Rattle.pg_slice_memory.proofs.load.byte_node.Goals as goal

pub returns-in-Initial-clause-node : goal.returns-in-Initial-clause-node
returns-in-Initial-clause-node c =
    let p = c.args.p.now in
    let ns = c.args.nodes.now in
    let ms = c.added.new.nodes in
    let b = c.args.byte in
    ok_both c.added.result _ _ _
    (λ k below value. subst (λ (s : SymbolicByte). IsByteNode ms k (byte_symbolic p ns b s)) (sym c.in-Initial.is)
    (initial_node p ns ms b c.initial_byte.result k c.initial_byte.ensures (omega (arith, c.initial_byte.type_inv)) below value))
    c.added.ensures.is c.added.ensures.value

pub returns-in-Part-clause-node : goal.returns-in-Part-clause-node
returns-in-Part-clause-node c =
    let p = c.args.p.now in
    let ns = c.args.nodes.now in
    let ms = c.added-in-Part.new.nodes in
    let b = c.args.byte in
    ok_both c.added-in-Part.result _ _ _
    (λ k below value. subst (λ (s : SymbolicByte). IsByteNode ms k (byte_symbolic p ns b s)) (sym c.in-Part.is) (part_node p ns ms b c.in-Part.of c.in-Part.at k below value))
    c.added-in-Part.ensures.is c.added-in-Part.ensures.value
