use Rattle.std.proofs.Common.{sym, ◌∙◌}
use Rattle.pg_slice_memory.proofs.ReadBytes.{read_same}
use Rattle.pg_slice_memory.proofs.memory.SymbolicMemory.load.Goals as goal

pub returns-in-Some-clause-value : goal.returns-in-Some-clause-value
returns-in-Some-clause-value c =
    let p = c.args.p.now in
    let ns = c.args.nodes.now in
    sym (c.in-Some.ensures.some p ns c.args.start) ∙ read_same p ns c.args.self.now c.symbolic_nodes-symbolic_nodes.result c.args.start c.args.count c.symbolic_nodes-symbolic_nodes.ensures.symbolic_nodes

pub returns-clause-value : goal.returns-clause-value
returns-clause-value c =
    c.in_ok-number_node.ensures.value
    ∙ read_same c.args.p.now c.args.nodes.now c.args.self.now c.symbolic_nodes-symbolic_nodes.result c.args.start c.args.count c.symbolic_nodes-symbolic_nodes.ensures.symbolic_nodes
