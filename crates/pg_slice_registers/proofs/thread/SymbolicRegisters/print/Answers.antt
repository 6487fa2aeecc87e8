use Rattle.std.proofs.Common.{List, length, ap, ◌∙◌, subst, sym}
use Rattle.pg_slice_rules.specs.SymbolicValues.{Symbolic}
use Rattle.pg_slice_rules.specs.Known.{low_byte, operand_at, set_symbolic, with_top}
use Rattle.pg_slice_values.specs.declared.symbolic_node.SymbolicNode.{SymbolicNode}
use Rattle.pg_slice_values.specs.SymbolicNodes.{symbolic_by}
use Rattle.pg_slice_registers.specs.SymbolicRegisterNodes.{AreSymbolicNodes, calls_by, registers_by}
use Rattle.pg_slice_registers.proofs.ThreadCalls.{calls_kept, calls_stay, top_are, top_by}
use Rattle.pg_slice_registers.proofs.DefinedEvents.{at_top_set}
use Rattle.pg_slice_registers.proofs.thread.SymbolicRegisters.print.Goals as goal

pub printed-requires-clause-symbolic_nodes : goal.printed-requires-clause-symbolic_nodes
printed-requires-clause-symbolic_nodes c = subst (λ (l : List SymbolicNode). AreSymbolicNodes (length c.args.nodes.now) l) (sym c.registers.ensures)
    (top_are (length c.args.nodes.now) c.args.self.now c.requires.symbolic_nodes)

pub returns-clause-is : goal.returns-clause-is
returns-clause-is c =
    let new = c.printed.new.nodes in
    c.set.ensures.is (length new) (calls_stay c.args.nodes.now new c.args.self.now c.printed.ensures.grew c.requires.symbolic_nodes) c.in_ok-s.ensures.is

pub returns-clause-value : goal.returns-clause-value
returns-clause-value c =
    let old = c.args.nodes.now in
    let new = c.printed.new.nodes in
    let calls = c.args.self.now in
    let target = c.args.x.now.result in
    let g = λ (rs : List Symbolic). low_byte (operand_at c.args.p.now rs c.args.x.now.op 0) in
    c.set.ensures.value new
    ∙ ap (with_top (set_symbolic target (symbolic_by new c.in_ok-s.s))) (calls_kept old new calls c.printed.ensures.grew c.requires.symbolic_nodes)
    ∙ ap (λ (x : Symbolic). with_top (set_symbolic target x) (calls_by old calls)) (c.in_ok-s.ensures.value ∙ ap g (ap (registers_by old) c.registers.ensures ∙ top_by old calls))
    ∙ at_top_set target g (calls_by old calls)
