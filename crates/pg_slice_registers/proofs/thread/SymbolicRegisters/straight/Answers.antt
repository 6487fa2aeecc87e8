use Rattle.std.proofs.Common.{List, Option, length, ap, ◌∙◌, subst, sym}
use Rattle.std.specs.Option.{option_map}
use Rattle.pg_slice_rules.specs.SymbolicValues.{Symbolic}
use Rattle.pg_slice_rules.specs.Known.{with_top}
use Rattle.pg_slice_values.specs.declared.symbolic_node.SymbolicNode.{SymbolicNode}
use Rattle.pg_slice_values.specs.SymbolicNodes.{symbolic_by}
use Rattle.pg_slice_registers.specs.SymbolicRegisterNodes.{AreSymbolicNodes, calls_by, registers_by}
use Rattle.pg_slice_registers.specs.Steps.{given_symbolic, set_given}
use Rattle.pg_slice_registers.proofs.ThreadCalls.{calls_kept, calls_stay, top_are, top_by}
use Rattle.pg_slice_registers.proofs.DefinedSteps.{at_top}
use Rattle.pg_slice_registers.proofs.thread.SymbolicRegisters.straight.Goals as goal

pub given-requires-clause-symbolic_nodes : goal.given-requires-clause-symbolic_nodes
given-requires-clause-symbolic_nodes c = subst (λ (l : List SymbolicNode). AreSymbolicNodes (length c.args.nodes.now) l) (sym c.registers.ensures) (top_are (length c.args.nodes.now) c.args.self.now c.requires.symbolic_nodes)

pub returns-clause-is : goal.returns-clause-is
returns-clause-is c =
    let new = c.given.new.nodes in
    c.set_given.ensures.is (length new) (calls_stay c.args.nodes.now new c.args.self.now c.given.ensures.grew c.requires.symbolic_nodes) c.in_ok-s.ensures.is

pub returns-clause-value : goal.returns-clause-value
returns-clause-value c =
    let old = c.args.nodes.now in
    let new = c.given.new.nodes in
    let calls = c.args.self.now in
    let target = c.args.x.now.result in
    let g = given_symbolic c.args.p.now c.args.word c.args.x.now.op in
    c.set_given.ensures.value new
    ∙ ap (with_top (set_given target (option_map (symbolic_by new) c.in_ok-s.s))) (calls_kept old new calls c.given.ensures.grew c.requires.symbolic_nodes)
    ∙ ap (λ (o : Option Symbolic). with_top (set_given target o) (calls_by old calls)) (c.in_ok-s.ensures.value ∙ ap g (ap (registers_by old) c.registers.ensures ∙ top_by old calls))
    ∙ at_top target g (calls_by old calls)
