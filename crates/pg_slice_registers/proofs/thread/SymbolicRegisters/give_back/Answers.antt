use Rattle.std.proofs.Common.{List, length, ap, ◌∙◌, subst, sym}
use Rattle.pg_slice_rules.specs.SymbolicValues.{Symbolic}
use Rattle.pg_slice_rules.specs.Known.{optional_symbolic, set_symbolic, top_of, under_top, with_top}
use Rattle.pg_slice_values.specs.declared.symbolic_node.SymbolicNode.{SymbolicNode}
use Rattle.pg_slice_registers.specs.SymbolicRegisterNodes.{AreSymbolicNodes, calls_by, registers_by}
use Rattle.pg_slice_registers.proofs.ThreadCalls.{calls_kept, calls_stay, top_are, top_by}
use Rattle.pg_slice_registers.proofs.thread.SymbolicRegisters.give_back.Goals as goal

pub optional-requires : goal.optional-requires
optional-requires c = subst (λ (l : List SymbolicNode). AreSymbolicNodes (length c.args.nodes.now) l) (sym c.registers.ensures) (top_are (length c.args.nodes.now) c.args.self.now c.requires.symbolic_nodes)

pub returns-clause-is : goal.returns-clause-is
returns-clause-is c =
    let new = c.optional.new.nodes in
    c.leave.ensures.is (length new) (calls_stay c.args.nodes.now new c.args.self.now c.optional.ensures.grew c.requires.symbolic_nodes) c.in_ok-s.ensures.is

pub returns-clause-value : goal.returns-clause-value
returns-clause-value c =
    let old = c.args.nodes.now in
    let new = c.optional.new.nodes in
    let calls = c.args.self.now in
    let p = c.args.p.now in
    let kept = calls_kept old new calls c.optional.ensures.grew c.requires.symbolic_nodes in
    c.leave.ensures.value new
    ∙ ap (λ (x : Symbolic). with_top (set_symbolic c.args.target x) (under_top (calls_by new calls)))
    (c.in_ok-s.ensures.value ∙ ap (λ (rs : List Symbolic). optional_symbolic p rs c.args.v) (ap (registers_by old) c.registers.ensures ∙ top_by old calls))
    ∙ ap (λ (cs : List (List Symbolic)). with_top (set_symbolic c.args.target (optional_symbolic p (top_of (calls_by old calls)) c.args.v)) (under_top cs)) kept
