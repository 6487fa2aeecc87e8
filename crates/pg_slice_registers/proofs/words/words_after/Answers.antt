use Rattle.std.proofs.Common.{◌≡◌, ◌∷◌, [], ◌++◌, List, length, slice_set, ap, ◌∙◌, subst, sym}
use Rattle.pg_run_trace.specs.declared.turn.TurnKind.{TurnKind}
use Rattle.pg_slice_rules.specs.Known as along
use Rattle.pg_slice_rules.specs.SymbolicValues.{Symbolic}
use Rattle.pg_slice_values.specs.declared.symbolic_node.SymbolicNode.{SymbolicNode}
use Rattle.pg_slice_values.specs.SymbolicNodes.{symbolic_by}
use Rattle.pg_slice_registers.specs.Events.{HasOperands}
use Rattle.pg_slice_registers.specs.SymbolicRegisterNodes.{AreSymbolicNodes, registers_by}
use Rattle.pg_slice_registers.proofs.KeptValues.{registers_kept, registers_push, symbolic_nodes_kept, symbolic_nodes_push}
use Rattle.pg_slice_registers.proofs.DefinedSteps.{call_asked}
use Rattle.pg_slice_registers.proofs.SetRegisters.{set_by, set_symbolic_nodes}
use Rattle.pg_slice_registers.proofs.words.words_after.Goals as goal

pub operand-requires-clause-asked : goal.operand-requires-clause-asked
operand-requires-clause-asked c = call_asked c.args.op.now 3 (subst (λ (k : TurnKind). HasOperands k c.args.op.now) c.in-Create.is c.requires.call)

pub returns-in_ok-s-in-Exit-clause-is : goal.returns-in_ok-s-in-Exit-clause-is
returns-in_ok-s-in-Exit-clause-is c =
    let new = c.exit_symbolic_node.new.nodes in
    let items = c.args.words.now.items in
    subst (λ (l : List SymbolicNode). AreSymbolicNodes (length new) l) (sym c.put_word.ensures)
    (set_symbolic_nodes (length new) items c.args.thread c.in_ok-s-in-Exit.s (symbolic_nodes_kept c.args.nodes.now new items c.exit_symbolic_node.ensures.grew c.requires.words) c.in_ok-s-in-Exit.ensures.is)

pub returns-in_ok-s-in-Exit-clause-value : goal.returns-in_ok-s-in-Exit-clause-value
returns-in_ok-s-in-Exit-clause-value c =
    let old = c.args.nodes.now in
    let new = c.exit_symbolic_node.new.nodes in
    let items = c.args.words.now.items in
    let s = c.in_ok-s-in-Exit.s in
    subst (λ (k : TurnKind). registers_by new c.put_word.new.words.items
    ≡ along.words_after c.args.p.now c.args.thread k (registers_by old c.args.registers.now) c.args.op.now (registers_by old items)) (sym c.in-Exit.is)
    (ap (registers_by new) c.put_word.ensures ∙ set_by new items c.args.thread s
    ∙ ap (λ (xs : List Symbolic). slice_set xs c.args.thread (symbolic_by new s)) (registers_kept old new items c.exit_symbolic_node.ensures.grew c.requires.words)
    ∙ ap (λ (x : Symbolic). slice_set (registers_by old items) c.args.thread x) c.in_ok-s-in-Exit.ensures.value)

pub returns-in_ok-push-in-Create-clause-is : goal.returns-in_ok-push-in-Create-clause-is
returns-in_ok-push-in-Create-clause-is c =
    let new = c.operand.new.nodes in
    let items = c.args.words.now.items in
    subst (λ (l : List SymbolicNode). AreSymbolicNodes (length new) l) (sym c.in_ok-push-in-Create.ensures.items)
    (symbolic_nodes_push (length new) items c.in_ok-s-in-Create.s (symbolic_nodes_kept c.args.nodes.now new items c.operand.ensures.grew c.requires.words) c.in_ok-s-in-Create.ensures.is)

pub returns-in_ok-push-in-Create-clause-value : goal.returns-in_ok-push-in-Create-clause-value
returns-in_ok-push-in-Create-clause-value c =
    let old = c.args.nodes.now in
    let new = c.operand.new.nodes in
    let items = c.args.words.now.items in
    let s = c.in_ok-s-in-Create.s in
    subst (λ (k : TurnKind). registers_by new c.push.new.self.items
    ≡ along.words_after c.args.p.now c.args.thread k (registers_by old c.args.registers.now) c.args.op.now (registers_by old items)) (sym c.in-Create.is)
    (ap (registers_by new) c.in_ok-push-in-Create.ensures.items ∙ registers_push new items s
    ∙ ap (λ (xs : List Symbolic). xs ++ symbolic_by new s ∷ []) (registers_kept old new items c.operand.ensures.grew c.requires.words)
    ∙ ap (λ (x : Symbolic). registers_by old items ++ x ∷ []) c.in_ok-s-in-Create.ensures.value)
