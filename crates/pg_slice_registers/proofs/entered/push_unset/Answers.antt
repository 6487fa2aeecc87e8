use Rattle.std.proofs.Common.{◌++◌, List, length, replicate, ap, ◌∙◌, subst, sym}
use Rattle.std.proofs.lemmas.Result.{on_ok_weaker}
use Rattle.pg_slice_rules.specs.SymbolicValues.{Symbolic, unset}
use Rattle.pg_slice_values.specs.declared.symbolic_node.SymbolicNode.{SymbolicNode}
use Rattle.pg_slice_registers.specs.SymbolicRegisterNodes.{AreSymbolicNodes, registers_by}
use Rattle.pg_slice_registers.proofs.KeptValues.{registers_kept, symbolic_nodes_kept}
use Rattle.pg_slice_registers.proofs.ThreadCalls.{blanks_are, blanks_by}
use Rattle.pg_slice_registers.proofs.entered.push_unset.Goals as goal

pub returns-clause-is : goal.returns-clause-is
returns-clause-is c =
    let new = c.unset.new.nodes in
    let items = c.args.symbolic_nodes.now.items in
    on_ok_weaker c.push_each.result (λ e. subst (λ (l : List SymbolicNode). AreSymbolicNodes (length new) l) (sym e)
    (blanks_are (length new) items c.in_ok-blank.blank c.args.count (symbolic_nodes_kept c.args.nodes.now new items c.unset.ensures.grew c.requires) c.in_ok-blank.ensures.is)) c.push_each.ensures

pub returns-clause-value : goal.returns-clause-value
returns-clause-value c =
    let new = c.unset.new.nodes in
    let items = c.args.symbolic_nodes.now.items in
    on_ok_weaker c.push_each.result (λ e.
    ap (registers_by new) e
    ∙ blanks_by new items c.in_ok-blank.blank c.args.count unset c.in_ok-blank.ensures.value
    ∙ ap (λ (xs : List Symbolic). xs ++ replicate c.args.count unset) (registers_kept c.args.nodes.now new items c.unset.ensures.grew c.requires)) c.push_each.ensures
