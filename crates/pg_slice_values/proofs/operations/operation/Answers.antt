use Rattle.std.proofs.Common.{◌≡◌, ◌+◌, ◌∙◌, List, ap, length, map, subst, sym}
use Rattle.std.proofs.lemmas.Result.{IfOk-weaker}
use Rattle.pg_ir.specs.declared.instr.Op.{Op}
use Rattle.pg_ir.specs.declared.instr.Op.TheVariants as op
use Rattle.pg_ir.specs.declared.value.Index.{Index}
use Rattle.pg_run_thread.specs.Operands.{operands_of}
use Rattle.pg_slice_rules.specs.SymbolicValues.{applied, result_of, valued}
use Rattle.pg_precondition.specs.declared.node.Node.{Node}
use Rattle.pg_precondition.specs.Nodes.{IsNode}
use Rattle.pg_precondition.specs.Values.{node_number, numbers_of}
use Rattle.pg_slice_values.specs.SymbolicNodes.{number_by, symbolic_by}
use Rattle.pg_slice_values.proofs.OneNodeOperations.{formed, node_fits}
use Rattle.pg_slice_values.proofs.Indices.{gep_count, gep_is}
use Rattle.pg_slice_values.proofs.Operands.{all_blamed}
use Rattle.pg_slice_values.proofs.operations.operation.Goals as goal

pub returns-in-Some-clause-value : goal.returns-in-Some-clause-value
returns-in-Some-clause-value c = sym (all_blamed c.args.nodes.now c.args.operands.now c.in-Some.by (λ gs. valued (λ input. applied c.args.op.now (gs input))) (sym c.in-Some.ensures))

pub known-requires : goal.known-requires
known-requires c =
    let n = length c.args.nodes.now in
    subst (λ (x : Node). IsNode n x) (sym c.node_by.ensures)
    (node_fits n c.args.op.now c.in-Some-form_of.form c.args.operands.now (sym c.in-Some-form_of.ensures) c.requires.cast (sym c.in_default.ensures) c.requires.count c.requires.symbolic_nodes)

pub returns-in-Some-form_of-clause-value : goal.returns-in-Some-form_of-clause-value
returns-in-Some-form_of-clause-value c =
    IfOk-weaker c.known.result _ _ (λ s h.
    h
    ∙ ap (λ (x : Node). valued (λ input. node_number input (numbers_of input c.args.nodes.now) x)) c.node_by.ensures
    ∙ formed c.args.nodes.now c.args.op.now c.in-Some-form_of.form c.args.operands.now (sym c.in-Some-form_of.ensures) (sym c.in_default.ensures) c.requires.count) c.known.ensures.value

pub returns-clause-value : goal.returns-clause-value
returns-clause-value c =
    let old = c.args.nodes.now in
    let ss = c.args.operands.now in
    let is = c.as_slice.result.now in
    let base = c.in-Gep.base in
    let e : c.args.op.now ≡ op.Gep base is = c.in-Gep.is ∙ ap (λ (l : List Index). op.Gep base l) (sym c.as_slice.ensures.items) in
    let count : length ss ≡ length is + 1 = c.requires.count ∙ ap (λ (o : Op). length (operands_of o)) e ∙ gep_count base is in
    gep_is old base is ss (number_by c.moved_along.new.nodes c.in_ok-word-in-Gep.word) (sym c.in_default.ensures) count (λ input. c.in_ok-word-in-Gep.ensures.value input)
    ∙ ap (λ (o : Op). result_of o (map (symbolic_by old) ss)) (sym e)
