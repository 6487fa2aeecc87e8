use Rattle.std.proofs.Common.{◌+◌, ◌∙◌, ap, arith, subst, ℕ}
use mathlib.Core.Path.{fun_ext}
use Rattle.std.proofs.lemmas.Result.{IfOk-weaker}
use Rattle.pg_slice_values.specs.pg_slice_rules.SymbolicValues.{valued}
use Rattle.std.specs.Prelude.{Some}
use Rattle.pg_slice_memory.proofs.LoadedNumbers.{initial_loaded, whole_loaded}
use Rattle.std.proofs.Math.ListN.{length-set}
use Rattle.pg_slice_memory.specs.Loads.{IsByteNode, symbolic_node_in}
use Rattle.pg_slice_memory.specs.SymbolicNodes.{byte_symbolic}
use Rattle.pg_slice_memory.proofs.ByteNodes.{byte_kept}
use Rattle.pg_slice_values.proofs.GrowingNodes.{grew_then}
use Rattle.pg_slice_memory.proofs.ReadBytes.{join_read, nodes_next}
use Rattle.pg_slice_memory.proofs.load.number_node.Goals as goal

pub returns-in-Some-clause-value : goal.returns-in-Some-clause-value
returns-in-Some-clause-value c =
    IfOk-weaker c.added.result _ _
    (λ k h. ap (λ f. valued f) (fun_ext h) ∙ whole_loaded c.args.p.now c.args.nodes.now c.args.start c.args.symbolic_nodes.now c.args.count c.in-Some.of c.in-Some.width c.requires.some
    c.in-Some.ensures.0 c.in-Some.ensures.1)
    c.added.ensures.value

pub returns-then-are_initial-clause-value : goal.returns-then-are_initial-clause-value
returns-then-are_initial-clause-value c =
    IfOk-weaker c.added-then-are_initial.result _ _
    (λ v h. ap (λ f. valued f) (fun_ext (λ input. h input ∙ ap (λ (n : ℕ). Some n) c.initial_number.ensures))
    ∙ initial_loaded c.args.p.now c.args.nodes.now c.args.start c.args.symbolic_nodes.now c.args.count (c.are_initial.ensures c.if-are_initial.true))
    c.added-then-are_initial.ensures.value

pub loop-k-preserved : goal.loop-k-preserved
loop-k-preserved c =
    let p = c.args.p.now in
    let old = c.args.nodes.now in
    let ns = c.loop-k.nodes in
    let ms = c.byte_node.new.nodes in
    let xs = c.args.symbolic_nodes.now in
    let k = c.loop-k.k in
    let inv = c.loop-k.invariant in
    let here = subst (IsByteNode ms c.in_ok-parts.field-0) (byte_kept p old ns (c.args.start + k) (symbolic_node_in xs k) inv.grew (c.requires.named.each k (omega arith)).0) c.in_ok-parts.ensures.node in
    record {
      size = length-set c.loop-k.parts k c.in_ok-parts.field-0 ∙ inv.size;
      grew = grew_then old ns ms inv.grew c.byte_node.ensures.grew;
      each = nodes_next ns ms (λ j. byte_symbolic p old (c.args.start + j) (symbolic_node_in xs j)) c.loop-k.parts k c.in_ok-parts.field-0 (omega (arith, inv.size)) c.byte_node.ensures.grew inv.each here;
    }

pub returns-clause-value : goal.returns-clause-value
returns-clause-value c =
    IfOk-weaker c.added-2.result _ _
    (λ v h. join_read c.args.p.now c.args.nodes.now c.loop-k.nodes c.added-2.new.nodes c.args.start c.args.symbolic_nodes.now c.loop-k.parts c.args.count v (omega (arith, c.loop-k.invariant.size))
    (λ j lt. c.loop-k.invariant.each j (omega (arith, lt))) h)
    c.added-2.ensures.value
