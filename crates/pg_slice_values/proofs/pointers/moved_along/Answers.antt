use Rattle.std.proofs.Common.{◌+◌, ◌<◌, length, slice_index_or, ◌∙◌, ap, sym, arith}
use Rattle.pg_num.specs.declared.width.Width.TheVariants.{W1}
use Rattle.pg_ir.specs.declared.value.Index.{Index}
use Rattle.pg_ir.specs.declared.value.Scale.TheVariants.{Times}
use Rattle.pg_ir.specs.declared.value.Value.TheVariants.{Register}
use Rattle.pg_slice_values.specs.SymbolicNodes.{number_by}
use Rattle.pg_slice_values.specs.Forms.{node_at, numbers_from}
use Rattle.pg_slice_values.proofs.GrowingNodes.{grew_then, number_kept}
use Rattle.pg_slice_values.proofs.Operands.{known_below, number_from, numbers_length}
use Rattle.pg_slice_values.proofs.Indices.{one_index, with_number}
use Rattle.pg_slice_values.proofs.pointers.moved_along.Goals as goal

pub loop-i-preserved : goal.loop-i-preserved
loop-i-preserved c =
    let old = c.args.nodes.now in
    let ss = c.args.operands.now in
    let i = c.loop-i.i in
    let none : Index = record { value = Register 0; width = W1; scale = Times 0 } in
    let within : i + 1 < length ss = omega (arith, c.requires.count) in
    record {
      grew = grew_then old c.loop-i.nodes c.moved_once.new.nodes c.loop-i.invariant.grew c.moved_once.ensures.grew;
      is = c.in_ok-word.ensures.is;
      value = λ input.
          one_index c.args.indices.now (numbers_from old ss input) i none (number_by c.loop-i.nodes c.loop-i.word input) _ (omega arith) (numbers_length old ss input ∙ c.requires.count)
          (with_number (slice_index_or c.args.indices.now i none) _ _ _ _ (c.in_ok-word.ensures.value input)
          (ap (λ k. number_by c.loop-i.nodes k input) c.node_at.ensures
          ∙ number_kept old c.loop-i.nodes (node_at ss (i + 1)) input c.loop-i.invariant.grew (known_below (length old) ss (i + 1) c.requires.known c.requires.symbolic_nodes within)
          ∙ sym (number_from old ss input (i + 1) within)))
          ∙ c.loop-i.invariant.value input;
    }
