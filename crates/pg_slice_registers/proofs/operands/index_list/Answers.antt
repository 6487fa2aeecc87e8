use Rattle.std.proofs.Common.{◌∷◌, [], ◌++◌, List, map, ap, ◌∙◌}
use Rattle.pg_num.specs.declared.width.Width.TheVariants.{W1}
use Rattle.pg_ir.specs.declared.value.Index.{Index}
use Rattle.pg_ir.specs.declared.value.Scale.TheVariants.{Times}
use Rattle.pg_ir.specs.declared.value.Value.{Value}
use Rattle.pg_ir.specs.declared.value.Value.TheVariants.{Register}
use Rattle.pg_slice_registers.proofs.GatheredLists.{all_pushed, one_pushed}
use Rattle.pg_slice_registers.proofs.operands.index_list.Goals as goal

pub loop-index-init : goal.loop-index-init
loop-index-init c =
    ap (λ (l : List Value). l ++ map (λ (i : Index). i.value) c.args.indices.now) (c.in_ok-push.ensures.items ∙ ap (λ (l : List Value). l ++ c.args.base ∷ []) c.new-list.ensures.items)

pub loop-index-preserved : goal.loop-index-preserved
loop-index-preserved c =
    let none : Index = record { value = Register 0; width = W1; scale = Times 0 } in
    one_pushed (λ (i : Index). i.value) c.args.indices.now c.loop-index.index-index none c.loop-index.list.items c.push-in-loop-index.new.self.items _ c.loop-index-test.true
    c.in_ok-push-2.ensures.items c.loop-index.invariant

pub returns : goal.returns
returns c = all_pushed (λ (i : Index). i.value) c.args.indices.now c.loop-index.index-index c.loop-index.list.items _ c.loop-index-test.false c.loop-index.invariant
