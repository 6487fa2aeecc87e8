use Rattle.std.proofs.Common.{refl, ap, sym, ◌∙◌, subst, arith, inl}
use Rattle.std.specs.Prelude.{Contains}
use Rattle.pg_slice_decisions.specs.Steps.{left_by, taken_by}
use Rattle.std.proofs.lemmas.Bool.{false≢true}
use Rattle.pg_region_paths.proofs.Elements.{none_in}
use Rattle.pg_slice_passes.proofs.OneStepMore.{taken_all}
use Rattle.pg_slice_passes.proofs.Slicing.{first_false, got_in, or_less, second_false, taken_more}
use Rattle.pg_slice_passes.proofs.slice.take_new.Goals as goal

pub loop-i-init : goal.loop-i-init
loop-i-init c = (c.requires, (λ x h s. absurd (none_in x h)), (λ y h. h), (λ y h. inl h), (λ e. refl), (λ e. absurd (false≢true e)))

pub loop-i-preserved : goal.loop-i-preserved
loop-i-preserved c =
    let v = c.loop-i.invariant in
    let k = c.take_one-took.ensures in
    let x = c.decision_at.result in
    let i = c.loop-i.i in
    let missing = c.args.missing.now in
    let first = c.args.d.now in
    let old = c.loop-i.d in
    let new = c.take_one-took.new.d in
    let any = c.either-any.ensures in (
      k.size,
      taken_more (taken_by old) (taken_by new) c.args.steps missing i x c.decision_at.ensures v.1 k.taken k.kept,
      λ y h. k.kept y (v.2 y h),
      λ y h. got_in (taken_by first) (taken_by old) missing i x y c.decision_at.ensures (v.3 y) (k.only y h),
      λ e. k.same (first_false c.take_one-took.result c.loop-i.any (sym any ∙ e)) ∙ v.4 (second_false c.take_one-took.result c.loop-i.any (sym any ∙ e)),
      λ e. or_less c.take_one-took.result c.loop-i.any (left_by first) (left_by old) (left_by new) (λ t. k.less t) (λ t. ap left_by (k.same t)) (λ t. v.5 t) (λ t. ap left_by (v.4 t))
          (sym any ∙ e),
    )

pub returns-clause-taken : goal.returns-clause-taken
returns-clause-taken c = λ x h s.
    let v = c.loop-i.invariant in
    v.1 x (subst (λ l. Contains l x) (sym (taken_all c.loop-i.i c.args.missing.now (omega (arith, c.loop-i-test.false)))) h) s
