use Rattle.std.proofs.Common.{◌≡◌, ℕ, Option, Some, None, ◌∙◌, ap, refl}
use Rattle.std.proofs.lemmas.Result.{IfOk-weaker}
use Rattle.pg_num.specs.Numbers.{product_of, sign_extended, truncated}
use Rattle.pg_num.specs.declared.width.Width.{Width}
use Rattle.pg_num.specs.declared.width.Width.TheVariants.{W64}
use Rattle.pg_precondition.specs.Values.{with_both, with_one}
use Rattle.pg_slice_values.proofs.GrowingNodes.{number_kept}
use Rattle.pg_slice_values.proofs.pointers.scaled.Goals as goal

times : (w : Width) (s : ℕ) (n wide scale : Option ℕ) → wide ≡ with_one n (λ m. Some (sign_extended w W64 (truncated w m))) → scale ≡ Some s →
    with_both wide scale (λ x y. Some (product_of W64 (truncated W64 x) (truncated W64 y)))
    ≡ with_one n (λ m. Some (product_of W64 (truncated W64 (sign_extended w W64 (truncated w m))) (truncated W64 s)))
times w s n wide scale e h =
    ap (λ z. with_both wide z (λ x y. Some (product_of W64 (truncated W64 x) (truncated W64 y)))) h
    ∙ ap (λ z. with_both z (Some s) (λ x y. Some (product_of W64 (truncated W64 x) (truncated W64 y)))) e ∙ go n
  where
    go : (k : Option ℕ) → with_both (with_one k (λ m. Some (sign_extended w W64 (truncated w m)))) (Some s) (λ x y. Some (product_of W64 (truncated W64 x) (truncated W64 y)))
        ≡ with_one k (λ m. Some (product_of W64 (truncated W64 (sign_extended w W64 (truncated w m))) (truncated W64 s)))
    go None = refl
    go (Some k) = refl

pub returns-clause-value : goal.returns-clause-value
returns-clause-value c =
    IfOk-weaker c.added-3.result _ _ (λ k h input.
    h input
    ∙ times c.args.width c.args.scale _ _ _
    (number_kept c.added.new.nodes c.added-2.new.nodes c.in_ok-wide.wide input c.added-2.ensures.grew c.in_ok-wide.ensures.is ∙ c.in_ok-wide.ensures.value input)
    (c.in_ok-scale.ensures.value input)) c.added-3.ensures.value
