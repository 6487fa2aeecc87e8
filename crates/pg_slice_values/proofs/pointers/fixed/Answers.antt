use Rattle.std.proofs.Common.{◌≡◌, ℕ, ◌%◌, ◌==◌, Option, Some, None, ◌∙◌, ap, refl, cond, Bool, true, false}
use Rattle.std.proofs.lemmas.Result.{IfOk-weaker}
use Rattle.pg_precondition.specs.Values.{chosen, with_one}
use Rattle.pg_slice_values.proofs.GrowingNodes.{number_kept}
use Rattle.pg_slice_values.proofs.pointers.fixed.Goals as goal

same_ways : (b : Bool) (x : Option ℕ) → cond b x x ≡ x
same_ways true x = refl
same_ways false x = refl

either_way : (n : Option ℕ) (x y : Option ℕ) → x ≡ y → with_one n (λ m. chosen m x x) ≡ with_one n (λ m. y)
either_way None x y e = refl
either_way (Some m) x y e = same_ways (m % 2 == 0) x ∙ e

pub returns-clause-value : goal.returns-clause-value
returns-clause-value c =
    IfOk-weaker c.added-2.result _ _ (λ k h input.
    h input
    ∙ either_way _ _ _ (c.in_ok-bytes.ensures.value input)
    ∙ ap (λ n. with_one n (λ m. Some c.args.bytes)) (number_kept c.args.nodes.now c.added.new.nodes c.args.index input c.added.ensures.grew c.requires)) c.added-2.ensures.value
