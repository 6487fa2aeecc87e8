use Rattle.std.proofs.Common.{◌≡◌, ℕ, pos, Option, Some, None, ◌∙◌, ap, refl}
use mathlib.Core.Path.{fun_ext}
use Rattle.pg_num.specs.Numbers.{signed}
use Rattle.pg_num.specs.Pointers.{moved_by}
use Rattle.pg_num.specs.declared.width.Width.TheVariants.{W64}
use Rattle.pg_precondition.specs.Values.{with_both, with_one}
use Rattle.pg_slice_rules.specs.SymbolicValues.{OnInput, Known}
use Rattle.pg_slice_values.specs.SymbolicNodes.{number_by}
use Rattle.pg_slice_values.proofs.GrowingNodes.{grew_then, number_kept}
use Rattle.pg_slice_values.proofs.PointerMoves.{moved_signed}
use Rattle.pg_slice_values.proofs.values.moved_word.Goals as goal

moved_to : (k : ℕ) (u word delta : Option ℕ) → u ≡ word → delta ≡ Some k
    → with_both u delta (λ w d. Some (moved_by w (signed W64 d))) ≡ with_one word (λ w. Some (moved_by w (pos k)))
moved_to k u word delta e h =
    ap (λ x. with_both x delta (λ w d. Some (moved_by w (signed W64 d)))) e ∙ ap (λ x. with_both word x (λ w d. Some (moved_by w (signed W64 d)))) h ∙ go word
  where
    go : (v : Option ℕ) → with_both v (Some k) (λ w d. Some (moved_by w (signed W64 d))) ≡ with_one v (λ w. Some (moved_by w (pos k)))
    go None = refl
    go (Some w) = ap (λ x. Some x) (moved_signed w k)

pub returns-clause-value : goal.returns-clause-value
returns-clause-value c =
    let old = c.args.nodes.now in
    let one = c.added.new.nodes in
    let two = c.added-2.new.nodes in
    let grew = grew_then old one two c.added.ensures.grew c.added-2.ensures.grew in
    ap (λ (f : OnInput). Known f (number_by two c.args.bounds)) (fun_ext (λ input.
    c.in_ok-value.ensures.value input
    ∙ moved_to c.args.k _ _ _ (number_kept old one c.args.base input c.added.ensures.grew c.requires.base) (c.in_ok-delta.ensures.value input)))
    ∙ ap (λ (f : OnInput). Known (λ input. with_one (number_by old c.args.base input) (λ w. Some (moved_by w (pos c.args.k)))) f)
    (fun_ext (λ input. number_kept old two c.args.bounds input grew c.requires.bounds))
