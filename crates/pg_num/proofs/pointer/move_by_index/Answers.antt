use Rattle.std.proofs.Common.{◌≡◌, ℕ, ◌<◌, ◌^◌, ap, ◌∙◌, FitsSigned, to_z-of_z, arith, rules, pos, ◌*ℤ◌, ℤ}
use Rattle.std.specs.Int.{w128, cast_signed, cast_unsigned}
use Rattle.std.proofs.lemmas.Grind.{common_steps}
use Rattle.std.proofs.lemmas.Int.{to_z_pos}
use Rattle.pg_num.specs.Pointers.{moved_by}
use Rattle.pg_num.proofs.pointer.move_by_index.Goals as goal

product_is : (a : ℤ) (n : ℕ) → FitsSigned w128 a → n < 2 ^ 127 → FitsSigned w128 (a *ℤ pos n)
    → cast_signed w128 (cast_unsigned w128 (cast_signed w128 (cast_unsigned w128 a) *ℤ cast_signed w128 n)) ≡ a *ℤ pos n
product_is a n f g h = rw (to_z-of_z f, to_z_pos w128 n g) (to_z-of_z h)

pub returns : goal.returns
returns c =
    let f : FitsSigned w128 (c.signed.result *ℤ pos c.args.scale) = grind (arith, common_steps) in
    let g : FitsSigned w128 c.signed.result = search rules in
    c.move_by_wide.ensures ∙ ap (moved_by c.args.word) (product_is c.signed.result c.args.scale g (omega (arith, c.ranges.scale)) f
    ∙ ap (λ (z : ℤ). z *ℤ pos c.args.scale) c.signed.ensures.reading)
