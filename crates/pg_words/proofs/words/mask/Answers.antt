use Rattle.std.proofs.Common.{◌≡◌, ◌-◌, ◌*◌, ◌≤◌, arith, ap, ◌∙◌, ◌^◌}
use Rattle.std.proofs.lemmas.Nat.Bits.{ones_shr}
use Rattle.pg_words.proofs.words.mask.Goals as goal

pub returns : goal.returns
returns c =
    let e : 64 - (64 - 8 * c.args.bytes) ≡ 8 * c.args.bytes = omega arith in
    let h : 64 - 8 * c.args.bytes ≤ 64 = omega arith in
    ones_shr 64 (64 - 8 * c.args.bytes) h ∙ ap (λ k. 2 ^ k - 1) e
