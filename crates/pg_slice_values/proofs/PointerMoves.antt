-- Moves of pointers: they count modulo two to the 64, since an offset has 21 bits.
use Rattle.std.proofs.Common.{◌≡◌, ℕ, zero, suc, ◌+◌, ◌-◌, ◌*◌, ◌/◌, ◌%◌, ◌^◌, ℤ, pos, negsuc, Bool, true, false, cond, nat_lt, Option, Some, None, arith}
use Rattle.std.proofs.Common.{refl, ap, sym, ◌∙◌}
use Rattle.std.specs.Prelude.{◌+ℤ◌, ◌*ℤ◌}
use lib.IntN.{neg_ℤ}
use Rattle.std.proofs.lemmas.Bool.Decides.{nat_tests}
use Rattle.std.proofs.lemmas.Nat.{mul-mod, mul-mod_first}
use Rattle.pg_num.specs.Numbers.{product_of, residue, signed, truncated}
use Rattle.pg_num.specs.Pointers.{moved_by, offset_of, pointer_of, word_of}
use Rattle.pg_num.specs.declared.width.Width.TheVariants.{W64}
use Rattle.pg_ir.specs.declared.value.Index.{Index}
use Rattle.pg_ir.specs.declared.value.Scale.{Scale}
use Rattle.pg_ir.specs.declared.value.Scale.TheVariants.{Times, Field}
use Rattle.pg_precondition.specs.Values.{with_both, with_one}
use Rattle.pg_run_thread.specs.Compute.{index_bytes}
use Rattle.pg_slice_values.specs.Forms.{distance_of, moved_if}

-- an integer modulo two to the 64
low : ℤ → ℕ
low (pos n) = n % 2 ^ 64
low (negsuc n) = 2 ^ 64 - 1 - n % 2 ^ 64

low_is : (z : ℤ) → residue W64 z ≡ low z
unfolding low
low_is (pos n) = refl
low_is (negsuc n) = refl

offset_behind : (o n : ℕ) → offset_of (cond (nat_lt o (suc n)) (negsuc (suc n - suc o)) (pos (o - suc n))) ≡ (o + (2 ^ 64 - 1 - n % 2 ^ 64)) % 2 ^ 21
offset_behind o n = go (nat_lt o (suc n)) refl
  where
    go : (b : Bool) → nat_lt o (suc n) ≡ b → offset_of (cond b (negsuc (suc n - suc o)) (pos (o - suc n))) ≡ (o + (2 ^ 64 - 1 - n % 2 ^ 64)) % 2 ^ 21
    go true e = grind (arith, nat_tests)
    go false e = grind (arith, nat_tests)

same_offset : (o : ℕ) (z : ℤ) → offset_of (pos o +ℤ z) ≡ (o + low z) % 2 ^ 21
unfolding low
same_offset o (pos n) = omega arith
same_offset o (negsuc n) = offset_behind o n

moved_alike : (word : ℕ) (y z : ℤ) → low y ≡ low z → moved_by word y ≡ moved_by word z
moved_alike word y z e =
    let o = (pointer_of word).offset in
    ap (λ k. word_of (record { start = (pointer_of word).start; length = (pointer_of word).length; offset = k })) (same_offset o y ∙ ap (λ r. (o + r) % 2 ^ 21) e ∙ sym (same_offset o z))

low_signed : (n : ℕ) → low (signed W64 n) ≡ n % 2 ^ 64
unfolding low
low_signed n = grind (arith, nat_tests)

-- by a number that is read with its sign
pub moved_signed : (word n : ℕ) → moved_by word (signed W64 n) ≡ moved_by word (pos n)
unfolding low
moved_signed word n = moved_alike word (signed W64 n) (pos n) (low_signed n)

low_pos : (n : ℕ) → low (pos n) ≡ n % 2 ^ 64
unfolding low
low_pos n = refl

low_negative : (m : ℕ) → low (neg_ℤ (pos m)) ≡ (2 ^ 64 - m % 2 ^ 64) % 2 ^ 64
unfolding low
low_negative zero = refl
low_negative (suc k) = omega arith

sums_to : (x y q : ℕ) → x + y ≡ 2 ^ 64 * q → (2 ^ 64 - y % 2 ^ 64) % 2 ^ 64 ≡ x % 2 ^ 64
sums_to x y q e = omega arith

distribute : (s t b : ℕ) → s * b + t * b ≡ (s + t) * b
distribute s t b = omega arith

regroup : (k b : ℕ) → 2 ^ 64 * k * b ≡ 2 ^ 64 * (k * b)
regroup k b = omega arith

low_product : (z : ℤ) (b : ℕ) → low (z *ℤ pos b) ≡ low z * b % 2 ^ 64
unfolding low
low_product (pos n) b = sym (mul-mod_first n b (2 ^ 64))
low_product (negsuc n) b =
    let s = 2 ^ 64 - 1 - n % 2 ^ 64 in
    let k = 1 + n / 2 ^ 64 in
    let e : s + suc n ≡ 2 ^ 64 * k = omega arith in
    low_negative (suc n * b) ∙ sums_to (s * b) (suc n * b) (k * b) (distribute s (suc n) b ∙ ap (λ x. x * b) e ∙ regroup k b)

-- by an index times its scale
moved_product : (word : ℕ) (z : ℤ) (b : ℕ) → moved_by word (pos (product_of W64 (truncated W64 (residue W64 z)) (truncated W64 b))) ≡ moved_by word (z *ℤ pos b)
moved_product word z b =
    moved_alike word _ _ (
    low_pos _ ∙ again (residue W64 z % 2 ^ 64 * (b % 2 ^ 64)) ∙ sym (mul-mod (residue W64 z) b (2 ^ 64)) ∙ ap (λ x. x * b % 2 ^ 64) (low_is z) ∙ sym (low_product z b))
  where
    again : (n : ℕ) → n % 2 ^ 64 % 2 ^ 64 ≡ n % 2 ^ 64
    again n = omega arith

moved_distance : (i : Index) (s : Scale) (word m : ℕ) → moved_by word (signed W64 (distance_of i s m)) ≡ moved_by word (index_bytes i s (truncated i.width m))
moved_distance i (Times b) word m = moved_signed word _ ∙ moved_product word (signed i.width (truncated i.width m)) b
moved_distance i (Field b) word m = moved_signed word b

-- the node of a moved word
pub moved_is : (i : Index) (word n delta : Option ℕ) → delta ≡ with_one n (λ m. Some (distance_of i i.scale m))
    → with_both word delta (λ w d. Some (moved_by w (signed W64 d))) ≡ moved_if i word n
moved_is i word n delta e = ap (λ x. with_both word x (λ w d. Some (moved_by w (signed W64 d)))) e ∙ go word n
  where
    go : (u v : Option ℕ) → with_both u (with_one v (λ m. Some (distance_of i i.scale m))) (λ w d. Some (moved_by w (signed W64 d))) ≡ moved_if i u v
    go None v = refl
    go (Some w) None = refl
    go (Some w) (Some m) = ap (λ x. Some x) (moved_distance i i.scale w m)
