-- Bytes of numbers, and bytes without the zeros at the end.
use Rattle.std.proofs.Common.{◌≡◌, ℕ, zero, suc, ◌+◌, ◌-◌, ◌/◌, ◌%◌, ◌<◌, ◌≤◌, Bool, true, false, cond, List, [], ◌∷◌, ◌++◌, length, take}
use Rattle.std.proofs.Common.{replicate, get_or, refl, sym, ap, ◌∙◌, arith}
use Rattle.std.specs.Prelude.{◌==◌, if◌then◌else◌}
use Rattle.std.proofs.lemmas.List.{append_assoc, append-nil}
use Rattle.std.proofs.lemmas.Bool.Decides.{nat_tests}
use Rattle.pg_check_rules.specs.Constants.{little_endian, trimmed, unless_zero}

-- one byte of a number more
pub byte_step : (front : List ℕ) (count i n byte : ℕ) → i < count → byte ≡ n % 256
    → (front ++ byte ∷ []) ++ little_endian (count - (i + 1)) (n / 256) ≡ front ++ little_endian (count - i) n
byte_step front count i n byte l e =
    let s : count - i ≡ suc (count - (i + 1)) = omega (arith, l) in
    append_assoc front (byte ∷ []) (little_endian (count - (i + 1)) (n / 256))
    ∙ ap (λ b. front ++ b ∷ little_endian (count - (i + 1)) (n / 256)) e
    ∙ ap (λ k. front ++ little_endian k n) (sym s)

pub bytes_end : (front : List ℕ) (count i n : ℕ) → count ≤ i → front ≡ front ++ little_endian (count - i) n
bytes_end front count i n l =
    let s : count - i ≡ zero = omega (arith, l) in
    sym (append-nil front) ∙ ap (λ k. front ++ little_endian k n) (sym s)

-- one zero more
pub zero_step : (front : List ℕ) (count i : ℕ) → i < count → (front ++ 0 ∷ []) ++ replicate (count - (i + 1)) 0 ≡ front ++ replicate (count - i) 0
zero_step front count i l =
    let s : count - i ≡ suc (count - (i + 1)) = omega (arith, l) in
    append_assoc front (0 ∷ []) (replicate (count - (i + 1)) 0) ∙ ap (λ k. front ++ replicate k 0) (sym s)

pub zeros_end : (front : List ℕ) (count i : ℕ) → count ≤ i → front ≡ front ++ replicate (count - i) 0
zeros_end front count i l =
    let s : count - i ≡ zero = omega (arith, l) in
    sym (append-nil front) ∙ ap (λ k. front ++ replicate k 0) (sym s)

-- ---- the zeros at the end

trimmed_zero : (xs : List ℕ) → trimmed (xs ++ 0 ∷ []) ≡ trimmed xs
trimmed_zero [] = refl
trimmed_zero (x ∷ xs) = ap (λ ys. unless_zero x ys) (trimmed_zero xs)

trimmed_other : (xs : List ℕ) (b : ℕ) → (b == 0) ≡ false → trimmed (xs ++ b ∷ []) ≡ xs ++ b ∷ []
trimmed_other [] b e = ap (λ t. cond t [] (b ∷ [])) e
trimmed_other (x ∷ []) b e = ap (λ ys. unless_zero x ys) (trimmed_other [] b e)
trimmed_other (x ∷ y ∷ xs) b e = ap (λ ys. unless_zero x ys) (trimmed_other (y ∷ xs) b e)

take_more : (xs : List ℕ) (k d : ℕ) → k < length xs → take (k + 1) xs ≡ take k xs ++ get_or xs k d ∷ []
take_more [] k d l = absurd (omega (arith, l))
take_more (x ∷ xs) zero d l = refl
take_more (x ∷ xs) (suc k) d l =
    let more : suc k + 1 ≡ suc (k + 1) = omega arith in
    ap (λ n. take n (x ∷ xs)) more ∙ ap (λ ys. x ∷ ys) (take_more xs k d (omega (arith, l)))

-- one byte more is looked at
pub trim_step : (xs : List ℕ) (k d b before after : ℕ) → k < length xs → b ≡ get_or xs k d → after ≡ (if b == 0 then before else k + 1)
    → take before xs ≡ trimmed (take k xs) → take after xs ≡ trimmed (take (k + 1) xs)
trim_step xs k d b before after l e a h = by (b == 0) refl
  where
    by : (t : Bool) → (b == 0) ≡ t → take after xs ≡ trimmed (take (k + 1) xs)
    by true z =
        let n : b ≡ 0 = grind (arith, nat_tests) in
        ap (λ n. take n xs) (a ∙ ap (λ t. cond t before (k + 1)) z)
        ∙ h
        ∙ sym (trimmed_zero (take k xs))
        ∙ ap (λ x. trimmed (take k xs ++ x ∷ [])) (sym n ∙ e)
        ∙ ap trimmed (sym (take_more xs k d l))
    by false z =
        ap (λ n. take n xs) (a ∙ ap (λ t. cond t before (k + 1)) z)
        ∙ take_more xs k d l
        ∙ ap (λ x. take k xs ++ x ∷ []) (sym e)
        ∙ sym (trimmed_other (take k xs) b z)
        ∙ ap (λ x. trimmed (take k xs ++ x ∷ [])) e
        ∙ ap trimmed (sym (take_more xs k d l))

pub taken : (xs : List ℕ) (k : ℕ) → length xs ≤ k → take k xs ≡ xs
taken [] zero l = refl
taken [] (suc k) l = refl
taken (x ∷ xs) zero l = absurd (omega (arith, l))
taken (x ∷ xs) (suc k) l = ap (λ ys. x ∷ ys) (taken xs k (omega (arith, l)))
