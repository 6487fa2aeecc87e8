-- The decimal text of a number is digits, which write it.
use Rattle.std.proofs.Common.{◌≡◌, ℕ, zero, suc, ◌+◌, ◌-◌, ◌*◌, ◌<◌, List, [], ◌∷◌, length, map, refl, ap, ◌∙◌, arith, true, false, not, ◌==◌, codes}
use Rattle.std.proofs.Common.{if◌then◌else◌}
use Rattle.std.specs.List.{list_all}
use Rattle.std.proofs.lemmas.Bool.{and_from}
use Rattle.std.proofs.lemmas.Bool.Decides.{nat_tests}
use Rattle.std.specs.Int.Digits.{digits_of, number_from_digits_after, AllBelowBase}
use Rattle.std.proofs.lemmas.Int.Digits.{number_digits_of, all_below_base_digits_of}
use Rattle.pg_num.specs.Decimal.{is_digit, are_digits, digits_after, natural_of}
use Rattle.pg_read_ast.specs.Numbers.{digits_text, decimal_text}

after_text : (n : ℕ) (ds : List ℕ) → digits_after n (map (λ d. 48 + d) ds) ≡ number_from_digits_after 10 n ds
after_text n [] = refl
after_text n (d ∷ ds) =
    let e : n * 10 + (48 + d - 48) ≡ n * 10 + d = omega arith in
    ap (λ m. digits_after m (map (λ d. 48 + d) ds)) e ∙ after_text (n * 10 + d) ds

natural_text : (n : ℕ) → natural_of (digits_text n) ≡ n
unfolding digits_text
natural_text n = after_text 0 (digits_of 10 n) ∙ number_digits_of 10 n (omega arith)

digit_of : (d : ℕ) → d < 10 → is_digit (48 + d) ≡ true
digit_of d h = grind (arith, nat_tests)

below_digits : (ds : List ℕ) → AllBelowBase 10 ds → list_all is_digit (map (λ d. 48 + d) ds) ≡ true
below_digits [] h = refl
below_digits (d ∷ ds) h = and_from (is_digit (48 + d)) (list_all is_digit (map (λ d. 48 + d) ds)) (digit_of d h.0) (below_digits ds h.1)

digits_plain : (n : ℕ) → list_all is_digit (digits_text n) ≡ true
unfolding digits_text
digits_plain n = below_digits (digits_of 10 n) (all_below_base_digits_of 10 n (omega arith))

some_text : (n : ℕ) → decimal_text (suc n) ≡ digits_text (suc n)
unfolding decimal_text
some_text n = let e : (suc n == 0) ≡ false = grind (arith, nat_tests) in ap (λ t. if t then codes "0" else digits_text (suc n)) e

pub decimal_number : (n : ℕ) → natural_of (decimal_text n) ≡ n
unfolding decimal_text
decimal_number zero = refl
decimal_number (suc n) = ap natural_of (some_text n) ∙ natural_text (suc n)

some_digits : (ds : List ℕ) (n : ℕ) → natural_of ds ≡ suc n → list_all is_digit ds ≡ true → are_digits ds ≡ true
some_digits [] n e h = absurd (omega (arith, e))
some_digits (d ∷ ds) n e h = let z : (length (d ∷ ds) == 0) ≡ false = grind (arith, nat_tests) in and_from (not (length (d ∷ ds) == 0)) (list_all is_digit (d ∷ ds)) (ap (λ t. not t) z) h

pub decimal_digits : (n : ℕ) → are_digits (decimal_text n) ≡ true
unfolding decimal_text
decimal_digits zero = refl
decimal_digits (suc n) = ap are_digits (some_text n) ∙ some_digits (digits_text (suc n)) n (natural_text (suc n)) (digits_plain (suc n))
