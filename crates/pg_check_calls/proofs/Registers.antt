-- The registers of a function that are found by their names.
use Rattle.std.proofs.Common.{◌≡◌, ℕ, suc, ◌+◌, nat_lt, Bool, true, false, not, cond, List, [], ◌∷◌, length, Some, None, is_some, refl, sym, ◌∙◌, arith}
use Rattle.std.specs.List.{find, position_or_len}
use Rattle.std.proofs.lemmas.Bool.Decides.{nat_tests}
use Rattle.pg_check_rules.specs.Names.{Register, register_named, register_number, is_called}

shifted : (m n : ℕ) → nat_lt (1 + m) (suc n) ≡ nat_lt m n
shifted m n = by (nat_lt m n) refl
  where
    by : (b : Bool) → nat_lt m n ≡ b → nat_lt (1 + m) (suc n) ≡ b
    by true e = grind (arith, nat_tests)
    by false e = grind (arith, nat_tests)

found_before : {X : Type 0} (p : X → Bool) (xs : List X) → is_some (find p xs) ≡ nat_lt (position_or_len p xs) (length xs)
found_before p [] = refl
found_before {X = X} p (x ∷ xs) = by (p x) (found_before p xs)
  where
    by : (b : Bool) → is_some (find p xs) ≡ nat_lt (position_or_len p xs) (length xs)
        → is_some (cond b (Some x) (find p xs)) ≡ nat_lt (cond (not b) (1 + position_or_len p xs) 0) (length (x ∷ xs))
    by true e = let h : nat_lt 0 (length (x ∷ xs)) ≡ true = grind (arith, nat_tests) in sym h
    by false e = e ∙ sym (shifted (position_or_len p xs) (length xs))

some_if : (b : Bool) (n : ℕ) → is_some (cond b (Some n) None) ≡ b
some_if true n = refl
some_if false n = refl

pub register_found : (registers : List Register) (text : List ℕ) → is_some (register_number registers text) ≡ is_some (register_named registers text)
unfolding register_named register_number
register_found registers text =
    some_if (nat_lt (position_or_len (is_called text) registers) (length registers)) (position_or_len (is_called text) registers) ∙ sym (found_before (is_called text) registers)
