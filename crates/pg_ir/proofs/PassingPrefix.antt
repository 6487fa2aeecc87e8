-- How many elements from the front on pass a test.
use Rattle.std.proofs.Common.{◌≡◌, ℕ, ◌+◌, ◌<◌, List, length, Bool, true, false, suc, arith, cond, get_or, drop, drop-cons, ap, ◌∙◌, sym}
use Rattle.std.specs.List.{prefix_len, take_while}
use Rattle.std.proofs.lemmas.List.Folds.{length-prefix_len}

pub prefix_more : {X : Type 0} (p : X → Bool) (xs : List X) (i : ℕ) (d : X) → i < length xs → p (get_or xs i d) ≡ true
    → i + prefix_len p (drop i xs) ≡ suc i + prefix_len p (drop (suc i) xs)
prefix_more p xs i d h e =
    let opened : prefix_len p (drop i xs) ≡ cond (p (get_or xs i d)) (1 + prefix_len p (drop (suc i) xs)) 0 = ap (prefix_len p) (drop-cons xs i d h) in
    let chosen : cond (p (get_or xs i d)) (1 + prefix_len p (drop (suc i) xs)) 0 ≡ 1 + prefix_len p (drop (suc i) xs) = ap (λ b. cond b (1 + prefix_len p (drop (suc i) xs)) 0) e in
    omega (arith, opened ∙ chosen)

pub prefix_stop : {X : Type 0} (p : X → Bool) (xs : List X) (i : ℕ) (d : X) → i < length xs → p (get_or xs i d) ≡ false → i + prefix_len p (drop i xs) ≡ i
prefix_stop p xs i d h e =
    let opened : prefix_len p (drop i xs) ≡ cond (p (get_or xs i d)) (1 + prefix_len p (drop (suc i) xs)) 0 = ap (prefix_len p) (drop-cons xs i d h) in
    let chosen : cond (p (get_or xs i d)) (1 + prefix_len p (drop (suc i) xs)) 0 ≡ 0 = ap (λ b. cond b (1 + prefix_len p (drop (suc i) xs)) 0) e in
    omega (arith, opened ∙ chosen)

pub prefix_length : {X : Type 0} (p : X → Bool) (xs : List X) → prefix_len p xs ≡ length (take_while p xs)
prefix_length p xs = sym (length-prefix_len p xs)
