-- Rows of places, one thing of a list after the other.
use Rattle.std.proofs.Common.{◌≡◌, ℕ, zero, suc, ◌+◌, ◌<◌, ◌≤◌, nat_lt, Bool, true, false, cond, List, [], ◌∷◌, ◌++◌, length, map, take, get_or, Option, Some}
use Rattle.std.proofs.Common.{None, refl, sym, ap, subst, ◌∙◌, append_assoc, arith}
use Rattle.std.specs.List.{flat_map, enumerate_from}
use Rattle.std.proofs.lemmas.List.{append-nil, map-append, take_more}
use Rattle.std.proofs.lemmas.Grind.{flat_map-append}
use Rattle.std.proofs.lemmas.Bool.Decides.{nat_tests}
use Rattle.pg_read_ast.specs.pg_read_lex.declared.token.Span.{Span}
use Rattle.pg_check_rules.specs.Earliest.{earlier, earliest}

-- of three places it doesn't matter which two are compared first
pub earlier_again : (a b c : Option Span) → earlier a (earlier b c) ≡ earlier (earlier a b) c
earlier_again None b c = refl
earlier_again (Some x) None c = refl
earlier_again (Some x) (Some y) None = by (nat_lt y.start x.start)
  where
    by : (k : Bool) → cond k (Some y) (Some x) ≡ earlier (cond k (Some y) (Some x)) None
    by true = refl
    by false = refl
earlier_again (Some x) (Some y) (Some z) = by (nat_lt z.start y.start) (nat_lt y.start x.start) refl refl
  where
    by : (m k : Bool) → nat_lt z.start y.start ≡ m → nat_lt y.start x.start ≡ k → earlier (Some x) (cond m (Some z) (Some y)) ≡ earlier (cond k (Some y) (Some x)) (Some z)
    by true true e f =
        let g : nat_lt z.start x.start ≡ true = grind (arith, nat_tests) in
        ap (λ b. cond b (Some z) (Some x)) g ∙ ap (λ b. cond b (Some z) (Some y)) (sym e)
    by true false e f = refl
    by false true e f = ap (λ b. cond b (Some y) (Some x)) f ∙ ap (λ b. cond b (Some z) (Some y)) (sym e)
    by false false e f =
        let g : nat_lt z.start x.start ≡ false = grind (arith, nat_tests) in
        ap (λ b. cond b (Some y) (Some x)) f ∙ ap (λ b. cond b (Some z) (Some x)) (sym g)

pub earliest_more : (xs ys : List Span) → earliest (xs ++ ys) ≡ earlier (earliest xs) (earliest ys)
unfolding earliest
earliest_more [] ys = refl
earliest_more (x ∷ xs) ys = ap (λ o. earlier (Some x) o) (earliest_more xs ys) ∙ earlier_again (Some x) (earliest xs) (earliest ys)

pub earlier_none : (a : Option Span) → earlier a None ≡ a
earlier_none None = refl
earlier_none (Some x) = refl

-- one thing more
pub row_last : {X Y : Type 0} (f : Y → List Span) (g : X → Y) (xs : List X) (i : ℕ) (d x : X) → i < length xs → x ≡ get_or xs i d
    → flat_map f (map g (take (i + 1) xs)) ≡ flat_map f (map g (take i xs)) ++ f (g x)
row_last f g xs i d x l e =
    let front = flat_map f (map g (take i xs)) in
    ap (λ ys. flat_map f (map g ys)) (take_more xs i d l)
    ∙ ap (λ ys. flat_map f ys) (map-append g (take i xs) (get_or xs i d ∷ []))
    ∙ flat_map-append f (map g (take i xs)) (g (get_or xs i d) ∷ [])
    ∙ ap (λ ss. front ++ ss) (append-nil (f (g (get_or xs i d))))
    ∙ ap (λ y. front ++ f (g y)) (sym e)

pub row_more : {X Y : Type 0} (f : Y → List Span) (g : X → Y) (xs : List X) (i : ℕ) (d x : X) → i < length xs → x ≡ get_or xs i d
    → earliest (flat_map f (map g (take (i + 1) xs))) ≡ earlier (earliest (flat_map f (map g (take i xs)))) (earliest (f (g x)))
row_more f g xs i d x l e = ap (λ ss. earliest ss) (row_last f g xs i d x l e) ∙ earliest_more (flat_map f (map g (take i xs))) (f (g x))

-- one thing more, where the earliest of the things before it and its own are known
pub row_step : {X Y : Type 0} (f : Y → List Span) (g : X → Y) (xs : List X) (i : ℕ) (d x : X) (found own all : Option Span) → i < length xs → x ≡ get_or xs i d
    → found ≡ earliest (flat_map f (map g (take i xs))) → own ≡ earliest (f (g x)) → all ≡ earlier found own → all ≡ earliest (flat_map f (map g (take (i + 1) xs)))
row_step f g xs i d x found own all l e a b c = c ∙ ap (λ o. earlier o own) a ∙ ap (λ o. earlier (earliest (flat_map f (map g (take i xs)))) o) b ∙ sym (row_more f g xs i d x l e)

-- the same, where each thing has its number
pub numbered_last : {X Y : Type 0} (f : ℕ × Y → List Span) (g : X → Y) (k : ℕ) (xs : List X) (i : ℕ) (d x : X) → i < length xs → x ≡ get_or xs i d
    → flat_map f (enumerate_from k (map g (take (i + 1) xs))) ≡ flat_map f (enumerate_from k (map g (take i xs))) ++ f (k + i, g x)
numbered_last f g k [] i d x l e = absurd (omega (arith, l))
numbered_last f g k (y ∷ xs) zero d x l e =
    let s : k ≡ k + 0 = omega arith in
    append-nil (f (k, g y)) ∙ ap (λ z. f (k, g z)) (sym e) ∙ ap (λ n. f (n, g x)) s
numbered_last f g k (y ∷ xs) (suc i) d x l e =
    let s : suc i + 1 ≡ suc (i + 1) = omega arith in
    let n : k + 1 + i ≡ k + suc i = omega arith in
    let front = flat_map f (enumerate_from (k + 1) (map g (take i xs))) in
    ap (λ j. flat_map f (enumerate_from k (map g (take j (y ∷ xs))))) s
    ∙ ap (λ ss. f (k, g y) ++ ss) (numbered_last f g (k + 1) xs i d x (omega (arith, l)) e)
    ∙ sym (append_assoc (f (k, g y)) front (f (k + 1 + i, g x)))
    ∙ ap (λ j. (f (k, g y) ++ front) ++ f (j, g x)) n

pub numbered_step : {X Y : Type 0} (f : ℕ × Y → List Span) (g : X → Y) (xs : List X) (i : ℕ) (d x : X) (found own all : Option Span) → i < length xs → x ≡ get_or xs i d
    → found ≡ earliest (flat_map f (enumerate_from 0 (map g (take i xs)))) → own ≡ earliest (f (i, g x)) → all ≡ earlier found own
    → all ≡ earliest (flat_map f (enumerate_from 0 (map g (take (i + 1) xs))))
numbered_step f g xs i d x found own all l e a b c =
    let s : 0 + i ≡ i = omega arith in
    let front = flat_map f (enumerate_from 0 (map g (take i xs))) in
    c ∙ ap (λ o. earlier o own) a ∙ ap (λ o. earlier (earliest front) o) (b ∙ ap (λ n. earliest (f (n, g x))) (sym s))
    ∙ sym (ap (λ ss. earliest ss) (numbered_last f g 0 xs i d x l e) ∙ earliest_more front (f (0 + i, g x)))

-- all things
pub row_whole : {X : Type 0} (P : List X → Type 0) (xs : List X) (i : ℕ) → length xs ≤ i → P (take i xs) → P xs
row_whole P xs i l p = subst P (whole xs i l) p
  where
    whole : {X : Type 0} (xs : List X) (i : ℕ) → length xs ≤ i → take i xs ≡ xs
    whole [] zero l = refl
    whole [] (suc i) l = refl
    whole (x ∷ xs) zero l = absurd (omega (arith, l))
    whole (x ∷ xs) (suc i) l = ap (λ ys. x ∷ ys) (whole xs i (omega (arith, l)))
