-- Where globals end, as it is kept up to the first granule at which none may end.
use Rattle.std.proofs.Common.{◌≡◌, ℕ, zero, suc, ◌+◌, ◌/◌, ◌<◌, ◌≤◌, ◌⊎◌, inl, inr, min, max, nat_lt, true, List, [], ◌∷◌, length, map, take, get_or}
use Rattle.std.proofs.Common.{sym, ap, ◌∙◌, arith}
use Rattle.std.specs.Prelude.{sum_by, fold}
use Rattle.std.proofs.lemmas.Bool.{cases_lt}
use Rattle.std.proofs.lemmas.Bool.Decides.{nat_tests}
use Rattle.std.proofs.Math.Nat.{min-eq_left, min-eq_right}
use Rattle.pg_num.specs.declared.layout.TheConstants.{GLOBALS_END}
use Rattle.pg_ir.specs.WellFormed.{granules_for}
use Rattle.pg_read_ast.specs.Syntax.{NamedType, Variable}
use Rattle.pg_check_types.specs.declared.cap.TheConstants.{LAYOUT_CAP}
use Rattle.pg_check_types.specs.Capped.{capped}
use Rattle.pg_check_rules.specs.Conditions.{granules_of, globals_end}
use Rattle.pg_check_heads.specs.Ends.{ended}

-- ---- sums that are kept up to a number

min_second : (a b c : ℕ) → min (a + min b c) c ≡ min (a + b) c
min_second a b c = by (cases_lt b c)
  where
    by : (b < c) ⊎ (c ≤ b) → min (a + min b c) c ≡ min (a + b) c
    by (inl l) = let m : b ≤ c = omega (arith, l) in ap (λ x. min (a + x) c) (min-eq_left m)
    by (inr l) =
        let m : c ≤ a + c = omega arith in
        let n : c ≤ a + b = omega (arith, l) in
        ap (λ x. min (a + x) c) (min-eq_right l) ∙ min-eq_right m ∙ sym (min-eq_right n)

min_first : (a b c : ℕ) → min (min a c + b) c ≡ min (a + b) c
min_first a b c =
    let e : min a c + b ≡ b + min a c = omega arith in
    let f : b + a ≡ a + b = omega arith in
    ap (λ x. min x c) e ∙ min_second b a c ∙ ap (λ x. min x c) f

pub ended_second : (a b : ℕ) → ended (a + ended b) ≡ ended (a + b)
ended_second a b = min_second a b (GLOBALS_END + 1)

pub ended_first : (a b : ℕ) → ended (ended a + b) ≡ ended (a + b)
ended_first a b = min_first a b (GLOBALS_END + 1)

-- it is known of the end that is kept whether it is past the last
pub past_ended : (n : ℕ) → nat_lt GLOBALS_END (ended n) ≡ nat_lt GLOBALS_END n
past_ended n = by (cases_lt n (GLOBALS_END + 1))
  where
    by : (n < GLOBALS_END + 1) ⊎ (GLOBALS_END + 1 ≤ n) → nat_lt GLOBALS_END (ended n) ≡ nat_lt GLOBALS_END n
    by (inl l) = let m : n ≤ GLOBALS_END + 1 = omega (arith, l) in ap (λ x. nat_lt GLOBALS_END x) (min-eq_left m)
    by (inr l) =
        let g : nat_lt GLOBALS_END n ≡ true = grind (arith, nat_tests) in
        ap (λ x. nat_lt GLOBALS_END x) (min-eq_right l) ∙ sym g

-- ---- the granules of a size

-- a size that is kept takes the granules of the size, as they are kept
pub capped_granules : (s : ℕ) → ended (granules_for (capped s)) ≡ ended (granules_for s)
capped_granules s = by (cases_lt s LAYOUT_CAP)
  where
    by : (s < LAYOUT_CAP) ⊎ (LAYOUT_CAP ≤ s) → ended (granules_for (capped s)) ≡ ended (granules_for s)
    by (inl l) = let m : s ≤ LAYOUT_CAP = omega (arith, l) in ap (λ x. ended (granules_for x)) (min-eq_left m)
    by (inr l) =
        let q : GLOBALS_END + 1 ≤ (s + 7) / 8 = omega (arith, l) in
        let m : GLOBALS_END + 1 ≤ max 1 ((s + 7) / 8) = omega (arith, q) in
        ap (λ x. ended (granules_for x)) (min-eq_right l) ∙ sym (min-eq_right m)

-- ---- where the first globals end

sum_from : {X Y : Type 0} (f : Y → ℕ) (g : X → Y) (k : ℕ) (xs : List X) (i : ℕ) (x d : X) → i < length xs → x ≡ get_or xs i d
    → fold (λ n y. n + f y) k (take (i + 1) (map g xs)) ≡ fold (λ n y. n + f y) k (take i (map g xs)) + f (g x)
sum_from f g k [] i x d l e = absurd (omega (arith, l))
sum_from f g k (y ∷ xs) zero x d l e = ap (λ z. k + f (g z)) (sym e)
sum_from f g k (y ∷ xs) (suc i) x d l e =
    let s : suc i + 1 ≡ suc (i + 1) = omega arith in
    ap (λ j. fold (λ n y. n + f y) k (take j (map g (y ∷ xs)))) s
    ∙ sum_from f g (k + f (g y)) xs i x d (omega (arith, l)) e

pub end_step : {X : Type 0} (types : List NamedType) (g : X → Variable) (xs : List X) (i : ℕ) (x d : X) → i < length xs → x ≡ get_or xs i d
    → globals_end types (take (i + 1) (map g xs)) ≡ globals_end types (take i (map g xs)) + granules_of types (g x)
unfolding globals_end
end_step types g xs i x d l e =
    let a : 1 + (sum_by (granules_of types) (take i (map g xs)) + granules_of types (g x)) ≡ 1 + sum_by (granules_of types) (take i (map g xs)) + granules_of types (g x) = omega arith in
    ap (λ n. 1 + n) (sum_from (granules_of types) g 0 xs i x d l e) ∙ a

-- the end of one global more, as it is kept
pub ended_step : {X : Type 0} (types : List NamedType) (g : X → Variable) (xs : List X) (i : ℕ) (x d : X) (before after : ℕ) → i < length xs → x ≡ get_or xs i d
    → before ≡ ended (globals_end types (take i (map g xs))) → after ≡ ended (before + granules_of types (g x)) → after ≡ ended (globals_end types (take (i + 1) (map g xs)))
ended_step types g xs i x d before after l e b a =
    a ∙ ap (λ n. ended (n + granules_of types (g x))) b
    ∙ ended_first (globals_end types (take i (map g xs))) (granules_of types (g x))
    ∙ ap (λ n. ended n) (sym (end_step types g xs i x d l e))

pub ended_small : (a n : ℕ) → a ≡ ended n → a ≤ GLOBALS_END + 1
ended_small a n e = by (cases_lt n (GLOBALS_END + 1))
  where
    by : (n < GLOBALS_END + 1) ⊎ (GLOBALS_END + 1 ≤ n) → a ≤ GLOBALS_END + 1
    by (inl l) =
        let m : n ≤ GLOBALS_END + 1 = omega (arith, l) in
        let f : a ≡ n = e ∙ min-eq_left m in
        omega (arith, l, f)
    by (inr l) =
        let f : a ≡ GLOBALS_END + 1 = e ∙ min-eq_right l in
        omega (arith, f)
