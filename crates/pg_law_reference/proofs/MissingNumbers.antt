-- Sets of numbers, and how many of the first numbers they lack.
use Rattle.std.proofs.Common.{◌≡◌, ℕ, zero, suc, ◌+◌, ◌<◌, ◌≤◌, ◌==◌, ◌||◌, ◌⊎◌, Bool, true, false, refl, sym, ap, ◌∙◌, arith, inl, inr}
use Rattle.std.proofs.lemmas.Bool.{cases_eq, eq-eqb, or_left, or_right, true≢false}

-- ---- how many of the first numbers a set lacks

abbrev pub one_if : Bool → ℕ
one_if true = 0
one_if false = 1

abbrev pub missing : (ℕ → Bool) → ℕ → ℕ
missing f zero = 0
missing f (suc m) = missing f m + one_if (f m)

pub missing_most : (f : ℕ → Bool) (m : ℕ) → missing f m ≤ m
missing_most f zero = omega arith
missing_most f (suc m) = go (f m) (missing_most f m)
  where
    go : (b : Bool) → missing f m ≤ m → missing f m + one_if b ≤ suc m
    go true h = omega arith
    go false h = omega arith

pub one_more : (a b : Bool) → (a ≡ true → b ≡ true) → one_if b ≤ one_if a
one_more true true h = omega arith
one_more true false h = absurd (true≢false (sym (h refl)))
one_more false true h = omega arith
one_more false false h = omega arith

missing_fewer : (f g : ℕ → Bool) (m : ℕ) → ((z : ℕ) → f z ≡ true → g z ≡ true) → missing g m ≤ missing f m
missing_fewer f g zero h = omega arith
missing_fewer f g (suc m) h = omega (arith, missing_fewer f g m h, one_more (f m) (g m) (h m))

pub missing_less : (f g : ℕ → Bool) (x m : ℕ) → ((z : ℕ) → f z ≡ true → g z ≡ true) → f x ≡ false → g x ≡ true → x < m → missing g m < missing f m
missing_less f g x zero h a b lt = absurd (omega arith)
missing_less f g x (suc m) h a b lt = go (cases_eq x m) (λ l. missing_less f g x m h a b l)
  where
    go : (x ≡ m) ⊎ (x ≡ m → ⊥) → (x < m → missing g m < missing f m) → missing g m + one_if (g m) < missing f m + one_if (f m)
    go (inl e) less =
        let c : one_if (f m) ≡ 1 = ap one_if (ap f (sym e) ∙ a) in
        let d : one_if (g m) ≡ 0 = ap one_if (ap g (sym e) ∙ b) in
        omega (arith, missing_fewer f g m h, c, d)
    go (inr ne) less = omega (arith, less (omega (arith, lt, ne)), one_more (f m) (g m) (h m))

-- ---- a vertex is added

abbrev pub with_vertex : (ℕ → Bool) → ℕ → ℕ → Bool
with_vertex f x z = f z || (z == x)

pub kept : (f : ℕ → Bool) (x z : ℕ) → f z ≡ true → with_vertex f x z ≡ true
kept f x z e = or_left (f z) (z == x) e

pub added : (f : ℕ → Bool) (x : ℕ) → with_vertex f x x ≡ true
added f x = or_right (f x) (x == x) (eq-eqb x x refl)
