-- Tables of numbers.
use Rattle.std.proofs.Common.{◌≡◌, ℕ, zero, suc, ◌+◌, ◌<◌, ◌≤◌, ◌==◌, ◌||◌, Bool, true, false, List, [], ◌∷◌, ◌++◌, append-nil, drop, length}
use Rattle.std.proofs.Common.{slice_set, slice_index_or, replicate, refl, sym, ap, ◌∙◌, arith}
use Rattle.std.proofs.lemmas.Bool.{eq-eqb, ne_eqb, true≢false}
use Rattle.pg_slice_rules.specs.Sets.{one_of}
use Rattle.pg_slice_decisions.specs.Marks.{in_set, left_in, members_from}

pub none_in : (n k : ℕ) → in_set (replicate n false) k ≡ false
none_in zero zero = refl
none_in zero (suc k) = refl
none_in (suc n) zero = refl
none_in (suc n) (suc k) = none_in n k

pub put_left : (set : List Bool) (n : ℕ) → n < length set → in_set set n ≡ false → left_in set ≡ left_in (slice_set set n true) + 1
put_left [] n h e = absurd (omega (arith, h))
put_left (true ∷ set) zero h e = absurd (true≢false e)
put_left (false ∷ set) zero h e = let q : left_in set + 1 ≡ suc (left_in set) = omega arith in sym q
put_left (true ∷ set) (suc n) h e = put_left set n (omega (arith, h)) e
put_left (false ∷ set) (suc n) h e = let q = put_left set n (omega (arith, h)) e in omega (arith, q)

-- ---- members

none_below : (set : List Bool) (m j : ℕ) → j < m → one_of (members_from m set) j ≡ false
none_below [] m j h = refl
none_below (true ∷ set) m j h = rw (ne_eqb m j (λ e. omega (arith, h, e))) (none_below set (suc m) j (omega (arith, h)))
none_below (false ∷ set) m j h = none_below set (suc m) j (omega (arith, h))

members_are : (set : List Bool) (m k : ℕ) → one_of (members_from m set) (m + k) ≡ in_set set k
members_are [] m k = refl
members_are (true ∷ set) m zero = let q : m ≡ m + 0 = omega arith in rw (eq-eqb m (m + 0) q) refl
members_are (false ∷ set) m zero = none_below set (suc m) (m + 0) (omega arith)
members_are (true ∷ set) m (suc k) =
    let q : m + suc k ≡ suc m + k = omega arith in
    rw (ne_eqb m (m + suc k) (λ e. omega (arith, e))) (ap (λ j. one_of (members_from (suc m) set) j) q ∙ members_are set (suc m) k)
members_are (false ∷ set) m (suc k) =
    let q : m + suc k ≡ suc m + k = omega arith in
    ap (λ j. one_of (members_from (suc m) set) j) q ∙ members_are set (suc m) k

pub same_members : (set : List Bool) (xs : List ℕ) (k : ℕ) → xs ≡ members_from 0 set → one_of xs k ≡ in_set set k
same_members set xs k e = let q : k ≡ 0 + k = omega arith in ap (λ l. one_of l k) e ∙ ap (λ j. one_of (members_from 0 set) j) q ∙ members_are set 0 k

none_left : (set : List Bool) (n : ℕ) → length set ≤ n → drop n set ≡ []
none_left [] zero h = refl
none_left [] (suc n) h = refl
none_left (b ∷ set) zero h = absurd (omega (arith, h))
none_left (b ∷ set) (suc n) h = none_left set n (omega (arith, h))

pub all_members : (set : List Bool) (xs : List ℕ) (n : ℕ) → xs ++ members_from n (drop n set) ≡ members_from 0 set → length set ≤ n → xs ≡ members_from 0 set
all_members set xs n e h = sym (append-nil xs) ∙ ap (λ l. xs ++ members_from n l) (sym (none_left set n h)) ∙ e

-- one number more
pub or_moves : (t s r : Bool) → ((t || s) || r) ≡ (s || (t || r))
or_moves true true r = refl
or_moves true false r = refl
or_moves false s r = refl

pub or_none : (s : Bool) → (s || false) ≡ s
or_none true = refl
or_none false = refl
