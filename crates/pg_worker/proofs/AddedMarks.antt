-- Marks of pages that are added to others.
use Rattle.std.proofs.Common.{◌≡◌, ℕ, ◌+◌, ◌/◌, ◌%◌, ◌<◌, ◌≤◌, ◌⊎◌, inl, inr, List, length, length-set, get_or, Bool, true, false, refl, sym, ◌∙◌, ap, arith}
use Rattle.std.specs.Prelude.{◌==◌, bit_or, slice_index, slice_set}
use Rattle.std.specs.Int.{bit_at}
use Rattle.std.proofs.lemmas.Bool.{cases_lt, eq-eqb, eqb-false, eqb-true}
use Rattle.std.proofs.lemmas.List.{get_or-set_other, get_or-set_same, get_or_past}
use Rattle.std.proofs.lemmas.Nat.Bits.{bit_at-lt, bit_at-zero, bit_at_or}
use Rattle.pg_worker.specs.Pages.{is_marked}

-- the marks of the first words of others are added
pub record AreAdded (old other : List ℕ) (n : ℕ) (new : List ℕ) : Type 0 where
  pub wide : length new ≡ 1024
  pub kept : (page : ℕ) → is_marked old page ≡ true → is_marked new page ≡ true
  pub added : (page : ℕ) → page / 64 < n → is_marked other page ≡ true → is_marked new page ≡ true

pub none_added : (old other : List ℕ) → length old ≡ 1024 → AreAdded old other 0 old
none_added old other wide = record { wide = wide; kept = λ page e. e; added = λ page lt e. absurd (omega (arith, lt)) }

either_bit : (a b k : ℕ) → ((bit_at a k == 1) ≡ true) ⊎ ((bit_at b k == 1) ≡ true) → (bit_at (bit_or a b) k == 1) ≡ true
either_bit a b k (inl e) =
    let one : bit_at a k ≡ 1 = eqb-true (bit_at a k) 1 e in
    let more = bit_at_or a b k in
    let few = bit_at-lt (bit_or a b) k in
    eq-eqb (bit_at (bit_or a b) k) 1 (omega (arith, one, more, few))
either_bit a b k (inr e) =
    let one : bit_at b k ≡ 1 = eqb-true (bit_at b k) 1 e in
    let more = bit_at_or a b k in
    let few = bit_at-lt (bit_or a b) k in
    eq-eqb (bit_at (bit_or a b) k) 1 (omega (arith, one, more, few))

-- one word more
module _ (old other : List ℕ) (n : ℕ) (new : List ℕ) (h : AreAdded old other n new) (few : n < 1024) (a b : ℕ) (mine : a ≡ slice_index new n) (theirs : b ≡ slice_index other n) where
  abbrev after : List ℕ
  after = slice_set new n (bit_or a b)

  elsewhere : (page : ℕ) → (page / 64 == n) ≡ false → is_marked new page ≡ true → is_marked after page ≡ true
  elsewhere page q e = ap (λ (w : ℕ). bit_at w (page % 64) == 1) (get_or-set_other new n (page / 64) (bit_or a b) 0 (eqb-false (page / 64) n q)) ∙ e

  here : (page : ℕ) → page / 64 ≡ n → (is_marked new page ≡ true) ⊎ (is_marked other page ≡ true) → is_marked after page ≡ true
  here page q e =
      ap (λ (w : ℕ). bit_at w (page % 64) == 1) (ap (λ (j : ℕ). get_or after j 0) q ∙ get_or-set_same new n (bit_or a b) 0 (let w = h.wide in omega (arith, w, few)))
      ∙ either_bit a b (page % 64) (bits e)
    where
      bits : (is_marked new page ≡ true) ⊎ (is_marked other page ≡ true) → ((bit_at a (page % 64) == 1) ≡ true) ⊎ ((bit_at b (page % 64) == 1) ≡ true)
      bits (inl m) = inl (ap (λ (w : ℕ). bit_at w (page % 64) == 1) (mine ∙ ap (slice_index new) (sym q)) ∙ m)
      bits (inr m) = inr (ap (λ (w : ℕ). bit_at w (page % 64) == 1) (theirs ∙ ap (slice_index other) (sym q)) ∙ m)

  still : (page : ℕ) → is_marked new page ≡ true → is_marked after page ≡ true
  still page e = go (page / 64 == n) refl
    where
      go : (c : Bool) → (page / 64 == n) ≡ c → is_marked after page ≡ true
      go true q = here page (eqb-true (page / 64) n q) (inl e)
      go false q = elsewhere page q e

  pub one_added : AreAdded old other (n + 1) after
  one_added = record { wide = length-set new n (bit_or a b) ∙ h.wide; kept = λ page e. still page (h.kept page e); added = λ page lt e. go page lt e (page / 64 == n) refl }
    where
      go : (page : ℕ) → page / 64 < n + 1 → is_marked other page ≡ true → (c : Bool) → (page / 64 == n) ≡ c → is_marked after page ≡ true
      go page lt e true q = here page (eqb-true (page / 64) n q) (inr e)
      go page lt e false q = (let ne = eqb-false (page / 64) n q in elsewhere page q (h.added page (below ne) e))
        where
          below : (page / 64 ≡ n → ⊥) → page / 64 < n
          below ne = omega (arith, lt, ne)

-- ---- words of marks behind their end

no_word : (words : List ℕ) (page : ℕ) → length words ≤ page / 64 → is_marked words page ≡ false
no_word words page past =
    ap (λ (w : ℕ). bit_at w (page % 64) == 1) (get_or_past words (page / 64) 0 past) ∙ ap (λ (b : ℕ). b == 1) (bit_at-zero (page % 64))

not_both : (b : Bool) → b ≡ true → b ≡ false → ⊥
not_both b t f = absurd cc

pub all_added : (old other : List ℕ) (n : ℕ) (new : List ℕ) → AreAdded old other n new → length other ≤ n → (page : ℕ) → is_marked other page ≡ true → is_marked new page ≡ true
all_added old other n new h all page e = go (cases_lt (page / 64) n)
  where
    go : (page / 64 < n) ⊎ (n ≤ page / 64) → is_marked new page ≡ true
    go (inl lt) = h.added page lt e
    go (inr le) = absurd (not_both (is_marked other page) e (no_word other page (omega (arith, le, all))))
