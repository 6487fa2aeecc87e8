-- Marks of pages, as bits of words.
use Rattle.std.proofs.Common.{◌≡◌, ℕ, zero, suc, ◌*◌, ◌/◌, ◌%◌, ◌^◌, ◌<◌, List, length, get_or, replicate, Bool, true, false, refl, sym, ◌∙◌, ap, arith}
use Rattle.std.specs.Prelude.{◌==◌, bit_or, slice_index, slice_set}
use Rattle.std.specs.Int.{bit_at, w64}
use Rattle.std.proofs.lemmas.Bool.{eq-eqb, eqb-false, eqb-true}
use Rattle.std.proofs.lemmas.List.{get_or-set_other, get_or-set_same}
use Rattle.std.proofs.lemmas.Option.{get_or_from_slice_get, slice_get-get_or}
use Rattle.std.proofs.lemmas.Nat.Bits.{bit_at-lt, bit_at-zero, bit_at_or, bit_at_set_same}
use Rattle.pg_seats.specs.pg_num.Places.{ByteRange, IsPlace}
use Rattle.pg_seats.proofs.of_pg_num.Granules.{IsPlace-some}
use Rattle.pg_worker.specs.Pages.{is_marked, page_of}

zero_at : (n i : ℕ) → slice_index (replicate n 0) i ≡ 0
zero_at zero i = refl
zero_at (suc n) zero = refl
zero_at (suc n) (suc i) = zero_at n i

no_marks : (n page : ℕ) → is_marked (replicate n 0) page ≡ false
no_marks n page = ap (λ (w : ℕ). bit_at w (page % 64) == 1) (zero_at n (page / 64)) ∙ ap (λ (b : ℕ). b == 1) (bit_at-zero (page % 64))

pub none_marked : (n page : ℕ) (words : List ℕ) → words ≡ replicate n 0 → is_marked words page ≡ false
none_marked n page words e = ap (λ (ws : List ℕ). is_marked ws page) e ∙ no_marks n page

-- the words with one mark more
abbrev pub with_mark : List ℕ → ℕ → ℕ → List ℕ
with_mark words i k = slice_set words i (bit_or (slice_index words i) (1 * 2 ^ k % 2 ^ 64))

pub marked_now : (words : List ℕ) (page : ℕ) → page / 64 < length words → is_marked (with_mark words (page / 64) (page % 64)) page ≡ true
marked_now words page lt =
    ap (λ (w : ℕ). bit_at w (page % 64) == 1) (get_or-set_same words (page / 64) (bit_or (slice_index words (page / 64)) (1 * 2 ^ (page % 64) % 2 ^ 64)) 0 lt)
    ∙ ap (λ (b : ℕ). b == 1) (bit_at_set_same w64 (slice_index words (page / 64)) (page % 64) (omega arith))

pub marked_still : (words : List ℕ) (i k page : ℕ) → i < length words → is_marked words page ≡ true → is_marked (with_mark words i k) page ≡ true
marked_still words i k page lt e = go (page / 64 == i) refl
  where
    go : (b : Bool) → (page / 64 == i) ≡ b → is_marked (with_mark words i k) page ≡ true
    go false q = ap (λ (w : ℕ). bit_at w (page % 64) == 1) (get_or-set_other words i (page / 64) (bit_or (slice_index words i) (1 * 2 ^ k % 2 ^ 64)) 0 (eqb-false (page / 64) i q)) ∙ e
    go true q =
        let same : page / 64 ≡ i = eqb-true (page / 64) i q in
        let one : bit_at (slice_index words i) (page % 64) ≡ 1 = ap (λ (j : ℕ). bit_at (slice_index words j) (page % 64)) (sym same) ∙ eqb-true _ 1 e in
        let more = bit_at_or (slice_index words i) (1 * 2 ^ k % 2 ^ 64) (page % 64) in
        let few = bit_at-lt (bit_or (slice_index words i) (1 * 2 ^ k % 2 ^ 64)) (page % 64) in
        ap (λ (w : ℕ). bit_at w (page % 64) == 1) (ap (λ (j : ℕ). get_or (with_mark words i k) j 0) same ∙ get_or-set_same words i (bit_or (slice_index words i) (1 * 2 ^ k % 2 ^ 64)) 0 lt)
        ∙ eq-eqb _ 1 (omega (arith, one, more, few))

pub within : (q : ByteRange) (words : List ℕ) → IsPlace q → length words ≡ 1024 → page_of q.start / 64 < length words
within q words place wide = (let a = place.in_memory in let b = IsPlace-some q place in omega (arith, a, b, wide))

-- ---- a mark as it is made

pub word_there : (words : List ℕ) (i n : ℕ) → i < length words → n ≡ get_or words i n → n ≡ slice_index words i
word_there words i n lt e = e ∙ sym (get_or_from_slice_get words i (get_or words i n) 0 (slice_get-get_or words i n lt))

module _ (q : ByteRange) (words : List ℕ) (start n : ℕ) (place : IsPlace q) (wide : length words ≡ 1024) (same : start ≡ q.start) (there : n ≡ get_or words (start / 512 / 64) n) where
  lt : page_of q.start / 64 < length words
  lt = within q words place wide

  found : n ≡ slice_index words (page_of q.start / 64)
  found = word_there words (page_of q.start / 64) n lt (there ∙ ap (λ (s : ℕ). get_or words (s / 512 / 64) n) same)

  made : slice_set words (start / 512 / 64) (bit_or n (1 * 2 ^ (start / 512 % 64) % 2 ^ 64)) ≡ with_mark words (page_of q.start / 64) (page_of q.start % 64)
  made = ap (λ (s : ℕ). slice_set words (s / 512 / 64) (bit_or n (1 * 2 ^ (s / 512 % 64) % 2 ^ 64))) same
      ∙ ap (λ (m : ℕ). slice_set words (page_of q.start / 64) (bit_or m (1 * 2 ^ (page_of q.start % 64) % 2 ^ 64))) found

  pub mark_made : is_marked (slice_set words (start / 512 / 64) (bit_or n (1 * 2 ^ (start / 512 % 64) % 2 ^ 64))) (page_of q.start) ≡ true
  mark_made = ap (λ (ws : List ℕ). is_marked ws (page_of q.start)) made ∙ marked_now words (page_of q.start) lt

  pub marks_kept : (page : ℕ) → is_marked words page ≡ true → is_marked (slice_set words (start / 512 / 64) (bit_or n (1 * 2 ^ (start / 512 % 64) % 2 ^ 64))) page ≡ true
  marks_kept page e = ap (λ (ws : List ℕ). is_marked ws page) made ∙ marked_still words (page_of q.start / 64) (page_of q.start % 64) page lt e
