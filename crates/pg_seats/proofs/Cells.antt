-- The cells that words hold after one word changed.
use Rattle.std.proofs.Common.{◌≡◌, ◌≢◌, ℕ, zero, suc, [], ◌∷◌, ◌+◌, ◌-◌, ◌/◌, ◌%◌, ◌<◌, ◌≤◌, ◌⊎◌, inl, inr, ◌&&◌, false, length, List, Some, None, set, refl, sym, ap, ◌∙◌, arith, get_or-set_same, get_or-set_other}
use Rattle.std.specs.Prelude.{slice_index, nat_lt, nat_le, if◌then◌else◌}
use Rattle.std.proofs.lemmas.Bool.{cases_lt, cases_eq, lt-ltb, le-ltb, le-leb}
use Rattle.std.proofs.lemmas.Bool.Decides.{nat_tests}
use Rattle.pg_law_course.specs.pg_num.Places.{ByteRange}
use Rattle.pg_law_course.specs.pg_num.declared.layout.TheConstants.{GRANULE_COUNT, MEMORY_BYTES}
use Rattle.pg_law_course.specs.pg_num.declared.limits.TheConstants.{THREAD_LIMIT}
use Rattle.pg_law_course.specs.pg_run_memory.Bytes.{byte_of, with_bytes}
use Rattle.pg_law_course.specs.pg_run_trace.Races.{is_in}
use Rattle.pg_law_course.specs.pg_law_threads.Effects.{or_old}
use Rattle.pg_words.specs.Calls.{granule_word, thread_word}
use Rattle.pg_words.specs.declared.layout.TheConstants.{GRANULE_WORDS, THREAD_WORDS, TURN_WORD, WORD_COUNT}
use Rattle.pg_seats.specs.Rule.{cell_in}

not_le : (a c : ℕ) → a < c → nat_le c a ≡ false
not_le a c h = grind (arith, nat_tests)

-- ---- a granule's word

module _ (words : List ℕ) (r : ByteRange) (word number : ℕ) (wide : length words ≡ WORD_COUNT) (inside : r.start / 8 < GRANULE_COUNT) (fits : r.start % 8 + r.bytes ≤ 8)
    (bytes : (k : ℕ) → k < 8 → byte_of word k ≡ with_bytes (byte_of (slice_index words (granule_word r))) (record { start = r.start % 8; bytes = r.bytes }) number k) where
  abbrev pub stored : List ℕ
  stored = set words (granule_word r) word

  other_word : (j : ℕ) → j ≢ granule_word r → slice_index stored j ≡ slice_index words j
  other_word j ne = get_or-set_other words (granule_word r) j word 0 (λ e. ne (omega arith))

  this_word : slice_index stored (granule_word r) ≡ word
  this_word = get_or-set_same words (granule_word r) word 0 (omega (arith, wide, inside))

  abbrev Goal : ℕ → Type 0
  Goal b = byte_of (slice_index stored (GRANULE_WORDS + b / 8)) (b % 8)
      ≡ or_old (if nat_le r.start b && nat_lt b (r.start + r.bytes) then Some (byte_of number (b - r.start)) else None) (byte_of (slice_index words (GRANULE_WORDS + b / 8)) (b % 8))

  there : (b : ℕ) → b / 8 ≡ r.start / 8 → byte_of (slice_index stored (GRANULE_WORDS + b / 8)) (b % 8)
      ≡ with_bytes (byte_of (slice_index words (GRANULE_WORDS + b / 8))) (record { start = r.start % 8; bytes = r.bytes }) number (b % 8)
  there b e =
      ap (λ j. byte_of (slice_index stored (GRANULE_WORDS + j)) (b % 8)) e ∙ ap (λ v. byte_of v (b % 8)) this_word ∙ bytes (b % 8) (omega arith)
      ∙ ap (λ j. with_bytes (byte_of (slice_index words (GRANULE_WORDS + j))) (record { start = r.start % 8; bytes = r.bytes }) number (b % 8)) (sym e)

  elsewhere : (b : ℕ) → (b / 8 ≡ r.start / 8 → ⊥) → byte_of (slice_index stored (GRANULE_WORDS + b / 8)) (b % 8) ≡ byte_of (slice_index words (GRANULE_WORDS + b / 8)) (b % 8)
  elsewhere b ne = ap (λ v. byte_of v (b % 8)) (other_word (GRANULE_WORDS + b / 8) (λ e. ne (omega arith)))

  byte_there : (b : ℕ) → Goal b
  byte_there b = go (cases_lt b r.start)
    where
      before : b < r.start → (b / 8 ≡ r.start / 8) ⊎ (b / 8 ≡ r.start / 8 → ⊥) → byte_of (slice_index stored (GRANULE_WORDS + b / 8)) (b % 8) ≡ byte_of (slice_index words (GRANULE_WORDS + b / 8)) (b % 8)
      before l (inr ne) = elsewhere b ne
      before l (inl e) = there b e ∙ (rw (not_le (b % 8) (r.start % 8) (omega (arith, e, l))) refl)

      behind : r.start + r.bytes ≤ b → (b / 8 ≡ r.start / 8) ⊎ (b / 8 ≡ r.start / 8 → ⊥) → byte_of (slice_index stored (GRANULE_WORDS + b / 8)) (b % 8) ≡ byte_of (slice_index words (GRANULE_WORDS + b / 8)) (b % 8)
      behind l (inr ne) = elsewhere b ne
      behind l (inl e) = there b e ∙ (rw (le-leb (r.start % 8) (b % 8) (omega (arith, e, l)), le-ltb (b % 8) (r.start % 8 + r.bytes) (omega (arith, e, l, fits))) refl)

      within : r.start ≤ b → b < r.start + r.bytes → b / 8 ≡ r.start / 8 → byte_of (slice_index stored (GRANULE_WORDS + b / 8)) (b % 8) ≡ byte_of number (b - r.start)
      within l m e = there b e ∙ (rw (le-leb (r.start % 8) (b % 8) (omega (arith, e, l)), lt-ltb (b % 8) (r.start % 8 + r.bytes) (omega (arith, e, m, fits))) (ap (byte_of number) (omega (arith, e, l))))

      past : r.start ≤ b → (b < r.start + r.bytes) ⊎ (r.start + r.bytes ≤ b) → Goal b
      past l (inl m) = rw (le-leb r.start b l, lt-ltb b (r.start + r.bytes) m) (within l m (omega (arith, l, m, fits)))
      past l (inr m) = rw (le-leb r.start b l, le-ltb b (r.start + r.bytes) m) (behind m (cases_eq (b / 8) (r.start / 8)))

      go : (b < r.start) ⊎ (r.start ≤ b) → Goal b
      go (inl l) = rw (not_le b r.start l) (before l (cases_eq (b / 8) (r.start / 8)))
      go (inr l) = past l (cases_lt b (r.start + r.bytes))

  -- of the bytes of memory just those of the range change
  pub granule_byte : (b : ℕ) → b < MEMORY_BYTES → cell_in stored b ≡ or_old (if is_in r b then Some (byte_of number (b - r.start)) else None) (cell_in words b)
  granule_byte b l = rw (lt-ltb b MEMORY_BYTES l) (byte_there b)

  pub granule_behind : (b : ℕ) → MEMORY_BYTES ≤ b → b < MEMORY_BYTES + THREAD_LIMIT → cell_in stored b ≡ cell_in words b
  granule_behind b l m = rw (le-ltb b MEMORY_BYTES l) (other_word (THREAD_WORDS + (b - MEMORY_BYTES)) (λ e. omega arith))

  pub granule_clock : slice_index stored TURN_WORD ≡ slice_index words TURN_WORD
  granule_clock = other_word TURN_WORD (λ e. omega arith)

-- ---- a thread's word

module _ (words : List ℕ) (t number : ℕ) (wide : length words ≡ WORD_COUNT) (inside : t < THREAD_LIMIT) where
  abbrev pub said : List ℕ
  said = set words (thread_word t) number

  not_said : (j : ℕ) → j ≢ thread_word t → slice_index said j ≡ slice_index words j
  not_said j ne = get_or-set_other words (thread_word t) j number 0 (λ e. ne (omega arith))

  pub word_byte : (b : ℕ) → b < MEMORY_BYTES → cell_in said b ≡ cell_in words b
  word_byte b l = rw (lt-ltb b MEMORY_BYTES l) (ap (λ v. byte_of v (b % 8)) (not_said (GRANULE_WORDS + b / 8) (λ e. omega arith)))

  pub word_here : cell_in said (MEMORY_BYTES + t) ≡ number
  word_here = rw (le-ltb (MEMORY_BYTES + t) MEMORY_BYTES (omega arith))
      (let e : MEMORY_BYTES + t - MEMORY_BYTES ≡ t = omega arith in ap (λ j. slice_index said (THREAD_WORDS + j)) e ∙ get_or-set_same words (thread_word t) number 0 (omega (arith, wide, inside)))

  pub word_other : (b : ℕ) → MEMORY_BYTES ≤ b → b ≢ MEMORY_BYTES + t → cell_in said b ≡ cell_in words b
  word_other b l ne = rw (le-ltb b MEMORY_BYTES l) (not_said (THREAD_WORDS + (b - MEMORY_BYTES)) (λ e. ne (omega arith)))

  pub word_clock : slice_index said TURN_WORD ≡ slice_index words TURN_WORD
  word_clock = not_said TURN_WORD (λ e. omega arith)

-- ---- the turn word

module _ (words : List ℕ) (number : ℕ) where
  abbrev pub counted : List ℕ
  counted = set words TURN_WORD number

  not_counted : (j : ℕ) → j ≢ TURN_WORD → slice_index counted j ≡ slice_index words j
  not_counted j ne = get_or-set_other words TURN_WORD j number 0 (λ e. ne (omega arith))

  pub turn_cells : (b : ℕ) → cell_in counted b ≡ cell_in words b
  turn_cells b = go (cases_lt b MEMORY_BYTES)
    where
      go : (b < MEMORY_BYTES) ⊎ (MEMORY_BYTES ≤ b) → cell_in counted b ≡ cell_in words b
      go (inl l) = rw (lt-ltb b MEMORY_BYTES l) (ap (λ v. byte_of v (b % 8)) (not_counted (GRANULE_WORDS + b / 8) (λ e. omega arith)))
      go (inr l) = rw (le-ltb b MEMORY_BYTES l) (not_counted (THREAD_WORDS + (b - MEMORY_BYTES)) (λ e. omega arith))

-- a word that is stored as it was
pub set_same : (l : List ℕ) (i : ℕ) → set l i (slice_index l i) ≡ l
set_same [] i = refl
set_same (x ∷ xs) zero = refl
set_same (x ∷ xs) (suc i) = ap (λ l. x ∷ l) (set_same xs i)
