-- The words of threads and the end of a turn: the parts of a turn that are no store keep the rule.
use Rattle.std.proofs.Common.{◌≡◌, ℕ, suc, ◌+◌, ◌-◌, ◌%◌, ◌^◌, ◌<◌, ◌≤◌, ◌⊎◌, inl, inr, ◌==◌, ◌||◌, ◌&&◌, true, false, Option, Some, None, List, set, refl, sym, ap, ◌∙◌, subst, arith, length-set, mod-eq_of_lt}
use Rattle.std.specs.Prelude.{slice_index, is_some, if◌then◌else◌}
use Rattle.std.proofs.lemmas.Bool.{cases_lt, cases_eq, and_parts, eqb-true, eq-eqb, ne_eqb, lt-ltb, le-ltb, false_from_ne_true}
use mathlib.Core.Option.{some}
use lib.ListN.{get_elem?}
use Rattle.atomic_table.specs.Table.{keeps}
use Rattle.pg_law_course.specs.pg_num.declared.layout.TheConstants.{MEMORY_BYTES}
use Rattle.pg_law_course.specs.pg_num.declared.limits.TheConstants.{THREAD_LIMIT}
use Rattle.pg_law_course.specs.pg_run_memory.declared.delta.Delta.TheVariants.{Add}
use Rattle.pg_law_course.specs.pg_law_threads.Effects.{or_old}
use Rattle.pg_words.specs.Calls.{AllowsChange, AllowsLoad, AllowsStore, thread_word}
use Rattle.pg_words.specs.declared.layout.TheConstants.{THREAD_WORDS, TURN_WORD}
use Rattle.pg_seats.specs.declared.run.Standing.{Standing}
use Rattle.pg_seats.specs.declared.run.View.{View}
use Rattle.pg_seats.specs.declared.run.View.TheVariants.{Idle, Laying, Pool, Worker, Note, Sweeping, Spent}
use Rattle.pg_seats.specs.Views.{advanced, bit, fits, has_store, has_word, is_due, is_number, is_put, may_advance, may_hear, may_say, needs, next_of, part_at, says, with_part, word_there}
use Rattle.pg_seats.specs.Rule.{cell_in, Holds, Keeps}
use Rattle.pg_seats.specs.Plays.{Advances, Hears, Place, Puts}
use Rattle.pg_seats.proofs.Ranges.{Next, next_that, running}
use Rattle.pg_seats.proofs.Cells.{word_byte, word_clock, word_here, word_other}
use Rattle.pg_seats.proofs.Changes.{due_next, owner_is, seat}
use Rattle.pg_seats.proofs.Loads.{kept_all}
use Rattle.pg_seats.proofs.Moves.{closed, finds, number, put_more}
use Rattle.pg_seats.proofs.Parts.{is_part, none_put}
use Rattle.pg_seats.proofs.RunFacts as runs
use Rattle.pg_seats.proofs.StepShapes.{IsShaped}

number_is : (n : ℕ) (o : Option ℕ) → is_number n o ≡ true → o ≡ Some n
number_is n None e = absurd cc
number_is n (Some m) e = ap (λ k. Some k) (eqb-true m n e)

-- ---- the word that a turn leaves

module _ (words : List ℕ) (views : List View) (id : ℕ) (w : Standing) (h : Keeps w.run words views) (at : get_elem? views id ≡ some (Worker w)) (is : w.due ≡ true)
    (t n : ℕ) (inside : t < THREAD_LIMIT) (m : Next w (λ x. (w.parts == 0) && says t n x.did)) where
  none_yet : w.parts ≡ 0
  none_yet = eqb-true w.parts 0 (and_parts (w.parts == 0) (says t n m.step.did) m.fits).0

  saying : (has_word m.step.did ≡ true) × (is_number n (m.step.did.writes (MEMORY_BYTES + t)) ≡ true)
  saying = and_parts (has_word m.step.did) (is_number n (m.step.did.writes (MEMORY_BYTES + t))) (and_parts (w.parts == 0) (says t n m.step.did) m.fits).1

  shape : IsShaped m.step.did
  shape = runs.shape w.run h.run_is w.thread w.done m.step m.next

  left : m.step.did.writes (MEMORY_BYTES + t) ≡ Some n
  left = number_is n (m.step.did.writes (MEMORY_BYTES + t)) saying.1

  few : w.parts < needs m.step.did
  few = let e : needs m.step.did ≡ 1 + bit (has_store m.step.did) = ap (λ c. bit c + bit (has_store m.step.did)) saying.0 in omega (arith, none_yet, e)

  abbrev Made : ℕ → Type 0
  Made b = cell_in (set words (thread_word t) n) b ≡ (if is_part m.step.did w.parts b then or_old (m.step.did.writes b) (cell_in words b) else cell_in words b)

  cells : (b : ℕ) → b < MEMORY_BYTES + THREAD_LIMIT → Made b
  cells b lt = go (cases_lt b MEMORY_BYTES)
    where
      other : cell_in (set words (thread_word t) n) b ≡ cell_in words b → is_part m.step.did w.parts b ≡ false → Made b
      other e f = e ∙ sym (ap (λ c. if c then or_old (m.step.did.writes b) (cell_in words b) else cell_in words b) f)

      second : b < MEMORY_BYTES → is_part m.step.did w.parts b ≡ false
      second l =
          let q : (part_at m.step.did b == w.parts) ≡ false = rw (lt-ltb b MEMORY_BYTES l, saying.0) (ne_eqb 1 w.parts (λ z. omega (arith, none_yet))) in
          false_from_ne_true (is_part m.step.did w.parts b) (λ v. let k : true ≡ false = sym (and_parts (is_some (m.step.did.writes b)) (part_at m.step.did b == w.parts) v).1 ∙ q in cc)

      word : MEMORY_BYTES ≤ b → (b ≡ MEMORY_BYTES + t) ⊎ (b ≡ MEMORY_BYTES + t → ⊥) → Made b
      word l (inl e) = subst Made (sym e) (word_here words t n h.wide inside ∙ sym (ap (λ c. if c then or_old (m.step.did.writes (MEMORY_BYTES + t)) (cell_in words (MEMORY_BYTES + t)) else cell_in words (MEMORY_BYTES + t)) first
          ∙ ap (λ o. or_old o (cell_in words (MEMORY_BYTES + t))) left))
        where
          first : is_part m.step.did w.parts (MEMORY_BYTES + t) ≡ true
          first =
              let q : (part_at m.step.did (MEMORY_BYTES + t) == w.parts) ≡ true = rw (le-ltb (MEMORY_BYTES + t) MEMORY_BYTES (omega arith)) (eq-eqb 0 w.parts (sym none_yet)) in
              ap (λ o. is_some o && (part_at m.step.did (MEMORY_BYTES + t) == w.parts)) left ∙ q
      word l (inr ne) = other (word_other words t n h.wide inside b l ne) (false_from_ne_true (is_part m.step.did w.parts b)
          (λ v. ne (shape.one_word b (MEMORY_BYTES + t) l (omega arith) (and_parts (is_some (m.step.did.writes b)) (part_at m.step.did b == w.parts) v).0 (ap is_some left))))

      go : (b < MEMORY_BYTES) ⊎ (MEMORY_BYTES ≤ b) → Made b
      go (inl l) = other (word_byte words t n h.wide inside b l) (second l)
      go (inr l) = word l (cases_eq b (MEMORY_BYTES + t))

  pub said : Keeps w.run (set words (thread_word t) n) (set views id (with_part (Worker w)))
  said = put_more words views id w h at is m.step m.next (set words (thread_word t) n) few (length-set words (thread_word t) n) (word_clock words t n h.wide inside) cells

pub says_keep : (id : ℕ) (me : Place) (t n : ℕ) → t < THREAD_LIMIT → may_say me.0 t n ≡ true → AllowsStore Holds id me (thread_word t) n Puts
says_keep id (Idle z, l) t n inside e = absurd cc
says_keep id (Laying q c, l) t n inside e = absurd cc
says_keep id (Pool q c y, l) t n inside e = absurd cc
says_keep id (Note q c, l) t n inside e = absurd cc
says_keep id (Sweeping z y, l) t n inside e = absurd cc
says_keep id (Spent, l) t n inside e = absurd cc
says_keep id (Worker w, l) t n inside e = λ s holds len at small.
    let h = running s id w holds at in
    let b = and_parts w.due (fits (λ x. (w.parts == 0) && says t n x.did) (next_of w)) e in
    (with_part (Worker w), keeps, tt, inr (w.run, inr (inl (said s.words s.views id w h at b.0 t n inside (next_that w (λ x. (w.parts == 0) && says t n x.did) b.1)))), refl)

-- ---- the word that a turn reads

pub hears : (id : ℕ) (me : Place) (t : ℕ) → t < THREAD_LIMIT → may_hear me.0 t ≡ true → AllowsLoad Holds id me (thread_word t) Hears
hears id (Idle z, l) t inside e = absurd cc
hears id (Laying q c, l) t inside e = absurd cc
hears id (Pool q c y, l) t inside e = absurd cc
hears id (Note q c, l) t inside e = absurd cc
hears id (Sweeping z y, l) t inside e = absurd cc
hears id (Spent, l) t inside e = absurd cc
hears id (Worker w, l) t inside e = λ s holds len at small.
    let h = running s id w holds at in
    let b = and_parts w.due (fits (λ x. (w.parts == 0) && x.did.reads (MEMORY_BYTES + t)) (next_of w)) e in
    let m = next_that w (λ x. (w.parts == 0) && x.did.reads (MEMORY_BYTES + t)) b.1 in
    let f = and_parts (w.parts == 0) (m.step.did.reads (MEMORY_BYTES + t)) m.fits in
    let found = finds s.words s.views id w h at m.step m.next (λ v. number s.words s.views id w h at b.0 m.step m.next) (MEMORY_BYTES + t) (omega arith)
    (ap (λ c. c || is_some (m.step.did.writes (MEMORY_BYTES + t))) f.1) (ap (λ k. is_put m.step.did k (MEMORY_BYTES + t)) (eqb-true w.parts 0 f.0) ∙ none_put m.step.did (MEMORY_BYTES + t)) in (
      Worker w,
      keeps,
      tt,
      inr (w.run, inr (inl (kept_all s id (thread_word t) w h at))),
      (refl, (λ u q. let e : t ≡ u = omega arith in subst (λ k. slice_index s.words (thread_word t) ≡ word_there (Worker w) k) e (cell s.words ∙ found))),
    )
  where
    cell : (words : List ℕ) → slice_index words (thread_word t) ≡ cell_in words (MEMORY_BYTES + t)
    cell words = rw (le-ltb (MEMORY_BYTES + t) MEMORY_BYTES (omega arith)) (let e : t ≡ MEMORY_BYTES + t - MEMORY_BYTES = omega arith in ap (λ j. slice_index words (THREAD_WORDS + j)) e)

-- ---- the end of a turn

pub advances : (id : ℕ) (me : Place) → may_advance me.0 ≡ true → AllowsChange Holds id me TURN_WORD (Add 1) Advances
advances id (Idle z, l) e = absurd cc
advances id (Laying q c, l) e = absurd cc
advances id (Pool q c y, l) e = absurd cc
advances id (Note q c, l) e = absurd cc
advances id (Sweeping z y, l) e = absurd cc
advances id (Spent, l) e = absurd cc
advances id (Worker w, l) e = λ s holds len at small.
    let h = running s id w holds at in
    let k = seat w.run s.words s.views h id w at in
    let b = and_parts w.due (fits (λ x. w.parts == needs x.did) (next_of w)) e in
    let m = next_that w (λ x. w.parts == needs x.did) b.1 in
    let due = k.due b.0 in
    let o = owner_is w.run w.thread w.done h.turns h.run_is (due_next w h.turns due) in
    let few = runs.few w.run h.run_is in
    let n : slice_index s.words TURN_WORD ≡ h.turns = h.clock in
    let small : suc h.turns < 2 ^ 64 = (let i = o.1 in omega (arith, few, i)) in
    let one : suc h.turns ≡ slice_index s.words TURN_WORD + 1 = omega (arith, n) in
    let now : suc h.turns ≡ (slice_index s.words TURN_WORD + 1) % 2 ^ 64 = sym (mod-eq_of_lt {n = suc h.turns} {m = 2 ^ 64} small) ∙ ap (λ j. j % 2 ^ 64) one in
    let c = closed s.words s.views id w h at b.0 m.step m.next (eqb-true w.parts (needs m.step.did) m.fits) in (
      advanced (Worker w) (slice_index s.words TURN_WORD),
      keeps,
      tt,
      inr (
        w.run,
        inr (inl (subst (λ k. Keeps w.run (set s.words TURN_WORD k) (set s.views id (advanced (Worker w) (slice_index s.words TURN_WORD)))) now
            (subst (λ k. Keeps w.run (set s.words TURN_WORD (suc h.turns)) (set s.views id (advanced (Worker w) k))) (sym n) c))),
      ),
      (refl, (subst (λ j. is_due w j ≡ true) (sym n) due, (let l = k.seen in omega (arith, n, l)))),
    )
