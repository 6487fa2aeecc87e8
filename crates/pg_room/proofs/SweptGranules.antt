-- Words that become 0 again, one after another, at the end of a run.
use Rattle.std.proofs.Common.{◌≡◌, ℕ, suc, ◌+◌, ◌*◌, ◌/◌, ◌%◌, ◌<◌, ◌≤◌, ◌⊎◌, inl, inr, List, [], true, false, refl, sym, ◌∙◌, ap, subst, arith}
use Rattle.std.specs.Prelude.{◌==◌, slice_index}
use Rattle.std.specs.Int.{bit_at}
use Rattle.std.proofs.lemmas.Bool.{cases_lt, eq-eqb}
use Rattle.std.proofs.lemmas.Nat.Bits.{bit_at-zero}
use Rattle.pg_crew.specs.pg_num.Places.{ByteRange}
use Rattle.pg_crew.specs.pg_num.declared.layout.TheConstants.{GRANULE_COUNT}
use Rattle.pg_crew.specs.pg_seats.declared.run.Run.{Run}
use Rattle.pg_crew.specs.pg_seats.declared.run.View.{View}
use Rattle.pg_crew.specs.pg_seats.declared.run.View.TheVariants.{Idle, Pool, Sweeping}
use Rattle.pg_crew.specs.pg_seats.Plays.{Place}
use Rattle.pg_crew.specs.pg_seats.Views.{IsClean, MayRest, MayWipe, closed, may_clear, may_close, rested, swept}
use Rattle.pg_crew.specs.pg_words.Calls.{granule_word, thread_word}
use Rattle.pg_crew.specs.pg_words.declared.layout.TheConstants.{GRANULE_WORDS}
use Rattle.pg_crew.specs.pg_worker.Pages.{is_marked}
use Rattle.pg_room.specs.Sweeping.{AreWritten, IsSweptBelow}

-- ---- the turn word, and the words of threads

pub closes : (r : Run) (n : ℕ) (me : Place) → me ≡ (Pool r n n, []) → may_close me.0 ≡ true
closes r n me e = ap (λ (m : Place). may_close m.0) e ∙ eq-eqb n n refl

pub is_closed : (r : Run) (n : ℕ) (me after : Place) → me ≡ (Pool r n n, []) → after ≡ (closed me.0, me.1) → after ≡ (Sweeping r 1, [])
is_closed r n me after e f = f ∙ ap (λ (m : Place). (closed m.0, m.1)) e

pub clears : (r : Run) (t : ℕ) (me : Place) → me ≡ (Sweeping r (1 + t), []) → may_clear me.0 t ≡ true
clears r t me e = ap (λ (m : Place). may_clear m.0 t) e ∙ eq-eqb (1 + t) (thread_word t) refl

pub is_clear : (r : Run) (t : ℕ) (me after : Place) → me ≡ (Sweeping r (1 + t), []) → after ≡ (swept me.0 (thread_word t), me.1) → after ≡ (Sweeping r (1 + (t + 1)), [])
is_clear r t me after e f =
    let n : suc (thread_word t) ≡ 1 + (t + 1) = omega arith in
    f ∙ ap (λ (m : Place). (swept m.0 (thread_word t), m.1)) e ∙ ap (λ (k : ℕ). (Sweeping r k, [])) n

pub threads_clear : (r : Run) (t : ℕ) (me : Place) → me ≡ (Sweeping r (1 + t), []) → t ≡ 64 → IsSweptBelow r 0 me
threads_clear r t me e all = record {
  swept = 1 + t;
  view = e;
  low = omega (arith, all);
  high = omega (arith, all);
  clean = λ i low lt. absurd (omega (arith, lt));
}

-- ---- granules

granule_is : (g : ℕ) (at : ByteRange) → at ≡ record { start = 8 * g; bytes = 8 } → at.start / 8 ≡ g
granule_is g at e = (let s : at.start ≡ 8 * g = ap (λ (q : ByteRange). q.start) e in omega (arith, s))

module _ (r : Run) (g : ℕ) (me : Place) (h : IsSweptBelow r g me) where
  module _ (at : ByteRange) (place : at ≡ record { start = 8 * g; bytes = 8 }) where
    pub may_wipe : MayWipe me.0 (at.start / 8)
    may_wipe =
        subst (λ (v : View). MayWipe v (at.start / 8)) (sym (ap (λ (m : Place). m.0) h.view))
        (subst (MayWipe (Sweeping r h.swept)) (sym (granule_is g at place)) (h.low, h.high, h.clean))

    pub granule_swept : (after : Place) → after ≡ (swept me.0 (granule_word at), me.1) → IsSweptBelow r (g + 1) after
    granule_swept after e =
        let n : suc (granule_word at) ≡ GRANULE_WORDS + (g + 1) = (let q = granule_is g at place in omega (arith, q)) in
        record {
          swept = GRANULE_WORDS + (g + 1);
          view = e ∙ ap (λ (m : Place). (swept m.0 (granule_word at), m.1)) h.view ∙ ap (λ (k : ℕ). (Sweeping r k, [])) n;
          low = omega arith;
          high = omega arith;
          clean = λ i low lt. absurd (omega (arith, low, lt));
        }

  -- granules that are clean are passed over
  pub swept_to : (to : ℕ) → g ≤ to → ((i : ℕ) → g ≤ i → i < to → IsClean r i) → IsSweptBelow r to me
  swept_to to le clean = record {
    swept = h.swept;
    view = h.view;
    low = h.low;
    high = (let k = h.high in omega (arith, k, le));
    clean = λ i low lt. go i low lt (cases_lt i g);
  }
    where
      go : (i : ℕ) → h.swept ≤ GRANULE_WORDS + i → i < to → (i < g) ⊎ (g ≤ i) → IsClean r i
      go i low lt (inl l) = h.clean i low l
      go i low lt (inr l) = clean i l lt

-- those of a page that isn't marked
pub page_passed : (r : Run) (page : ℕ) (me : Place) (marks : List ℕ) → AreWritten r marks → page < 65536 → is_marked marks page ≡ false
    → IsSweptBelow r (64 * page) me → IsSweptBelow r (64 * (page + 1)) me
page_passed r page me marks written few free h =
    swept_to r (64 * page) me h (64 * (page + 1)) (omega arith)
    (λ i low lt. (let q : page ≡ i / 64 = omega (arith, low, lt) in written i (omega (arith, lt, few)) (ap (is_marked marks) (sym q) ∙ free)))

no_mark : (marks : List ℕ) (index page : ℕ) → 0 ≡ slice_index marks index → page / 64 ≡ index → is_marked marks page ≡ false
no_mark marks index page none e =
    ap (λ (w : ℕ). bit_at w (page % 64) == 1) (ap (slice_index marks) e ∙ sym none) ∙ ap (λ (b : ℕ). b == 1) (bit_at-zero (page % 64))

-- those of 64 pages, none of which is marked
pub word_passed : (r : Run) (index : ℕ) (me : Place) (marks : List ℕ) → AreWritten r marks → index < 1024 → 0 ≡ slice_index marks index
    → IsSweptBelow r (64 * (64 * index)) me → IsSweptBelow r (64 * (64 * (index + 1))) me
word_passed r index me marks written few none h =
    swept_to r (64 * (64 * index)) me h (64 * (64 * (index + 1))) (omega arith)
    (λ i low lt. (let q : i / 64 / 64 ≡ index = omega (arith, low, lt) in written i (omega (arith, lt, few)) (no_mark marks index (i / 64) none q)))

-- ---- the end

module _ (r : Run) (me : Place) (h : IsSweptBelow r GRANULE_COUNT me) where
  pub may_rest : MayRest me.0
  may_rest = subst MayRest (sym (ap (λ (m : Place). m.0) h.view)) (h.low, h.clean)

  pub at_rest : (after : Place) → after ≡ (rested me.0, me.1) → after ≡ (Idle (suc r.epoch), [])
  at_rest after e = e ∙ ap (λ (m : Place). (rested m.0, m.1)) h.view
