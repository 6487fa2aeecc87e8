-- What a seat may do, taken apart: its next step, and how this step accesses a range.
use Rattle.std.proofs.Common.{◌≡◌, suc, ℕ, ◌+◌, ◌-◌, ◌/◌, ◌%◌, ◌<◌, ◌⊎◌, inl, inr, ◌==◌, ◌||◌, ◌&&◌, not, Bool, true, false, Option, Some, None, List, refl, sym, ap, ◌∙◌, subst, arith}
use Rattle.std.specs.Prelude.{is_some, slice_get, slice_index, if◌then◌else◌}
use Rattle.std.proofs.lemmas.Bool.{eqb-true, lt-ltb, le-leb, and_parts}
use mathlib.Core.Option.{some}
use lib.ListN.{get_elem?}
use Rattle.atomic_table.specs.Table.{State}
use Rattle.pg_law_course.specs.pg_num.Places.{ByteRange, IsPlace}
use Rattle.pg_law_course.specs.pg_num.declared.layout.TheConstants.{MEMORY_BYTES}
use Rattle.pg_law_course.proofs.of_pg_num.Granules.{IsPlace-in_granule}
use Rattle.pg_law_course.specs.pg_run_memory.Bytes.{byte_of}
use Rattle.pg_law_course.proofs.of_pg_run_memory.Parts.{part_number}
use Rattle.pg_law_course.proofs.of_pg_run_memory.Places.{same_number}
use Rattle.pg_law_course.specs.pg_law_threads.Steps.{touches}
use Rattle.pg_law_course.specs.pg_law_threads.Effects.{deeds}
use Rattle.pg_law_course.specs.pg_law_threads.Intervals.{Timed}
use Rattle.pg_law_course.specs.pg_run_trace.declared.step.Access.{Access}
use Rattle.pg_law_course.specs.pg_run_trace.Races.{is_in, reads_in, writes_in}
use Rattle.pg_law_course.specs.pg_run_trace.Steps.{access_of, range_of}
use Rattle.pg_law_course.specs.pg_law_runs.Deeds.{Did}
use Rattle.pg_words.specs.Calls.{NoSlot, granule_word, number_at}
use Rattle.pg_words.specs.declared.layout.TheConstants.{GRANULE_WORDS}
use Rattle.pg_seats.specs.declared.run.Run.{Run}
use Rattle.pg_seats.specs.declared.run.Standing.{Standing}
use Rattle.pg_seats.specs.declared.run.View.{View}
use Rattle.pg_seats.specs.declared.run.View.TheVariants.{Idle, Laying, Worker, Sweeping, Spent}
use Rattle.pg_seats.specs.Plan.{cells_there, own_of}
use Rattle.pg_seats.specs.Views.{fits, has_number, is_put, is_range, next_of, number_there, reads_at, writes_at}
use Rattle.pg_seats.specs.Rule.{cell_in, Holds, IsOld, Keeps}
use Rattle.pg_seats.proofs.Changes.{fits-some, next_is, same_run}
use Rattle.pg_seats.proofs.Moves.{finds}
use Rattle.pg_seats.proofs.StepShapes.{IsShaped, written_by}

-- ---- while a worker has a seat, a run goes on

module _ (v : View) (e : ℕ) (w : Standing) where
  -- a worker isn't another view, nor spent, nor a note
  no_worker : (Worker w ≡ v → ⊥) → (Worker w ≡ v) ⊎ ((Worker w ≡ Spent) ⊎ IsOld e (Worker w)) → ⊥
  no_worker ne (inl q) = ne q
  no_worker ne (inr (inl q)) = absurd cc
  no_worker ne (inr (inr q)) = q

pub running : (s : State NoSlot View) (id : ℕ) (w : Standing) → Holds s → get_elem? s.views id ≡ some (Worker w) → Keeps w.run s.words s.views
running s id w (inl (e, h)) at = absurd (no_worker (Idle e) e w (λ q. absurd cc) (h.alone.only id (Worker w) at))
running s id w (inr (run, inl (n, h))) at = absurd (no_worker (Laying run n) run.epoch w (λ q. absurd cc) (h.alone.only id (Worker w) at))
running s id w (inr (run, inr (inl h))) at = subst (λ (r : Run). Keeps r s.words s.views) (sym (same_run run s.words s.views id w h at)) h
running s id w (inr (run, inr (inr (k, h)))) at = absurd (no_worker (Sweeping run k) (suc run.epoch) w (λ q. absurd cc) (h.alone.only id (Worker w) at))

-- ---- the next step

pub not_true : (b : Bool) → not b ≡ true → b ≡ false
not_true true e = absurd cc
not_true false e = refl

pub record Next (w : Standing) (f : Timed Did → Bool) : Type 0 where
  pub step : Timed Did
  pub next : slice_get (own_of w.run w.thread) w.done ≡ Some step
  pub fits : f step ≡ true

pub next_that : (w : Standing) (f : Timed Did → Bool) → fits f (next_of w) ≡ true → Next w f
next_that w f e = let s = fits-some f (next_of w) e in record { step = s.0; next = next_is w s.0 s.1; fits = s.2 }

-- ---- ranges

same_range : (r q : ByteRange) → r.start ≡ q.start → r.bytes ≡ q.bytes → r ≡ q
same_range r q e f = ap (λ n. record { start = n; bytes = r.bytes }) e ∙ ap (λ n. record { start = q.start; bytes = n }) f

pub record At (r : ByteRange) (writes : Bool) (o : Option Access) : Type 0 where
  pub access : Access
  pub is : o ≡ Some access
  pub kind : access.writes ≡ writes
  pub range : range_of access ≡ r

range_is : (r : ByteRange) (a : Access) → is_range r a ≡ true → range_of a ≡ r
range_is r a e =
    let b = and_parts ((range_of a).start == r.start) ((range_of a).bytes == r.bytes) e in
    same_range (range_of a) r (eqb-true (range_of a).start r.start b.0) (eqb-true (range_of a).bytes r.bytes b.1)

pub read_at : (r : ByteRange) (o : Option Access) → reads_at r o ≡ true → At r false o
read_at r None e = absurd cc
read_at r (Some a) e = let b = and_parts (not a.writes) (is_range r a) e in record { access = a; is = refl; kind = not_true a.writes b.0; range = range_is r a b.1 }

pub write_at : (r : ByteRange) (o : Option Access) → writes_at r o ≡ true → At r true o
write_at r None e = absurd cc
write_at r (Some a) e = let b = and_parts a.writes (is_range r a) e in record { access = a; is = refl; kind = b.0; range = range_is r a b.1 }

pub one_range : (r q : ByteRange) (b c : Bool) (o : Option Access) → At r b o → At q c o → r ≡ q
one_range r q b c o h k =
    let e : h.access ≡ k.access = (let z : Some h.access ≡ Some k.access = sym h.is ∙ k.is in cc) in
    let f : range_of h.access ≡ range_of k.access = ap (λ (a : Access). range_of a) e in
    sym h.range ∙ f ∙ k.range

-- a byte of the range
in_range : (r : ByteRange) (k : ℕ) → k < r.bytes → is_in r (r.start + k) ≡ true
in_range r k l = rw (le-leb r.start (r.start + k) (omega arith), lt-ltb (r.start + k) (r.start + r.bytes) (omega arith)) refl

reads_byte : (r : ByteRange) (o : Option Access) → At r false o → (b : ℕ) → is_in r b ≡ true → reads_in o b ≡ true
reads_byte r o h b l = ap (λ q. reads_in q b) h.is ∙ ap (λ w. not w && is_in (range_of h.access) b) h.kind ∙ ap (λ q. is_in q b) h.range ∙ l

writes_byte : (r : ByteRange) (o : Option Access) → At r true o → (b : ℕ) → is_in r b ≡ true → writes_in o b ≡ true
writes_byte r o h b l = ap (λ q. writes_in q b) h.is ∙ ap (λ w. w && is_in (range_of h.access) b) h.kind ∙ ap (λ q. is_in q b) h.range ∙ l

pub written_none : (r : ByteRange) (o : Option Access) → At r false o → (b : ℕ) → written_by o b ≡ None
written_none r o h b = ap (λ q. written_by q b) h.is ∙ ap (λ w. if w && is_in (range_of h.access) b then Some (byte_of h.access.number (b - (range_of h.access).start)) else None) h.kind

number_same : (n : ℕ) (o : Option Access) (a : Access) → o ≡ Some a → has_number n o ≡ true → a.number ≡ n
number_same n o a e h = eqb-true a.number n (ap (has_number n) (sym e) ∙ h)

pub written_is : (r : ByteRange) (n : ℕ) (o : Option Access) → At r true o → has_number n o ≡ true → (b : ℕ) → written_by o b ≡ (if is_in r b then Some (byte_of n (b - r.start)) else None)
written_is r n o h k b =
    ap (λ q. written_by q b) h.is ∙ ap (λ w. if w && is_in (range_of h.access) b then Some (byte_of h.access.number (b - (range_of h.access).start)) else None) h.kind
    ∙ ap (λ (q : ByteRange). if is_in q b then Some (byte_of h.access.number (b - q.start)) else None) h.range
    ∙ ap (λ m. if is_in r b then Some (byte_of m (b - r.start)) else None) (number_same n o h.access h.is k)

or_left : (a b : Bool) → a ≡ true → (a || b) ≡ true
or_left a b e = ap (λ c. c || b) e

or_right : (a b : Bool) → b ≡ true → (a || b) ≡ true
or_right true b e = refl
or_right false b e = e

-- each byte of a range that it accesses it touches
pub touched_read : (d : Did) → IsShaped d → (r : ByteRange) → IsPlace r → At r false (access_of d.told) → (k : ℕ) → k < r.bytes → touches deeds d (r.start + k) ≡ true
touched_read d h r place a k l = or_left (d.reads (r.start + k)) (is_some (d.writes (r.start + k)))
    (h.is_told.reads (r.start + k) (let m = place.in_memory in omega arith) ∙ reads_byte r (access_of d.told) a (r.start + k) (in_range r k l))

pub touched_write : (d : Did) → IsShaped d → (r : ByteRange) → IsPlace r → At r true (access_of d.told) → (k : ℕ) → k < r.bytes → touches deeds d (r.start + k) ≡ true
touched_write d h r place a k l = or_right (d.reads (r.start + k)) (is_some (d.writes (r.start + k)))
    (h.is_told.writes (r.start + k) (let m = place.in_memory in omega arith) ∙ writes_byte r (access_of d.told) a (r.start + k) (in_range r k l))

-- ---- the number that a load finds

module _ (words : List ℕ) (views : List View) (id : ℕ) (w : Standing) (h : Keeps w.run words views) (at : get_elem? views id ≡ some (Worker w))
    (x : Timed Did) (next : slice_get (own_of w.run w.thread) w.done ≡ Some x) (due : deeds.is_event x.did ≡ true → x.high ≡ h.turns) where
  pub number_found : (r : ByteRange) → IsPlace r → ((k : ℕ) → k < r.bytes → touches deeds x.did (r.start + k) ≡ true) → ((k : ℕ) → k < r.bytes → is_put x.did w.parts (r.start + k) ≡ false)
      → number_at r (slice_index words (granule_word r)) ≡ number_there (Worker w) r
  number_found r place touched free =
      part_number (slice_index words (granule_word r)) (r.start % 8) r.bytes
      ∙ same_number (byte_of (slice_index words (granule_word r))) (cells_there w.run w.thread w.done) (r.start % 8) r.start r.bytes
      (λ k l. sym (cell k l) ∙ finds words views id w h at x next due (r.start + k) (let m = place.in_memory in omega arith) (touched k l) (free k l))
    where
      cell : (k : ℕ) → k < r.bytes → cell_in words (r.start + k) ≡ byte_of (slice_index words (granule_word r)) (r.start % 8 + k)
      cell k l =
          let m = place.in_memory in
          let f = IsPlace-in_granule r place in
          let e : (r.start + k) / 8 ≡ r.start / 8 = omega (arith, f, l) in
          let q : (r.start + k) % 8 ≡ r.start % 8 + k = omega (arith, f, l) in
          rw (lt-ltb (r.start + k) MEMORY_BYTES (omega arith)) (ap (λ j. byte_of (slice_index words (GRANULE_WORDS + j)) ((r.start + k) % 8)) e ∙ ap (byte_of (slice_index words (granule_word r))) q)
