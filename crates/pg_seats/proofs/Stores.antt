-- Stores keep the rule: plain ones, and the stores of turns that are due; of a granule whole, and of a part of it.
use Rattle.std.proofs.Common.{◌≡◌, ℕ, ◌+◌, ◌-◌, ◌%◌, ◌^◌, ◌<◌, ◌≤◌, ◌⊎◌, inl, inr, ◌==◌, ◌&&◌, true, false, Option, Some, None, List, set, refl, sym, ap, ◌∙◌, subst, arith, length-set}
use Rattle.std.specs.Prelude.{slice_get, slice_index, is_some, nat_lt, if◌then◌else◌}
use Rattle.std.proofs.lemmas.Bool.{cases_lt, and_parts, eqb-true, eq-eqb, ne_eqb, lt-ltb, le-leb, le-ltb, false_from_ne_true}
use mathlib.Core.Option.{some}
use lib.ListN.{get_elem?}
use Rattle.atomic_table.specs.Table.{State, keeps}
use Rattle.pg_law_course.specs.pg_num.Places.{ByteRange, IsPlace}
use Rattle.pg_law_course.specs.pg_num.declared.layout.TheConstants.{MEMORY_BYTES}
use Rattle.pg_law_course.specs.pg_num.declared.limits.TheConstants.{THREAD_LIMIT}
use Rattle.pg_law_course.proofs.of_pg_num.Granules.{IsPlace-in_granule, IsPlace-in_memory}
use Rattle.pg_law_course.specs.pg_run_memory.declared.delta.Delta.{Delta}
use Rattle.pg_law_course.specs.pg_run_memory.Bytes.{byte_of, with_bytes}
use Rattle.pg_law_course.specs.pg_run_memory.Words.{changed_by}
use Rattle.pg_law_course.proofs.of_pg_run_memory.Parts.{part_number}
use Rattle.pg_law_course.specs.pg_law_threads.Effects.{deeds, or_old}
use Rattle.pg_law_course.specs.pg_law_threads.Intervals.{Timed}
use Rattle.pg_law_course.specs.pg_run_trace.Steps.{access_of}
use Rattle.pg_law_course.specs.pg_law_runs.Deeds.{Did}
use Rattle.pg_words.specs.Calls.{AllowsChange, AllowsLoad, AllowsPart, AllowsStore, Changes, NoSlot, granule_word, number_at}
use Rattle.pg_seats.specs.declared.run.Standing.{Standing}
use Rattle.pg_seats.specs.declared.run.View.{View}
use Rattle.pg_seats.specs.declared.run.View.TheVariants.{Idle, Laying, Pool, Worker, Note, Sweeping, Spent}
use Rattle.pg_seats.specs.Plan.{own_of}
use Rattle.pg_seats.specs.Views.{bit, has_number, has_store, has_word, is_plain, is_put, is_write, may_put, may_store, needs, next_of, number_there, part_at, went_on, with_part, writes_at}
use Rattle.pg_seats.specs.Rule.{cell_in, Holds, Keeps}
use Rattle.pg_seats.specs.Plays.{Finds, Place, Puts, Stores}
use Rattle.pg_seats.proofs.Ranges.{At, Next, next_that, not_true, number_found, one_range, running, touched_write, write_at, written_is}
use Rattle.pg_seats.proofs.Cells.{granule_behind, granule_byte, granule_clock}
use Rattle.pg_seats.proofs.Loads.{kept_all, none_of}
use Rattle.pg_seats.proofs.Moves.{no_parts, number, put_more, went}
use Rattle.pg_seats.proofs.Parts.{is_part, none_put}
use Rattle.pg_seats.proofs.RunFacts as runs
use Rattle.pg_seats.proofs.StepShapes.{IsShaped}

-- what a store makes of the word of its granule
abbrev pub IsStored : List ℕ → ByteRange → ℕ → ℕ → Type 0
IsStored words r n word = (k : ℕ) → k < 8 → byte_of word k ≡ with_bytes (byte_of (slice_index words (granule_word r))) (record { start = r.start % 8; bytes = r.bytes }) n k

-- a whole granule
whole_stored : (words : List ℕ) (r : ByteRange) (n : ℕ) → IsPlace r → r.bytes ≡ 8 → IsStored words r n n
whole_stored words r n place eight k l =
    let a : r.start % 8 ≡ 0 = ap (λ b. r.start % b) (sym eight) ∙ place.aligned in
    let z : k ≡ k - 0 = omega arith in
    rw (a, eight, le-leb 0 k (omega arith), lt-ltb k 8 l) (ap (byte_of n) z)

-- a part of it, by a change of its word
part_stored : (words : List ℕ) (r : ByteRange) (found n : ℕ) (change : Delta) → Changes r (number_at r found) n change → slice_index words (granule_word r) < 2 ^ 64
    → number_at r (slice_index words (granule_word r)) ≡ number_at r found → IsStored words r n (changed_by change (slice_index words (granule_word r)))
part_stored words r found n change c small same k l =
    c.bytes (slice_index words (granule_word r)) small (sym (part_number (slice_index words (granule_word r)) (r.start % 8) r.bytes) ∙ same) k l

-- ---- plain stores

abbrev pub Plain : Standing → ByteRange → ℕ → Type 0
Plain w r n = Next w (λ x. is_plain x && (writes_at r (access_of x.did.told) && has_number n (access_of x.did.told)))

abbrev pub Turn : Standing → ByteRange → ℕ → Type 0
Turn w r n = Next w (λ x. (w.parts == bit (has_word x.did)) && (writes_at r (access_of x.did.told) && has_number n (access_of x.did.told)))

module _ (words : List ℕ) (views : List View) (id : ℕ) (w : Standing) (h : Keeps w.run words views) (at : get_elem? views id ≡ some (Worker w)) (r : ByteRange) (place : IsPlace r) (n : ℕ) where
  module _ (m : Plain w r n) where
    plain : deeds.is_event m.step.did ≡ false
    plain = not_true (deeds.is_event m.step.did) (and_parts (is_plain m.step) (writes_at r (access_of m.step.did.told) && has_number n (access_of m.step.did.told)) m.fits).0

    writing : (writes_at r (access_of m.step.did.told) ≡ true) × (has_number n (access_of m.step.did.told) ≡ true)
    writing = and_parts (writes_at r (access_of m.step.did.told)) (has_number n (access_of m.step.did.told))
        (and_parts (is_plain m.step) (writes_at r (access_of m.step.did.told) && has_number n (access_of m.step.did.told)) m.fits).1

    shape : IsShaped m.step.did
    shape = runs.shape w.run h.run_is w.thread w.done m.step m.next

    pub found_plain : number_at r (slice_index words (granule_word r)) ≡ number_there (Worker w) r
    found_plain = number_found words views id w h at m.step m.next (λ v. absurd (let k : true ≡ false = sym v ∙ plain in cc)) r place
        (touched_write m.step.did shape r place (write_at r (access_of m.step.did.told) writing.0))
        (λ k lt. ap (λ p. is_put m.step.did p (r.start + k)) (no_parts words views id w h at m.step m.next plain) ∙ none_put m.step.did (r.start + k))

    cells_plain : (word : ℕ) → IsStored words r n word → (b : ℕ) → b < MEMORY_BYTES + THREAD_LIMIT → cell_in (set words (granule_word r) word) b ≡ or_old (m.step.did.writes b) (cell_in words b)
    cells_plain word stored b lt = go (cases_lt b MEMORY_BYTES)
      where
        go : (b < MEMORY_BYTES) ⊎ (MEMORY_BYTES ≤ b) → cell_in (set words (granule_word r) word) b ≡ or_old (m.step.did.writes b) (cell_in words b)
        go (inl l) =
            granule_byte words r word n h.wide (IsPlace-in_memory r place) (IsPlace-in_granule r place) stored b l
            ∙ ap (λ o. or_old o (cell_in words b)) (sym (shape.writes b l ∙ written_is r n (access_of m.step.did.told) (write_at r (access_of m.step.did.told) writing.0) writing.1 b))
        go (inr l) =
            granule_behind words r word n h.wide (IsPlace-in_memory r place) (IsPlace-in_granule r place) stored b l lt
            ∙ ap (λ o. or_old o (cell_in words b)) (sym (none_of (m.step.did.writes b) (false_from_ne_true (is_some (m.step.did.writes b))
            (λ e. let k : true ≡ false = sym (shape.is_told.word_written b l e) ∙ plain in cc))))

    pub stored_plain : (word : ℕ) → IsStored words r n word → Keeps w.run (set words (granule_word r) word) (set views id (went_on (Worker w)))
    stored_plain word stored = went words views id w h at m.step m.next plain (set words (granule_word r) word) (length-set words (granule_word r) word)
        (granule_clock words r word n h.wide (IsPlace-in_memory r place) (IsPlace-in_granule r place) stored) (cells_plain word stored)

  -- ---- the store of a turn that is due

  module _ (is : w.due ≡ true) (m : Turn w r n) where
    parts_are : w.parts ≡ bit (has_word m.step.did)
    parts_are = eqb-true w.parts (bit (has_word m.step.did))
        (and_parts (w.parts == bit (has_word m.step.did)) (writes_at r (access_of m.step.did.told) && has_number n (access_of m.step.did.told)) m.fits).0

    putting : (writes_at r (access_of m.step.did.told) ≡ true) × (has_number n (access_of m.step.did.told) ≡ true)
    putting = and_parts (writes_at r (access_of m.step.did.told)) (has_number n (access_of m.step.did.told))
        (and_parts (w.parts == bit (has_word m.step.did)) (writes_at r (access_of m.step.did.told) && has_number n (access_of m.step.did.told)) m.fits).1

    shape' : IsShaped m.step.did
    shape' = runs.shape w.run h.run_is w.thread w.done m.step m.next

    range : At r true (access_of m.step.did.told)
    range = write_at r (access_of m.step.did.told) putting.0

    free : (k : ℕ) → k < r.bytes → is_put m.step.did w.parts (r.start + k) ≡ false
    free k l =
        let b = r.start + k in
        let e : nat_lt (part_at m.step.did b) w.parts ≡ false = rw (lt-ltb b MEMORY_BYTES (let a = place.in_memory in omega arith)) (le-ltb (bit (has_word m.step.did)) w.parts (omega (arith, parts_are))) in
        false_from_ne_true (is_put m.step.did w.parts b) (λ v. let k : true ≡ false = sym (and_parts (is_some (m.step.did.writes b)) (nat_lt (part_at m.step.did b) w.parts) v).1 ∙ e in cc)

    pub found_due : number_at r (slice_index words (granule_word r)) ≡ number_there (Worker w) r
    found_due = number_found words views id w h at m.step m.next (λ v. number words views id w h at is m.step m.next) r place
        (touched_write m.step.did shape' r place range) free

    few : w.parts < needs m.step.did
    few =
        let s : has_store m.step.did ≡ true = ap is_write range.is ∙ range.kind in
        let e : needs m.step.did ≡ bit (has_word m.step.did) + 1 = ap (λ c. bit (has_word m.step.did) + bit c) s in omega (arith, parts_are, e)

    cells_due : (word : ℕ) → IsStored words r n word → (b : ℕ) → b < MEMORY_BYTES + THREAD_LIMIT
        → cell_in (set words (granule_word r) word) b ≡ (if is_part m.step.did w.parts b then or_old (m.step.did.writes b) (cell_in words b) else cell_in words b)
    cells_due word stored b lt = go (cases_lt b MEMORY_BYTES)
      where
        go : (b < MEMORY_BYTES) ⊎ (MEMORY_BYTES ≤ b) → cell_in (set words (granule_word r) word) b ≡ (if is_part m.step.did w.parts b then or_old (m.step.did.writes b) (cell_in words b) else cell_in words b)
        go (inl l) =
            granule_byte words r word n h.wide (IsPlace-in_memory r place) (IsPlace-in_granule r place) stored b l
            ∙ ap (λ o. or_old o (cell_in words b)) (sym (shape'.writes b l ∙ written_is r n (access_of m.step.did.told) range putting.1 b)) ∙ laid (m.step.did.writes b) refl
          where
            own : (part_at m.step.did b == w.parts) ≡ true
            own = rw (lt-ltb b MEMORY_BYTES l) (eq-eqb (bit (has_word m.step.did)) w.parts (sym parts_are))

            laid : (o : Option ℕ) → m.step.did.writes b ≡ o → or_old (m.step.did.writes b) (cell_in words b) ≡ (if is_part m.step.did w.parts b then or_old (m.step.did.writes b) (cell_in words b) else cell_in words b)
            laid None e = rw e refl
            laid (Some v) e = sym (ap (λ c. if is_some (m.step.did.writes b) && c then or_old (m.step.did.writes b) (cell_in words b) else cell_in words b) own
                ∙ ap (λ o. if is_some o && true then or_old (m.step.did.writes b) (cell_in words b) else cell_in words b) e)
        go (inr l) =
            granule_behind words r word n h.wide (IsPlace-in_memory r place) (IsPlace-in_granule r place) stored b l lt
            ∙ sym (ap (λ c. if c then or_old (m.step.did.writes b) (cell_in words b) else cell_in words b) (no_part (m.step.did.writes b) refl))
          where
            no_part : (o : Option ℕ) → m.step.did.writes b ≡ o → is_part m.step.did w.parts b ≡ false
            no_part None e = ap (λ q. is_some q && (part_at m.step.did b == w.parts)) e
            no_part (Some v) e =
                let k : has_word m.step.did ≡ true = shape'.has_word b l (ap is_some e) in
                let p : w.parts ≡ 1 = parts_are ∙ ap bit k in
                let q : (part_at m.step.did b == w.parts) ≡ false = rw (le-ltb b MEMORY_BYTES l) (ne_eqb 0 w.parts (λ z. omega (arith, p))) in
                ap (λ c. is_some (m.step.did.writes b) && c) q ∙ ap (λ o. is_some o && false) e

    pub stored_due : (word : ℕ) → IsStored words r n word → Keeps w.run (set words (granule_word r) word) (set views id (with_part (Worker w)))
    stored_due word stored = put_more words views id w h at is m.step m.next (set words (granule_word r) word) few (length-set words (granule_word r) word)
        (granule_clock words r word n h.wide (IsPlace-in_memory r place) (IsPlace-in_granule r place) stored) (cells_due word stored)

-- ---- as steps of the table

plain_next : (w : Standing) (r : ByteRange) (n : ℕ) → may_store (Worker w) r n ≡ true → Plain w r n
plain_next w r n e = next_that w (λ x. is_plain x && (writes_at r (access_of x.did.told) && has_number n (access_of x.did.told))) e

due_next : (w : Standing) (r : ByteRange) (n : ℕ) → may_put (Worker w) r n ≡ true → (w.due ≡ true) × Turn w r n
due_next w r n e =
    let b = and_parts w.due (Rattle.pg_seats.specs.Views.fits (λ x. (w.parts == bit (has_word x.did)) && (writes_at r (access_of x.did.told) && has_number n (access_of x.did.told))) (next_of w)) e in
    (b.0, next_that w (λ x. (w.parts == bit (has_word x.did)) && (writes_at r (access_of x.did.told) && has_number n (access_of x.did.told))) b.1)

-- a store may write one range
plain_range : (w : Standing) (r : ByteRange) (n : ℕ) (m : Plain w r n) → At r true (access_of m.step.did.told)
plain_range w r n m = write_at r (access_of m.step.did.told) (and_parts (writes_at r (access_of m.step.did.told)) (has_number n (access_of m.step.did.told))
    (and_parts (is_plain m.step) (writes_at r (access_of m.step.did.told) && has_number n (access_of m.step.did.told)) m.fits).1).0

turn_range : (w : Standing) (r : ByteRange) (n : ℕ) (m : Turn w r n) → At r true (access_of m.step.did.told)
turn_range w r n m = write_at r (access_of m.step.did.told) (and_parts (writes_at r (access_of m.step.did.told)) (has_number n (access_of m.step.did.told))
    (and_parts (w.parts == bit (has_word m.step.did)) (writes_at r (access_of m.step.did.told) && has_number n (access_of m.step.did.told)) m.fits).1).0

same_at : (w : Standing) (r q : ByteRange) (x y : Timed Did) → slice_get (own_of w.run w.thread) w.done ≡ Some x → slice_get (own_of w.run w.thread) w.done ≡ Some y
    → At r true (access_of x.did.told) → At q true (access_of y.did.told) → r ≡ q
same_at w r q x y e f a b =
    let o : x ≡ y = (let z : Some x ≡ Some y = sym e ∙ f in cc) in
    one_range r q true true (access_of x.did.told) a (subst (λ (z : Timed Did). At q true (access_of z.did.told)) (sym o) b)

abbrev MayWrite : View → ByteRange → ℕ → Type 0
MayWrite v r n = (may_store v r n ≡ true) ⊎ (may_put v r n ≡ true)

write_range : (w : Standing) (r : ByteRange) (n : ℕ) → MayWrite (Worker w) r n → (x : Timed Did) × (slice_get (own_of w.run w.thread) w.done ≡ Some x) × At r true (access_of x.did.told)
write_range w r n (inl e) = let m = plain_next w r n e in (m.step, m.next, plain_range w r n m)
write_range w r n (inr e) = let m = (due_next w r n e).1 in (m.step, m.next, turn_range w r n m)

pub finds : (id : ℕ) (me : Place) (r : ByteRange) (n : ℕ) → IsPlace r → MayWrite me.0 r n → AllowsLoad Holds id me (granule_word r) Finds
finds id (Idle z, l) r n place e = absurd (no_write e)
  where
    no_write : MayWrite (Idle z) r n → ⊥
    no_write (inl e) = absurd cc
    no_write (inr e) = absurd cc
finds id (Laying q c, l) r n place e = absurd (no_write e)
  where
    no_write : MayWrite (Laying q c) r n → ⊥
    no_write (inl e) = absurd cc
    no_write (inr e) = absurd cc
finds id (Pool q c y, l) r n place e = absurd (no_write e)
  where
    no_write : MayWrite (Pool q c y) r n → ⊥
    no_write (inl e) = absurd cc
    no_write (inr e) = absurd cc
finds id (Note q c, l) r n place e = absurd (no_write e)
  where
    no_write : MayWrite (Note q c) r n → ⊥
    no_write (inl e) = absurd cc
    no_write (inr e) = absurd cc
finds id (Sweeping z y, l) r n place e = absurd (no_write e)
  where
    no_write : MayWrite (Sweeping z y) r n → ⊥
    no_write (inl e) = absurd cc
    no_write (inr e) = absurd cc
finds id (Spent, l) r n place e = absurd (no_write e)
  where
    no_write : MayWrite Spent r n → ⊥
    no_write (inl e) = absurd cc
    no_write (inr e) = absurd cc
finds id (Worker w, l) r n place e = λ s holds len at small.
    let h = running s id w holds at in (
      Worker w,
      keeps,
      tt,
      inr (w.run, inr (inl (kept_all s id (granule_word r) w h at))),
      (refl, (λ q m f. subst (λ (p : ByteRange). number_at p (slice_index s.words (granule_word r)) ≡ number_there (Worker w) p) (same q m f) (found s h at e))),
    )
  where
    same : (q : ByteRange) (m : ℕ) → MayWrite (Worker w) q m → r ≡ q
    same q m f = let a = write_range w r n e in let b = write_range w q m f in same_at w r q a.0 b.0 a.1 b.1 a.2 b.2

    found : (s : State NoSlot View) → Keeps w.run s.words s.views → get_elem? s.views id ≡ some (Worker w) → MayWrite (Worker w) r n → number_at r (slice_index s.words (granule_word r)) ≡ number_there (Worker w) r
    found s h at (inl e) = found_plain s.words s.views id w h at r place n (plain_next w r n e)
    found s h at (inr e) = let d = due_next w r n e in found_due s.words s.views id w h at r place n d.0 d.1

pub stores : (id : ℕ) (me : Place) (r : ByteRange) (n : ℕ) → IsPlace r → r.bytes ≡ 8 → may_store me.0 r n ≡ true → AllowsStore Holds id me (granule_word r) n Stores
stores id (Idle z, l) r n place eight e = absurd cc
stores id (Laying q c, l) r n place eight e = absurd cc
stores id (Pool q c y, l) r n place eight e = absurd cc
stores id (Note q c, l) r n place eight e = absurd cc
stores id (Sweeping z y, l) r n place eight e = absurd cc
stores id (Spent, l) r n place eight e = absurd cc
stores id (Worker w, l) r n place eight e = λ s holds len at small.
    let h = running s id w holds at in
    (went_on (Worker w), keeps, tt, inr (w.run, inr (inl (stored_plain s.words s.views id w h at r place n (plain_next w r n e) n (whole_stored s.words r n place eight)))), refl)

pub puts : (id : ℕ) (me : Place) (r : ByteRange) (n : ℕ) → IsPlace r → r.bytes ≡ 8 → may_put me.0 r n ≡ true → AllowsStore Holds id me (granule_word r) n Puts
puts id (Idle z, l) r n place eight e = absurd cc
puts id (Laying q c, l) r n place eight e = absurd cc
puts id (Pool q c y, l) r n place eight e = absurd cc
puts id (Note q c, l) r n place eight e = absurd cc
puts id (Sweeping z y, l) r n place eight e = absurd cc
puts id (Spent, l) r n place eight e = absurd cc
puts id (Worker w, l) r n place eight e = λ s holds len at small.
    let h = running s id w holds at in
    let d = due_next w r n e in
    (with_part (Worker w), keeps, tt, inr (w.run, inr (inl (stored_due s.words s.views id w h at r place n d.0 d.1 n (whole_stored s.words r n place eight)))), refl)

-- the change of a plain store, at the view that the load before it left
store_change : (id : ℕ) (me : Place) (r : ByteRange) (n found : ℕ) (change : Delta) → IsPlace r → may_store me.0 r n ≡ true → number_at r found ≡ number_there me.0 r → Changes r (number_at r found) n change
    → AllowsChange Holds id me (granule_word r) change Stores
store_change id (Idle z, l) r n found change place e f c = absurd cc
store_change id (Laying q m, l) r n found change place e f c = absurd cc
store_change id (Pool q m y, l) r n found change place e f c = absurd cc
store_change id (Note q m, l) r n found change place e f c = absurd cc
store_change id (Sweeping z y, l) r n found change place e f c = absurd cc
store_change id (Spent, l) r n found change place e f c = absurd cc
store_change id (Worker w, l) r n found change place e f c = λ s holds len at small.
    let h = running s id w holds at in
    let m = plain_next w r n e in (
      went_on (Worker w),
      keeps,
      tt,
      inr (
        w.run,
        inr (inl (stored_plain s.words s.views id w h at r place n m (changed_by change (slice_index s.words (granule_word r)))
            (part_stored s.words r found n change c small (found_plain s.words s.views id w h at r place n m ∙ sym f)))),
      ),
      refl,
    )

put_change : (id : ℕ) (me : Place) (r : ByteRange) (n found : ℕ) (change : Delta) → IsPlace r → may_put me.0 r n ≡ true → number_at r found ≡ number_there me.0 r → Changes r (number_at r found) n change
    → AllowsChange Holds id me (granule_word r) change Puts
put_change id (Idle z, l) r n found change place e f c = absurd cc
put_change id (Laying q m, l) r n found change place e f c = absurd cc
put_change id (Pool q m y, l) r n found change place e f c = absurd cc
put_change id (Note q m, l) r n found change place e f c = absurd cc
put_change id (Sweeping z y, l) r n found change place e f c = absurd cc
put_change id (Spent, l) r n found change place e f c = absurd cc
put_change id (Worker w, l) r n found change place e f c = λ s holds len at small.
    let h = running s id w holds at in
    let d = due_next w r n e in (
      with_part (Worker w),
      keeps,
      tt,
      inr (
        w.run,
        inr (inl (stored_due s.words s.views id w h at r place n d.0 d.1 (changed_by change (slice_index s.words (granule_word r)))
            (part_stored s.words r found n change c small (found_due s.words s.views id w h at r place n d.0 d.1 ∙ sym f)))),
      ),
      refl,
    )

pub store_parts : (id : ℕ) (me : Place) (r : ByteRange) (n : ℕ) → IsPlace r → may_store me.0 r n ≡ true → AllowsPart Holds id me r n Finds Stores
store_parts id me r n place e = λ found between change f c.
    let v : between ≡ me = f.0 in
    store_change id between r n found change place (subst (λ (p : Place). may_store p.0 r n ≡ true) (sym v) e)
    (f.1 r n (inl e) ∙ ap (λ (p : Place). number_there p.0 r) (sym v)) c

pub put_parts : (id : ℕ) (me : Place) (r : ByteRange) (n : ℕ) → IsPlace r → may_put me.0 r n ≡ true → AllowsPart Holds id me r n Finds Puts
put_parts id me r n place e = λ found between change f c.
    let v : between ≡ me = f.0 in
    put_change id between r n found change place (subst (λ (p : Place). may_put p.0 r n ≡ true) (sym v) e)
    (f.1 r n (inr e) ∙ ap (λ (p : Place). number_there p.0 r) (sym v)) c
