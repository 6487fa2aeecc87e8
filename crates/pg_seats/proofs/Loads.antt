-- Loads keep the rule, and find what the run has.
use Rattle.std.proofs.Common.{◌≡◌, ℕ, suc, ◌+◌, ◌<◌, ◌≤◌, ◌⊎◌, inl, inr, ◌&&◌, true, false, Option, Some, None, set, refl, sym, ap, ◌∙◌, subst, arith}
use Rattle.std.specs.Prelude.{slice_get, slice_index, is_some}
use Rattle.std.proofs.lemmas.Bool.{cases_lt, and_parts, false_from_ne_true}
use mathlib.Core.Option.{some}
use lib.ListN.{get_elem?}
use Rattle.atomic_table.specs.Table.{State, keeps}
use Rattle.atomic_table.proofs.Lists.{set_again}
use Rattle.pg_law_course.specs.pg_num.Places.{ByteRange, IsPlace}
use Rattle.pg_law_course.specs.pg_num.declared.layout.TheConstants.{MEMORY_BYTES}
use Rattle.pg_law_course.specs.pg_law_threads.Effects.{deeds, or_old}
use Rattle.pg_law_course.specs.pg_law_threads.Intervals.{Timed}
use Rattle.pg_law_course.specs.pg_run_trace.Steps.{access_of}
use Rattle.pg_law_course.specs.pg_law_runs.Deeds.{Did}
use Rattle.pg_words.specs.Calls.{AllowsLoad, NoSlot, granule_word, number_at}
use Rattle.pg_words.specs.declared.layout.TheConstants.{TURN_WORD}
use Rattle.pg_seats.specs.declared.run.Standing.{Standing}
use Rattle.pg_seats.specs.declared.run.View.{View}
use Rattle.pg_seats.specs.declared.run.View.TheVariants.{Idle, Laying, Pool, Worker, Note, Sweeping, Spent}
use Rattle.pg_seats.specs.Views.{is_due, is_plain, is_put, looked, may_load, may_look, may_read, number_there, reads_at, went_on}
use Rattle.pg_seats.specs.Rule.{cell_in, Holds, Keeps}
use Rattle.pg_seats.specs.Plays.{Loads, Looks, Place, Reads}
use Rattle.pg_seats.proofs.Ranges.{At, Next, next_that, not_true, number_found, one_range, read_at, running, touched_read, written_none}
use Rattle.pg_seats.proofs.Cells.{set_same}
use Rattle.pg_seats.proofs.Changes.{next_is, seat}
use Rattle.pg_seats.proofs.Moves.{knows, no_parts, number, went}
use Rattle.pg_seats.proofs.NextSteps as steps
use Rattle.pg_seats.proofs.Parts.{none_put, not_put}
use Rattle.pg_seats.proofs.RunFacts as runs
use Rattle.pg_seats.proofs.StepShapes.{IsShaped}

pub none_of : (o : Option ℕ) → is_some o ≡ false → o ≡ None
none_of None e = refl
none_of (Some n) e = absurd cc

-- a step that is told to read writes no byte, and no word where it is plain
pub silent : (d : Did) → IsShaped d → (r : ByteRange) → At r false (access_of d.told) → deeds.is_event d ≡ false → (b : ℕ) → d.writes b ≡ None
silent d h r a plain b = go (cases_lt b MEMORY_BYTES)
  where
    go : (b < MEMORY_BYTES) ⊎ (MEMORY_BYTES ≤ b) → d.writes b ≡ None
    go (inl l) = h.writes b l ∙ written_none r (access_of d.told) a b
    go (inr l) = none_of (d.writes b) (false_from_ne_true (is_some (d.writes b)) (λ e. let k : true ≡ false = sym (h.is_told.word_written b l e) ∙ plain in cc))

-- what a step makes of the table where it changes neither words nor its view
pub kept_all : (s : State NoSlot View) (id word : ℕ) (w : Standing) → Keeps w.run s.words s.views → get_elem? s.views id ≡ some (Worker w)
    → Keeps w.run (set s.words word (slice_index s.words word)) (set s.views id (Worker w))
kept_all s id word w h at =
    subst (λ ws. Keeps w.run ws (set s.views id (Worker w))) (sym (set_same s.words word)) (subst (λ vs. Keeps w.run s.words vs) (sym (set_again s.views id (Worker w) at)) h)

pub loads : (id : ℕ) (me : Place) (r : ByteRange) → IsPlace r → may_load me.0 r ≡ true → AllowsLoad Holds id me (granule_word r) Loads
loads id (Idle z, l) r place e = absurd cc
loads id (Laying q n, l) r place e = absurd cc
loads id (Pool q n y, l) r place e = absurd cc
loads id (Note q n, l) r place e = absurd cc
loads id (Sweeping z y, l) r place e = absurd cc
loads id (Spent, l) r place e = absurd cc
loads id (Worker w, l) r place e = λ s holds len at small.
    let h = running s id w holds at in
    let n = next_that w (λ x. is_plain x && reads_at r (access_of x.did.told)) e in
    let b = and_parts (is_plain n.step) (reads_at r (access_of n.step.did.told)) n.fits in
    let plain = not_true (deeds.is_event n.step.did) b.0 in
    let a = read_at r (access_of n.step.did.told) b.1 in
    let shape = runs.shape w.run h.run_is w.thread w.done n.step n.next in
    let still : (c : ℕ) → n.step.did.writes c ≡ None = silent n.step.did shape r a plain in
    let c = went s.words s.views id w h at n.step n.next plain s.words refl refl (λ c lt. ap (λ o. or_old o (cell_in s.words c)) (sym (still c))) in
    let found : number_at r (slice_index s.words (granule_word r)) ≡ number_there (Worker w) r =
    number_found s.words s.views id w h at n.step n.next (λ v. absurd (let k : true ≡ false = sym v ∙ plain in cc)) r place (touched_read n.step.did shape r place a)
    (λ k lt. ap (λ p. is_put n.step.did p (r.start + k)) (no_parts s.words s.views id w h at n.step n.next plain) ∙ none_put n.step.did (r.start + k)) in (
      went_on (Worker w),
      keeps,
      tt,
      inr (w.run, inr (inl (subst (λ ws. Keeps w.run ws (set s.views id (went_on (Worker w)))) (sym (set_same s.words (granule_word r))) c))),
      (refl, (λ q f. subst (λ (p : ByteRange). number_at p (slice_index s.words (granule_word r)) ≡ number_there (Worker w) p) (same q (next_that w (λ x. is_plain x && reads_at q (access_of x.did.told)) f) n) found)),
    )
  where
    same : (q : ByteRange) → Next w (λ x. is_plain x && reads_at q (access_of x.did.told)) → Next w (λ x. is_plain x && reads_at r (access_of x.did.told)) → r ≡ q
    same q k n =
        let o : n.step ≡ k.step = (let z : Some n.step ≡ Some k.step = sym n.next ∙ k.next in cc) in
        one_range r q false false (access_of n.step.did.told) (read_at r (access_of n.step.did.told) (and_parts (is_plain n.step) (reads_at r (access_of n.step.did.told)) n.fits).1)
        (subst (λ (x : Timed Did). At q false (access_of x.did.told)) (sym o) (read_at q (access_of k.step.did.told) (and_parts (is_plain k.step) (reads_at q (access_of k.step.did.told)) k.fits).1))

pub reads : (id : ℕ) (me : Place) (r : ByteRange) → IsPlace r → may_read me.0 r ≡ true → AllowsLoad Holds id me (granule_word r) Reads
reads id (Idle z, l) r place e = absurd cc
reads id (Laying q n, l) r place e = absurd cc
reads id (Pool q n y, l) r place e = absurd cc
reads id (Note q n, l) r place e = absurd cc
reads id (Sweeping z y, l) r place e = absurd cc
reads id (Spent, l) r place e = absurd cc
reads id (Worker w, l) r place e = λ s holds len at small.
    let h = running s id w holds at in
    let b = and_parts w.due _ e in
    let n = next_that w (λ x. reads_at r (access_of x.did.told)) b.1 in
    let a = read_at r (access_of n.step.did.told) n.fits in
    let shape = runs.shape w.run h.run_is w.thread w.done n.step n.next in
    let found : number_at r (slice_index s.words (granule_word r)) ≡ number_there (Worker w) r =
    number_found s.words s.views id w h at n.step n.next (λ v. number s.words s.views id w h at b.0 n.step n.next) r place (touched_read n.step.did shape r place a)
    (λ k lt. not_put n.step.did w.parts (r.start + k) (ap is_some (shape.writes (r.start + k) (let m = place.in_memory in omega arith) ∙ written_none r (access_of n.step.did.told) a (r.start + k)))) in (
      Worker w,
      keeps,
      tt,
      inr (w.run, inr (inl (kept_all s id (granule_word r) w h at))),
      (
        refl,
        (λ q f. subst (λ (p : ByteRange). number_at p (slice_index s.words (granule_word r)) ≡ number_there (Worker w) p)
            (same q (next_that w (λ x. reads_at q (access_of x.did.told)) (and_parts w.due _ f).1) n) found),
      ),
    )
  where
    same : (q : ByteRange) → Next w (λ x. reads_at q (access_of x.did.told)) → Next w (λ x. reads_at r (access_of x.did.told)) → r ≡ q
    same q k n =
        let o : n.step ≡ k.step = (let z : Some n.step ≡ Some k.step = sym n.next ∙ k.next in cc) in
        one_range r q false false (access_of n.step.did.told) (read_at r (access_of n.step.did.told) n.fits)
        (subst (λ (x : Timed Did). At q false (access_of x.did.told)) (sym o) (read_at q (access_of k.step.did.told) k.fits))

pub looks : (id : ℕ) (me : Place) → may_look me.0 ≡ true → AllowsLoad Holds id me TURN_WORD Looks
looks id (Idle z, l) e = absurd cc
looks id (Laying q n, l) e = absurd cc
looks id (Pool q n y, l) e = absurd cc
looks id (Note q n, l) e = absurd cc
looks id (Sweeping z y, l) e = absurd cc
looks id (Spent, l) e = absurd cc
looks id (Worker w, l) e = λ s holds len at small.
    let h = running s id w holds at in
    let k = seat w.run s.words s.views h id w at in
    let n : slice_index s.words TURN_WORD ≡ h.turns = h.clock in
    let c = knows s.words s.views id w h at (is_due w h.turns) h.turns (suc w.looks) (λ v. v) k.due (omega arith) in (
      looked (Worker w) (slice_index s.words TURN_WORD),
      keeps,
      tt,
      inr (
        w.run,
        inr (inl (subst (λ ws. Keeps w.run ws (set s.views id (looked (Worker w) (slice_index s.words TURN_WORD)))) (sym (set_same s.words TURN_WORD))
            (subst (λ m. Keeps w.run s.words (set s.views id (looked (Worker w) m))) (sym n) c))),
      ),
      (
        refl,
        (let m = k.seen in omega (arith, n, m)),
        (
          (let m = h.bound in omega (arith, n, m)),
          (λ x f v. (let a = steps.ahead (Rattle.pg_seats.specs.Plan.turns_in w.run) (Rattle.pg_seats.specs.Plan.plan_of w.run) (runs.plan w.run h.run_is) h.turns h.stands w.thread x
              (subst (λ m. slice_get (Rattle.pg_seats.specs.Plan.own_of w.run w.thread) m ≡ Some x) k.done_is (next_is w x f)) in omega (arith, n, a))),
        ),
      ),
    )
