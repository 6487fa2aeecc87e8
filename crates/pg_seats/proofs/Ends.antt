-- The end of a run: all seats are back, and the words become 0 again.
use Rattle.std.proofs.Common.{◌≡◌, ◌≢◌, ℕ, suc, ◌+◌, ◌*◌, ◌/◌, ◌%◌, ◌<◌, ◌≤◌, ◌⊎◌, inl, inr, ⊎_elim, true, false, List, set, refl, sym, ap, ◌∙◌, subst, arith, length-set, get_or-set_same, get_or-set_other}
use Rattle.std.specs.Prelude.{slice_get, slice_index, is_some}
use Rattle.std.specs.List.{AllByRecursion as AllOf}
use Rattle.std.proofs.lemmas.Bool.{cases_lt, cases_eq, eqb-true, lt-ltb}
use mathlib.Core.Option.{some}
use lib.ListN.{get_elem?}
use Rattle.atomic_table.specs.Table.{State, keeps}
use Rattle.atomic_table.proofs.Lists.{at_set}
use Rattle.pg_law_course.specs.pg_num.Places.{ByteRange}
use Rattle.pg_law_course.specs.pg_num.declared.layout.TheConstants.{GRANULE_COUNT, MEMORY_BYTES}
use Rattle.pg_law_course.specs.pg_num.declared.limits.TheConstants.{THREAD_LIMIT}
use Rattle.pg_law_course.specs.pg_run_memory.Bytes.{byte_of}
use Rattle.pg_law_course.specs.pg_law_threads.Intervals.{Timed, times}
use Rattle.pg_law_course.specs.pg_law_threads.Cuts.{kept}
use Rattle.pg_law_course.specs.pg_law_threads.Standing.{done_of, left_by}
use Rattle.pg_law_course.specs.pg_law_threads.Intervals as intervals
use Rattle.pg_law_course.proofs.of_pg_law_threads.DoneLists.{all_did, all_kept, all_map, at_marks}
use Rattle.pg_law_course.proofs.of_pg_law_threads.EffectsOfSteps.{cell_part, skips}
use Rattle.pg_law_course.specs.pg_law_runs.Deeds.{Did}
use Rattle.pg_law_course.proofs.of_pg_law_effects.ReachedStates.{byte_first}
use Rattle.pg_words.specs.Calls.{AllowsLoad, AllowsStore, NoSlot, granule_word, thread_word}
use Rattle.pg_words.specs.declared.layout.TheConstants.{GRANULE_WORDS, TURN_WORD, WORD_COUNT}
use Rattle.pg_seats.specs.declared.run.Run.{Run}
use Rattle.pg_seats.specs.declared.run.View.{View}
use Rattle.pg_seats.specs.declared.run.View.TheVariants.{Idle, Laying, Pool, Worker, Note, Sweeping, Spent}
use Rattle.pg_seats.specs.Plan.{first_of, plan_of, turns_in}
use Rattle.pg_seats.specs.Views.{IsClean, MayRest, MayWipe, may_clear, may_close}
use Rattle.pg_seats.specs.Rule.{cell_in, Fits, Holds, IsAlone, IsOld, IsZero, Keeps, Sweeps}
use Rattle.pg_seats.specs.Plays as plays
use Rattle.pg_seats.specs.Plays.{Place}
use Rattle.pg_seats.proofs.Begins.{alone_set, first_byte, none_byte}
use Rattle.pg_seats.proofs.Cells.{set_same}
use Rattle.pg_seats.proofs.Parts.{turn_none}
use Rattle.pg_seats.proofs.RunFacts.{timed_all}
use Rattle.pg_seats.proofs.SeatSteps.{pooled}

-- ---- the last seat is back

module _ (r : Run) (words : List ℕ) (views : List View) (h : Keeps r words views) (id n : ℕ) (at : get_elem? views id ≡ some (Pool r n n)) where
  pool : (r ≡ r) × (id ≡ h.seats.pool) × (n ≡ h.seats.made) × (n ≡ h.seats.gone)
  pool = h.fits id (Pool r n n) at

  no_parts : (t : ℕ) → h.seats.parts t ≡ 0
  no_parts t = go (cases_lt t h.seats.gone)
    where
      go : (t < h.seats.gone) ⊎ (h.seats.gone ≤ t) → h.seats.parts t ≡ 0
      go (inl l) = h.gathered t l
      go (inr l) = (h.unseated t (let a = pool.2 in let b = pool.3 in omega arith)).1

  -- a byte that no step writes is as it was at first
  unwritten : (b : ℕ) → AllOf (λ d. is_some (d.writes b) ≡ false) (plan_of r) → (left_by (first_of r) h.stands).cells b ≡ (first_of r).cells b
  unwritten b none_writes = skips (cell_part b) (first_of r) (intervals.did_of (kept h.stands.marks))
      (all_did (λ (d : Did). is_some (d.writes b) ≡ false) (kept h.stands.marks) (all_kept (λ (x : Timed Did). is_some (x.did.writes b) ≡ false) h.stands.marks
      (all_map (λ m e w. e) h.stands.marks (at_marks (λ (x : Timed Did). is_some (x.did.writes b) ≡ false) h.stands.marks
      (subst (AllOf (λ (x : Timed Did). is_some (x.did.writes b) ≡ false)) (sym h.stands.is_whole)
      (timed_all (λ (d : Did). is_some (d.writes b) ≡ false) (turns_in r) 0 (plan_of r) none_writes))))))

  clean_byte : (g : ℕ) → g < GRANULE_COUNT → IsClean r g → IsZero words g
  clean_byte g small clean j l =
      let b : ℕ = 8 * g + j in
      let q : (8 * g + j) / 8 ≡ g = omega (arith, l) in
      let m : (8 * g + j) % 8 ≡ j = omega (arith, l) in
      let lt : 8 * g + j < MEMORY_BYTES = omega (arith, l, small) in
      let c = clean (8 * g + j) q in
      sym (cell (8 * g + j) lt ∙ ap (λ k. byte_of (slice_index words (GRANULE_WORDS + k)) ((8 * g + j) % 8)) q ∙ ap (byte_of (slice_index words (GRANULE_WORDS + g))) m)
      ∙ h.memory (8 * g + j) (omega arith)
      ∙ turn_none r (done_of h.stands) h.seats.parts (slice_get (turns_in r) h.turns) (8 * g + j) ((left_by (first_of r) h.stands).cells (8 * g + j)) (λ t e. no_parts t)
      ∙ unwritten (8 * g + j) c.1 ∙ first_byte r.program (8 * g + j) (λ i. byte_first r.program.globals i h.run_is.can.bytes) lt ∙ c.0
    where
      cell : (b : ℕ) → b < MEMORY_BYTES → cell_in words b ≡ byte_of (slice_index words (GRANULE_WORDS + b / 8)) (b % 8)
      cell b l = rw (lt-ltb b MEMORY_BYTES l) refl

  over_fits : (k : ℕ) (v : View) → k ≢ id → Fits r h.seats (done_of h.stands) h.turns k v → (v ≡ Sweeping r 1) ⊎ ((v ≡ Spent) ⊎ IsOld (suc r.epoch) v)
  over_fits k (Idle e) ne f = absurd f
  over_fits k (Laying q m) ne f = absurd f
  over_fits k (Pool q m i) ne f = absurd (ne (f.1 ∙ sym pool.1))
  over_fits k (Worker u) ne f = absurd (let a = f.made in let b = f.left in let c = pool.2 in let d = pool.3 in omega arith)
  over_fits k (Note q m) ne (inl f) = inr (inr (let e : q.epoch ≡ r.epoch = ap (λ (p : Run). p.epoch) f.0 in omega arith))
  over_fits k (Note q m) ne (inr f) = inr (inr (omega arith))
  over_fits k (Sweeping q m) ne f = absurd f
  over_fits k Spent ne f = inr (inl refl)

  pub close_sweeps : Sweeps r 1 (set words TURN_WORD 0) (set views id (Sweeping r 1))
  close_sweeps = record {
    wide = length-set words TURN_WORD 0 ∙ h.wide;
    heads = λ i l m. first i l;
    zeros = λ g small c. clean g small c;
    alone = record {
      only = λ k v e. ⊎_elim (λ t. inl (sym t.1)) (λ t. over_fits k v t.0 (h.fits k v t.1)) (at_set views id k (Sweeping r 1) v e);
      one = λ i j e f. here i e ∙ sym (here j f);
    };
  }
    where
      first : (i : ℕ) → i < 1 → slice_index (set words TURN_WORD 0) i ≡ 0
      first i l = let e : i ≡ TURN_WORD = omega arith in ap (slice_index (set words TURN_WORD 0)) e ∙ get_or-set_same words TURN_WORD 0 0 (let w = h.wide in omega (arith, w))

      clean : (g : ℕ) → g < GRANULE_COUNT → (GRANULE_WORDS + g < 1) ⊎ IsClean r g → IsZero (set words TURN_WORD 0) g
      clean g small (inl l) j k = absurd (omega arith)
      clean g small (inr c) j k = ap (λ v. byte_of v j) (get_or-set_other words TURN_WORD (GRANULE_WORDS + g) 0 0 (λ e. omega arith)) ∙ clean_byte g small c j k

      here : (i : ℕ) → get_elem? (set views id (Sweeping r 1)) i ≡ some (Sweeping r 1) → i ≡ id
      here i e = ⊎_elim (λ t. t.0) (λ t. absurd (h.fits i (Sweeping r 1) t.1)) (at_set views id i (Sweeping r 1) (Sweeping r 1) e)

pub closes : (id : ℕ) (me : Place) → may_close me.0 ≡ true → AllowsStore Holds id me TURN_WORD 0 plays.Closes
closes id (Idle q, l) e = absurd cc
closes id (Laying q n, l) e = absurd cc
closes id (Worker w, l) e = absurd cc
closes id (Note q n, l) e = absurd cc
closes id (Sweeping q n, l) e = absurd cc
closes id (Spent, l) e = absurd cc
closes id (Pool r n m, l) e = λ s holds len at small.
    let q : n ≡ m = eqb-true n m e in (
      Sweeping r 1,
      keeps,
      tt,
      inr (r, inr (inr (1, close_sweeps r s.words s.views (pooled s id r n m holds at) id n (subst (λ k. get_elem? s.views id ≡ some (Pool r n k)) (sym q) at)))),
      refl,
    )

-- ---- words become 0 again

run_of_sweeping : (r q : Run) (n m : ℕ) → Sweeping r n ≡ Sweeping q m → (r ≡ q) × (n ≡ m)
run_of_sweeping r q n m e = (cc, cc)

sweeping : (s : State NoSlot View) (id : ℕ) (r : Run) (n : ℕ) → Holds s → get_elem? s.views id ≡ some (Sweeping r n) → Sweeps r n s.words s.views
sweeping s id r n (inl (e, h)) at = absurd (not_so (h.alone.only id (Sweeping r n) at))
  where
    not_so : (Sweeping r n ≡ Idle e) ⊎ ((Sweeping r n ≡ Spent) ⊎ IsOld e (Sweeping r n)) → ⊥
    not_so (inl q) = absurd cc
    not_so (inr (inl q)) = absurd cc
    not_so (inr (inr q)) = q
sweeping s id r n (inr (run, inl (m, h))) at = absurd (not_so (h.alone.only id (Sweeping r n) at))
  where
    not_so : (Sweeping r n ≡ Laying run m) ⊎ ((Sweeping r n ≡ Spent) ⊎ IsOld run.epoch (Sweeping r n)) → ⊥
    not_so (inl q) = absurd cc
    not_so (inr (inl q)) = absurd cc
    not_so (inr (inr q)) = q
sweeping s id r n (inr (run, inr (inl h))) at = absurd (h.fits id (Sweeping r n) at)
sweeping s id r n (inr (run, inr (inr (m, h)))) at = go (h.alone.only id (Sweeping r n) at)
  where
    go : (Sweeping r n ≡ Sweeping run m) ⊎ ((Sweeping r n ≡ Spent) ⊎ IsOld (suc run.epoch) (Sweeping r n)) → Sweeps r n s.words s.views
    go (inl e) = let q = run_of_sweeping r run n m e in subst (λ k. Sweeps r k s.words s.views) (sym q.1) (subst (λ (p : Run). Sweeps p m s.words s.views) (sym q.0) h)
    go (inr (inl e)) = absurd cc
    go (inr (inr e)) = absurd e

module _ (r : Run) (k : ℕ) (words : List ℕ) (views : List View) (h : Sweeps r k words views) (id : ℕ) (at : get_elem? views id ≡ some (Sweeping r k)) where
  next_alone : (i : ℕ) → IsAlone (Sweeping r i) (suc r.epoch) (set views id (Sweeping r i))
  next_alone i = alone_set (Sweeping r k) (Sweeping r i) (suc r.epoch) (suc r.epoch) views id h.alone at (omega arith) (λ z. absurd cc) (λ z. z)

  other : (i j : ℕ) → j ≢ i → slice_index (set words i 0) j ≡ slice_index words j
  other i j ne = get_or-set_other words i j 0 0 ne

  here : (i : ℕ) → i < WORD_COUNT → slice_index (set words i 0) i ≡ 0
  here i l = get_or-set_same words i 0 0 (let w = h.wide in omega (arith, w, l))

  -- the word of a thread
  pub word_swept : k < GRANULE_WORDS → Sweeps r (suc k) (set words k 0) (set views id (Sweeping r (suc k)))
  word_swept low = record {
    wide = length-set words k 0 ∙ h.wide;
    heads = λ i l m. head i l m (cases_eq i k);
    zeros = λ g small c j q. ap (λ v. byte_of v j) (other k (GRANULE_WORDS + g) (λ e. omega arith)) ∙ h.zeros g small (clean g c) j q;
    alone = next_alone (suc k);
  }
    where
      head : (i : ℕ) → i < suc k → i < GRANULE_WORDS → (i ≡ k) ⊎ (i ≡ k → ⊥) → slice_index (set words k 0) i ≡ 0
      head i l m (inl e) = ap (slice_index (set words k 0)) e ∙ here k (omega arith)
      head i l m (inr e) = other k i e ∙ h.heads i (let d : i ≢ k = e in omega arith) m

      clean : (g : ℕ) → (GRANULE_WORDS + g < suc k) ⊎ IsClean r g → (GRANULE_WORDS + g < k) ⊎ IsClean r g
      clean g (inl l) = absurd (omega arith)
      clean g (inr c) = inr c

  -- a granule, where those passed over are clean
  pub granule_swept : (g : ℕ) → g < GRANULE_COUNT → GRANULE_WORDS ≤ k → k ≤ GRANULE_WORDS + g → ((i : ℕ) → k ≤ GRANULE_WORDS + i → i < g → IsClean r i)
      → Sweeps r (suc (GRANULE_WORDS + g)) (set words (GRANULE_WORDS + g) 0) (set views id (Sweeping r (suc (GRANULE_WORDS + g))))
  granule_swept g inside high le passed = record {
    wide = length-set words (GRANULE_WORDS + g) 0 ∙ h.wide;
    heads = λ i l m. other (GRANULE_WORDS + g) i (λ e. omega arith) ∙ h.heads i (omega arith) m;
    zeros = λ i small c j q. byte i small c j q (cases_eq i g);
    alone = next_alone (suc (GRANULE_WORDS + g));
  }
    where
      before : (i : ℕ) → i ≢ g → (GRANULE_WORDS + i < suc (GRANULE_WORDS + g)) ⊎ IsClean r i → (GRANULE_WORDS + i < k) ⊎ IsClean r i
      before i ne (inr c) = inr c
      before i ne (inl l) = go (cases_lt (GRANULE_WORDS + i) k)
        where
          go : (GRANULE_WORDS + i < k) ⊎ (k ≤ GRANULE_WORDS + i) → (GRANULE_WORDS + i < k) ⊎ IsClean r i
          go (inl m) = inl m
          go (inr m) = inr (passed i m (let d : i ≢ g = ne in omega arith))

      byte : (i : ℕ) → i < GRANULE_COUNT → (GRANULE_WORDS + i < suc (GRANULE_WORDS + g)) ⊎ IsClean r i → (j : ℕ) → j < 8 → (i ≡ g) ⊎ (i ≡ g → ⊥)
          → byte_of (slice_index (set words (GRANULE_WORDS + g) 0) (GRANULE_WORDS + i)) j ≡ 0
      byte i small c j q (inl e) = ap (λ v. byte_of (slice_index (set words (GRANULE_WORDS + g) 0) (GRANULE_WORDS + v)) j) e ∙ ap (λ v. byte_of v j) (here (GRANULE_WORDS + g) (omega arith)) ∙ none_byte j
      byte i small c j q (inr ne) = ap (λ v. byte_of v j) (other (GRANULE_WORDS + g) (GRANULE_WORDS + i) (λ e. ne (omega arith))) ∙ h.zeros i small (before i ne c) j q

pub clears : (id : ℕ) (me : Place) (t : ℕ) → t < THREAD_LIMIT → may_clear me.0 t ≡ true → AllowsStore Holds id me (thread_word t) 0 plays.Wipes
clears id (Idle q, l) t inside e = absurd cc
clears id (Laying q n, l) t inside e = absurd cc
clears id (Pool q n m, l) t inside e = absurd cc
clears id (Worker w, l) t inside e = absurd cc
clears id (Note q n, l) t inside e = absurd cc
clears id (Spent, l) t inside e = absurd cc
clears id (Sweeping r k, l) t inside e = λ s holds len at small.
    let q : k ≡ thread_word t = eqb-true k (thread_word t) e in
    let h = sweeping s id r k holds at in (
      Sweeping r (suc (thread_word t)),
      keeps,
      tt,
      inr (r, inr (inr (suc (thread_word t), subst (λ i. Sweeps r (suc i) (set s.words i 0) (set s.views id (Sweeping r (suc i)))) q (word_swept r k s.words s.views h id at (omega arith))))),
      refl,
    )

pub wipes : (id : ℕ) (me : Place) (p : ByteRange) → p.start / 8 < GRANULE_COUNT → MayWipe me.0 (p.start / 8) → AllowsStore Holds id me (granule_word p) 0 plays.Wipes
wipes id (Idle q, l) p inside e = absurd e
wipes id (Laying q n, l) p inside e = absurd e
wipes id (Pool q n m, l) p inside e = absurd e
wipes id (Worker w, l) p inside e = absurd e
wipes id (Note q n, l) p inside e = absurd e
wipes id (Spent, l) p inside e = absurd e
wipes id (Sweeping r k, l) p inside e = λ s holds len at small. (
  Sweeping r (suc (granule_word p)),
  keeps,
  tt,
  inr (r, inr (inr (suc (granule_word p), granule_swept r k s.words s.views (sweeping s id r k holds at) id at (p.start / 8) inside e.0 e.1 e.2))),
  refl,
)

-- ---- the words rest

pub rests : (id : ℕ) (me : Place) → MayRest me.0 → AllowsLoad Holds id me TURN_WORD plays.Rests
rests id (Idle q, l) e = absurd e
rests id (Laying q n, l) e = absurd e
rests id (Pool q n m, l) e = absurd e
rests id (Worker w, l) e = absurd e
rests id (Note q n, l) e = absurd e
rests id (Spent, l) e = absurd e
rests id (Sweeping r k, l) e = λ s holds len at small.
    let h = sweeping s id r k holds at in (
      Idle (suc r.epoch),
      keeps,
      tt,
      inl (
        suc r.epoch,
        record {
          wide = length-set s.words TURN_WORD (slice_index s.words TURN_WORD) ∙ h.wide;
          heads = λ i l. ap (λ ws. slice_index ws i) (set_same s.words TURN_WORD) ∙ h.heads i (let m = e.0 in omega arith) l;
          zeros = λ g small j q. ap (λ ws. byte_of (slice_index ws (GRANULE_WORDS + g)) j) (set_same s.words TURN_WORD) ∙ h.zeros g small (clean g small (cases_lt (GRANULE_WORDS + g) k)) j q;
          alone = alone_set (Sweeping r k) (Idle (suc r.epoch)) (suc r.epoch) (suc r.epoch) s.views id h.alone at (omega arith) (λ z. absurd cc) (λ z. z);
        },
      ),
      refl,
    )
  where
    clean : (g : ℕ) → g < GRANULE_COUNT → (GRANULE_WORDS + g < k) ⊎ (k ≤ GRANULE_WORDS + g) → (GRANULE_WORDS + g < k) ⊎ IsClean r g
    clean g small (inl l) = inl l
    clean g small (inr l) = inr (e.1 g l small)
