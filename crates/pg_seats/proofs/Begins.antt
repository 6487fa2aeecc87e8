-- The words at rest, and made ready for a run.
use Rattle.std.proofs.Common.{◌≡◌, ◌≢◌, ℕ, zero, suc, [], ◌∷◌, ◌+◌, ◌-◌, ◌*◌, ◌/◌, ◌%◌, ◌^◌, ◌<◌, ◌≤◌, ◌⊎◌, inl, inr, ⊎_elim, true, length, List, set, refl, sym, ap, ◌∙◌, subst, arith, length-set, get_or-set_same, get_or-set_other, le_of_eq}
use Rattle.std.specs.Prelude.{slice_get, slice_index}
use Rattle.std.specs.List.{AllByRecursion as AllOf}
use Rattle.std.proofs.lemmas.Bool.{cases_lt, cases_eq, lt-ltb, le-ltb}
use mathlib.Core.Option.{some, some-injective, some-ne-none}
use lib.ListN.{get_elem?}
use Rattle.atomic_table.specs.Table.{State, keeps, opening}
use Rattle.atomic_table.proofs.Lists.{at_set}
use Rattle.pg_law_course.specs.pg_num.Places.{ByteRange}
use Rattle.pg_law_course.specs.pg_num.declared.layout.TheConstants.{GRANULE_COUNT, MEMORY_BYTES}
use Rattle.pg_law_course.specs.pg_num.declared.limits.TheConstants.{THREAD_LIMIT}
use Rattle.pg_law_course.specs.pg_ir.Program.{NumberedProgram}
use Rattle.pg_law_course.specs.pg_run_memory.Bytes.{byte_of}
use Rattle.pg_law_course.specs.pg_run_memory.Initial as memory
use Rattle.pg_law_course.specs.pg_run_memory.Initial.{initial_byte}
use Rattle.pg_law_course.proofs.of_pg_run_memory.ReadsAndWrites.{byte_at-memory_of}
use Rattle.pg_law_course.specs.pg_law_threads.Cuts.{Mark, pending, kept, whole, IsCut, IsBelow, count_done}
use Rattle.pg_law_course.specs.pg_law_threads.Effects.{deeds}
use Rattle.pg_law_course.specs.pg_law_threads.Intervals.{Timed, times, did_of}
use Rattle.pg_law_course.specs.pg_law_threads.Standing.{Stands, done_of, left_by}
use Rattle.pg_law_course.specs.pg_run.State.{initial}
use Rattle.pg_law_course.specs.pg_law_effects.Views.{cell_at}
use Rattle.pg_law_course.proofs.of_pg_law_effects.ReachedStates.{byte_first}
use Rattle.pg_law_course.specs.pg_law_runs.Deeds.{Did}
use Rattle.pg_words.specs.Calls.{AllowsLoad, AllowsStore, NoSlot, granule_word}
use Rattle.pg_words.specs.declared.layout.TheConstants.{GRANULE_WORDS, THREAD_WORDS, TURN_WORD, WORD_COUNT}
use Rattle.pg_seats.specs.declared.run.Run.{Run}
use Rattle.pg_seats.specs.declared.run.View.{View}
use Rattle.pg_seats.specs.declared.run.View.TheVariants.{Idle, Laying, Pool, Worker, Note, Sweeping, Spent}
use Rattle.pg_seats.specs.Plan.{IsEnforced, first_of, plan_of, turns_in}
use Rattle.pg_seats.specs.Views.{may_begin, MayLay, MayOpen, epoch_of}
use Rattle.pg_seats.specs.Rule.{cell_in, Fits, Holds, IsAlone, Keeps, Lays, Rests, Seats, IsOld}
use Rattle.pg_seats.specs.Plays as plays
use Rattle.pg_seats.specs.Plays.{Place}
use Rattle.pg_seats.proofs.Cells.{set_same}
use Rattle.pg_seats.proofs.Parts.{turn_none}

-- ---- the first words

one_view : (v : View) (e : ℕ) → IsAlone v e (v ∷ [])
one_view v e = record { only = only; one = one }
  where
    only : (id : ℕ) (u : View) → get_elem? (v ∷ []) id ≡ some u → (u ≡ v) ⊎ ((u ≡ Spent) ⊎ IsOld e u)
    only zero u f = inl (sym (some-injective v u f))
    only (suc k) u f = absurd (some-ne-none u (sym f))

    one : (i j : ℕ) → get_elem? (v ∷ []) i ≡ some v → get_elem? (v ∷ []) j ≡ some v → i ≡ j
    one zero zero f g = refl
    one zero (suc j) f g = absurd (some-ne-none v (sym g))
    one (suc i) j f g = absurd (some-ne-none v (sym f))

pub none_byte : (k : ℕ) → byte_of 0 k ≡ 0
none_byte k = omega arith

zero_byte : (word k : ℕ) → word ≡ 0 → byte_of word k ≡ 0
zero_byte word k e = ap (λ n. byte_of n k) e ∙ none_byte k

pub at_rest : (words : List ℕ) → length words ≡ WORD_COUNT → ((i : ℕ) → slice_index words i ≡ 0) → Holds (opening {S = NoSlot} words [] (Idle 0))
at_rest words wide zeros = inl (
  0,
  record {
    wide = wide;
    heads = λ i l. zeros i;
    zeros = λ g c j l. zero_byte (slice_index words (GRANULE_WORDS + g)) j (zeros (GRANULE_WORDS + g));
    alone = one_view (Idle 0) 0;
  },
)

-- ---- one seat that is alone

old_kept : (e f : ℕ) (u : View) → e ≤ f → IsOld e u → IsOld f u
old_kept e f (Note r n) l h = omega arith
old_kept e f (Idle q) l h = h
old_kept e f (Laying q n) l h = h
old_kept e f (Pool q n m) l h = h
old_kept e f (Worker w) l h = h
old_kept e f (Sweeping q n) l h = h
old_kept e f Spent l h = h

-- a view that is alone becomes another, which is no old note
pub alone_set : (v u : View) (e f : ℕ) (views : List View) (id : ℕ) → IsAlone v e views → get_elem? views id ≡ some v → e ≤ f → u ≢ Spent → (IsOld e u → ⊥) → IsAlone u f (set views id u)
alone_set v u e f views id h at le ne old = record {
  only = λ k x g. ⊎_elim (λ t. inl (sym t.1)) (λ t. other k x t.0 t.1 (h.only k x t.1)) (at_set views id k u x g);
  one = λ i j g k. here i g ∙ sym (here j k);
}
  where
    other : (k : ℕ) (x : View) → k ≢ id → get_elem? views k ≡ some x → (x ≡ v) ⊎ ((x ≡ Spent) ⊎ IsOld e x) → (x ≡ u) ⊎ ((x ≡ Spent) ⊎ IsOld f x)
    other k x n g (inl q) = absurd (n (h.one k id (g ∙ ap some q) at))
    other k x n g (inr (inl q)) = inr (inl q)
    other k x n g (inr (inr q)) = inr (inr (old_kept e f x le q))

    there : (i : ℕ) → get_elem? views i ≡ some u → (u ≡ v) ⊎ ((u ≡ Spent) ⊎ IsOld e u) → i ≡ id
    there i g (inl q) = h.one i id (g ∙ ap some q) at
    there i g (inr (inl q)) = absurd (ne q)
    there i g (inr (inr q)) = absurd (old q)

    here : (i : ℕ) → get_elem? (set views id u) i ≡ some u → i ≡ id
    here i g = ⊎_elim (λ t. t.0) (λ t. there i t.1 (h.only i u t.1)) (at_set views id i u u g)

epoch_is : (e f : ℕ) → Idle e ≡ Idle f → e ≡ f
epoch_is e f q = cc

idle_rests : (s : State NoSlot View) (id e : ℕ) → Holds s → get_elem? s.views id ≡ some (Idle e) → Rests e s.words s.views
idle_rests s id e (inl (f, h)) at = go (h.alone.only id (Idle e) at)
  where
    go : (Idle e ≡ Idle f) ⊎ ((Idle e ≡ Spent) ⊎ IsOld f (Idle e)) → Rests e s.words s.views
    go (inl q) = subst (λ k. Rests k s.words s.views) (sym (epoch_is e f q)) h
    go (inr (inl q)) = absurd cc
    go (inr (inr q)) = absurd q
idle_rests s id e (inr (run, inl (n, h))) at = absurd (not_so (h.alone.only id (Idle e) at))
  where
    not_so : (Idle e ≡ Laying run n) ⊎ ((Idle e ≡ Spent) ⊎ IsOld run.epoch (Idle e)) → ⊥
    not_so (inl q) = absurd cc
    not_so (inr (inl q)) = absurd cc
    not_so (inr (inr q)) = q
idle_rests s id e (inr (run, inr (inl h))) at = absurd (h.fits id (Idle e) at)
idle_rests s id e (inr (run, inr (inr (k, h)))) at = absurd (not_so (h.alone.only id (Idle e) at))
  where
    not_so : (Idle e ≡ Sweeping run k) ⊎ ((Idle e ≡ Spent) ⊎ IsOld (suc run.epoch) (Idle e)) → ⊥
    not_so (inl q) = absurd cc
    not_so (inr (inl q)) = absurd cc
    not_so (inr (inr q)) = q

pub begins : (run : Run) → IsEnforced run → (id : ℕ) (me : Place) → may_begin me.0 ≡ true → epoch_of me.0 ≡ run.epoch → AllowsLoad Holds id me TURN_WORD (λ _ before _ after. after ≡ (Laying run 0, before.1))
begins run ok id (Laying q n, l) e f = absurd cc
begins run ok id (Pool q n m, l) e f = absurd cc
begins run ok id (Worker w, l) e f = absurd cc
begins run ok id (Note q n, l) e f = absurd cc
begins run ok id (Sweeping q n, l) e f = absurd cc
begins run ok id (Spent, l) e f = absurd cc
begins run ok id (Idle epoch, l) e f = λ s holds len at small.
    let h = idle_rests s id epoch holds at in (
      Laying run 0,
      keeps,
      tt,
      inr (
        run,
        inl (
          0,
          record {
            run_is = ok;
            wide = length-set s.words TURN_WORD (slice_index s.words TURN_WORD) ∙ h.wide;
            heads = λ i j. ap (λ ws. slice_index ws i) (set_same s.words TURN_WORD) ∙ h.heads i j;
            bytes = λ b j. absurd (omega arith);
            zeros = λ g j c i k. ap (λ ws. byte_of (slice_index ws (GRANULE_WORDS + g)) i) (set_same s.words TURN_WORD) ∙ h.zeros g c i k;
            alone = alone_set (Idle epoch) (Laying run 0) epoch run.epoch s.views id h.alone at (le_of_eq f) (λ q. absurd cc) (λ q. q);
          },
        ),
      ),
      refl,
    )

-- ---- what the run begins with is laid

run_of_laying : (r q : Run) (n m : ℕ) → Laying r n ≡ Laying q m → (r ≡ q) × (n ≡ m)
run_of_laying r q n m e = (cc, cc)

lying : (s : State NoSlot View) (id : ℕ) (r : Run) (n : ℕ) → Holds s → get_elem? s.views id ≡ some (Laying r n) → Lays r n s.words s.views
lying s id r n (inl (e, h)) at = absurd (not_so (h.alone.only id (Laying r n) at))
  where
    not_so : (Laying r n ≡ Idle e) ⊎ ((Laying r n ≡ Spent) ⊎ IsOld e (Laying r n)) → ⊥
    not_so (inl q) = absurd cc
    not_so (inr (inl q)) = absurd cc
    not_so (inr (inr q)) = q
lying s id r n (inr (run, inl (m, h))) at = go (h.alone.only id (Laying r n) at)
  where
    go : (Laying r n ≡ Laying run m) ⊎ ((Laying r n ≡ Spent) ⊎ IsOld run.epoch (Laying r n)) → Lays r n s.words s.views
    go (inl e) = let q = run_of_laying r run n m e in subst (λ k. Lays r k s.words s.views) (sym q.1) (subst (λ (p : Run). Lays p m s.words s.views) (sym q.0) h)
    go (inr (inl e)) = absurd cc
    go (inr (inr e)) = absurd e
lying s id r n (inr (run, inr (inl h))) at = absurd (h.fits id (Laying r n) at)
lying s id r n (inr (run, inr (inr (k, h)))) at = absurd (not_so (h.alone.only id (Laying r n) at))
  where
    not_so : (Laying r n ≡ Sweeping run k) ⊎ ((Laying r n ≡ Spent) ⊎ IsOld (suc run.epoch) (Laying r n)) → ⊥
    not_so (inl q) = absurd cc
    not_so (inr (inl q)) = absurd cc
    not_so (inr (inr q)) = q

pub lays : (id : ℕ) (me : Place) (r : ByteRange) (word : ℕ) → r.start / 8 < GRANULE_COUNT → MayLay me.0 (r.start / 8) word → AllowsStore Holds id me (granule_word r) word plays.Lays
lays id (Idle z, l) r word inside e = absurd e
lays id (Pool q n m, l) r word inside e = absurd e
lays id (Sweeping q n, l) r word inside e = absurd e
lays id (Worker w, l) r word inside e = absurd e
lays id (Note q n, l) r word inside e = absurd e
lays id (Spent, l) r word inside e = absurd e
lays id (Laying q n, l) r word inside e = λ s holds len at small.
    let h = lying s id q n holds at in (
      Laying q (suc (r.start / 8)),
      keeps,
      tt,
      inr (q, inl (suc (r.start / 8), laid_more s h at)),
      (let j : r.start / 8 ≡ granule_word r - GRANULE_WORDS = omega arith in ap (λ k. (Laying q (suc k), l)) j),
    )
  where
    laid_more : (s : State NoSlot View) → Lays q n s.words s.views → get_elem? s.views id ≡ some (Laying q n) → Lays q (suc (r.start / 8)) (set s.words (granule_word r) word) (set s.views id (Laying q (suc (r.start / 8))))
    laid_more s h at = record {
      run_is = h.run_is;
      wide = length-set s.words (granule_word r) word ∙ h.wide;
      heads = λ i j. other i (λ z. omega arith) ∙ h.heads i j;
      bytes = λ b j. byte b (cases_eq (b / 8) (r.start / 8)) j;
      zeros = λ g j c i k. ap (λ v. byte_of v i) (other (GRANULE_WORDS + g) (λ z. omega arith)) ∙ h.zeros g (let m = e.0 in omega arith) c i k;
      alone = alone_set (Laying q n) (Laying q (suc (r.start / 8))) q.epoch q.epoch s.views id h.alone at (omega arith) (λ z. absurd cc) (λ z. z);
    }
      where
        other : (i : ℕ) → i ≢ granule_word r → slice_index (set s.words (granule_word r) word) i ≡ slice_index s.words i
        other i ne = get_or-set_other s.words (granule_word r) i word 0 (λ z. ne (omega arith))

        here : slice_index (set s.words (granule_word r) word) (granule_word r) ≡ word
        here = get_or-set_same s.words (granule_word r) word 0 (let w = h.wide in omega (arith, w, inside))

        byte : (b : ℕ) → (b / 8 ≡ r.start / 8) ⊎ (b / 8 ≡ r.start / 8 → ⊥) → b < 8 * suc (r.start / 8)
            → byte_of (slice_index (set s.words (granule_word r) word) (GRANULE_WORDS + b / 8)) (b % 8) ≡ initial_byte q.program.globals b
        byte b (inl f) j =
            ap (λ i. byte_of (slice_index (set s.words (granule_word r) word) (GRANULE_WORDS + i)) (b % 8)) f ∙ ap (λ v. byte_of v (b % 8)) here ∙ e.2 (b % 8) (omega arith)
            ∙ (let z : 8 * (r.start / 8) + b % 8 ≡ b = omega (arith, f) in ap (initial_byte q.program.globals) z)
        byte b (inr ne) j = ap (λ v. byte_of v (b % 8)) (other (GRANULE_WORDS + b / 8) (λ z. ne (omega arith))) ∙ old (cases_lt b (8 * n))
          where
            old : (b < 8 * n) ⊎ (8 * n ≤ b) → byte_of (slice_index s.words (GRANULE_WORDS + b / 8)) (b % 8) ≡ initial_byte q.program.globals b
            old (inl m) = h.bytes b m
            old (inr m) =
                h.zeros (b / 8) (omega arith) (omega arith) (b % 8) (omega arith)
                ∙ sym (e.1 b m (below (cases_lt b (8 * (r.start / 8)))))
              where
                below : (b < 8 * (r.start / 8)) ⊎ (8 * (r.start / 8) ≤ b) → b < 8 * (r.start / 8)
                below (inl z) = z
                below (inr z) = absurd (ne (omega arith))

-- ---- the run is begun

module _ {A : Type 0} where
  abbrev pub open_all : List A → List (Mark A)
  open_all [] = []
  open_all (x ∷ xs) = pending x ∷ open_all xs

  pub whole_open : (xs : List A) → whole (open_all xs) ≡ xs
  whole_open [] = refl
  whole_open (x ∷ xs) = ap (λ l. x ∷ l) (whole_open xs)

  pub kept_open : (xs : List A) → kept (open_all xs) ≡ []
  kept_open [] = refl
  kept_open (x ∷ xs) = kept_open xs

none_done : (xs : List (Timed Did)) (P : Timed Did → Type 0) → AllOf (λ (m : Mark (Timed Did)). m.done ≡ true → P m.step) (open_all xs)
none_done [] P = tt
none_done (x ∷ xs) P = ((λ e. absurd cc), none_done xs P)

pub cut_open : (xs : List (Timed Did)) → IsCut deeds (open_all xs)
cut_open [] = tt
cut_open (x ∷ xs) = ((λ e. none_done xs (λ y. deeds.thread y.did ≢ deeds.thread x.did)), cut_open xs)

pub below_open : (xs : List (Timed Did)) → IsBelow 0 (open_all xs)
below_open [] = tt
below_open (x ∷ xs) = (record { if_done = λ e. absurd cc; if_open = λ e. omega arith }, below_open xs)

count_open : (xs : List (Timed Did)) (u : ℕ) → count_done deeds (open_all xs) u ≡ 0
count_open [] u = refl
count_open (x ∷ xs) u = count_open xs u

abbrev pub none_stands : (r : Run) → Stands (turns_in r) (plan_of r) 0
none_stands r = record {
  marks = open_all (times deeds (turns_in r) 0 (plan_of r));
  is_whole = whole_open (times deeds (turns_in r) 0 (plan_of r));
  is_cut = cut_open (times deeds (turns_in r) 0 (plan_of r));
  below = below_open (times deeds (turns_in r) 0 (plan_of r));
}

pub first_byte : (p : NumberedProgram) (b : ℕ) → ((i : ℕ) → initial_byte p.globals i < 2 ^ 8) → b < MEMORY_BYTES → cell_at (initial p) b ≡ initial_byte p.globals b
unfolding initial memory.initial
first_byte p b small l = rw (lt-ltb b MEMORY_BYTES l) (byte_at-memory_of (initial_byte p.globals) b small l)

first_word : (p : NumberedProgram) (b : ℕ) → MEMORY_BYTES ≤ b → cell_at (initial p) b ≡ 0
unfolding initial
first_word p b l = rw (le-ltb b MEMORY_BYTES l) (no_word (b - MEMORY_BYTES))
  where
    no_word : (i : ℕ) → slice_index (0 ∷ []) i ≡ 0
    no_word zero = refl
    no_word (suc i) = refl

module _ (r : Run) (words : List ℕ) (views : List View) (n id : ℕ) (h : Lays r n words views) (at : get_elem? views id ≡ some (Laying r n))
    (zeros : (b : ℕ) → 8 * n ≤ b → b < MEMORY_BYTES → initial_byte r.program.globals b ≡ 0) where
  cells : (b : ℕ) → b < MEMORY_BYTES + THREAD_LIMIT → cell_in words b ≡ cell_at (initial r.program) b
  cells b lt = go (cases_lt b MEMORY_BYTES)
    where
      byte : b < MEMORY_BYTES → (b < 8 * n) ⊎ (8 * n ≤ b) → byte_of (slice_index words (GRANULE_WORDS + b / 8)) (b % 8) ≡ initial_byte r.program.globals b
      byte l (inl m) = h.bytes b m
      byte l (inr m) = h.zeros (b / 8) (omega arith) (omega arith) (b % 8) (omega arith) ∙ sym (zeros b m l)

      go : (b < MEMORY_BYTES) ⊎ (MEMORY_BYTES ≤ b) → cell_in words b ≡ cell_at (initial r.program) b
      go (inl l) = (rw (lt-ltb b MEMORY_BYTES l) (byte l (cases_lt b (8 * n)))) ∙ sym (first_byte r.program b (λ i. byte_first r.program.globals i h.run_is.can.bytes) l)
      go (inr l) = (rw (le-ltb b MEMORY_BYTES l) (h.heads (THREAD_WORDS + (b - MEMORY_BYTES)) (omega arith))) ∙ sym (first_word r.program b l)

  abbrev pub no_seats : Seats
  no_seats = record { made = 0; gone = 0; pool = id; seat = λ t. 0; parts = λ t. 0 }

  pub opened : Keeps r words (set views id (Pool r 0 0))
  opened = record {
    run_is = h.run_is;
    wide = h.wide;
    turns = 0;
    clock = h.heads TURN_WORD (omega arith);
    bound = omega arith;
    stands = none_stands r;
    seats = no_seats;
    fits = λ k v e. ⊎_elim
        (λ t. subst (λ y. Fits r no_seats (done_of (none_stands r)) 0 k y) t.1 (refl, t.0, refl, refl))
        (λ t. rest k v t.0 t.1 (h.alone.only k v t.1))
        (at_set views id k (Pool r 0 0) v e);
    few_gone = omega arith;
    seated = λ t l g. absurd (omega arith);
    gathered = λ t l. refl;
    unseated = λ t l. (count_open (times deeds (turns_in r) 0 (plan_of r)) t, refl);
    memory = λ b lt. cells b lt ∙ sym (turn_none r (done_of (none_stands r)) (λ t. 0) (slice_get (turns_in r) 0) b ((left_by (first_of r) (none_stands r)).cells b) (λ t e. refl)
        ∙ ap (λ l. (Rattle.pg_law_course.specs.pg_law_threads.Effects.effects (first_of r) (did_of l)).cells b) (kept_open (times deeds (turns_in r) 0 (plan_of r))));
  }
    where
      old : (k : ℕ) (v : View) → IsOld r.epoch v → Fits r no_seats (done_of (none_stands r)) 0 k v
      old k (Note p m) q = inr q
      old k (Idle p) q = q
      old k (Laying p m) q = q
      old k (Pool p m i) q = absurd q
      old k (Worker w) q = absurd q
      old k (Sweeping p m) q = q
      old k Spent q = tt

      rest : (k : ℕ) (v : View) → k ≢ id → get_elem? views k ≡ some v → (v ≡ Laying r n) ⊎ ((v ≡ Spent) ⊎ IsOld r.epoch v) → Fits r no_seats (done_of (none_stands r)) 0 k v
      rest k v ne g (inl q) = absurd (ne (h.alone.one k id (g ∙ ap some q) at))
      rest k v ne g (inr (inl q)) = subst (λ y. Fits r no_seats (done_of (none_stands r)) 0 k y) (sym q) tt
      rest k v ne g (inr (inr q)) = old k v q

pub opens : (id : ℕ) (me : Place) → MayOpen me.0 → AllowsLoad Holds id me TURN_WORD plays.Opens
opens id (Idle z, l) e = absurd e
opens id (Pool q n m, l) e = absurd e
opens id (Sweeping q n, l) e = absurd e
opens id (Worker w, l) e = absurd e
opens id (Note q n, l) e = absurd e
opens id (Spent, l) e = absurd e
opens id (Laying q n, l) e = λ s holds len at small. (
  Pool q 0 0,
  keeps,
  tt,
  inr (q, inr (inl (subst (λ ws. Keeps q ws (set s.views id (Pool q 0 0))) (sym (set_same s.words TURN_WORD)) (opened q s.words s.views n id (lying s id q n holds at) at e)))),
  refl,
)
