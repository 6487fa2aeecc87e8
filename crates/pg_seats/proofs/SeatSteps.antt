-- Seats that are split off and joined: those of threads, and notes.
use Rattle.std.proofs.Common.{◌≡◌, ◌≢◌, ℕ, zero, suc, [], ◌∷◌, ◌++◌, ◌==◌, ◌<◌, ◌≤◌, ◌⊎◌, inl, inr, ⊎_elim, true, false, length, max, List, set, refl, sym, ap, ◌∙◌, subst, arith, length-set}
use Rattle.std.proofs.Math.Nat.{max-le}
use Rattle.std.proofs.lemmas.Bool.{and_parts, eqb-true, cases_eq}
use mathlib.Core.Option.{some, some-injective, some-ne-none}
use lib.ListN.{get_elem?}
use Rattle.atomic_table.specs.Table.{State, Joins, Splits}
use Rattle.atomic_table.proofs.Lists.{at_last, at_longer, at_set, set_again, set_else}
use Rattle.pg_law_course.specs.pg_law_threads.Standing.{done_of}
use Rattle.pg_words.specs.Calls.{NoSlot}
use Rattle.pg_seats.specs.declared.run.Run.{Run}
use Rattle.pg_seats.specs.declared.run.Standing.{Standing}
use Rattle.pg_seats.specs.declared.run.View.{View}
use Rattle.pg_seats.specs.declared.run.View.TheVariants.{Idle, Laying, Pool, Worker, Note, Sweeping, Spent}
use Rattle.pg_seats.specs.Views.{gathered, may_gather, may_look, may_split, may_take, newcomer, noted, told, with_one_more}
use Rattle.pg_seats.specs.Rule.{IsOld, Fits, HasSeat, Holds, IsSeated, Keeps, Seats}
use Rattle.pg_seats.proofs.Ranges.{running}
use Rattle.pg_seats.proofs.Changes.{put_at, put_else, put_here, seat}
use Rattle.pg_seats.proofs.Moves.{knows}

at_end : {A : Type 0} (l : List A) (a b : A) (j : ℕ) → get_elem? (l ++ a ∷ []) j ≡ some b → (get_elem? l j ≡ some b) ⊎ ((j ≡ length l) × (a ≡ b))
at_end [] a b zero e = inr (refl, some-injective a b e)
at_end [] a b (suc j) e = absurd (some-ne-none b (sym e))
at_end (x ∷ xs) a b zero e = inl e
at_end (x ∷ xs) a b (suc j) e = ⊎_elim (λ t. inl t) (λ t. inr (ap suc t.0, t.1)) (at_end xs a b j e)

-- ---- the seat of the next thread

module _ (v : View) (e : ℕ) (r : Run) (n m : ℕ) where
  no_pool : (Pool r n m ≡ v → ⊥) → (Pool r n m ≡ v) ⊎ ((Pool r n m ≡ Spent) ⊎ IsOld e (Pool r n m)) → ⊥
  no_pool ne (inl q) = ne q
  no_pool ne (inr (inl q)) = absurd cc
  no_pool ne (inr (inr q)) = q

pub pooled : (s : State NoSlot View) (id : ℕ) (r : Run) (n m : ℕ) → Holds s → get_elem? s.views id ≡ some (Pool r n m) → Keeps r s.words s.views
pooled s id r n m (inl (e, h)) at = absurd (no_pool (Idle e) e r n m (λ q. absurd cc) (h.alone.only id (Pool r n m) at))
pooled s id r n m (inr (run, inl (k, h))) at = absurd (no_pool (Laying run k) run.epoch r n m (λ q. absurd cc) (h.alone.only id (Pool r n m) at))
pooled s id r n m (inr (run, inr (inl h))) at = subst (λ (q : Run). Keeps q s.words s.views) (sym (h.fits id (Pool r n m) at).0) h
pooled s id r n m (inr (run, inr (inr (k, h)))) at = absurd (no_pool (Sweeping run k) (suc run.epoch) r n m (λ q. absurd cc) (h.alone.only id (Pool r n m) at))

module _ (r : Run) (words : List ℕ) (views : List View) (h : Keeps r words views) (id n : ℕ) (at : get_elem? views id ≡ some (Pool r n 0)) where
  mine : (r ≡ r) × (id ≡ h.seats.pool) × (n ≡ h.seats.made) × (0 ≡ h.seats.gone)
  mine = h.fits id (Pool r n 0) at

  abbrev new : Standing
  new = record { run = r; thread = n; done = 0; due = false; parts = 0; seen = 0; looks = 0 }

  abbrev pub more : Seats
  more = record { made = suc h.seats.made; gone = h.seats.gone; pool = h.seats.pool; seat = put_at h.seats.seat n (length views); parts = h.seats.parts }

  abbrev pub grown : List View
  grown = set views id (Pool r (suc n) 0) ++ Worker new ∷ []

  same_length : length (set views id (Pool r (suc n) 0)) ≡ length views
  same_length = length-set views id (Pool r (suc n) 0)

  old : (k : ℕ) (v : View) → k ≢ id → Fits r h.seats (done_of h.stands) h.turns k v → Fits r more (done_of h.stands) h.turns k v
  old k (Idle e) ne f = f
  old k (Laying q m) ne f = f
  old k (Sweeping q m) ne f = f
  old k (Pool q m i) ne f = absurd (ne (f.1 ∙ sym mine.1))
  old k (Note q m) ne f = f
  old k Spent ne f = f
  old k (Worker u) ne f = record {
    same_run = f.same_run;
    seated = f.seated ∙ sym (put_else h.seats.seat n (length views) u.thread (λ e. let l = f.made in let m = mine.2 in omega arith));
    made = let l = f.made in omega arith;
    left = f.left;
    done_is = f.done_is;
    parts_is = f.parts_is;
    due = f.due;
    some_parts = f.some_parts;
    few_parts = f.few_parts;
    seen = f.seen;
  }

  first : IsSeated r more (done_of h.stands) h.turns (length views) new
  first = record {
    same_run = refl;
    seated = sym (put_here h.seats.seat n (length views) n refl);
    made = let m = mine.2 in omega arith;
    left = let m = mine.3 in omega arith;
    done_is = sym (h.unseated n (let m = mine.2 in omega arith)).0;
    parts_is = sym (h.unseated n (let m = mine.2 in omega arith)).1;
    due = λ e. absurd cc;
    some_parts = λ l. absurd (omega arith);
    few_parts = omega arith;
    seen = omega arith;
  }

  fits : (k : ℕ) (v : View) → get_elem? grown k ≡ some v → Fits r more (done_of h.stands) h.turns k v
  fits k v e = ⊎_elim
      (λ t. ⊎_elim
      (λ q. subst (λ y. Fits r more (done_of h.stands) h.turns k y) q.1 (refl, q.0 ∙ mine.1, ap suc mine.2, mine.3))
      (λ q. old k v q.0 (h.fits k v q.1))
      (at_set views id k (Pool r (suc n) 0) v t))
      (λ t. subst (λ y. Fits r more (done_of h.stands) h.turns k y) t.1 (subst (λ j. IsSeated r more (done_of h.stands) h.turns j new) (sym (t.0 ∙ same_length)) first))
      (at_end (set views id (Pool r (suc n) 0)) (Worker new) v k e)

  seated : (t : ℕ) → t < suc h.seats.made → h.seats.gone ≤ t → HasSeat grown more t
  seated t l g = go (cases_eq t n)
    where
      go : (t ≡ n) ⊎ (t ≡ n → ⊥) → HasSeat grown more t
      go (inl e) = record {
        standing = new;
        view = subst (λ j. get_elem? grown j ≡ some (Worker new)) (sym (put_here h.seats.seat n (length views) t e)) (at_last (set views id (Pool r (suc n) 0)) (Worker new) (length views) same_length);
        thread = sym e;
      }
      go (inr ne) = record {
        standing = s.standing;
        view = subst (λ j. get_elem? grown j ≡ some (Worker s.standing)) (sym (put_else h.seats.seat n (length views) t ne))
            (at_longer (set views id (Pool r (suc n) 0)) (Worker new ∷ []) (h.seats.seat t) (Worker s.standing) (set_else views id (h.seats.seat t) (Pool r (suc n) 0) apart ∙ s.view));
        thread = s.thread;
      }
        where
          s : HasSeat views h.seats t
          s = h.seated t (let m = mine.2 in let k : t ≢ n = ne in omega arith) g

          apart : h.seats.seat t ≢ id
          apart e = let q : Worker s.standing ≡ Pool r n 0 = some-injective (Worker s.standing) (Pool r n 0) (sym s.view ∙ ap (get_elem? views) e ∙ at) in absurd cc

  pub split_keeps : Keeps r words grown
  split_keeps = record {
    run_is = h.run_is;
    wide = h.wide;
    turns = h.turns;
    clock = h.clock;
    bound = h.bound;
    stands = h.stands;
    seats = more;
    fits = fits;
    few_gone = let l = h.few_gone in omega arith;
    seated = seated;
    gathered = h.gathered;
    unseated = λ t l. h.unseated t (omega arith);
    memory = h.memory;
  }

pub splits : (id : ℕ) (v : View) → may_split v ≡ true → Splits {S = NoSlot} {V = View} Holds id v (with_one_more v) (newcomer v)
splits id (Idle q) e = absurd cc
splits id (Laying q n) e = absurd cc
splits id (Worker w) e = absurd cc
splits id (Note q n) e = absurd cc
splits id (Sweeping q n) e = absurd cc
splits id Spent e = absurd cc
splits id (Pool r n zero) e = λ s holds at. inr (r, inr (inl (split_keeps r s.words s.views (pooled s id r n 0 holds at) id n at)))
splits id (Pool r n (suc m)) e = absurd (let z : suc m ≡ 0 = eqb-true (suc m) 0 e in omega arith)

-- ---- notes

module _ (words : List ℕ) (views : List View) (id : ℕ) (w : Standing) (h : Keeps w.run words views) (at : get_elem? views id ≡ some (Worker w)) where
  note_keeps : Keeps w.run words (views ++ Note w.run w.seen ∷ [])
  note_keeps = record {
    run_is = h.run_is;
    wide = h.wide;
    turns = h.turns;
    clock = h.clock;
    bound = h.bound;
    stands = h.stands;
    seats = h.seats;
    fits = λ k v e. ⊎_elim (λ t. h.fits k v t)
        (λ t. subst (λ y. Fits w.run h.seats (done_of h.stands) h.turns k y) t.1 (inl (refl, (seat w.run words views h id w at).seen)))
        (at_end views (Note w.run w.seen) v k e);
    few_gone = h.few_gone;
    seated = λ t l g. let s = h.seated t l g in record { standing = s.standing; view = at_longer views (Note w.run w.seen ∷ []) (h.seats.seat t) (Worker s.standing) s.view; thread = s.thread };
    gathered = h.gathered;
    unseated = h.unseated;
    memory = h.memory;
  }

pub notes : (id : ℕ) (v : View) → may_look v ≡ true → Splits {S = NoSlot} {V = View} Holds id v v (noted v)
notes id (Idle q) e = absurd cc
notes id (Laying q n) e = absurd cc
notes id (Pool q n m) e = absurd cc
notes id (Note q n) e = absurd cc
notes id (Sweeping q n) e = absurd cc
notes id Spent e = absurd cc
notes id (Worker w) e = λ s holds at. inr (
  w.run,
  inr (inl (subst (λ vs. Keeps w.run s.words (vs ++ Note w.run w.seen ∷ [])) (sym (set_again s.views id (Worker w) at))
      (note_keeps s.words s.views id w (running s id w holds at) at))),
)

-- a note is spent
module _ (run : Run) (words : List ℕ) (views : List View) (h : Keeps run words views) (id : ℕ) (r : Run) (n : ℕ) (at : get_elem? views id ≡ some (Note r n)) where
  spend : Keeps run words (set views id Spent)
  spend = record {
    run_is = h.run_is;
    wide = h.wide;
    turns = h.turns;
    clock = h.clock;
    bound = h.bound;
    stands = h.stands;
    seats = h.seats;
    fits = λ k v e. ⊎_elim (λ t. subst (λ y. Fits run h.seats (done_of h.stands) h.turns k y) t.1 tt) (λ t. h.fits k v t.1) (at_set views id k Spent v e);
    few_gone = h.few_gone;
    seated = λ t l g. let s = h.seated t l g in record {
      standing = s.standing;
      view = set_else views id (h.seats.seat t) Spent (λ q. apart s.standing (sym s.view ∙ ap (get_elem? views) q ∙ at)) ∙ s.view;
      thread = s.thread;
    };
    gathered = h.gathered;
    unseated = h.unseated;
    memory = h.memory;
  }
    where
      apart : (u : Standing) → some (Worker u) ≡ some (Note r n) → ⊥
      apart u e = let q : Worker u ≡ Note r n = some-injective (Worker u) (Note r n) e in absurd cc

take_keeps : (id : ℕ) (w : Standing) (other : ℕ) (r : Run) (n : ℕ) → r.epoch ≡ w.run.epoch → Joins {S = NoSlot} {V = View} Holds id (Worker w) other (Note r n) (told (Worker w) (Note r n)) Spent
take_keeps id w other r n e = λ s holds at ne there.
    let h = running s id w holds at in
    let k = seat w.run s.words s.views h id w at in
    let before : get_elem? s.views other ≡ some (Note r n) = sym (set_else s.views id other (told (Worker w) (Note r n)) ne) ∙ there in
    let low : n ≤ h.turns = below h.turns (h.fits other (Note r n) before) in
    let c = knows s.words s.views id w h at w.due (max w.seen n) w.looks k.due (λ v. v) (max-le k.seen low) in
    inr (w.run, inr (inl (spend w.run s.words (set s.views id (told (Worker w) (Note r n))) c other r n there)))
  where
    below : (g : ℕ) → ((r ≡ w.run) × (n ≤ g)) ⊎ (r.epoch < w.run.epoch) → n ≤ g
    below g (inl f) = f.1
    below g (inr f) = absurd (omega arith)

pub takes : (id : ℕ) (v : View) (other : ℕ) (u : View) → may_take v u ≡ true → Joins {S = NoSlot} {V = View} Holds id v other u (told v u) Spent
takes id (Idle q) other u e = absurd cc
takes id (Laying q n) other u e = absurd cc
takes id (Pool q n m) other u e = absurd cc
takes id (Note q n) other u e = absurd cc
takes id (Sweeping q n) other u e = absurd cc
takes id Spent other u e = absurd cc
takes id (Worker w) other (Idle q) e = absurd cc
takes id (Worker w) other (Laying q n) e = absurd cc
takes id (Worker w) other (Pool q n m) e = absurd cc
takes id (Worker w) other (Worker u) e = absurd cc
takes id (Worker w) other (Sweeping q n) e = absurd cc
takes id (Worker w) other Spent e = absurd cc
takes id (Worker w) other (Note r n) e = take_keeps id w other r n (eqb-true r.epoch w.run.epoch e)

-- ---- a seat is taken back

module _ (run : Run) (words : List ℕ) (views : List View) (h : Keeps run words views) (id n other : ℕ) (w : Standing) (apart : other ≢ id)
    (at : get_elem? views id ≡ some (Pool run n w.thread)) (bt : get_elem? views other ≡ some (Worker w)) (no_parts : w.parts ≡ 0) where
  pool : (run ≡ run) × (id ≡ h.seats.pool) × (n ≡ h.seats.made) × (w.thread ≡ h.seats.gone)
  pool = h.fits id (Pool run n w.thread) at

  old_seat : IsSeated run h.seats (done_of h.stands) h.turns other w
  old_seat = seat run words views h other w bt

  abbrev pub fewer : Seats
  fewer = record { made = h.seats.made; gone = suc h.seats.gone; pool = h.seats.pool; seat = h.seats.seat; parts = h.seats.parts }

  abbrev pub left_views : List View
  left_views = set (set views id (Pool run n (suc w.thread))) other Spent

  stays : (k : ℕ) (v : View) → k ≢ id → k ≢ other → Fits run h.seats (done_of h.stands) h.turns k v → Fits run fewer (done_of h.stands) h.turns k v
  stays k (Idle e) ne out f = f
  stays k (Laying q m) ne out f = f
  stays k (Sweeping q m) ne out f = f
  stays k (Pool q m i) ne out f = absurd (ne (f.1 ∙ sym pool.1))
  stays k (Note q m) ne out f = f
  stays k Spent ne out f = f
  stays k (Worker u) ne out f = record {
    same_run = f.same_run;
    seated = f.seated;
    made = f.made;
    left = above (cases_eq u.thread w.thread);
    done_is = f.done_is;
    parts_is = f.parts_is;
    due = f.due;
    some_parts = f.some_parts;
    few_parts = f.few_parts;
    seen = f.seen;
  }
    where
      above : (u.thread ≡ w.thread) ⊎ (u.thread ≡ w.thread → ⊥) → suc h.seats.gone ≤ u.thread
      above (inl e) = absurd (out (f.seated ∙ ap h.seats.seat e ∙ sym old_seat.seated))
      above (inr e) = let l = f.left in let g = pool.3 in let d : u.thread ≢ w.thread = e in omega arith

  gather_fits : (k : ℕ) (v : View) → get_elem? left_views k ≡ some v → Fits run fewer (done_of h.stands) h.turns k v
  gather_fits k v e = ⊎_elim
      (λ t. subst (λ y. Fits run fewer (done_of h.stands) h.turns k y) t.1 tt)
      (λ t. ⊎_elim
      (λ q. subst (λ y. Fits run fewer (done_of h.stands) h.turns k y) q.1 (refl, q.0 ∙ pool.1, pool.2, ap suc pool.3))
      (λ q. stays k v q.0 t.0 (h.fits k v q.1))
      (at_set views id k (Pool run n (suc w.thread)) v t.1))
      (at_set (set views id (Pool run n (suc w.thread))) other k Spent v e)

  gather_seated : (t : ℕ) → t < h.seats.made → suc h.seats.gone ≤ t → HasSeat left_views fewer t
  gather_seated t l g = record {
    standing = s.standing;
    view = set_else (set views id (Pool run n (suc w.thread))) other (h.seats.seat t) Spent not_other ∙ set_else views id (h.seats.seat t) (Pool run n (suc w.thread)) not_pool ∙ s.view;
    thread = s.thread;
  }
    where
      s : HasSeat views h.seats t
      s = h.seated t l (omega arith)

      worker_same : (u v : Standing) → some (Worker u) ≡ some (Worker v) → u ≡ v
      worker_same u v q = let k : Worker u ≡ Worker v = some-injective (Worker u) (Worker v) q in cc

      not_other : h.seats.seat t ≢ other
      not_other e =
          let q : w.thread ≡ t = ap (λ (u : Standing). u.thread) (worker_same w s.standing (sym bt ∙ sym (ap (get_elem? views) e) ∙ s.view)) ∙ s.thread in
          let f = pool.3 in omega arith

      not_pool : h.seats.seat t ≢ id
      not_pool e = let q : Worker s.standing ≡ Pool run n w.thread = some-injective (Worker s.standing) (Pool run n w.thread) (sym s.view ∙ ap (get_elem? views) e ∙ at) in absurd cc

  pub gather_keeps : Keeps run words left_views
  gather_keeps = record {
    run_is = h.run_is;
    wide = h.wide;
    turns = h.turns;
    clock = h.clock;
    bound = h.bound;
    stands = h.stands;
    seats = fewer;
    fits = gather_fits;
    few_gone = let l = old_seat.made in let g = pool.3 in omega arith;
    seated = gather_seated;
    gathered = λ t l. last t l (cases_eq t w.thread);
    unseated = h.unseated;
    memory = h.memory;
  }
    where
      last : (t : ℕ) → t < suc h.seats.gone → (t ≡ w.thread) ⊎ (t ≡ w.thread → ⊥) → h.seats.parts t ≡ 0
      last t l (inl e) = ap h.seats.parts e ∙ sym old_seat.parts_is ∙ no_parts
      last t l (inr e) = h.gathered t (let g = pool.3 in let d : t ≢ w.thread = e in omega arith)

gather_join : (id : ℕ) (r : Run) (n m other : ℕ) (w : Standing) → w.thread ≡ m → w.parts ≡ 0 → Joins {S = NoSlot} {V = View} Holds id (Pool r n m) other (Worker w) (Pool r n (suc m)) Spent
gather_join id r n m other w is no_parts = λ s holds at ne there.
    let h = pooled s id r n m holds at in
    let before : get_elem? s.views other ≡ some (Worker w) = sym (set_else s.views id other (Pool r n (suc m)) ne) ∙ there in
    inr (
      r,
      inr (inl (subst (λ k. Keeps r s.words (set (set s.views id (Pool r n (suc k))) other Spent)) is
          (gather_keeps r s.words s.views h id n other w ne (subst (λ k. get_elem? s.views id ≡ some (Pool r n k)) (sym is) at) before no_parts))),
    )

pub gathers : (id : ℕ) (v : View) (other : ℕ) (u : View) → may_gather v u ≡ true → Joins {S = NoSlot} {V = View} Holds id v other u (gathered v u) Spent
gathers id (Idle q) other u e = absurd cc
gathers id (Laying q n) other u e = absurd cc
gathers id (Worker q) other u e = absurd cc
gathers id (Note q n) other u e = absurd cc
gathers id (Sweeping q n) other u e = absurd cc
gathers id Spent other u e = absurd cc
gathers id (Pool r n m) other (Idle q) e = absurd cc
gathers id (Pool r n m) other (Laying q i) e = absurd cc
gathers id (Pool r n m) other (Pool q i j) e = absurd cc
gathers id (Pool r n m) other (Note q i) e = absurd cc
gathers id (Pool r n m) other (Sweeping q i) e = absurd cc
gathers id (Pool r n m) other Spent e = absurd cc
gathers id (Pool r n m) other (Worker w) e =
    let b = and_parts (w.thread == m) (w.parts == 0) e in
    gather_join id r n m other w (eqb-true w.thread m b.0) (eqb-true w.parts 0 b.1)
