-- One seat's view changes, and the words may too: what has to hold so that the rule is kept.
use Rattle.std.proofs.Common.{◌≡◌, ◌≢◌, ℕ, zero, suc, [], ◌∷◌, ◌+◌, ◌<◌, ◌≤◌, ◌⊎◌, inl, inr, ⊎_elim, ◌==◌, Bool, true, length, List, Option, Some, None, set, refl, sym, ap, ◌∙◌, subst, arith}
use Rattle.std.specs.Prelude.{slice_get, slice_index, if◌then◌else◌}
use Rattle.std.proofs.lemmas.Bool.{cases_lt, cases_eq, eqb-true, eq-eqb, ne_eqb, and_parts}
use mathlib.Core.Option.{some, some-injective, some-ne-none}
use lib.ListN.{get_elem?}
use Rattle.atomic_table.proofs.Lists.{at_set, set_else}
use Rattle.pg_law_course.specs.pg_num.declared.layout.TheConstants.{MEMORY_BYTES}
use Rattle.pg_law_course.specs.pg_num.declared.limits.TheConstants.{THREAD_LIMIT}
use Rattle.pg_law_course.specs.pg_law_threads.Effects.{deeds}
use Rattle.pg_law_course.specs.pg_law_threads.Intervals.{Timed, turns_done}
use Rattle.pg_law_course.specs.pg_law_threads.Standing.{Stands, done_of, left_by}
use Rattle.pg_law_course.proofs.of_pg_law_threads.StepsAtCuts.{turn_of}
use Rattle.pg_law_course.specs.pg_law_runs.Deeds.{Did}
use Rattle.pg_words.specs.declared.layout.TheConstants.{TURN_WORD}
use Rattle.pg_seats.specs.declared.run.Run.{Run}
use Rattle.pg_seats.specs.declared.run.Standing.{Standing}
use Rattle.pg_seats.specs.declared.run.View.{View}
use Rattle.pg_seats.specs.declared.run.View.TheVariants.{Idle, Laying, Pool, Worker, Note, Sweeping, Spent}
use Rattle.pg_seats.specs.Plan.{IsEnforced, first_of, own_of, plan_of, turns_in}
use Rattle.pg_seats.specs.Views.{fits, is_due, is_turn, needed, next_of}
use Rattle.pg_seats.specs.Rule.{cell_in, Seats, IsSeated, Fits, HasSeat, Keeps, over_turn}
use Rattle.pg_seats.proofs.RunFacts as runs

pub some_same : {A : Type 0} (x y : A) → Some x ≡ Some y → x ≡ y
some_same x y e = cc

pub fits-some : (f : Timed Did → Bool) (o : Option (Timed Did)) → fits f o ≡ true → (x : Timed Did) × (o ≡ Some x) × (f x ≡ true)
fits-some f None e = absurd cc
fits-some f (Some x) e = (x, refl, e)

pub next_is : (w : Standing) (x : Timed Did) → next_of w ≡ Some x → slice_get (own_of w.run w.thread) w.done ≡ Some x
unfolding next_of
next_is w x e = e

-- ---- what a seat that is due has next

pub record Due (run : Run) (t m g : ℕ) : Type 0 where
  pub step : Timed Did
  pub next : slice_get (own_of run t) m ≡ Some step
  pub event : deeds.is_event step.did ≡ true
  pub number : step.high ≡ g

pub due_next : (w : Standing) (n : ℕ) → is_due w n ≡ true → Due w.run w.thread w.done n
due_next w n e =
    let f = fits-some (is_turn n) (next_of w) e in
    let b = and_parts (deeds.is_event f.0.did) (f.0.high == n) f.2 in
    record { step = f.0; next = next_is w f.0 f.1; event = b.0; number = eqb-true f.0.high n b.1 }

-- the thread that has the next turn owns it
pub owner_is : (run : Run) (t m g : ℕ) → IsEnforced run → Due run t m g → (slice_get (turns_in run) g ≡ Some t) × (g < turns_done deeds 0 (plan_of run))
owner_is run t m g h d =
    let o = turn_of (turns_in run) (plan_of run) (runs.plan run h) t m d.step d.next d.event in
    (subst (λ n. slice_get (turns_in run) n ≡ Some t) d.number o.0, subst (λ n. n < turns_done deeds 0 (plan_of run)) d.number o.1)

-- two that are due are one
pub one_due : (run : Run) (t u m k g : ℕ) → IsEnforced run → Due run t m g → Due run u k g → t ≡ u
one_due run t u m k g h d e = some_same t u (sym (owner_is run t m g h d).0 ∙ (owner_is run u k g h e).0)

-- ---- a function that is changed for one number

abbrev pub put_at : (ℕ → ℕ) → ℕ → ℕ → ℕ → ℕ
put_at f t n u = if u == t then n else f u

pub put_here : (f : ℕ → ℕ) (t n u : ℕ) → u ≡ t → put_at f t n u ≡ n
put_here f t n u e = rw (eq-eqb u t e) refl

pub put_else : (f : ℕ → ℕ) (t n u : ℕ) → u ≢ t → put_at f t n u ≡ f u
put_else f t n u ne = rw (ne_eqb u t ne) refl

pub in_list : {A : Type 0} (l : List A) (i : ℕ) (a b : A) → get_elem? l i ≡ some a → get_elem? (set l i b) i ≡ some b
in_list [] i a b e = absurd (some-ne-none a (sym e))
in_list (x ∷ xs) zero a b e = refl
in_list (x ∷ xs) (suc i) a b e = in_list xs i a b e

module _ (run : Run) (words : List ℕ) (views : List View) (h : Keeps run words views) where
  -- a thread with parts stands at the next turn
  pub under_way : (t : ℕ) → 0 < h.seats.parts t → Due run t (done_of h.stands t) h.turns
  under_way t has = go (cases_lt t h.seats.made)
    where
      go : (t < h.seats.made) ⊎ (h.seats.made ≤ t) → Due run t (done_of h.stands t) h.turns
      go (inr l) = let e = (h.unseated t l).1 in absurd (omega arith)
      go (inl l) = seated (cases_lt t h.seats.gone)
        where
          seated : (t < h.seats.gone) ⊎ (h.seats.gone ≤ t) → Due run t (done_of h.stands t) h.turns
          seated (inl g) = let e = h.gathered t g in absurd (omega arith)
          seated (inr g) =
              let s = h.seated t l g in
              let f : IsSeated run h.seats (done_of h.stands) h.turns (h.seats.seat t) s.standing = h.fits (h.seats.seat t) (Worker s.standing) s.view in
              let p = f.parts_is in
              let q : s.standing.parts ≡ h.seats.parts t = p ∙ ap h.seats.parts s.thread in
              let d = due_next s.standing h.turns (f.due (f.some_parts (omega arith))) in
              subst (λ k. Due run t k h.turns) (f.done_is ∙ ap (done_of h.stands) s.thread)
              (subst (λ k. Due run k s.standing.done h.turns) s.thread (subst (λ (r : Run). Due r s.standing.thread s.standing.done h.turns) f.same_run d))

  module _ (id : ℕ) (w : Standing) (at : get_elem? views id ≡ some (Worker w)) where
    pub seat : IsSeated run h.seats (done_of h.stands) h.turns id w
    seat = h.fits id (Worker w) at

    abbrev pub seats_with : ℕ → Seats
    seats_with parts = record { made = h.seats.made; gone = h.seats.gone; pool = h.seats.pool; seat = h.seats.seat; parts = put_at h.seats.parts w.thread parts }

    -- the view becomes w', the words ws, and so many turns are done
    pub record Change (w' : Standing) (ws : List ℕ) (g : ℕ) : Type 0 where
      pub run_is : w'.run ≡ run
      pub thread_is : w'.thread ≡ w.thread
      pub wide : length ws ≡ length words
      pub clock : slice_index ws TURN_WORD ≡ g
      pub later : h.turns ≤ g
      pub bound : g ≤ turns_done deeds 0 (plan_of run)
      pub stands : Stands (turns_in run) (plan_of run) g
      pub own_done : w'.done ≡ done_of stands w.thread
      pub others_done : (t : ℕ) → t ≢ w.thread → done_of stands t ≡ done_of h.stands t
      -- another seat that was due still is
      pub others_due : (u : Standing) → u.thread ≢ w.thread → u.run ≡ run → is_due u h.turns ≡ true → is_due u g ≡ true
      pub due : w'.due ≡ true → is_due w' g ≡ true
      pub some_parts : 0 < w'.parts → w'.due ≡ true
      pub few_parts : w'.parts ≤ needed (next_of w')
      pub seen : w'.seen ≤ g
      pub memory : (b : ℕ) → b < MEMORY_BYTES + THREAD_LIMIT → cell_in ws b
          ≡ over_turn run (done_of stands) (put_at h.seats.parts w.thread w'.parts) (slice_get (turns_in run) g) b ((left_by (first_of run) stands).cells b)

    module _ (w' : Standing) (ws : List ℕ) (g : ℕ) (c : Change w' ws g) where
      mine : Fits run (seats_with w'.parts) (done_of c.stands) g id (Worker w')
      mine = record {
        same_run = c.run_is;
        seated = seat.seated ∙ ap h.seats.seat (sym c.thread_is);
        made = subst (λ t. t < h.seats.made) (sym c.thread_is) seat.made;
        left = subst (λ t. h.seats.gone ≤ t) (sym c.thread_is) seat.left;
        done_is = c.own_done ∙ ap (done_of c.stands) (sym c.thread_is);
        parts_is = sym (put_here h.seats.parts w.thread w'.parts w'.thread c.thread_is);
        due = c.due;
        some_parts = c.some_parts;
        few_parts = c.few_parts;
        seen = c.seen;
      }

      others : (k : ℕ) (v : View) → k ≢ id → Fits run h.seats (done_of h.stands) h.turns k v → Fits run (seats_with w'.parts) (done_of c.stands) g k v
      others k (Idle e) ne f = f
      others k (Laying r n) ne f = f
      others k (Sweeping r n) ne f = f
      others k (Pool r n m) ne f = f
      others k (Note r n) ne (inl f) = inl (f.0, (let l = f.1 in let m = c.later in omega arith))
      others k (Note r n) ne (inr f) = inr f
      others k Spent ne f = f
      others k (Worker u) ne f = record {
        same_run = f.same_run;
        seated = f.seated;
        made = f.made;
        left = f.left;
        done_is = f.done_is ∙ sym (c.others_done u.thread apart);
        parts_is = f.parts_is ∙ sym (put_else h.seats.parts w.thread w'.parts u.thread apart);
        due = λ e. c.others_due u apart f.same_run (f.due e);
        some_parts = f.some_parts;
        few_parts = f.few_parts;
        seen = let l = f.seen in let m = c.later in omega arith;
      }
        where
          apart : u.thread ≢ w.thread
          apart q = ne (f.seated ∙ ap h.seats.seat q ∙ sym seat.seated)

      seat_of : (t : ℕ) → t < h.seats.made → h.seats.gone ≤ t → HasSeat (set views id (Worker w')) (seats_with w'.parts) t
      seat_of t l g = go (cases_eq (h.seats.seat t) id)
        where
          s : HasSeat views h.seats t
          s = h.seated t l g

          go : (h.seats.seat t ≡ id) ⊎ (h.seats.seat t ≡ id → ⊥) → HasSeat (set views id (Worker w')) (seats_with w'.parts) t
          go (inl e) = record {
            standing = w';
            view = subst (λ k. get_elem? (set views id (Worker w')) k ≡ some (Worker w')) (sym e) (in_list views id (Worker w) (Worker w') at);
            thread = c.thread_is ∙ same;
          }
            where
              worker_same : (u v : Standing) → some (Worker u) ≡ some (Worker v) → u ≡ v
              worker_same u v q = let k : Worker u ≡ Worker v = some-injective (Worker u) (Worker v) q in cc

              same : w.thread ≡ t
              same = ap (λ (u : Standing). u.thread) (worker_same w s.standing (sym at ∙ subst (λ k. get_elem? views k ≡ some (Worker s.standing)) e s.view)) ∙ s.thread
          go (inr ne) = record { standing = s.standing; view = set_else views id (h.seats.seat t) (Worker w') ne ∙ s.view; thread = s.thread }

      pub moved : Keeps run ws (set views id (Worker w'))
      moved = record {
        run_is = h.run_is;
        wide = c.wide ∙ h.wide;
        turns = g;
        clock = c.clock;
        bound = c.bound;
        stands = c.stands;
        seats = seats_with w'.parts;
        fits = λ k v e. ⊎_elim
            (λ t. subst (λ y. Fits run (seats_with w'.parts) (done_of c.stands) g k y) t.1 (subst (λ n. Fits run (seats_with w'.parts) (done_of c.stands) g n (Worker w')) (sym t.0) mine))
            (λ t. others k v t.0 (h.fits k v t.1))
            (at_set views id k (Worker w') v e);
        few_gone = h.few_gone;
        seated = seat_of;
        gathered = λ t l. put_else h.seats.parts w.thread w'.parts t (λ e. let m = seat.left in omega arith) ∙ h.gathered t l;
        unseated = λ t l. (
          c.others_done t (λ e. let m = seat.made in omega arith) ∙ (h.unseated t l).0,
          put_else h.seats.parts w.thread w'.parts t (λ e. let m = seat.made in omega arith) ∙ (h.unseated t l).1,
        );
        memory = c.memory;
      }

-- the rule speaks of the run that the view holds
pub same_run : (run : Run) (words : List ℕ) (views : List View) (id : ℕ) (w : Standing) → Keeps run words views → get_elem? views id ≡ some (Worker w) → w.run ≡ run
same_run run words views id w h at = (h.fits id (Worker w) at).same_run
