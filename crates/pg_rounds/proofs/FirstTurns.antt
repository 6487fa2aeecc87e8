-- The first of the workers' next turns.
use Rattle.std.proofs.Common.{◌≡◌, ℕ, suc, ◌+◌, ◌<◌, ◌≤◌, ◌⊎◌, inl, inr, List, length, Bool, true, false, Option, Some, None, refl, sym, ◌∙◌, ap, subst, arith}
use Rattle.std.specs.Prelude.{◌==◌, ◌||◌, not, IfNone, IfSome, slice_index_or, if◌then◌else◌}
use Rattle.std.proofs.lemmas.Bool.{cases_lt}
use Rattle.pg_room.specs.pg_ir.declared.ids.ThreadNo.{ThreadNo}
use Rattle.pg_room.specs.pg_ir.Program.{NumberedProgram}
use Rattle.pg_room.specs.pg_run.declared.guided_end.GuidedEnd.TheVariants as ends
use Rattle.pg_room.specs.pg_run_thread.declared.action.Action.{Action}
use Rattle.pg_room.specs.pg_run_thread.declared.action.Action.TheVariants as actions
use Rattle.pg_room.specs.pg_run_thread.Step.{next}
use Rattle.pg_room.specs.pg_run_thread.Told.{id_of}
use Rattle.pg_room.specs.pg_law_course.Rests.{is_trap, trap_end}
use Rattle.pg_room.specs.pg_worker.declared.worker.Worker.{Worker}
use Rattle.pg_room.specs.pg_worker.Standing.{end_by, is_stopped, next_turn_of}
use Rattle.pg_rounds.specs.Turns.{AreDone, IsAwaited, IsFirst, IsFirstOf, IsNext, IsOver, IsSooner, is_strayed}

-- a place below the next is below this one, or is this one
either : (t n : ℕ) → t < suc n → (t < n) ⊎ (t ≡ n)
either t n lt = go (cases_lt t n)
  where
    go : (t < n) ⊎ (n ≤ t) → (t < n) ⊎ (t ≡ n)
    go (inl l) = inl l
    go (inr l) = inr (omega (arith, l, lt))

module _ (ws : List Worker) (n : ℕ) where
  abbrev HasNext : Option ℕ → Type 0
  HasNext next = (d : Worker) → next_turn_of (slice_index_or ws n d) ≡ next

  number_is : (next : ℕ) → HasNext (Some next) → (u h : ℕ) (d : Worker) → u ≡ n → next_turn_of (slice_index_or ws u d) ≡ Some h → next ≡ h
  number_is next e u h d q k =
      let both : Path (Option ℕ) (Some next) (Some h) = sym (e d) ∙ ap (λ (i : ℕ). next_turn_of (slice_index_or ws i d)) (sym q) ∙ k in
      cc

  no_number : HasNext None → (u h : ℕ) (d : Worker) → u ≡ n → next_turn_of (slice_index_or ws u d) ≡ Some h → ⊥
  no_number e u h d q k =
      let both : Path (Option ℕ) None (Some h) = sym (e d) ∙ ap (λ (i : ℕ). next_turn_of (slice_index_or ws i d)) (sym q) ∙ k in
      cc

  none_more : IsFirstOf ws n None → HasNext None → IsFirstOf ws (suc n) None
  none_more h e t d lt = go (either t n lt)
    where
      go : (t < n) ⊎ (t ≡ n) → next_turn_of (slice_index_or ws t d) ≡ None
      go (inl l) = h t d l
      go (inr q) = ap (λ (i : ℕ). next_turn_of (slice_index_or ws i d)) q ∙ e d

  first_here : (next : ℕ) → HasNext (Some next) → ((u h : ℕ) (d : Worker) → u < n → next_turn_of (slice_index_or ws u d) ≡ Some h → next ≤ h) → IsFirst ws (suc n) n next
  first_here next e least = record {
    within = omega arith;
    own = e;
    least = λ u h d lt k. go u h d k (either u n lt);
  }
    where
      go : (u h : ℕ) (d : Worker) → next_turn_of (slice_index_or ws u d) ≡ Some h → (u < n) ⊎ (u ≡ n) → next ≤ h
      go u h d k (inl l) = least u h d l k
      go u h d k (inr q) = let s = number_is next e u h d q k in omega (arith, s)

  first_stays : (t g : ℕ) → IsFirst ws n t g → ((u h : ℕ) (d : Worker) → u ≡ n → next_turn_of (slice_index_or ws u d) ≡ Some h → g ≤ h) → IsFirst ws (suc n) t g
  first_stays t g f later = record {
    within = let w = f.within in omega (arith, w);
    own = f.own;
    least = λ u h d lt k. go u h d k (either u n lt);
  }
    where
      go : (u h : ℕ) (d : Worker) → next_turn_of (slice_index_or ws u d) ≡ Some h → (u < n) ⊎ (u ≡ n) → g ≤ h
      go u h d k (inl l) = f.least u h d l k
      go u h d k (inr q) = later u h d q k

  more_of : (found : Option (ℕ × ℕ)) (next : Option ℕ) (o : Option (ℕ × ℕ)) → IsFirstOf ws n found → HasNext next → IsSooner found n next o → IsFirstOf ws (suc n) o
  more_of None None o f e s = subst (IsFirstOf ws (suc n)) (sym s) (none_more f e)
  more_of None (Some g) o f e s = subst (IsFirstOf ws (suc n)) (sym s)
      (first_here g e (λ u h d lt k. (let both : Path (Option ℕ) None (Some h) = sym (f u d lt) ∙ k in absurd cc)))
  more_of (Some x) None o f e s = subst (IsFirstOf ws (suc n)) (sym s) (first_stays x.0 x.1 f (λ u h d q k. absurd (no_number e u h d q k)))
  more_of (Some x) (Some g) o f e (inl s) = subst (IsFirstOf ws (suc n)) (sym s.1)
      (first_stays x.0 x.1 f (λ u h d q k. (let m = number_is g e u h d q k in let l = s.0 in omega (arith, m, l))))
  more_of (Some x) (Some g) o f e (inr s) = subst (IsFirstOf ws (suc n)) (sym s.1)
      (first_here g e (λ u h d lt k. (let m = f.least u h d lt k in let l = s.0 in omega (arith, m, l))))

  pub first_more : (found : Option (ℕ × ℕ)) (next : Option ℕ) (o : Option (ℕ × ℕ)) → IsFirstOf ws n found → HasNext next → IsSooner found n next o → IsFirstOf ws (n + 1) o
  first_more found next o f e s = subst (λ (m : ℕ). IsFirstOf ws m o) (let q : suc n ≡ n + 1 = omega arith in q) (more_of found next o f e s)

-- behind all of them
pub first_of_all : (ws : List Worker) (n : ℕ) (found : Option (ℕ × ℕ)) → IsFirstOf ws n found → n ≡ length ws → IsFirstOf ws (length ws) found
first_of_all ws n found f q = subst (λ (m : ℕ). IsFirstOf ws m found) q f

pub none_is : (ws : List Worker) (found : Option (ℕ × ℕ)) → IsFirstOf ws (length ws) found → IfNone found (AreDone ws)
none_is ws None f = f
none_is ws (Some x) f = tt

pub some_is : (ws : List Worker) (found : Option (ℕ × ℕ)) → IsFirstOf ws (length ws) found → IfSome found (λ (x : ℕ × ℕ). IsNext ws x.0 x.1)
some_is ws None f = tt
some_is ws (Some x) f = f

-- what a run awaits, by whether it awaits a turn
pub awaited_none : (p : NumberedProgram) (ws : List Worker) (o : Option (ℕ × ℕ)) → o ≡ None → IfNone o (IsOver p ws) → IsOver p ws
awaited_none p ws None e h = h
awaited_none p ws (Some x) e h = absurd cc

pub awaited_some : (p : NumberedProgram) (ws : List Worker) (o : Option (ℕ × ℕ)) (t g : ℕ) → o ≡ Some (t, g) → IfSome o (λ (x : ℕ × ℕ). IsAwaited p ws x.0 x.1) → IsAwaited p ws t g
awaited_some p ws o t g e h = subst (λ (x : Option (ℕ × ℕ)). IfSome x (λ (y : ℕ × ℕ). IsAwaited p ws y.0 y.1)) e h

-- ---- a worker that is stopped has an end

tells : (b : Bool) (t : ThreadNo) (id : ℕ) (a : Action) → not (is_strayed (if b then ends.Budget t else trap_end id a)) ≡ (is_trap a || b)
tells true t id a = go (is_trap a)
  where
    go : (c : Bool) → true ≡ (c || true)
    go true = refl
    go false = refl
tells false t id (actions.Trap name) = refl
tells false t id actions.Local = refl
tells false t id (actions.In i) = refl
tells false t id actions.InLen = refl
tells false t id (actions.Load q) = refl
tells false t id (actions.Store q n) = refl
tells false t id (actions.Event q) = refl
tells false t id actions.Ended = refl

pub end_tells : (p : NumberedProgram) (w : Worker) → not (is_strayed (end_by p w)) ≡ is_stopped p w
end_tells p w = tells (w.left == 0) w.thread (id_of w.fiber) (next p w.fiber)
