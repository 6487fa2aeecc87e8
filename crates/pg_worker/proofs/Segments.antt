-- Steps of a worker one after another, and what its own state asks.
use Rattle.std.proofs.Common.{◌≡◌, ◌<◌, ℕ, suc, length, Bool, true, false, refl, sym, ◌∙◌, ap, subst, arith}
use Rattle.std.specs.Prelude.{◌==◌, ◌||◌}
use Rattle.std.proofs.lemmas.Bool.{eq-eqb, eqb-true, false_from_ne_true}
use Rattle.pg_seats.specs.pg_ir.Program.{NumberedProgram}
use Rattle.pg_seats.specs.pg_run_thread.Advance.{advanced, done_if, local_told}
use Rattle.pg_seats.specs.pg_run_thread.LocalState.{LocalState}
use Rattle.pg_seats.specs.pg_run_thread.States.{IsOf}
use Rattle.pg_seats.specs.pg_run_thread.Step.{after, next}
use Rattle.pg_seats.specs.pg_run_thread.declared.action.Action.{Action}
use Rattle.pg_seats.specs.pg_run_thread.declared.action.Action.TheVariants as actions
use Rattle.pg_seats.specs.pg_run_thread.declared.advance.Advance.{Advance}
use Rattle.pg_seats.specs.pg_run_thread.declared.advance.Advance.TheVariants.{Asks, Done}
use Rattle.pg_seats.specs.pg_run_thread.declared.advance.LocalStep.{LocalStep}
use Rattle.pg_worker.specs.declared.worker.Paused.{Paused}
use Rattle.pg_worker.specs.declared.worker.Paused.TheVariants as pauses
use Rattle.pg_worker.specs.declared.worker.Worker.{Worker}
use Rattle.pg_seats.specs.pg_run_thread.Told.{id_of}
use Rattle.pg_seats.specs.pg_law_runs.Deeds.{is_event_at}
use Rattle.pg_seats.specs.pg_law_course.Rests.{is_trap}
use Rattle.pg_seats.specs.declared.run.Run.{Run}
use Rattle.pg_worker.specs.Standing.{HasPaused, HasToWait, HasWaited, IsResumed, TookOne, TookTurn, WentOn, is_end, is_stopped, waits_there}
use Rattle.pg_worker.proofs.DueTurns.{traps_not}

-- ---- what a thread's own state asks

pair : (a x : Action) (n l : LocalState) → Path (LocalState × Advance) (n, Asks a) (l, Asks x) → (n ≡ l) × (a ≡ x)
pair a x n l e = (ap (λ (q : LocalState × Advance). q.0) e, (let k : Asks a ≡ Asks x = ap (λ (q : LocalState × Advance). q.1) e in cc))

asks : (x a : Action) (l m n : LocalState) (t : LocalStep) → (n, Asks a) ≡ done_if x l m t → (n ≡ l) × (a ≡ x)
asks actions.Local a l m n t e = let k : Asks a ≡ Done t = ap (λ (q : LocalState × Advance). q.1) e in absurd (cc)
asks (actions.In i) a l m n t e = pair a _ n l e
asks actions.InLen a l m n t e = pair a _ n l e
asks (actions.Load r) a l m n t e = pair a _ n l e
asks (actions.Store r k) a l m n t e = pair a _ n l e
asks (actions.Event r) a l m n t e = pair a _ n l e
asks (actions.Trap name) a l m n t e = pair a _ n l e
asks actions.Ended a l m n t e = pair a _ n l e

not_done : (b : LocalStep) (x : Action) (n l : LocalState) → Path (LocalState × Advance) (n, Done b) (l, Asks x) → ⊥
not_done b x n l e = let k : Done b ≡ Asks x = ap (λ (q : LocalState × Advance). q.1) e in absurd (cc)

does : (x : Action) (b : LocalStep) (l m n : LocalState) (t : LocalStep) → (n, Done b) ≡ done_if x l m t → (x ≡ actions.Local) × (n ≡ m)
does actions.Local b l m n t e = (refl, ap (λ (q : LocalState × Advance). q.0) e)
does (actions.In i) b l m n t e = absurd (not_done b _ n l e)
does actions.InLen b l m n t e = absurd (not_done b _ n l e)
does (actions.Load r) b l m n t e = absurd (not_done b _ n l e)
does (actions.Store r k) b l m n t e = absurd (not_done b _ n l e)
does (actions.Event r) b l m n t e = absurd (not_done b _ n l e)
does (actions.Trap name) b l m n t e = absurd (not_done b _ n l e)
does actions.Ended b l m n t e = absurd (not_done b _ n l e)

pub it_asks : (p : NumberedProgram) (l n : LocalState) (a : Action) → (n, Asks a) ≡ advanced p l → (n ≡ l) × (a ≡ next p l)
unfolding advanced
it_asks p l n a e = asks (next p l) a l (after p l 0) n (local_told p l) e

pub it_does : (p : NumberedProgram) (l n : LocalState) (b : LocalStep) → (n, Done b) ≡ advanced p l → (next p l ≡ actions.Local) × (n ≡ after p l 0)
unfolding advanced
it_does p l n b e = does (next p l) b l (after p l 0) n (local_told p l) e

-- ---- one after another

pub went_none : (a : Worker) → WentOn a a
went_none a = record { thread = refl; turns = refl; done = omega arith; left = omega arith; seen = omega arith; looks = omega arith }

pub went_more : (a b c : Worker) → WentOn a b → WentOn b c → WentOn a c
went_more a b c h k = record {
  thread = k.thread ∙ h.thread;
  turns = k.turns ∙ h.turns;
  done = (let x = h.done in let y = k.done in omega (arith, x, y));
  left = (let x = h.left in let y = k.left in omega (arith, x, y));
  seen = (let x = h.seen in let y = k.seen in omega (arith, x, y));
  looks = (let x = h.looks in let y = k.looks in omega (arith, x, y));
}

pub went_step : (a b c : Worker) → WentOn a b → TookOne b c → WentOn a c
went_step a b c h k = went_more a b c h k.went

pub wait_later : (a b c : Worker) → WentOn a b → HasToWait b c → HasToWait a c
wait_later a b c h k = record { looked = (let x = h.looks in let y = k.looked in omega (arith, x, y)); early = k.early }

-- ---- a worker whose own state was looked at

pub same_fiber : (a : Worker) (l : LocalState) → l ≡ a.fiber → record a { fiber = l } ≡ a
same_fiber a l e = ap (λ (f : LocalState). record a { fiber = f }) e

-- a step that was done by its own state alone
pub done_own : (p : NumberedProgram) (a : Worker) (l : LocalState) (left : ℕ) → l ≡ after p a.fiber 0 → IsOf p l → suc left ≡ a.left → IsResumed p 0 a (record a { fiber = l; left = left })
done_own p a l left e of n = record { fiber = e; of = of; left = n; thread = refl; turns = refl; done = refl; prints = refl; value = refl; pages = refl }

-- ---- a worker that waits

pub stands_there : (r : Run) (l : LocalState) (x : Action) → next r.program l ≡ x → is_event_at r.schedule.gated (id_of l) x ≡ true → waits_there r l ≡ true
stands_there r l x e h = ap (λ (b : Bool). b || is_end (next r.program l)) (ap (is_event_at r.schedule.gated (id_of l)) e ∙ h)

pub ends_there : (r : Run) (l : LocalState) → next r.program l ≡ actions.Ended → waits_there r l ≡ true
ends_there r l e = ap (λ (x : Action). is_event_at r.schedule.gated (id_of l) x || is_end x) e

-- b is a, which waits, but for its seat
module _ (a b : Worker) (same : b ≡ record a { seat = b.seat }) where
  pub still_left : 0 < a.left → 0 < b.left
  still_left h = let e : b.left ≡ a.left = ap (λ (w : Worker). w.left) same in omega (arith, e, h)

  pub still_turn : a.done < length a.turns.items → b.done < length b.turns.items
  still_turn h = subst (λ (w : Worker). w.done < length w.turns.items) (sym same) h

  pub still_fiber : b.fiber ≡ a.fiber
  still_fiber = ap (λ (w : Worker). w.fiber) same

  pub still_goes : (r : Run) → 0 < a.left → waits_there r a.fiber ≡ true → is_stopped r.program b ≡ false
  still_goes r few waits = ap (is_stopped r.program) same ∙ none (is_trap (next r.program a.fiber)) refl
    where
      none : (t : Bool) → is_trap (next r.program a.fiber) ≡ t → is_stopped r.program a ≡ false
      none true e = absurd (traps_not r.schedule.gated (id_of a.fiber) (next r.program a.fiber) e waits)
      none false e = ap (λ (x : Bool). x || (a.left == 0)) e ∙ false_from_ne_true (a.left == 0) (λ z. (let k = eqb-true a.left 0 z in omega (arith, k, few)))

  -- c is b behind a turn
  pub took_late : (c : Worker) → WentOn a b → TookTurn b c → TookOne a c
  took_late c w t = record {
    one = (let x = t.took.one in let y : b.left ≡ a.left = ap (λ (w : Worker). w.left) same in omega (arith, x, y));
    went = went_more a b c w t.took.went;
  }

-- ---- why it pauses

pub spent_pauses : (r : Run) (a : Worker) → a.done < length a.turns.items → a.left ≡ 0 → WentOn a a × HasPaused r pauses.Stopped a a
spent_pauses r a turn e = (went_none a, (turn, go (is_trap (next r.program a.fiber))))
  where
    go : (b : Bool) → (b || (a.left == 0)) ≡ true
    go true = refl
    go false = eq-eqb a.left 0 e

pub waiting_pauses : (r : Run) (a b : Worker) → a.done < length a.turns.items → HasWaited r a b → WentOn a b × HasPaused r pauses.Waiting a b
waiting_pauses r a b turn h = (h.went, record { turn = still_turn a b h.same turn; waits = h.waits; goes = h.goes; stands = h.stands })

pub trap_pauses : (r : Run) (a b : Worker) → a.done < length a.turns.items → (b ≡ a) × (is_trap (next r.program a.fiber) ≡ true) → WentOn a b × HasPaused r pauses.Stopped a b
trap_pauses r a b turn h = subst (λ (w : Worker). WentOn a w × HasPaused r pauses.Stopped a w) (sym h.0) (went_none a, (turn, ap (λ (x : Bool). x || (a.left == 0)) h.1))

-- a pause behind steps is one of the whole
pub paused_later : (r : Run) (x : Paused) (a b c : Worker) → WentOn a b → HasPaused r x b c → HasPaused r x a c
paused_later r pauses.Done a b c w h = h
paused_later r pauses.Waiting a b c w h = record { turn = h.turn; waits = wait_later a b c w h.waits; goes = h.goes; stands = h.stands }
paused_later r pauses.Stopped a b c w h = h
