-- What threads ask for, and how many turns are done.
use Rattle.std.specs.List.{filter}
use Rattle.std.specs.Prelude.{if◌then◌else◌, is_some, slice_get}
use Rattle.std.proofs.Common.{◌++◌, ◌+◌, ◌∙◌, ◌∷◌, ◌≡◌, Bool, List, None, Option, Some, [], ap, arith, cond, drop, false, length, map, refl, subst, suc, sym, take}
use Rattle.std.proofs.Common.{true, zero, ℕ}
use Rattle.std.proofs.lemmas.Bool.{true≢false}
use Rattle.std.proofs.lemmas.List.{length-append}
use Rattle.pg_law_threads.specs.Effects.{deeds}
use Rattle.pg_law_threads.specs.Intervals.{done_after, turns_done}
use Rattle.pg_law_threads.proofs.DoneLists.{cons_head, cons_tail}
use Rattle.pg_ir.specs.Program.{NumberedProgram}
use Rattle.pg_ir.specs.declared.ids.InstrId.{InstrId}
use Rattle.pg_ir.specs.declared.request.Request.{Request}
use Rattle.pg_ir.specs.declared.request.Request.TheVariants as requests
use Rattle.pg_run_objects.specs.Sync as sync
use Rattle.pg_run_thread.specs.LocalState.{Frame, LocalState}
use Rattle.pg_run_thread.specs.States.{CanStep}
use Rattle.pg_run_thread.specs.Step.{frames_action, next as next_action}
use Rattle.pg_run_thread.specs.declared.action.Action.{Action}
use Rattle.pg_run_thread.specs.declared.action.Action.TheVariants as actions
use Rattle.pg_run_trace.specs.Steps.{events}
use Rattle.pg_run_trace.specs.declared.step.Step.{Step}
use Rattle.pg_run_trace.specs.declared.turn.Turn.{Turn}
use Rattle.pg_run.specs.MachineStep.{happening_of, is_ended, trap_of, turn_of, turn_with}
use Rattle.pg_run.specs.State.{State, action_in, next_of}
use Rattle.pg_law_effects.specs.Views.{begun_in, local_at}
use Rattle.pg_law_effects.proofs.ThreadLimits.{IsAllowed}
use Rattle.pg_law_plan.specs.pg_law_runs.Deeds.{owners_of}
use Rattle.pg_law_plan.specs.pg_law_runs.Answered.{Answered, answers}
use Rattle.pg_law_plan.specs.Moves.{RunDeed}
use Rattle.pg_law_plan.proofs.SameReplies.{answered_turns}

-- ---- lists

pub same_head : {A : Type 0} (xs : List A) (a b : A) (ys zs : List A) → xs ++ a ∷ ys ≡ xs ++ b ∷ zs → a ≡ b
same_head [] a b ys zs e = cons_head e
same_head (x ∷ xs) a b ys zs e = same_head xs a b ys zs (cons_tail e)

pub longer : {A : Type 0} (xs : List A) (a : A) (ys : List A) → xs ≡ xs ++ a ∷ ys → ⊥
longer xs a ys e = let k = ap length e in let l = length-append xs (a ∷ ys) in absurd (omega (arith, k, l))

pub owners_length : (us : List Turn) → length (owners_of us) ≡ length us
owners_length [] = refl
owners_length (u ∷ us) = ap suc (owners_length us)

pub front_whole : (n : ℕ) (us : List Turn) → drop n us ≡ [] → take n us ≡ us
front_whole zero us e = sym e
front_whole (suc n) [] e = refl
front_whole (suc n) (u ∷ us) e = ap (λ (l : List Turn). u ∷ l) (front_whole n us e)

pub front_length : (n : ℕ) (us : List Turn) (v : Turn) (vs : List Turn) → drop n us ≡ v ∷ vs → length (take n us) ≡ n
front_length zero us v vs e = refl
front_length (suc n) [] v vs e = absurd cc
front_length (suc n) (u ∷ us) v vs e = ap suc (front_length n us v vs e)

-- an action that neither traps nor has ended
pub can_by : (s : State) (t : ℕ) (a : Action) → is_ended a ≡ false → trap_of s t a ≡ None → CanStep a
can_by s t actions.Ended o e = absurd (true≢false o)
can_by s t (actions.Trap name) o e = absurd cc
can_by s t actions.Local o e = tt
can_by s t (actions.In i) o e = tt
can_by s t actions.InLen o e = tt
can_by s t (actions.Load r) o e = tt
can_by s t (actions.Store r n) o e = tt
can_by s t (actions.Event r) o e = tt

pub allowed_by : (s : State) (t : ℕ) (a : Action) → trap_of s t a ≡ None → IsAllowed s t a
allowed_by s t (actions.Event r) e = e
allowed_by s t (actions.Trap name) e = absurd cc
allowed_by s t actions.Ended e = tt
allowed_by s t actions.Local e = tt
allowed_by s t (actions.In i) e = tt
allowed_by s t actions.InLen e = tt
allowed_by s t (actions.Load r) e = tt
allowed_by s t (actions.Store r n) e = tt

-- a thread that hasn't begun asks to start, and no check fails at that
pub check_start : (s : State) (t : ℕ) → sync.check s.sync t requests.Start ≡ None
unfolding sync.check
check_start s t = refl

pub asks_start : (p : NumberedProgram) (l : LocalState) (q : Request) → l.begun ≡ false → next_action p l ≡ actions.Event q → requests.Start ≡ q
unfolding next_action
asks_start p l q b e = by l.begun l.frames b e
  where
    by : (b : Bool) (fs : List Frame) → b ≡ false → frames_action p l b fs ≡ actions.Event q → requests.Start ≡ q
    by b [] k h = absurd cc
    by false (f ∷ fs) k h = cc
    by true (f ∷ fs) k h = absurd (true≢false k)

pub no_local : (l : LocalState) (b : Bool) → Path (Option LocalState) (if b then Some l else None) None → b ≡ false
no_local l true e = absurd cc
no_local l false e = refl

pub waiting_asks : (p : NumberedProgram) (s : State) (t : ℕ) (q : Request) → local_at s t ≡ None → next_of p s t ≡ actions.Event q → sync.check s.sync t q ≡ None
unfolding next_of
waiting_asks p s t q n e = go (slice_get s.locals t) n e
  where
    go : (o : Option LocalState) → begun_in o ≡ None → action_in p o ≡ actions.Event q → sync.check s.sync t q ≡ None
    go None n e = absurd cc
    go (Some l) n e = subst (λ (z : Request). sync.check s.sync t z ≡ None) (asks_start p l q (no_local l l.begun n) e) (check_start s t)

-- what asks is a turn
pub asks_turn : (gated : List InstrId) (p : NumberedProgram) (s : State) (t : ℕ) (q : Request) → next_of p s t ≡ actions.Event q → is_some (turn_of gated p s t) ≡ true
unfolding turn_of
asks_turn gated p s t q e = ap (λ (a : Action). is_some (turn_with s t (happening_of gated s t a))) e

-- ---- numbers of turns

pub map_length : {A B : Type 0} (f : A → B) (xs : List A) → length (map f xs) ≡ length xs
map_length f [] = refl
map_length f (x ∷ xs) = ap suc (map_length f xs)

pub answers_length : (xs : List Step) → length (answers xs) ≡ length (events xs)
answers_length xs = sym (map_length (λ (a : Answered). a.turn) (answers xs)) ∙ ap length (answered_turns xs) ∙ map_length (λ (u : Turn). Some u) (events xs)

pub count_turns : (k : ℕ) (es : List RunDeed) → turns_done deeds k es ≡ k + length (filter deeds.is_event es)
count_turns k [] = omega arith
count_turns k (e ∷ es) = go (deeds.is_event e) refl (λ j. count_turns j es)
  where
    go : (b : Bool) → deeds.is_event e ≡ b → ((j : ℕ) → turns_done deeds j es ≡ j + length (filter deeds.is_event es))
        → turns_done deeds k (e ∷ es) ≡ k + length (filter deeds.is_event (e ∷ es))
    go true v more =
        ap (λ (b : Bool). turns_done deeds (done_after b k) es) v ∙ more (suc k)
        ∙ (let n : suc k + length (filter deeds.is_event es) ≡ k + suc (length (filter deeds.is_event es)) = omega arith in n)
        ∙ ap (λ (b : Bool). k + length (cond b (e ∷ filter deeds.is_event es) (filter deeds.is_event es))) (sym v)
    go false v more = ap (λ (b : Bool). turns_done deeds (done_after b k) es) v ∙ more k
        ∙ ap (λ (b : Bool). k + length (cond b (e ∷ filter deeds.is_event es) (filter deeds.is_event es))) (sym v)

pub slice_of : (o : Option LocalState) (l : LocalState) → begun_in o ≡ Some l → o ≡ Some l
slice_of None l e = absurd cc
slice_of (Some k) l e = go k.begun e
  where
    go : (b : Bool) → Path (Option LocalState) (if b then Some k else None) (Some l) → Path (Option LocalState) (Some k) (Some l)
    go true h = h
    go false h = absurd cc
