-- Nothing is known of a thread that hasn't begun: what stands for it is fresh, step by step.
use Rattle.std.proofs.Common.{◌≡◌, ◌≢◌, ℕ, ℤ, ◌⊎◌, ◌<◌, zero, suc, Bool, true, false, List, [], ◌∷◌, ◌++◌, length, Option, Some, None, refl, sym, ap}
use Rattle.std.proofs.Common.{◌∙◌, subst, arith, inl, inr}
use Rattle.std.specs.Prelude.{slice_get, slice_set, slice_index, slice_index_or, is_some, if◌then◌else◌}
use Rattle.std.specs.List.{AllByRecursion as AllOf}
use Rattle.std.proofs.lemmas.Bool.{cases_eq, true≢false}
use Rattle.std.proofs.lemmas.Option.{slice_get_within}
use Rattle.pg_ir.specs.declared.ids.InstrId.{InstrId}
use Rattle.pg_ir.specs.declared.instr.Instr.{Instr}
use Rattle.pg_ir.specs.declared.request.Request.{Request}
use Rattle.pg_ir.specs.declared.request.Request.TheVariants as requests
use Rattle.pg_ir.specs.Program.{NumberedProgram}
use Rattle.pg_run_memory.specs.Memory.{byte_at}
use Rattle.pg_law_threads.proofs.DoneLists.{all_map}
use Rattle.pg_law_threads.specs.Intervals.{done_after, timed, times}
use Rattle.pg_run_thread.specs.declared.action.Action.{Action}
use Rattle.pg_run_thread.specs.declared.action.Action.TheVariants as actions
use Rattle.pg_run_thread.specs.LocalState.{LocalState, fresh}
use Rattle.pg_run_thread.specs.States.{CanStep}
use Rattle.pg_run_thread.specs.Step.{after, next}
use Rattle.pg_run_trace.specs.declared.turn.TurnKind.{TurnKind}
use Rattle.pg_run_trace.specs.declared.turn.TurnKind.TheVariants as turns
use Rattle.pg_run_trace.specs.declared.step.Event.{Event}
use Rattle.pg_run_trace.specs.declared.step.Step.{Step}
use Rattle.pg_run_trace.specs.declared.step.StepKind.{StepKind}
use Rattle.pg_run_trace.specs.declared.step.StepKind.TheVariants as kinds
use Rattle.pg_run_trace.specs.Races.{recorded}
use Rattle.pg_run_trace.specs.Steps.{happening_in}
use Rattle.pg_run.specs.Locality.{IfDid}
use Rattle.pg_run.specs.MachineStep.{Stepped, kind_told, number_in, operands_in}
use Rattle.pg_run.specs.Runs.{IsRun, Takes}
use Rattle.pg_run.specs.State.{State, initial, instr_of, next_of}
use Rattle.pg_run.proofs.StepsBegin.{next_is, ready_made}
use Rattle.pg_run.proofs.PhaseActions.{begun_after}
use Rattle.pg_run.proofs.Threads.{last_other, last_own, set_other, set_own}
use Rattle.pg_law_effects.specs.Effect.{answer_to, effect, effect_of, local_set, locals_with, own_after, request_effect}
use Rattle.pg_law_effects.specs.PermittedSteps.{none_taken}
use Rattle.pg_law_effects.proofs.StepEffects.{has_effect}
use Rattle.pg_law_effects.proofs.ReachedStates.{present}
use Rattle.pg_slice_rules.specs.Extents.{Extent, is_live}
use Rattle.pg_slice_rules.specs.Freeable.{FreeRegion}
use Rattle.pg_slice_rules.specs.Known.{Reference, SymbolicState, Seen, Taken, SymbolicThread, after_step, fresh_registers, fresh_thread, live_after, live_by, no_thread, region_of, seen_from, start_of}
use Rattle.pg_slice_rules.specs.Known.{thread_of, threads_after, with_extents}
use Rattle.pg_slice_rules.specs.Moments.{Moment, calls_of, instr_in, moments_from, thread_in}
use Rattle.pg_law_plan.specs.Fits.{StartsAreFresh}
use Rattle.pg_law_plan.specs.Order.{IsOrderedRun}
use Rattle.pg_law_plan.specs.Units.{ExtentsArePlain, Met, ReferenceRun, behind, is_event_at, last_from, met_in, met_with, reference_of, states_from, turns_of}
use Rattle.pg_law_plan.proofs.EachUnit.{behind_is}
use Rattle.pg_law_plan.proofs.CreatedFunctions.{IsCreateNamed, next_named}
use Rattle.pg_law_plan.proofs.ThreadAtInstruction.{can_step, told_is}
use Rattle.pg_law_plan.proofs.LocalStepFits.{kind_inner}
use Rattle.pg_law_plan.proofs.KnownCalls.{IsInnerKind}
use Rattle.pg_law_plan.proofs.WordsBeforeUnits.{unit_facts}
use Rattle.pg_law_plan.proofs.ThreadWords.{length_push, length_set, request_at}

-- ---- lists of threads

-- what is known of a thread's calls
abbrev calls_in : List SymbolicThread → ℕ → List (List Rattle.pg_slice_rules.specs.SymbolicValues.Symbolic)
calls_in threads u = (slice_index_or threads u no_thread).calls

extents_keep : (threads : List SymbolicThread) (t u : ℕ) (z : SymbolicThread) → z.calls ≡ calls_in threads t → calls_in (slice_set threads t z) u ≡ calls_in threads u
extents_keep [] t u z h = refl
extents_keep (x ∷ xs) zero zero z h = h
extents_keep (x ∷ xs) zero (suc u) z h = refl
extents_keep (x ∷ xs) (suc t) zero z h = refl
extents_keep (x ∷ xs) (suc t) (suc u) z h = extents_keep xs t u z h

set_keeps : (threads : List SymbolicThread) (t u : ℕ) (z : SymbolicThread) → u ≢ t → calls_in (slice_set threads t z) u ≡ calls_in threads u
set_keeps [] t u z h = refl
set_keeps (x ∷ xs) zero zero z h = absurd (h refl)
set_keeps (x ∷ xs) zero (suc u) z h = refl
set_keeps (x ∷ xs) (suc t) zero z h = refl
set_keeps (x ∷ xs) (suc t) (suc u) z h = set_keeps xs t u z (λ e. h (ap suc e))

push_keeps : (threads : List SymbolicThread) (u : ℕ) (z : SymbolicThread) → u < length threads → calls_in (threads ++ z ∷ []) u ≡ calls_in threads u
push_keeps [] u z h = absurd (omega (arith, h))
push_keeps (x ∷ xs) zero z h = refl
push_keeps (x ∷ xs) (suc u) z h = push_keeps xs u z (omega (arith, h))

push_new : (threads : List SymbolicThread) (u : ℕ) (z : SymbolicThread) → u ≡ length threads → calls_in (threads ++ z ∷ []) u ≡ z.calls
push_new [] zero z h = refl
push_new [] (suc u) z h = absurd (omega (arith, h))
push_new (x ∷ xs) zero z h = absurd (omega (arith, h))
push_new (x ∷ xs) (suc u) z h = push_new xs u z (omega (arith, h))

-- ---- what is known

-- a thread that a step makes, with the function that its operands name
abbrev made_by : Event → TurnKind → Option ℕ
made_by e turns.Create = Some (slice_index e.operands 2)
made_by e k = None

abbrev made_of : StepKind → Option ℕ
made_of (kinds.Event e) = made_by e e.kind
made_of k = None

abbrev with_thread : NumberedProgram → Option ℕ → List SymbolicThread → List SymbolicThread
with_thread p None threads = threads
with_thread p (Some f) threads = threads ++ fresh_thread p f ∷ []

-- threads as they were, but for thread t
record AreKept (p : NumberedProgram) (t : ℕ) (made : Option ℕ) (old new : List SymbolicThread) : Type 0 where
  number : length new ≡ length (with_thread p made old)
  others : (u : ℕ) → u ≢ t → calls_in new u ≡ calls_in (with_thread p made old) u

kept_set : (p : NumberedProgram) (t : ℕ) (old : List SymbolicThread) (z : SymbolicThread) → AreKept p t None old (slice_set old t z)
kept_set p t old z = record { number = length_set old t z; others = λ u h. set_keeps old t u z h }

kept_push : (p : NumberedProgram) (t f : ℕ) (old : List SymbolicThread) (z : SymbolicThread) → AreKept p t (Some f) old (slice_set old t z ++ fresh_thread p f ∷ [])
kept_push p t f old z = record {
  number = length_push (slice_set old t z) _ ∙ ap suc (length_set old t z) ∙ sym (length_push old (fresh_thread p f));
  others = λ u h. go old t u h;
}
  where
    go : (xs : List SymbolicThread) (t u : ℕ) → u ≢ t → calls_in (slice_set xs t z ++ fresh_thread p f ∷ []) u ≡ calls_in (xs ++ fresh_thread p f ∷ []) u
    go [] t u h = refl
    go (x ∷ xs) zero zero h = absurd (h refl)
    go (x ∷ xs) zero (suc u) h = refl
    go (x ∷ xs) (suc t) zero h = refl
    go (x ∷ xs) (suc t) (suc u) h = go xs t u (λ e. h (ap suc e))

kept_by : (p : NumberedProgram) (t : ℕ) (e : Event) (k : TurnKind) (old : List SymbolicThread) (z : SymbolicThread) → AreKept p t (made_by e k) old (threads_after p e k (slice_set old t z))
kept_by p t e turns.Create old z = kept_push p t (slice_index e.operands 2) old z
kept_by p t e k old z = kept_set p t old z

live_kept : (p : NumberedProgram) (d : Taken) (n : ℕ) (m : Moment) (region : Option FreeRegion) (x : Instr) (k : StepKind) (s : SymbolicState)
    → AreKept p (thread_in m) (made_of k) s.threads (live_by p d n m region x k s).threads
live_kept p d n m region x (kinds.Event e) s = kept_by p (thread_in m) e e.kind s.threads _
live_kept p d n m region x (kinds.Access a) s = kept_set p (thread_in m) s.threads _
live_kept p d n m region x kinds.Other s = kept_set p (thread_in m) s.threads _
live_kept p d n m region x (kinds.Branch c) s = kept_set p (thread_in m) s.threads _
live_kept p d n m region x (kinds.Allocation a b) s = kept_set p (thread_in m) s.threads _

kept_same : (p : NumberedProgram) (t : ℕ) (old : List SymbolicThread) → AreKept p t None old old
kept_same p t old = record { number = refl; others = λ u h. refl }

kept_extents : (p : NumberedProgram) (t : ℕ) (made : Option ℕ) (old new : List SymbolicThread) (es : List Extent) → AreKept p t made old new → AreKept p t made old (with_extents t es new)
kept_extents p t made old new es h = record {
  number = length_set new t _ ∙ h.number;
  others = λ u v. extents_keep new t u _ refl ∙ h.others u v;
}

-- ---- in the machine

abbrev made_in : Action → Option ℕ
made_in (actions.Event (requests.Create r f n)) = Some f
made_in action = None

abbrev with_local : NumberedProgram → Option ℕ → List LocalState → List LocalState
with_local p None ls = ls
with_local p (Some f) ls = ls ++ fresh p (length ls) f ∷ []

locals_are : (p : NumberedProgram) (s : State) (t : ℕ) (action : Action) → locals_with (request_effect p s t action) s.locals ≡ with_local p (made_in action) s.locals
locals_are p s t actions.Local = refl
locals_are p s t (actions.In i) = refl
locals_are p s t actions.InLen = refl
locals_are p s t (actions.Load r) = refl
locals_are p s t (actions.Store r m) = refl
locals_are p s t (actions.Event (requests.Create r f m)) = refl
locals_are p s t (actions.Event r) = refl
locals_are p s t (actions.Trap name) = refl
locals_are p s t actions.Ended = refl

-- the trace tells of the same function
none_inner : (k : StepKind) → IsInnerKind k → made_of k ≡ None
none_inner kinds.Other h = refl
none_inner (kinds.Branch c) h = refl
none_inner (kinds.Allocation a b) h = refl
none_inner (kinds.Access a) h = absurd h
none_inner (kinds.Event e) h = absurd h

told_made : (gated : List InstrId) (p : NumberedProgram) (s : State) (t : ℕ) (ns : List ℕ) (a n : ℕ) (action : Action) → IsCreateNamed ns action
    → made_of (kind_told gated p s t ns a n action) ≡ made_in action
told_made gated p s t ns a n actions.Local h = none_inner (kind_told gated p s t ns a n actions.Local) (kind_inner gated p s t ns a n actions.Local tt)
told_made gated p s t ns a n (actions.In i) h = refl
told_made gated p s t ns a n actions.InLen h = refl
told_made gated p s t ns a n (actions.Load r) h = refl
told_made gated p s t ns a n (actions.Store r m) h = refl
told_made gated p s t ns a n (actions.Event (requests.Create r f m)) h = ap (λ (g : ℕ). Some g) (sym h)
told_made gated p s t ns a n (actions.Event r) h = refl
told_made gated p s t ns a n (actions.Trap name) h = refl
told_made gated p s t ns a n actions.Ended h = refl

-- ---- threads that haven't begun

fresh_waits : (p : NumberedProgram) (t f : ℕ) → (fresh p t f).begun ≡ false
unfolding fresh
fresh_waits p t f = refl

pub record AreFresh (p : NumberedProgram) (known : SymbolicState) (s : State) : Type 0 where
  pub number : length known.threads ≡ length s.locals
  pub fresh_calls : (u f : ℕ) → slice_get s.locals u ≡ Some (fresh p u f) → (thread_of known u).calls ≡ fresh_registers p f ∷ []

begins_with : (p : NumberedProgram) (n f : ℕ) → Rattle.pg_law_effects.specs.Views.start_of (fresh p n f) ≡ Some f
unfolding fresh
begins_with p n f = refl

function_of : (p : NumberedProgram) (n m f g : ℕ) → fresh p n f ≡ fresh p m g → f ≡ g
function_of p n m f g e =
    let k : Path (Option ℕ) (Some f) (Some g) = sym (begins_with p n f) ∙ ap Rattle.pg_law_effects.specs.Views.start_of e ∙ begins_with p m g in
    cc

-- with the thread that is made
made_fresh : (p : NumberedProgram) (made : Option ℕ) (threads : List SymbolicThread) (locals : List LocalState) → length threads ≡ length locals → (u f : ℕ) →
    (slice_get locals u ≡ Some (fresh p u f) → calls_in threads u ≡ fresh_registers p f ∷ []) → slice_get (with_local p made locals) u ≡ Some (fresh p u f)
    → calls_in (with_thread p made threads) u ≡ fresh_registers p f ∷ []
made_fresh p None threads locals e u f h k = h k
made_fresh p (Some g) threads locals e u f h k = go (cases_eq u (length locals))
  where
    go : (u ≡ length locals) ⊎ (u ≢ length locals) → calls_in (with_thread p (Some g) threads) u ≡ fresh_registers p f ∷ []
    go (inl q) =
        let own : Path (Option LocalState) (Some (fresh p (length locals) g)) (Some (fresh p u f)) =
        sym (last_own locals (fresh p (length locals) g)) ∙ ap (slice_get (locals ++ fresh p (length locals) g ∷ [])) (sym q) ∙ k in
        let same : fresh p (length locals) g ≡ fresh p u f = cc in
        push_new threads u (fresh_thread p g) (q ∙ sym e) ∙ ap (λ (i : ℕ). fresh_registers p i ∷ []) (function_of p (length locals) u g f same)
    go (inr q) =
        let old = sym (last_other locals (fresh p (length locals) g) u q) ∙ k in
        push_keeps threads u (fresh_thread p g) (subst (λ (i : ℕ). u < i) (sym e) (slice_get_within locals u (fresh p u f) old)) ∙ h old

module _ (R : Reference) (d : Taken) (n : ℕ) (m : Moment) (known : SymbolicState) (gated : List InstrId) (input : List ℤ) (s : State) (h : Takes gated R.program input s m.did.did) where
  abbrev made : Option ℕ
  made = made_in (next_of R.program s (thread_in m))

  abbrev region : Option FreeRegion
  region = region_of R.program R.regions m (instr_in R.program m)

  told : made_of m.did.did.kind ≡ made
  told =
      let p = R.program in
      let t = thread_in m in
      let a = answer_to input s t (next_of p s t) in
      ap (λ (z : Step). made_of z.kind) (told_is gated p input s h.after t m.did.did h.is_step)
      ∙ told_made gated p s t (operands_in p (slice_get s.locals t)) a (number_in p (slice_get s.locals t) a) (next_of p s t) (next_named p s t)

  here : instr_in R.program m ≡ slice_get R.program.instrs (instr_of s (thread_in m))
  here = ap (λ (z : Step). slice_get R.program.instrs z.instr.0) (told_is gated R.program input s h.after (thread_in m) m.did.did h.is_step)

  none_here : instr_in R.program m ≡ None → made ≡ None
  none_here e = go (next_of R.program s (thread_in m)) refl
    where
      go : (action : Action) → next_of R.program s (thread_in m) ≡ action → made_in action ≡ None
      go actions.Local q = refl
      go (actions.In i) q = refl
      go actions.InLen q = refl
      go (actions.Load r) q = refl
      go (actions.Store r v) q = refl
      go (actions.Event r) q = by_request (request_at R.program s (thread_in m) r q)
        where
          by_request : (r ≡ requests.Start) ⊎ ((x : Instr) × (slice_get R.program.instrs (instr_of s (thread_in m)) ≡ Some x)) → made_in (actions.Event r) ≡ None
          by_request (inl w) = ap (λ (z : Request). made_in (actions.Event z)) w
          by_request (inr w) = let k : Path (Option Instr) (Some w.0) None = sym w.1 ∙ sym here ∙ e in absurd cc
      go (actions.Trap name) q = refl
      go actions.Ended q = refl

  live_keeps : AreKept R.program (thread_in m) made known.threads (live_after R.program d n m region (instr_in R.program m) known).threads
  live_keeps = go (instr_in R.program m) refl
    where
      go : (o : Option Instr) → instr_in R.program m ≡ o → AreKept R.program (thread_in m) made known.threads (live_after R.program d n m region o known).threads
      go (Some x) e = subst (λ (q : Option ℕ). AreKept R.program (thread_in m) q known.threads (live_by R.program d n m region x m.did.did.kind known).threads) told
          (live_kept R.program d n m region x m.did.did.kind known)
      go None e = subst (λ (q : Option ℕ). AreKept R.program (thread_in m) q known.threads known.threads) (sym (none_here e)) (kept_same R.program (thread_in m) known.threads)

  plain_none : is_some (happening_in m.did.did.kind) ≡ false → made ≡ None
  plain_none e = sym told ∙ go m.did.did.kind e
    where
      go : (k : StepKind) → is_some (happening_in k) ≡ false → made_of k ≡ None
      go kinds.Other w = refl
      go (kinds.Branch c) w = refl
      go (kinds.Allocation a b) w = refl
      go (kinds.Access a) w = refl
      go (kinds.Event v) w = absurd (true≢false w)

  kept : (is_live d.pinned (thread_of known (thread_in m)).extents ≡ false → is_some (happening_in m.did.did.kind) ≡ false)
      → AreKept R.program (thread_in m) made known.threads (after_step R d n m known).threads
  kept plain = kept_extents R.program (thread_in m) made known.threads _ _ (go (is_live d.pinned (thread_of known (thread_in m)).extents) refl)
    where
      go : (b : Bool) → is_live d.pinned (thread_of known (thread_in m)).extents ≡ b →
          AreKept R.program (thread_in m) made known.threads (if b then live_after R.program d n m region (instr_in R.program m) known else known).threads
      go true e = live_keeps
      go false e = subst (λ (q : Option ℕ). AreKept R.program (thread_in m) q known.threads known.threads) (sym (plain_none (plain e))) (kept_same R.program (thread_in m) known.threads)

  effect_set : (effect s (effect_of R.program input s (thread_in m))).locals
      ≡ local_set (thread_in m) (own_after R.program (answer_to input s (thread_in m) (next_of R.program s (thread_in m))) (slice_get s.locals (thread_in m)))
      (locals_with (request_effect R.program s (thread_in m) (next_of R.program s (thread_in m))) s.locals)
  unfolding effect effect_of
  effect_set = refl

  -- what is known of another thread stays
  pub others_kept : (is_live d.pinned (thread_of known (thread_in m)).extents ≡ false → is_some (happening_in m.did.did.kind) ≡ false) → (u : ℕ) → u ≢ thread_in m
      → u < length known.threads → (thread_of (after_step R d n m known) u).calls ≡ (thread_of known u).calls
  others_kept plain u w q = (kept plain).others u w ∙ go made
    where
      go : (o : Option ℕ) → calls_in (with_thread R.program o known.threads) u ≡ calls_in known.threads u
      go None = refl
      go (Some f) = push_keeps known.threads u (fresh_thread R.program f) q

  -- the threads after the step
  after_locals : h.after.locals ≡ local_set (thread_in m) (own_after R.program (answer_to input s (thread_in m) (next_of R.program s (thread_in m))) (slice_get s.locals (thread_in m)))
      (with_local R.program made s.locals)
  after_locals =
      ap (λ (z : State). z.locals) (subst (λ (k : Stepped). IfDid k (λ y z. z ≡ effect s (effect_of R.program input s (thread_in m)))) h.is_step
      (has_effect gated R.program input s (thread_in m)))
      ∙ effect_set ∙ ap (local_set (thread_in m) (own_after R.program (answer_to input s (thread_in m) (next_of R.program s (thread_in m))) (slice_get s.locals (thread_in m))))
      (locals_are R.program s (thread_in m) (next_of R.program s (thread_in m)))

  local_begun : (f : ℕ) → slice_get h.after.locals (thread_in m) ≡ Some (fresh R.program (thread_in m) f) → ⊥
  local_begun f e =
      let p = R.program in
      let t = thread_in m in
      let a = answer_to input s t (next_of p s t) in
      let y = present s t (ready_made p s t h.is_ready) in
      let can : CanStep (next p y.0) = subst CanStep (next_is p s t y.0 y.1) (can_step gated p input s m.did.did h) in
      let own : slice_get h.after.locals t ≡ Some (after p y.0 a) =
      ap (λ (ls : List LocalState). slice_get ls t) (after_locals ∙ ap (λ (o : Option LocalState). local_set t (own_after p a o) (with_local p made s.locals)) y.1)
      ∙ set_own (with_local p made s.locals) t (after p y.0 a) (there made (slice_get_within s.locals t y.0 y.1)) in
      let same : after p y.0 a ≡ fresh p t f = (let k : Path (Option LocalState) (Some (after p y.0 a)) (Some (fresh p t f)) = sym own ∙ e in cc) in
      true≢false (sym (begun_after p y.0 a can) ∙ ap (λ (l : LocalState). l.begun) same ∙ fresh_waits p t f)
    where
      there : (o : Option ℕ) → thread_in m < length s.locals → thread_in m < length (with_local R.program o s.locals)
      there None k = k
      there (Some f) k = let q = length_push s.locals (fresh R.program (length s.locals) f) in omega (arith, k, q)

  pub fresh_kept : (is_live d.pinned (thread_of known (thread_in m)).extents ≡ false → is_some (happening_in m.did.did.kind) ≡ false) → AreFresh R.program known s
      → AreFresh R.program (after_step R d n m known) h.after
  fresh_kept plain e =
      let k = kept plain in
      record {
        number = k.number ∙ numbers made ∙ sym (ap length after_locals
            ∙ set_number (own_after R.program (answer_to input s (thread_in m) (next_of R.program s (thread_in m))) (slice_get s.locals (thread_in m))) (with_local R.program made s.locals));
        fresh_calls = λ u f q. by_thread u f q (cases_eq u (thread_in m));
      }
    where
      numbers : (o : Option ℕ) → length (with_thread R.program o known.threads) ≡ length (with_local R.program o s.locals)
      numbers None = e.number
      numbers (Some f) = length_push known.threads (fresh_thread R.program f) ∙ ap suc e.number ∙ sym (length_push s.locals (fresh R.program (length s.locals) f))

      set_number : (o : Option LocalState) (ls : List LocalState) → length (local_set (thread_in m) o ls) ≡ length ls
      set_number None ls = refl
      set_number (Some l) ls = length_set ls (thread_in m) l

      set_get : (o : Option LocalState) (ls : List LocalState) (u : ℕ) → u ≢ thread_in m → slice_get (local_set (thread_in m) o ls) u ≡ slice_get ls u
      set_get None ls u w = refl
      set_get (Some l) ls u w = set_other ls (thread_in m) u l w

      by_thread : (u f : ℕ) → slice_get h.after.locals u ≡ Some (fresh R.program u f) → (u ≡ thread_in m) ⊎ (u ≢ thread_in m)
          → (thread_of (after_step R d n m known) u).calls ≡ fresh_registers R.program f ∷ []
      by_thread u f q (inl w) = absurd (local_begun f (subst (λ (i : ℕ). slice_get h.after.locals i ≡ Some (fresh R.program i f)) w q))
      by_thread u f q (inr w) = (kept plain).others u w ∙ made_fresh R.program made known.threads s.locals e.number u f (e.fresh_calls u f)
          (sym (ap (λ (ls : List LocalState). slice_get ls u) after_locals
          ∙ set_get (own_after R.program (answer_to input s (thread_in m) (next_of R.program s (thread_in m))) (slice_get s.locals (thread_in m))) (with_local R.program made s.locals) u w)
          ∙ q)

-- ---- along the run

pub first_fresh : (p : NumberedProgram) → AreFresh p (start_of p) (initial p)
unfolding initial
first_fresh p = record { number = refl; fresh_calls = go }
  where
    go : (u f : ℕ) → slice_get (fresh p 0 p.main ∷ []) u ≡ Some (fresh p u f) → (thread_of (start_of p) u).calls ≡ fresh_registers p f ∷ []
    go zero f e = let k : fresh p 0 p.main ≡ fresh p 0 f = cc in ap (λ (i : ℕ). fresh_registers p i ∷ []) (function_of p 0 0 p.main f k)
    go (suc u) f e = absurd cc

module _ (r : ReferenceRun) (d : Taken) where
  met_fresh : (T : List ℕ) (k n : ℕ) (known : SymbolicState) (s z : State) (xs : List Step) → IsRun r.gated r.program r.input s xs z → AreFresh r.program known s →
      AllOf (λ (x : Seen). x.live ≡ false → is_event_at x ≡ false) (seen_from (reference_of r) d n known (moments_from r.gated r.program r.input s (times recorded T k xs))) →
      AllOf (λ (m : Met). AreFresh r.program m.seen.before m.state)
      (met_with (seen_from (reference_of r) d n known (moments_from r.gated r.program r.input s (times recorded T k xs))) (states_from r s xs))
  unfolding seen_from moments_from states_from
  met_fresh T k n known s z [] h e plain = tt
  met_fresh T k n known s z (x ∷ xs) h e plain =
      let b = behind_is r d s x h.0 in (
        e,
        met_fresh T (done_after (recorded.is_event x) k) (suc n) _ (behind r s x.thread.0) z xs (subst (λ (w : State). IsRun r.gated r.program r.input w xs z) (sym b) h.1)
            (subst (AreFresh r.program (after_step (reference_of r) d n (record { did = timed recorded T k x; calls = calls_of (slice_get s.locals x.thread.0); bytes = byte_at s.memory }) known))
            (sym b)
            (fresh_kept (reference_of r) d n (record { did = timed recorded T k x; calls = calls_of (slice_get s.locals x.thread.0); bytes = byte_at s.memory }) known r.gated r.input s h.0
            plain.0 e)) plain.1,
      )

  pub starts_are_fresh : IsOrderedRun r → ExtentsArePlain r d → StartsAreFresh r d
  starts_are_fresh o plain = unit_facts r d (λ (x : Seen) (s : State). (f : ℕ) → slice_get s.locals (thread_in x.moment) ≡ Some (fresh r.program (thread_in x.moment) f)
      → (thread_of x.before (thread_in x.moment)).calls ≡ fresh_registers r.program f ∷ [])
      (last_from r (initial r.program) r.steps) none_taken (met_in r d)
      (all_map (λ (m : Met) (h : AreFresh r.program m.seen.before m.state). h.fresh_calls (thread_in m.seen.moment)) (met_in r d)
      (met_fresh (turns_of r) 0 0 (start_of r.program) (initial r.program) o.last r.steps o.run (first_fresh r.program) plain))
