-- The registers that calls set in their callers, from step to step.
use Rattle.std.proofs.Common.{◌≡◌, ℕ, ℤ, zero, suc, ◌+◌, ◌-◌, ◌<◌, ◌≤◌, List, [], ◌∷◌, ◌++◌, length, map, replicate, Bool, true, false, Option, Some}
use Rattle.std.proofs.Common.{None, refl, sym, ap, ◌∙◌, subst, arith, inl, inr, ◌⊎◌}
use Rattle.std.specs.Prelude.{nat_lt, nat_le, slice_get, slice_set, if◌then◌else◌}
use Rattle.std.proofs.lemmas.Bool.{cases_eq}
use Rattle.std.proofs.lemmas.Bool.Decides.{nat_tests}
use Rattle.std.proofs.lemmas.List.{length-append}
use Rattle.std.proofs.lemmas.Option.{slice_get_within}
use Rattle.pg_num.specs.declared.limits.TheConstants.{CALL_DEPTH_LIMIT, THREAD_LIMIT}
use Rattle.pg_ir.specs.declared.ids.InstrId.{InstrId}
use Rattle.pg_ir.specs.declared.library_call.LibraryCall.{LibraryCall}
use Rattle.pg_ir.specs.declared.library_call.LibraryCall.TheVariants as known
use Rattle.pg_ir.specs.declared.instr.Instr.{Instr}
use Rattle.pg_ir.specs.declared.instr.Op.{Op}
use Rattle.pg_ir.specs.declared.instr.Op.TheVariants as op
use Rattle.pg_ir.specs.Program.{NumberedProgram}
use Rattle.pg_ir.specs.declared.request.Request.TheVariants as requests
use Rattle.pg_ir.specs.declared.request.TrapName.TheVariants as traps
use Rattle.pg_ir.specs.Program.{types_of}
use Rattle.pg_num.specs.declared.limits.TheConstants.{THREAD_REGISTER_LIMIT}
use Rattle.pg_run_thread.specs.declared.action.Action.{Action}
use Rattle.pg_run_thread.specs.declared.action.Action.TheVariants as actions
use Rattle.pg_run_thread.specs.LocalState.{Frame, LocalState, fresh, own_memory}
use Rattle.pg_run_thread.specs.Operands.{operand}
use Rattle.pg_run_thread.specs.States.{CanStep}
use Rattle.pg_run_thread.specs.Step.{after, are_set, begun_frame, call_action, entered, frames_action, frames_after, instr_action, instr_after, library_after, next, on_top, op_action, op_after}
use Rattle.pg_run_thread.specs.Step.{returned, top_height_of, top_registers, total, under_top}
use Rattle.pg_run_trace.specs.declared.step.Step.{Step}
use Rattle.pg_law_effects.specs.pg_run.Machine.{IsMachine}
use Rattle.pg_law_effects.specs.pg_run.Locality.{IfDid}
use Rattle.pg_law_effects.specs.pg_run.MachineStep.{Did, Stepped, step}
use Rattle.pg_law_effects.specs.pg_run.Readers.{frames_in, frames_of}
use Rattle.pg_law_effects.specs.pg_run.Runs.{Takes}
use Rattle.pg_law_effects.specs.pg_run.State.{State, initial, next_of}
use Rattle.pg_law_effects.proofs.of_pg_run.StepsBegin.{next_is}
use Rattle.pg_law_effects.proofs.of_pg_run.Threads.{last_other, last_own, set_length, set_other, set_own}
use Rattle.pg_law_effects.specs.Effect.{answer_to, effect, effect_of, local_set, locals_with, own_after, request_effect}
use Rattle.pg_law_effects.proofs.StepEffects.{has_effect}
use Rattle.pg_slice_rules.specs.Known.{caller_target, target_of}
use Rattle.pg_slice_replay.specs.Targets.{AreTargets, AreTargetsOf, place_of, target_in, with_target}
use Rattle.pg_slice_replay.proofs.PresentInstructions.{IsPresent, did_can, present}

-- ---- what is read

target_by : (p : NumberedProgram) (targets : List (Option ℕ)) (t : ℕ) (fs : List Frame) → AreTargetsOf p targets t fs → target_in targets t (length fs) ≡ caller_target p fs
target_by p targets t [] h = refl
target_by p targets t (f ∷ []) h = refl
target_by p targets t (f ∷ g ∷ fs) h =
    let small : nat_lt (length (f ∷ g ∷ fs)) 2 ≡ false = grind (arith, nat_tests) in
    let below : length (f ∷ g ∷ fs) - 1 ≡ length (g ∷ fs) = omega arith in
    rw (small, below, h.1) refl

pub target_is : (p : NumberedProgram) (targets : List (Option ℕ)) (s : State) (t : ℕ) → AreTargets p targets s
    → target_in targets t (length (frames_of s t)) ≡ caller_target p (frames_of s t)
target_is p targets s t h = target_by p targets t (frames_of s t) (h.each t)

-- ---- before the first step

none_kept : (p : NumberedProgram) (targets : List (Option ℕ)) (t : ℕ) → AreTargetsOf p targets t (frames_of (initial p) t)
unfolding initial fresh
none_kept p targets zero = tt
none_kept p targets (suc t) = tt

none_length : (n : ℕ) → length (replicate {A = Option ℕ} n None) ≡ n
none_length zero = refl
none_length (suc n) = ap suc (none_length n)

pub none_targets : (p : NumberedProgram) (targets : List (Option ℕ)) → targets ≡ replicate 16384 None → AreTargets p targets (initial p)
none_targets p targets e = record { count = ap length e ∙ none_length 16384; each = λ t. none_kept p targets t }

-- ---- what is written leaves the rest

apart_places : (t u k n : ℕ) → k < CALL_DEPTH_LIMIT → n < CALL_DEPTH_LIMIT → ((u ≡ t) × (k ≡ n) → ⊥) → place_of u k ≡ place_of t n → ⊥
apart_places t u k n a b ne e = go (cases_eq u t)
  where
    go : (u ≡ t) ⊎ (u ≡ t → ⊥) → ⊥
    go (inl q) = ne (q, omega (arith, e, q))
    go (inr d) = d (omega (arith, e, a, b))

-- another entry than the one that is written
other_entry : (targets : List (Option ℕ)) (t u k n : ℕ) (v : Option ℕ) → k < CALL_DEPTH_LIMIT → ((u ≡ t) × (k ≡ n) → ⊥)
    → slice_get (with_target targets t n v) (place_of u k) ≡ slice_get targets (place_of u k)
other_entry targets t u k n v a ne = go (nat_lt n CALL_DEPTH_LIMIT) refl
  where
    go : (b : Bool) → nat_lt n CALL_DEPTH_LIMIT ≡ b → slice_get (if b then slice_set targets (place_of t n) v else targets) (place_of u k) ≡ slice_get targets (place_of u k)
    go true e = set_other targets (place_of t n) (place_of u k) v (apart_places t u k n a (grind (arith, nat_tests)) ne)
    go false e = refl

own_entry : (targets : List (Option ℕ)) (t n : ℕ) (v : Option ℕ) → length targets ≡ 16384 → t < THREAD_LIMIT → n < CALL_DEPTH_LIMIT
    → slice_get (with_target targets t n v) (place_of t n) ≡ Some v
own_entry targets t n v c a b =
    let e : nat_lt n CALL_DEPTH_LIMIT ≡ true = grind (arith, nat_tests) in
    rw e (set_own targets (place_of t n) v (omega (arith, a, b, c)))

-- the calls below the written entry keep theirs, and so do those of other threads
kept_of : (p : NumberedProgram) (targets : List (Option ℕ)) (t u n : ℕ) (v : Option ℕ) (fs : List Frame) → (u ≡ t → length fs ≤ n) → AreTargetsOf p targets u fs
    → AreTargetsOf p (with_target targets t n v) u fs
kept_of p targets t u n v [] le h = tt
kept_of p targets t u n v (f ∷ []) le h = tt
kept_of p targets t u n v (f ∷ g ∷ fs) le h =
    (h.0, other_entry targets t u (length (g ∷ fs)) n v h.0 (λ q. omega (arith, le q.0, q.1)) ∙ h.1, kept_of p targets t u n v (g ∷ fs) (λ q. omega (arith, le q)) h.2)

-- ---- the calls of a thread after its step

-- what the present call is doesn't matter
other_top : (p : NumberedProgram) (targets : List (Option ℕ)) (t : ℕ) (e f : Frame) (fs : List Frame) → AreTargetsOf p targets t (e ∷ fs) → AreTargetsOf p targets t (f ∷ fs)
other_top p targets t e f [] h = tt
other_top p targets t e f (g ∷ fs) h = h

on_top_kept : (p : NumberedProgram) (targets : List (Option ℕ)) (t : ℕ) (k : Frame → Frame) (fs : List Frame) → AreTargetsOf p targets t fs → AreTargetsOf p targets t (on_top k fs)
on_top_kept p targets t k [] h = tt
on_top_kept p targets t k (f ∷ fs) h = other_top p targets t f (k f) fs h

returned_kept : (p : NumberedProgram) (targets : List (Option ℕ)) (t n : ℕ) (fs : List Frame) → AreTargetsOf p targets t fs → AreTargetsOf p targets t (returned p (under_top fs) n)
returned_kept p targets t n [] h = tt
returned_kept p targets t n (f ∷ []) h = tt
returned_kept p targets t n (f ∷ g ∷ []) h = tt
returned_kept p targets t n (f ∷ g ∷ e ∷ fs) h = h.2

if_kept : (p : NumberedProgram) (targets : List (Option ℕ)) (t : ℕ) (b : Bool) (fs gs : List Frame) → AreTargetsOf p targets t fs → AreTargetsOf p targets t gs
    → AreTargetsOf p targets t (if b then fs else gs)
if_kept p targets t true fs gs h k = h
if_kept p targets t false fs gs h k = k

known_kept : (p : NumberedProgram) (targets : List (Option ℕ)) (t : ℕ) (halfway : Bool) (k : LibraryCall) (fs gs : List Frame) → AreTargetsOf p targets t fs → AreTargetsOf p targets t gs
    → AreTargetsOf p targets t (library_after halfway k fs gs)
known_kept p targets t halfway known.PthreadExit fs gs h m = tt
known_kept p targets t halfway known.PthreadCondWait fs gs h m = if_kept p targets t halfway gs fs m h
known_kept p targets t halfway known.PthreadBarrierWait fs gs h m = if_kept p targets t halfway gs fs m h
known_kept p targets t halfway k fs gs h m = m

-- a call has room for one more
call_room : (p : NumberedProgram) (g depth used : ℕ) → CanStep (call_action p g depth used) → depth < CALL_DEPTH_LIMIT
unfolding call_action
call_room p g depth used h = go (nat_le CALL_DEPTH_LIMIT depth) (nat_le (used + length (types_of p g)) THREAD_REGISTER_LIMIT) refl h
  where
    go : (a b : Bool) → nat_le CALL_DEPTH_LIMIT depth ≡ a → CanStep (if a then actions.Trap traps.CallDepth else if b then actions.Local else actions.Trap traps.Registers)
        → depth < CALL_DEPTH_LIMIT
    go true b e h = absurd h
    go false true e h = grind (arith, nat_tests)
    go false false e h = absurd h

all_room : (b : Bool) (act : Action) → CanStep (if b then act else actions.Trap traps.Unset) → CanStep act
all_room true act h = h
all_room false act h = absurd h

-- ---- the calls of a thread that steps, the register of its next call being kept

module _ (p : NumberedProgram) (targets : List (Option ℕ)) (t : ℕ) (l : LocalState) (f : Frame) (fs : List Frame) (x : Instr) (calls : l.frames ≡ f ∷ fs)
    (at : slice_get p.instrs f.place ≡ Some x) (h : AreTargetsOf p targets t (f ∷ fs))
    (entry : length (f ∷ fs) < CALL_DEPTH_LIMIT → slice_get targets (place_of t (length (f ∷ fs))) ≡ Some x.result) where
  kept_calls : AreTargetsOf p targets t l.frames
  kept_calls = subst (AreTargetsOf p targets t) (sym calls) h

  -- a call
  entered_kept : (e : Frame) → length (f ∷ fs) < CALL_DEPTH_LIMIT → AreTargetsOf p targets t (e ∷ l.frames)
  entered_kept e room = subst (λ (gs : List Frame). AreTargetsOf p targets t (e ∷ gs)) (sym calls) (room, entry room ∙ ap (λ (o : Option Instr). Some (target_of o)) (sym at), h)

  op_kept : (a : ℕ) (o : Op) → CanStep (op_action p (own_memory l) l.halfway f.registers (length (f ∷ fs)) (total (f ∷ fs)) x.block.0 o) → AreTargetsOf p targets t (op_after p l x a o)
  op_kept a (op.Br to) can = on_top_kept p targets t _ l.frames kept_calls
  op_kept a (op.CondBr c y n) can = on_top_kept p targets t _ l.frames kept_calls
  op_kept a (op.Switch w on other cases) can = on_top_kept p targets t _ l.frames kept_calls
  op_kept a (op.Call g args) can = entered_kept (entered p g (top_height_of l.frames) (map (operand p (top_registers l.frames)) args))
      (call_room p g (length (f ∷ fs)) (total (f ∷ fs)) (all_room (are_set p f.registers args) (call_action p g (length (f ∷ fs)) (total (f ∷ fs))) can))
  op_kept a (op.Ret v) can = returned_kept p targets t _ l.frames kept_calls
  op_kept a (op.Alloca bytes) can = on_top_kept p targets t _ l.frames kept_calls
  op_kept a (op.CallLibrary k args) can = known_kept p targets t l.halfway k l.frames _ kept_calls (on_top_kept p targets t _ l.frames kept_calls)
  op_kept a o can = on_top_kept p targets t _ l.frames kept_calls

  instr_kept : (a : ℕ) (o : Option Instr) → slice_get p.instrs f.place ≡ o → CanStep (instr_action p l f fs o) → AreTargetsOf p targets t (instr_after p l a o).frames
  instr_kept a None e can = absurd can
  instr_kept a (Some y) e can =
      let q : y ≡ x = some_same y x (sym e ∙ at) in
      subst (λ (z : Instr). AreTargetsOf p targets t (instr_after p l a (Some z)).frames) (sym q) (op_kept a x.op (subst (λ (z : Instr). CanStep (instr_action p l f fs (Some z))) q can))
    where
      some_same : (y x : Instr) → Some y ≡ Some x → y ≡ x
      some_same y x e = cc

  frames_kept : (a : ℕ) (begun : Bool) → CanStep (frames_action p l begun (f ∷ fs)) → AreTargetsOf p targets t (frames_after p l begun (f ∷ fs) a).frames
  frames_kept a false can = on_top_kept p targets t (begun_frame p a) (f ∷ fs) h
  frames_kept a true can = instr_kept a (slice_get p.instrs f.place) refl can

  pub own_kept : (a : ℕ) → CanStep (next p l) → AreTargetsOf p targets t (after p l a).frames
  unfolding next after
  own_kept a can = subst (λ (gs : List Frame). AreTargetsOf p targets t (frames_after p l l.begun gs a).frames) (sym calls)
      (frames_kept a l.begun (subst (λ (gs : List Frame). CanStep (frames_action p l l.begun gs)) calls can))

-- ---- all threads after a step

-- a thread that is made has one call
fresh_kept : (p : NumberedProgram) (targets : List (Option ℕ)) (u n f : ℕ) → AreTargetsOf p targets u (fresh p n f).frames
unfolding fresh
fresh_kept p targets u n f = tt

made_kept : (p : NumberedProgram) (targets : List (Option ℕ)) (u n f : ℕ) (ls : List LocalState) → AreTargetsOf p targets u (frames_in (slice_get ls u))
    → AreTargetsOf p targets u (frames_in (slice_get (ls ++ fresh p n f ∷ []) u))
made_kept p targets u n f ls h = go (cases_eq u (length ls))
  where
    go : (u ≡ length ls) ⊎ (u ≡ length ls → ⊥) → AreTargetsOf p targets u (frames_in (slice_get (ls ++ fresh p n f ∷ []) u))
    go (inl e) = subst (λ (o : Option LocalState). AreTargetsOf p targets u (frames_in o)) (sym (last_own ls (fresh p n f)) ∙ ap (slice_get (ls ++ fresh p n f ∷ [])) (sym e))
        (fresh_kept p targets u n f)
    go (inr d) = subst (λ (o : Option LocalState). AreTargetsOf p targets u (frames_in o)) (sym (last_other ls (fresh p n f) u d)) h

with_kept : (p : NumberedProgram) (targets : List (Option ℕ)) (s : State) (t u : ℕ) (act : Action) → AreTargetsOf p targets u (frames_of s u)
    → AreTargetsOf p targets u (frames_in (slice_get (locals_with (request_effect p s t act) s.locals) u))
with_kept p targets s t u (actions.Event (requests.Create r f n)) h = made_kept p targets u (length s.locals) f s.locals h
with_kept p targets s t u (actions.Event r) h = h
with_kept p targets s t u act h = h

with_longer : (p : NumberedProgram) (s : State) (t : ℕ) (act : Action) → length s.locals ≤ length (locals_with (request_effect p s t act) s.locals)
with_longer p s t (actions.Event (requests.Create r f n)) = omega (arith, length-append s.locals (fresh p (length s.locals) f ∷ []))
with_longer p s t (actions.Event r) = omega arith
with_longer p s t act = omega arith

module _ (p : NumberedProgram) (input : List ℤ) (s : State) (x : Step) (targets : List (Option ℕ)) (n : IsPresent p s x) (can : CanStep (next p n.local)) (h : AreTargets p targets s)
    (few : x.thread.0 < THREAD_LIMIT) where
  -- with the register of the present instruction for a next call
  abbrev then_targets : List (Option ℕ)
  then_targets = with_target targets x.thread.0 (length (frames_of s x.thread.0)) n.instr.result

  own_frames : frames_of s x.thread.0 ≡ n.top ∷ n.below
  own_frames = ap frames_in n.is_local ∙ n.is_calls

  others_kept : (u : ℕ) → AreTargetsOf p then_targets u (frames_of s u)
  others_kept u = kept_of p targets x.thread.0 u (length (frames_of s x.thread.0)) n.instr.result (frames_of s u) (λ q. omega (arith, ap (λ (v : ℕ). length (frames_of s v)) q)) (h.each u)

  own_after_kept : (a : ℕ) → AreTargetsOf p then_targets x.thread.0 (after p n.local a).frames
  own_after_kept a =
      own_kept p then_targets x.thread.0 n.local n.top n.below n.instr n.is_calls n.is_instr (subst (AreTargetsOf p then_targets x.thread.0) own_frames (others_kept x.thread.0))
      (λ room. subst (λ (fs : List Frame). slice_get (with_target targets x.thread.0 (length fs) n.instr.result) (place_of x.thread.0 (length (n.top ∷ n.below))) ≡ Some n.instr.result)
      (sym own_frames)
      (own_entry targets x.thread.0 (length (n.top ∷ n.below)) n.instr.result h.count few room)) a can

  -- the threads, and the answer to the action, before the thread's own state changes
  abbrev then_locals : List LocalState
  then_locals = locals_with (request_effect p s x.thread.0 (next_of p s x.thread.0)) s.locals

  abbrev then_answer : ℕ
  then_answer = answer_to input s x.thread.0 (next_of p s x.thread.0)

  own_place : x.thread.0 < length then_locals
  own_place = omega (arith, slice_get_within s.locals x.thread.0 n.local n.is_local, with_longer p s x.thread.0 (next_of p s x.thread.0))

  local_kept : (u : ℕ) → (u ≡ x.thread.0) ⊎ (u ≡ x.thread.0 → ⊥)
      → AreTargetsOf p then_targets u (frames_in (slice_get (slice_set then_locals x.thread.0 (after p n.local then_answer)) u))
  local_kept u (inl e) =
      subst (λ (v : ℕ). AreTargetsOf p then_targets v (frames_in (slice_get (slice_set then_locals x.thread.0 (after p n.local then_answer)) v))) (sym e)
      (subst (λ (o : Option LocalState). AreTargetsOf p then_targets x.thread.0 (frames_in o)) (sym (set_own then_locals x.thread.0 (after p n.local then_answer) own_place))
      (own_after_kept then_answer))
  local_kept u (inr d) =
      subst (λ (o : Option LocalState). AreTargetsOf p then_targets u (frames_in o)) (sym (set_other then_locals x.thread.0 u (after p n.local then_answer) d))
      (with_kept p then_targets s x.thread.0 u (next_of p s x.thread.0) (others_kept u))

  each_kept : (u : ℕ) → AreTargetsOf p then_targets u (frames_of (effect s (effect_of p input s x.thread.0)) u)
  unfolding effect effect_of
  each_kept u =
      subst (λ (o : Option LocalState). AreTargetsOf p then_targets u (frames_in (slice_get (local_set x.thread.0 (own_after p then_answer o) then_locals) u))) (sym n.is_local)
      (local_kept u (cases_eq u x.thread.0))

target_length : (targets : List (Option ℕ)) (t n : ℕ) (v : Option ℕ) → length (with_target targets t n v) ≡ length targets
target_length targets t n v = go (nat_lt n CALL_DEPTH_LIMIT)
  where
    go : (b : Bool) → length (if b then slice_set targets (place_of t n) v else targets) ≡ length targets
    go true = set_length targets (place_of t n) v
    go false = refl

did_effect : (gated : List InstrId) (p : NumberedProgram) (input : List ℤ) (s z : State) (t : ℕ) (x : Step) → step gated p input s t ≡ Did x z → z ≡ effect s (effect_of p input s t)
did_effect gated p input s z t x e = subst (λ (o : Stepped). IfDid o (λ y w. w ≡ effect s (effect_of p input s t))) e (has_effect gated p input s t)

-- after a step that was done, the register of its instruction being kept for a call
pub targets_after : (gated : List InstrId) (p : NumberedProgram) (input : List ℤ) (s : State) (x : Step) (targets : List (Option ℕ)) → IsMachine p s → (k : Takes gated p input s x)
    → AreTargets p targets s → (i : Instr) → slice_get p.instrs x.instr.0 ≡ Some i →
    AreTargets p (with_target targets x.thread.0 (length (frames_of s x.thread.0)) i.result) k.after
targets_after gated p input s x targets m k h i at =
    let n = present gated p input s x m k in
    let e : n.instr ≡ i = one_instr n.instr i (sym n.is_instr ∙ ap (slice_get p.instrs) (sym n.is_place) ∙ at) in
    let can : CanStep (next p n.local) = subst CanStep (next_is p s x.thread.0 n.local n.is_local) (did_can gated p input s k.after x.thread.0 x k.is_ready k.is_step) in
    let few : x.thread.0 < THREAD_LIMIT = omega (arith, slice_get_within s.locals x.thread.0 n.local n.is_local, m.few) in
    record {
      count = target_length targets x.thread.0 (length (frames_of s x.thread.0)) i.result ∙ h.count;
      each = λ u. subst (λ (j : Instr). AreTargetsOf p (with_target targets x.thread.0 (length (frames_of s x.thread.0)) j.result) u (frames_of k.after u)) e
          (subst (λ (z : State). AreTargetsOf p (with_target targets x.thread.0 (length (frames_of s x.thread.0)) n.instr.result) u (frames_of z u))
          (sym (did_effect gated p input s k.after x.thread.0 x k.is_step))
          (each_kept p input s x targets n can h few u));
    }
  where
    one_instr : (j i : Instr) → Some j ≡ Some i → j ≡ i
    one_instr j i e = cc
