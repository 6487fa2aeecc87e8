-- What a step of the machine that was done did to its thread's calls, and what it tells.
use Rattle.std.proofs.Common.{◌≡◌, ℕ, ℤ, zero, suc, ◌+◌, ◌<◌, ◌≤◌, Bool, true, false, List, [], ◌∷◌, ◌++◌, length, Option, Some, None, Ok, Err, refl, sym}
use Rattle.std.proofs.Common.{ap, ◌∙◌, subst, arith, inl, inr, ◌⊎◌}
use Rattle.std.specs.Prelude.{slice_get, slice_set, slice_index}
use Rattle.std.proofs.lemmas.Option.{slice_get_within}
use Rattle.pg_num.specs.Places.{ByteRange}
use Rattle.pg_run_memory.specs.Memory.{read}
use Rattle.pg_ir.specs.declared.ids.InstrId.{InstrId}
use Rattle.pg_ir.specs.declared.instr.Instr.{Instr}
use Rattle.pg_ir.specs.declared.instr.Op.{Op}
use Rattle.pg_ir.specs.declared.instr.Op.TheVariants as op
use Rattle.pg_ir.specs.declared.library_call.LibraryCall.TheVariants as known
use Rattle.pg_ir.specs.declared.request.Request.{Request}
use Rattle.pg_ir.specs.declared.request.Request.TheVariants as requests
use Rattle.pg_ir.specs.declared.request.TrapName.{TrapName}
use Rattle.pg_ir.specs.Program.{NumberedProgram}
use Rattle.pg_run_thread.specs.declared.action.Action.{Action}
use Rattle.pg_run_thread.specs.declared.action.Action.TheVariants as actions
use Rattle.pg_run_thread.specs.LocalState.{Frame, LocalState, own_memory, fresh}
use Rattle.pg_run_thread.specs.Operands.{operands_of, first_four}
use Rattle.pg_run_thread.specs.Step.{next, after, frames_action, instr_action, op_action, op_after, total, on_top}
use Rattle.pg_run_thread.specs.Told.{id_of, place_in, operand_values}
use Rattle.pg_run_thread.proofs.NextActions.{next_at, operands_at}
use Rattle.pg_run_thread.specs.States.{CanStep}
use Rattle.pg_run.proofs.PhaseActions.{begun_after}
use Rattle.pg_run_thread.proofs.StatesAfter.{after_at, after_start}
use Rattle.pg_run_trace.specs.declared.step.Step.{Step}
use Rattle.pg_run_trace.specs.declared.step.StepKind.{StepKind}
use Rattle.pg_run_trace.specs.declared.step.StepKind.TheVariants as told
use Rattle.pg_run_trace.specs.declared.step.Access.{Access}
use Rattle.pg_run_trace.specs.declared.step.Event.{Event}
use Rattle.pg_run_trace.specs.Kinds.{kind_of, object_of}
use Rattle.pg_run_trace.specs.Steps.{range_of}
use Rattle.pg_run.specs.State.{State, id_in, instr_of, next_of}
use Rattle.pg_run.specs.MachineStep.{Answered, Stepped, Did, answered, instr_told, is_gated, kind_told, may_act, number_in, op_told, operands_in, ready, settled, step, step_told, taken}
use Rattle.pg_run.specs.MachineStep.{library_told, write_told}
use Rattle.pg_num.specs.Inputs.{input_at}
use Rattle.pg_run.proofs.StepsBegin.{next_is, ready_acts}
use Rattle.pg_run.proofs.Threads.{set_own, set_other, set_length, last_other}
use Rattle.pg_run.specs.Locality.{IfDid}
use Rattle.pg_slice_replay.specs.pg_law_effects.Effect.{answer_to, effect, effect_of, locals_with, request_effect, local_set, own_after}
use Rattle.pg_slice_replay.proofs.of_pg_law_effects.StepEffects.{has_effect}
use Rattle.pg_law_instances.specs.Moves.{Moves, RequestMoves, IsPlacedAt, IsLoad, IsStore}
use Rattle.pg_law_instances.proofs.CallChanges.{Outcome, op_outcome, running}
use Rattle.pg_ir.specs.declared.library_call.LibraryCall.{LibraryCall}

-- ---- what is told of a step that asks nothing of other threads

-- an access of a load or of a store, by its instruction, which is an event or not
pub record TellsAccess (event : Bool) (o : Op) (a : Access) : Type 0 where
  pub event_is : a.event ≡ event
  pub by : (IsLoad o × (a.writes ≡ false)) ⊎ (IsStore o × (a.writes ≡ true) × IsPlacedAt a.pointer (range_of a))

abbrev pub TellsPlain : Bool → Op → StepKind → Type 0
TellsPlain event o (told.Access a) = TellsAccess event o a
TellsPlain event o (told.Event e) = ⊥
TellsPlain event o k = (k ≡ told.Other) ⊎ ((ns : List ℕ) × (n : ℕ) × (k ≡ op_told ns n o))

-- a step that asks nothing of other threads
pub record Plain (gated : List InstrId) (p : NumberedProgram) (s : State) (t : ℕ) (l : LocalState) (x : Step) (z : State) (local : LocalState) : Type 0 where
  pub frame : Frame
  pub below : List Frame
  pub instr : Instr
  pub begun : l.begun ≡ true
  pub frames : l.frames ≡ frame ∷ below
  pub is : slice_get p.instrs frame.place ≡ Some instr
  pub moves : Moves p frame below instr instr.op local.frames
  pub tells : TellsPlain (is_gated gated frame.place) instr.op x.kind
  pub locals : z.locals ≡ slice_set s.locals t local

abbrev pub AddsThread : Request → State → State → Type 0
AddsThread (requests.Create r f n) s z = length z.locals ≡ length s.locals + 1
AddsThread r s z = length z.locals ≡ length s.locals

-- a request
pub record Requests (p : NumberedProgram) (s : State) (t : ℕ) (l : LocalState) (x : Step) (z : State) (local : LocalState) : Type 0 where
  pub request : Request
  pub event : Event
  pub is : x.kind ≡ told.Event event
  pub kind : event.kind ≡ kind_of request
  pub moves : RequestMoves l.frames request local.frames
  pub adds : AddsThread request s z
  pub asks : next p l ≡ actions.Event request

pub record Took (gated : List InstrId) (p : NumberedProgram) (s : State) (t : ℕ) (l : LocalState) (x : Step) (z : State) : Type 0 where
  pub thread : x.thread.0 ≡ t
  pub instr : x.instr.0 ≡ id_of l
  pub local : LocalState
  pub is_local : slice_get z.locals t ≡ Some local
  pub others : (u : ℕ) → (u ≡ t → ⊥) → u < length s.locals → slice_get z.locals u ≡ slice_get s.locals u
  pub made : (u : ℕ) (m : LocalState) → length s.locals ≤ u → slice_get z.locals u ≡ Some m → (f : ℕ) × (m ≡ fresh p u f)
  pub began : local.begun ≡ true
  pub did : Plain gated p s t l x z local ⊎ Requests p s t l x z local

-- ---- the threads behind a step

got_front : {X : Type 0} (xs : List X) (y : X) (u : ℕ) → u < length xs → slice_get (xs ++ y ∷ []) u ≡ slice_get xs u
got_front xs y u lt = last_other xs y u (λ e. omega (arith, lt, e))

got_none : {X : Type 0} (xs : List X) (u : ℕ) → length xs ≤ u → slice_get xs u ≡ None
got_none [] zero le = refl
got_none [] (suc u) le = refl
got_none (x ∷ xs) zero le = absurd (omega arith)
got_none (x ∷ xs) (suc u) le = got_none xs u (omega arith)

got_last : {X : Type 0} (xs : List X) (y m : X) (u : ℕ) → length xs ≤ u → slice_get (xs ++ y ∷ []) u ≡ Some m → (u ≡ length xs) × (y ≡ m)
got_last [] y m zero le e = (refl, cc)
got_last [] y m (suc zero) le e = absurd cc
got_last [] y m (suc (suc u)) le e = absurd cc
got_last (x ∷ xs) y m zero le e = absurd (omega arith)
got_last (x ∷ xs) y m (suc u) le e = let r = got_last xs y m u (omega arith) e in (ap suc r.0, r.1)

length_last : {X : Type 0} (xs : List X) (y : X) → length (xs ++ y ∷ []) ≡ length xs + 1
length_last [] y = omega arith
length_last (x ∷ xs) y = let h = length_last xs y in omega (arith, h)

-- the threads behind a request
abbrev asked : NumberedProgram → State → ℕ → Action → List LocalState
asked p s t a = locals_with (request_effect p s t a) s.locals

pub record Behind (p : NumberedProgram) (s : State) (t : ℕ) (a : Action) : Type 0 where
  pub front : (u : ℕ) → u < length s.locals → slice_get (asked p s t a) u ≡ slice_get s.locals u
  pub made : (u : ℕ) (m : LocalState) → length s.locals ≤ u → slice_get (asked p s t a) u ≡ Some m → (f : ℕ) × (m ≡ fresh p u f)
  pub more : length s.locals ≤ length (asked p s t a)

same_behind : (p : NumberedProgram) (s : State) (t : ℕ) (a : Action) → asked p s t a ≡ s.locals → Behind p s t a
same_behind p s t a e = record {
  front = λ u lt. ap (λ (ls : List LocalState). slice_get ls u) e;
  made = λ u m le h. absurd (none_there u m (sym (got_none s.locals u le) ∙ sym (ap (λ (ls : List LocalState). slice_get ls u) e) ∙ h));
  more = omega (arith, ap (λ (ls : List LocalState). length ls) e);
}
  where
    none_there : (u : ℕ) (m : LocalState) → Path (Option LocalState) None (Some m) → ⊥
    none_there u m q = cc

behind : (p : NumberedProgram) (s : State) (t : ℕ) (a : Action) → Behind p s t a
behind p s t (actions.Event (requests.Create r f n)) = record {
  front = λ u lt. got_front s.locals (fresh p (length s.locals) f) u lt;
  made = λ u m le h. let k = got_last s.locals (fresh p (length s.locals) f) m u le h in (f, sym k.1 ∙ ap (λ (v : ℕ). fresh p v f) (sym k.0));
  more = let e = length_last s.locals (fresh p (length s.locals) f) in omega (arith, e);
}
behind p s t (actions.Event (requests.Exit v k)) = same_behind p s t (actions.Event (requests.Exit v k)) refl
behind p s t (actions.Event r) = same_behind p s t (actions.Event r) refl
behind p s t a = same_behind p s t a refl

-- ---- a thread that has begun

tells_instr : (b : Bool) (ns : List ℕ) (n : ℕ) (o : Op) → TellsPlain b o (op_told ns n o)
tells_instr b ns n o = go (op_told ns n o) refl
  where
    go : (k : StepKind) → op_told ns n o ≡ k → TellsPlain b o k
    go told.Other e = inl refl
    go (told.Branch c) e = inr (ns, n, sym e)
    go (told.Allocation a r) e = inr (ns, n, sym e)
    go (told.Access a) e = absurd (never o a e)
      where
        known_never : (k : LibraryCall) (a : Access) → library_told ns n k ≡ told.Access a → ⊥
        known_never known.Malloc a e = cc
        known_never k a e = cc

        never : (o : Op) (a : Access) → op_told ns n o ≡ told.Access a → ⊥
        never (op.CallLibrary k args) a e = known_never k a e
        never o a e = cc
    go (told.Event a) e = absurd (never o a e)
      where
        known_never : (k : LibraryCall) (a : Event) → library_told ns n k ≡ told.Event a → ⊥
        known_never known.Malloc a e = cc
        known_never k a e = cc

        never : (o : Op) (a : Event) → op_told ns n o ≡ told.Event a → ⊥
        never (op.CallLibrary k args) a e = known_never k a e
        never o a e = cc

told_by : (gated : List InstrId) (p : NumberedProgram) (s z : State) (t : ℕ) (x : Step) (a : Answered) → settled gated p s t a ≡ Did x z → (n : ℕ) × (x ≡ step_told gated p s t n)
told_by gated p s z t x (w, Err name) e = absurd cc
told_by gated p s z t x (w, Ok n) e = (n, cc)

module _ (gated : List InstrId) (p : NumberedProgram) (input : List ℤ) (s z : State) (t : ℕ) (l : LocalState) (x : Step) (is_local : slice_get s.locals t ≡ Some l)
    (goes : ready p s t ≡ true) (did_step : step gated p input s t ≡ Did x z) where
  made_here : t < length s.locals
  made_here = slice_get_within s.locals t l is_local

  told_here : (n : ℕ) × (x ≡ step_told gated p s t n)
  unfolding step
  told_here = told_by gated p s z t x (taken p s t (answered p input s t (next_of p s t))) did_step

  next_here : next_of p s t ≡ next p l
  next_here = next_is p s t l is_local

  effect_here : z ≡ effect s (effect_of p input s t)
  effect_here = subst (λ (o : Stepped). IfDid o (λ y w. w ≡ effect s (effect_of p input s t))) did_step (has_effect gated p input s t)

  -- the thread's local state behind the step
  abbrev after_here : Action → LocalState
  after_here a = after p l (answer_to input s t a)

  locals_here : (a : Action) → next_of p s t ≡ a → z.locals ≡ slice_set (asked p s t a) t (after_here a)
  unfolding effect effect_of
  locals_here a e =
      ap (λ (w : State). w.locals) effect_here
      ∙ ap (λ (b : Action). local_set t (own_after p (answer_to input s t b) (slice_get s.locals t)) (asked p s t b)) e
      ∙ ap (λ (o : Option LocalState). local_set t (own_after p (answer_to input s t a) o) (asked p s t a)) is_local

  kind_here : (a : Action) → next_of p s t ≡ a → x.kind ≡ kind_told gated p s t (operands_in p (slice_get s.locals t)) told_here.0 (number_in p (slice_get s.locals t) told_here.0) a
  kind_here a e = ap (λ (y : Step). y.kind) told_here.1
      ∙ ap (λ (b : Action). kind_told gated p s t (operands_in p (slice_get s.locals t)) told_here.0 (number_in p (slice_get s.locals t) told_here.0) b) e

  instr_here : instr_of s t ≡ id_of l
  unfolding instr_of
  instr_here = ap id_in is_local

  own_there : (a : Action) → next_of p s t ≡ a → slice_get z.locals t ≡ Some (after_here a)
  own_there a e =
      let b = (behind p s t a).more in
      ap (λ (ls : List LocalState). slice_get ls t) (locals_here a e) ∙ set_own (asked p s t a) t (after_here a) (omega (arith, made_here, b))

  others_there : (a : Action) → next_of p s t ≡ a → (u : ℕ) → (u ≡ t → ⊥) → u < length s.locals → slice_get z.locals u ≡ slice_get s.locals u
  others_there a e u ne lt = ap (λ (ls : List LocalState). slice_get ls u) (locals_here a e) ∙ set_other (asked p s t a) t u (after_here a) ne ∙ (behind p s t a).front u lt

  made_there : (a : Action) → next_of p s t ≡ a → (u : ℕ) (m : LocalState) → length s.locals ≤ u → slice_get z.locals u ≡ Some m → (f : ℕ) × (m ≡ fresh p u f)
  made_there a e u m le h = (behind p s t a).made u m le (sym (set_other (asked p s t a) t u (after_here a) (λ q. let k = made_here in omega (arith, k, q, le)))
      ∙ sym (ap (λ (ls : List LocalState). slice_get ls u) (locals_here a e)) ∙ h)

  not_trapped : (name : TrapName) → next_of p s t ≡ actions.Trap name → ⊥
  unfolding step answered
  not_trapped name q = let k : settled gated p s t (taken p s t (answered p input s t (actions.Trap name))) ≡ Did x z =
      subst (λ (b : Action). settled gated p s t (taken p s t (answered p input s t b)) ≡ Did x z) q did_step in cc

  not_ended : next p l ≡ actions.Ended → ⊥
  not_ended e = let k : may_act s t actions.Ended ≡ true = subst (λ (b : Action). may_act s t b ≡ true) (next_here ∙ e) (ready_acts p s t goes) in cc

  can_step : CanStep (next p l)
  can_step = go (next p l) refl
    where
      go : (a : Action) → next p l ≡ a → CanStep a
      go actions.Local e = tt
      go (actions.In i) e = tt
      go actions.InLen e = tt
      go (actions.Load r) e = tt
      go (actions.Store r n) e = tt
      go (actions.Event r) e = tt
      go (actions.Trap name) e = absurd (not_trapped name (next_here ∙ e))
      go actions.Ended e = absurd (not_ended e)

  took_by : (a : Action) → next_of p s t ≡ a → Plain gated p s t l x z (after_here a) ⊎ Requests p s t l x z (after_here a) → Took gated p s t l x z
  took_by a e d = record {
    thread = ap (λ (y : Step). y.thread.0) told_here.1;
    instr = ap (λ (y : Step). y.instr.0) told_here.1 ∙ instr_here;
    local = after_here a;
    is_local = own_there a e;
    began = begun_after p l (answer_to input s t a) can_step;
    others = others_there a e;
    made = made_there a e;
    did = d;
  }

  adds : (r : Request) → next_of p s t ≡ actions.Event r → AddsThread r s z
  adds (requests.Create at f n) e =
      ap (λ (ls : List LocalState). length ls) (locals_here (actions.Event (requests.Create at f n)) e)
      ∙ set_length (asked p s t (actions.Event (requests.Create at f n))) t (after_here (actions.Event (requests.Create at f n)))
      ∙ length_last s.locals (fresh p (length s.locals) f)
  adds (requests.Exit v k) e = ap (λ (ls : List LocalState). length ls) (locals_here (actions.Event (requests.Exit v k)) e) ∙ set_length s.locals t (after_here (actions.Event (requests.Exit v k)))
  adds r e = ap (λ (ls : List LocalState). length ls) (locals_here (actions.Event r) e) ∙ set_length s.locals t (after_here (actions.Event r))

  -- a request, with what it leaves of the calls
  took_request : (r : Request) → next p l ≡ actions.Event r → RequestMoves l.frames r (after_here (actions.Event r)).frames → Took gated p s t l x z
  took_request r e m = took_by (actions.Event r) (next_here ∙ e) (inr (record {
    request = r;
    event = record {
      kind = kind_of r;
      object = object_of t (length s.sync.threads) r;
      operands = operands_in p (slice_get s.locals t);
      reply = number_in p (slice_get s.locals t) told_here.0;
      write = write_told s (operands_in p (slice_get s.locals t)) r;
    };
    is = kind_here (actions.Event r) (next_here ∙ e);
    kind = refl;
    moves = m;
    adds = adds r (next_here ∙ e);
    asks = e;
  }))

  module _ (f : Frame) (fs : List Frame) (i : Instr) (begun : l.begun ≡ true) (frames : l.frames ≡ f ∷ fs) (at : slice_get p.instrs f.place ≡ Some i) where
    same_state : running l.thread l.halfway f fs l.heap ≡ l
    same_state = rw (sym frames, sym begun) refl

    at_id : slice_get p.instrs (id_of l) ≡ Some i
    unfolding id_of
    at_id = ap (λ (gs : List Frame). slice_get p.instrs (place_in gs)) frames ∙ at

    action_is : next p l ≡ op_action p (own_memory (running l.thread l.halfway f fs l.heap)) l.halfway f.registers (length (f ∷ fs)) (total (f ∷ fs)) i.block.0 i.op
    unfolding id_of
    action_is = ap (next p) (sym same_state) ∙ next_at p (running l.thread l.halfway f fs l.heap) i refl (omega arith) at

    frames_after : (n : ℕ) → (after p l n).frames ≡ op_after p (running l.thread l.halfway f fs l.heap) i n i.op
    unfolding id_of
    frames_after n = ap (λ (m : LocalState). (after p m n).frames) (sym same_state)
        ∙ ap (λ (m : LocalState). m.frames) (after_at p (running l.thread l.halfway f fs l.heap) i n refl (omega arith) at)

    operands_are : operands_in p (slice_get s.locals t) ≡ first_four p f.registers (operands_of i.op)
    unfolding id_of
    operands_are = ap (operands_in p) is_local ∙ ap (operand_values p) (sym same_state) ∙ operands_at p (running l.thread l.halfway f fs l.heap) i refl (omega arith) at

    gate : is_gated gated (instr_of s t) ≡ is_gated gated f.place
    unfolding id_of
    gate = ap (is_gated gated) (instr_here ∙ ap place_in frames)

    abbrev Out : Action → Type 0
    Out a = Outcome p l.thread l.halfway f fs l.heap i i.op a

    moved_by : (n : ℕ) → Moves p f fs i i.op (op_after p (running l.thread l.halfway f fs l.heap) i n i.op) → Moves p f fs i i.op (after p l n).frames
    moved_by n m = subst (Moves p f fs i i.op) (sym (frames_after n)) m

    plain : (a : Action) → next p l ≡ a → asked p s t a ≡ s.locals → TellsPlain (is_gated gated f.place) i.op x.kind → Moves p f fs i i.op (after_here a).frames → Took gated p s t l x z
    plain a e k w m = took_by a (next_here ∙ e) (inl (record {
      frame = f;
      below = fs;
      instr = i;
      begun = begun;
      frames = frames;
      is = at;
      moves = m;
      tells = w;
      locals = locals_here a (next_here ∙ e) ∙ ap (λ (ls : List LocalState). slice_set ls t (after_here a)) k;
    }))

    instr_tells : (ns : List ℕ) (n : ℕ) → TellsPlain (is_gated gated f.place) i.op (instr_told ns n (slice_get p.instrs (instr_of s t)))
    instr_tells ns n = subst (λ (o : Option Instr). TellsPlain (is_gated gated f.place) i.op (instr_told ns n o)) (sym (ap (slice_get p.instrs) instr_here ∙ at_id))
        (tells_instr (is_gated gated f.place) ns n i.op)

    placed : (r : ByteRange) (w : ℕ) (m : ℕ) → IsPlacedAt w r → IsPlacedAt w
        (range_of (record { pointer = w; number = m; bytes = r.bytes; writes = true; event = is_gated gated (instr_of s t) }))
    placed r w m h = record { start = refl; within = record { from = (let v = h.within.from in omega (arith, v, h.start)); end = (let v = h.within.end in omega (arith, v, h.start)) } }

    by_action : (a : Action) → next p l ≡ a → may_act s t a ≡ true → Out a → Took gated p s t l x z
    by_action actions.Local e m o =
        plain actions.Local e refl (subst (TellsPlain (is_gated gated f.place) i.op) (sym (kind_here actions.Local (next_here ∙ e)))
        (instr_tells (operands_in p (slice_get s.locals t)) (number_in p (slice_get s.locals t) told_here.0))) (moved_by 0 o)
    by_action (actions.In k) e m o = plain (actions.In k) e refl (subst (TellsPlain (is_gated gated f.place) i.op) (sym (kind_here (actions.In k) (next_here ∙ e))) (inl refl))
        (moved_by (input_at input k) (o (input_at input k)))
    by_action actions.InLen e m o = plain actions.InLen e refl (subst (TellsPlain (is_gated gated f.place) i.op) (sym (kind_here actions.InLen (next_here ∙ e))) (inl refl))
        (moved_by (length input) (o (length input)))
    by_action (actions.Load r) e m o =
        plain (actions.Load r) e refl (subst (TellsPlain (is_gated gated f.place) i.op) (sym (kind_here (actions.Load r) (next_here ∙ e))) (record { event_is = gate; by = inl (o.0, refl) }))
        (moved_by (read s.memory r) (o.1 (read s.memory r)))
    by_action (actions.Store r n) e m o =
        plain (actions.Store r n) e refl
        (subst (TellsPlain (is_gated gated f.place) i.op) (sym (kind_here (actions.Store r n) (next_here ∙ e)))
        (record {
          event_is = gate;
          by = inr (
            o.1,
            refl,
            placed r (slice_index (operands_in p (slice_get s.locals t)) 1) n (subst (λ (ns : List ℕ). IsPlacedAt (slice_index ns 1) r) (sym operands_are) o.0),
          );
        }))
        (moved_by 0 o.2)
    by_action (actions.Event r) e m o =
        took_request r e (subst (λ (gs : List Frame). RequestMoves gs r (after_here (actions.Event r)).frames) (sym frames)
        (subst (λ (gs : List Frame). RequestMoves (f ∷ fs) r gs) (sym (frames_after (answer_to input s t (actions.Event r)))) (o (answer_to input s t (actions.Event r)))))
    by_action (actions.Trap name) e m o = absurd (not_trapped name (next_here ∙ e))
    by_action actions.Ended e m o = absurd cc

    took_running : Took gated p s t l x z
    took_running = by_action (next p l) refl (subst (λ (b : Action). may_act s t b ≡ true) next_here (ready_acts p s t goes))
        (subst Out (sym action_is) (op_outcome p l.thread l.halfway f fs l.heap i i.op))

  start_frames : (b : Bool) (fs : List Frame) → l.begun ≡ b → l.frames ≡ fs → 0 < length fs → b ≡ false → next p l ≡ actions.Event requests.Start
  unfolding next
  start_frames true fs e q lt k = absurd cc
  start_frames false [] e q lt k = absurd (omega arith)
  start_frames false (f ∷ fs) e q lt k = ap (λ (b : Bool). frames_action p l b l.frames) e ∙ ap (frames_action p l false) q

  on_top_length : (g : Frame → Frame) (fs : List Frame) → length (on_top g fs) ≡ length fs
  on_top_length g [] = refl
  on_top_length g (f ∷ fs) = refl

  ended_frames : l.frames ≡ [] → next p l ≡ actions.Ended
  unfolding next
  ended_frames e = ap (frames_action p l l.begun) e

  ended_instr : (f : Frame) (fs : List Frame) → l.begun ≡ true → l.frames ≡ f ∷ fs → slice_get p.instrs f.place ≡ None → next p l ≡ actions.Ended
  unfolding next
  ended_instr f fs b e q = ap (λ (c : Bool). frames_action p l c l.frames) b ∙ ap (frames_action p l true) e ∙ ap (instr_action p l f fs) q

  pub took : Took gated p s t l x z
  took = by_frames l.frames refl
    where
      by_instr : (f : Frame) (fs : List Frame) (o : Option Instr) → l.begun ≡ true → l.frames ≡ f ∷ fs → slice_get p.instrs f.place ≡ o → Took gated p s t l x z
      by_instr f fs None b e q = absurd (not_ended (ended_instr f fs b e q))
      by_instr f fs (Some i) b e q = took_running f fs i b e q

      by_begun : (f : Frame) (fs : List Frame) (b : Bool) → l.begun ≡ b → l.frames ≡ f ∷ fs → Took gated p s t l x z
      by_begun f fs true b e = by_instr f fs (slice_get p.instrs f.place) b e refl
      by_begun f fs false b e =
          let q = start_frames false (f ∷ fs) b e (omega arith) refl in
          took_request requests.Start q (ap (λ (m : LocalState). length m.frames)
          (after_start p l (answer_to input s t (actions.Event requests.Start)) b (let n : length l.frames ≡ length (f ∷ fs) = ap (λ (gs : List Frame). length gs) e in omega (arith, n)))
          ∙ on_top_length _ l.frames)

      by_frames : (gs : List Frame) → l.frames ≡ gs → Took gated p s t l x z
      by_frames [] e = absurd (not_ended (ended_frames e))
      by_frames (f ∷ fs) e = by_begun f fs l.begun refl e
