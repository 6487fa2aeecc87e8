-- A step that only its thread's own state and the input decide fits, where what it leaves of its thread is alike.
use Rattle.std.proofs.Common.{◌≡◌, ℕ, ℤ, ◌-◌, Bool, true, false, List, [], ◌∷◌, ◌++◌, length, Option, Some, None, refl, sym, ap, ◌∙◌, subst, suc}
use Rattle.std.specs.Prelude.{nat_lt, is_some, slice_get, if◌then◌else◌}
use Rattle.std.specs.List.{list_any}
use Rattle.std.proofs.lemmas.Bool.{eq-eqb, true≢false}
use Rattle.pg_num.specs.Places.{ByteRange}
use Rattle.pg_num.specs.declared.layout.TheConstants.{MEMORY_BYTES}
use Rattle.pg_ir.specs.declared.ids.InstrId.{InstrId}
use Rattle.pg_ir.specs.declared.instr.Instr.{Instr}
use Rattle.pg_ir.specs.declared.instr.Op.{Op}
use Rattle.pg_ir.specs.declared.instr.Op.TheVariants as op
use Rattle.pg_ir.specs.declared.library_call.LibraryCall.{LibraryCall}
use Rattle.pg_ir.specs.declared.library_call.LibraryCall.TheVariants as known
use Rattle.pg_ir.specs.Program.{NumberedProgram}
use Rattle.pg_law_threads.specs.Plans.{Fits}
use Rattle.pg_run_thread.specs.declared.action.Action.{Action}
use Rattle.pg_run_thread.specs.declared.action.Action.TheVariants as actions
use Rattle.pg_run_thread.specs.LocalState.{LocalState, own_memory}
use Rattle.pg_run_thread.specs.States.{CanStep}
use Rattle.pg_run_thread.specs.Step.{heap_after, instr_after, op_action, op_after, total}
use Rattle.pg_run_trace.specs.declared.step.Access.{Access}
use Rattle.pg_run_trace.specs.declared.step.Step.{Step}
use Rattle.pg_run_trace.specs.declared.step.StepKind.{StepKind}
use Rattle.pg_run_trace.specs.declared.step.StepKind.TheVariants as kinds
use Rattle.pg_run_trace.specs.Races.{reply_in}
use Rattle.pg_run_trace.specs.Steps.{access_in, event_of, happening_in, turn_at}
use Rattle.pg_run.specs.MachineStep.{instr_told, kind_told, library_told, number_in, op_told, operands_in, step_told}
use Rattle.pg_run.specs.Runs.{Takes}
use Rattle.pg_run.specs.State.{State, instr_of, next_of}
use Rattle.pg_law_effects.specs.Effect.{Effect, RequestEffect, Write, answer_to, effect_by, effect_of, range_read, request_effect, word_read_by, write_of}
use Rattle.pg_law_effects.specs.Meets.{byte_in, is_in_range}
use Rattle.pg_law_effects.specs.Reached.{IsReached}
use Rattle.pg_law_effects.specs.Views.{LeadsTo, Objects, cell_written, is_thread, local_at, objects_with, word_in}
use Rattle.pg_law_effects.specs.Views as views
use Rattle.pg_law_effects.proofs.StepViews.{leads_to}
use Rattle.pg_slice_rules.specs.Extents.{is_live}
use Rattle.pg_slice_rules.specs.Known.{SymbolicState, Taken, after_op, region_of, result_in, thread_of}
use Rattle.pg_slice_rules.specs.Moments.{instr_in, thread_in}
use Rattle.pg_slice_rules.specs.Rules.{kind_in}
use Rattle.pg_slice_rules.specs.SymbolicValues.{Symbolic}
use Rattle.pg_law_plan.specs.Likes.{AreCallsLike, StandLike, like}
use Rattle.pg_law_plan.specs.Moves.{deed_moved}
use Rattle.pg_law_plan.specs.Units.{PlanUnit, ReferenceRun, access_touch, cell_known, deed_of, instance_touch, is_event_at, is_instance, is_written_in, reference_of, standing_of, touch_of}
use Rattle.pg_law_plan.specs.Units.{word_read, word_written, writes_cell}
use Rattle.pg_law_plan.proofs.EachUnit.{IsUnit, behind_is}
use Rattle.pg_law_plan.proofs.ThreadAtInstruction.{after_here, can_step, instr_here, next_here, running, told_is}
use Rattle.pg_law_plan.proofs.KnownCalls.{IsInnerKind, inner_calls}
use Rattle.pg_law_plan.proofs.AlikeThreads.{Both}

-- ---- actions that touch nothing

abbrev pub IsInner : Action → Type 0
IsInner actions.Local = Unit {0}
IsInner (actions.In i) = Unit {0}
IsInner actions.InLen = Unit {0}
IsInner action = ⊥

known_inner : (ns : List ℕ) (n : ℕ) (k : LibraryCall) → IsInnerKind (library_told ns n k)
known_inner ns n known.Malloc = tt
known_inner ns n k = tt

op_inner : (ns : List ℕ) (n : ℕ) (o : Op) → IsInnerKind (op_told ns n o)
op_inner ns n (op.CondBr c a b) = tt
op_inner ns n (op.Switch w on other cases) = tt
op_inner ns n (op.Alloca bytes) = tt
op_inner ns n (op.CallLibrary k args) = known_inner ns n k
op_inner ns n o = tt

instr_inner : (ns : List ℕ) (n : ℕ) (o : Option Instr) → IsInnerKind (instr_told ns n o)
instr_inner ns n None = tt
instr_inner ns n (Some x) = op_inner ns n x.op

pub kind_inner : (gated : List InstrId) (p : NumberedProgram) (s : State) (t : ℕ) (ns : List ℕ) (a n : ℕ) (action : Action) → IsInner action
    → IsInnerKind (kind_told gated p s t ns a n action)
kind_inner gated p s t ns a n actions.Local h = instr_inner ns n (slice_get p.instrs (instr_of s t))
kind_inner gated p s t ns a n (actions.In i) h = tt
kind_inner gated p s t ns a n actions.InLen h = tt
kind_inner gated p s t ns a n (actions.Load r) h = absurd h
kind_inner gated p s t ns a n (actions.Store r m) h = absurd h
kind_inner gated p s t ns a n (actions.Event r) h = absurd h
kind_inner gated p s t ns a n (actions.Trap name) h = absurd h
kind_inner gated p s t ns a n actions.Ended h = absurd h

-- ---- such a step tells no access and no event

pub record TellsNothing (k : StepKind) : Type 0 where
  pub access : access_in k ≡ None
  pub event : happening_in k ≡ None
  pub reply : reply_in k ≡ None
  pub read : (t : ℕ) → word_read t k ≡ None
  pub written : (t : ℕ) → word_written t k ≡ None

pub tells_nothing : (k : StepKind) → IsInnerKind k → TellsNothing k
tells_nothing kinds.Other h = record { access = refl; event = refl; reply = refl; read = λ t. refl; written = λ t. refl }
tells_nothing (kinds.Branch c) h = record { access = refl; event = refl; reply = refl; read = λ t. refl; written = λ t. refl }
tells_nothing (kinds.Allocation a b) h = record { access = refl; event = refl; reply = refl; read = λ t. refl; written = λ t. refl }
tells_nothing (kinds.Access a) h = absurd h
tells_nothing (kinds.Event e) h = absurd h

-- ---- and its effect touches no cell

pub record TouchesNothing (p : NumberedProgram) (s : State) (t : ℕ) (action : Action) : Type 0 where
  pub reads : range_read action ≡ None
  pub word : word_read_by t action ≡ None
  pub writes : write_of s action ≡ None
  pub request : request_effect p s t action ≡ None

pub touches_nothing : (p : NumberedProgram) (s : State) (t : ℕ) (action : Action) → IsInner action → TouchesNothing p s t action
touches_nothing p s t actions.Local h = record { reads = refl; word = refl; writes = refl; request = refl }
touches_nothing p s t (actions.In i) h = record { reads = refl; word = refl; writes = refl; request = refl }
touches_nothing p s t actions.InLen h = record { reads = refl; word = refl; writes = refl; request = refl }
touches_nothing p s t (actions.Load r) h = absurd h
touches_nothing p s t (actions.Store r m) h = absurd h
touches_nothing p s t (actions.Event r) h = absurd h
touches_nothing p s t (actions.Trap name) h = absurd h
touches_nothing p s t actions.Ended h = absurd h

either_false : (b : Bool) → (if b then false else false) ≡ false
either_false true = refl
either_false false = refl

either_none : {A : Type 0} (b : Bool) → Path (Option A) (if b then None else None) None
either_none true = refl
either_none false = refl

pub reads_none : (e : Effect) (c : ℕ) → e.reads ≡ None → e.word_read ≡ None → views.reads_cell e c ≡ false
reads_none e c a b =
    ap (λ (o : Option ByteRange). if nat_lt c MEMORY_BYTES then is_in_range o c else is_thread e.word_read (c - MEMORY_BYTES)) a
    ∙ ap (λ (o : Option ℕ). if nat_lt c MEMORY_BYTES then false else is_thread o (c - MEMORY_BYTES)) b ∙ either_false (nat_lt c MEMORY_BYTES)

pub writes_none : (e : Effect) (c : ℕ) → e.writes ≡ None → e.request ≡ None → cell_written e c ≡ None
writes_none e c a b =
    ap (λ (o : Option Write). if nat_lt c MEMORY_BYTES then byte_in o c else word_in e.thread e.request (c - MEMORY_BYTES)) a
    ∙ ap (λ (o : Option RequestEffect). if nat_lt c MEMORY_BYTES then None else word_in e.thread o (c - MEMORY_BYTES)) b ∙ either_none (nat_lt c MEMORY_BYTES)

-- ---- the unit's own touch

module _ (d : Taken) (u : PlanUnit) where
  pub no_touch : access_in (kind_in u.seen) ≡ None → is_instance d u.seen ≡ false → touch_of d u.seen ≡ []
  no_touch a i = ap (λ (o : Option Access). access_touch d u.seen.number o ++ instance_touch d u.seen) a
      ∙ ap (λ (b : Bool). if b then Rattle.pg_slice_rules.specs.Rules.footprints_in u.seen.region else []) i

  pub unit_writes_none : (c : ℕ) → TellsNothing (kind_in u.seen) → is_instance d u.seen ≡ false → writes_cell d u.seen c ≡ false
  unit_writes_none c k i =
      ap (λ fs. if nat_lt c MEMORY_BYTES then list_any (λ f. is_written_in f c) fs else is_thread (word_written (thread_in u.seen.moment) (kind_in u.seen)) (c - MEMORY_BYTES)) (no_touch k.access i)
      ∙ ap (λ (o : Option ℕ). if nat_lt c MEMORY_BYTES then false else is_thread o (c - MEMORY_BYTES)) (k.written (thread_in u.seen.moment)) ∙ either_false (nat_lt c MEMORY_BYTES)

pub none_if : {A : Type 0} (b : Bool) (x : A) → b ≡ false → Path (Option A) (if b then Some x else None) None
none_if true x h = absurd (true≢false h)
none_if false x h = refl

effect_is : (p : NumberedProgram) (input : List ℤ) (s : State) (t : ℕ) → effect_of p input s t ≡ effect_by p input s t (next_of p s t)
unfolding effect_of
effect_is p input s t = refl

effect_thread : (p : NumberedProgram) (input : List ℤ) (s : State) (t : ℕ) → (effect_of p input s t).thread ≡ t
unfolding effect_of
effect_thread p input s t = refl

pub own_here : (b : Bool) (x y : Option LocalState) → b ≡ true → (if b then x else y) ≡ x
own_here true x y h = refl
own_here false x y h = absurd (true≢false (sym h))

-- ---- a unit and a step at one instruction

pub record Pair (r : ReferenceRun) (d : Taken) (input : List ℤ) (u : PlanUnit) (st : State) (moves : ℕ → ℕ) (y : Step) : Type 0 where
  pub unit : IsUnit r d u
  pub plain : is_instance d u.seen ≡ false
  pub reached : IsReached r.program st
  pub takes : Takes r.gated r.program input st y
  pub own : y.thread.0 ≡ thread_in u.seen.moment
  pub both : Both r.program input (thread_in u.seen.moment) u.state st (thread_of u.seen.before (thread_in u.seen.moment)).calls
  pub units : moves (thread_in u.seen.moment) ≡ u.units

-- the thread itself in both runs, and the effect of its step in the second
pub record Locals : Type 0 where
  pub l0 : LocalState
  pub l : LocalState
  pub ef : Effect

module _ (r : ReferenceRun) (d : Taken) (input : List ℤ) (u : PlanUnit) (st : State) (moves : ℕ → ℕ) (y : Step) (q : Pair r d input u st moves y) where
  abbrev pub t : ℕ
  t = thread_in u.seen.moment

  abbrev pub l0 : LocalState
  l0 = running (thread_in u.seen.moment) q.both.h q.both.f0 q.both.fs0 q.both.n

  abbrev pub l : LocalState
  l = running (thread_in u.seen.moment) q.both.h q.both.f q.both.fs q.both.n

  abbrev pub locals : Locals
  locals = record { l0 = l0; l = l; ef = effect_of r.program input st y.thread.0 }

  abbrev pub act0 : Action
  act0 = next_of r.program u.state (thread_in u.seen.moment)

  abbrev pub act : Action
  act = next_of r.program st (thread_in u.seen.moment)

  abbrev pub answer0 : ℕ
  answer0 = answer_to r.input u.state (thread_in u.seen.moment) (next_of r.program u.state (thread_in u.seen.moment))

  abbrev pub answer : ℕ
  answer = answer_to input st (thread_in u.seen.moment) (next_of r.program st (thread_in u.seen.moment))

  pub told0 : u.seen.moment.did.did ≡ step_told r.gated r.program u.state (thread_in u.seen.moment) answer0
  told0 = told_is r.gated r.program r.input u.state q.unit.met.takes.after (thread_in u.seen.moment) u.seen.moment.did.did q.unit.met.takes.is_step

  pub told : y ≡ step_told r.gated r.program st (thread_in u.seen.moment) answer
  told = told_is r.gated r.program input st q.takes.after y.thread.0 y q.takes.is_step ∙ ap (λ (v : ℕ). step_told r.gated r.program st v (answer_to input st v (next_of r.program st v))) q.own

  place_here0 : instr_of u.state (thread_in u.seen.moment) ≡ q.both.f0.place
  place_here0 = instr_here r.program u.state (thread_in u.seen.moment) q.both.h q.both.f0 q.both.fs0 q.both.n q.both.x q.both.here0

  place_here : instr_of st (thread_in u.seen.moment) ≡ q.both.f.place
  place_here = instr_here r.program st (thread_in u.seen.moment) q.both.h q.both.f q.both.fs q.both.n q.both.x q.both.here

  pub same_place : instr_of st (thread_in u.seen.moment) ≡ instr_of u.state (thread_in u.seen.moment)
  same_place = place_here ∙ q.both.top.place ∙ sym place_here0

  pub same_instr : y.instr ≡ u.seen.moment.did.did.instr
  same_instr = ap (λ (z : Step). z.instr) told ∙ ap (λ (i : ℕ). record { 0 = i }) same_place ∙ sym (ap (λ (z : Step). z.instr) told0)

  pub instr_is : instr_in r.program u.seen.moment ≡ Some q.both.x
  instr_is = ap (λ (z : Step). slice_get r.program.instrs z.instr.0) told0 ∙ ap (slice_get r.program.instrs) place_here0 ∙ q.both.here0.instr

  pub instr_at0 : slice_get r.program.instrs (instr_of u.state (thread_in u.seen.moment)) ≡ Some q.both.x
  instr_at0 = ap (slice_get r.program.instrs) place_here0 ∙ q.both.here0.instr

  pub act0_is : act0 ≡ op_action r.program (own_memory l0) q.both.h q.both.f0.registers (length (q.both.f0 ∷ q.both.fs0)) (total (q.both.f0 ∷ q.both.fs0)) q.both.x.block.0 q.both.x.op
  act0_is = next_here r.program u.state (thread_in u.seen.moment) q.both.h q.both.f0 q.both.fs0 q.both.n q.both.x q.both.here0

  pub act_is : act ≡ op_action r.program (own_memory l) q.both.h q.both.f.registers (length (q.both.f ∷ q.both.fs)) (total (q.both.f ∷ q.both.fs)) q.both.x.block.0 q.both.x.op
  act_is = next_here r.program st (thread_in u.seen.moment) q.both.h q.both.f q.both.fs q.both.n q.both.x q.both.here

  pub can0 : CanStep (op_action r.program (own_memory l0) q.both.h q.both.f0.registers (length (q.both.f0 ∷ q.both.fs0)) (total (q.both.f0 ∷ q.both.fs0)) q.both.x.block.0 q.both.x.op)
  can0 = subst CanStep act0_is (can_step r.gated r.program r.input u.state u.seen.moment.did.did q.unit.met.takes)

  pub can : CanStep (op_action r.program (own_memory l) q.both.h q.both.f.registers (length (q.both.f ∷ q.both.fs)) (total (q.both.f ∷ q.both.fs)) q.both.x.block.0 q.both.x.op)
  can = subst CanStep act_is (subst (λ (v : ℕ). CanStep (next_of r.program st v)) q.own (can_step r.gated r.program input st y q.takes))

  -- the local states behind them
  pub local0 : u.local ≡ Some (instr_after r.program l0 answer0 (Some q.both.x))
  unfolding effect_of
  local0 =
      let k = leads_to r.gated r.program r.input u.state q.unit.met.takes.after (thread_in u.seen.moment) u.seen.moment.did.did q.unit.met.reached q.unit.met.takes.is_ready q.unit.met.takes.is_step in
      q.unit.local q.plain ∙ ap (λ (z : State). local_at z (thread_in u.seen.moment)) (behind_is r d u.state u.seen.moment.did.did q.unit.met.takes)
      ∙ k.locals (thread_in u.seen.moment) ∙ own_here _ _ _ (eq-eqb (thread_in u.seen.moment) (thread_in u.seen.moment) refl)
      ∙ after_here r.program u.state (thread_in u.seen.moment) q.both.h q.both.f0 q.both.fs0 q.both.n q.both.x q.both.here0 answer0

  pub local : (effect_of r.program input st (thread_in u.seen.moment)).local ≡ Some (instr_after r.program l answer (Some q.both.x))
  unfolding effect_of
  local = after_here r.program st (thread_in u.seen.moment) q.both.h q.both.f q.both.fs q.both.n q.both.x q.both.here answer

  -- the thread behind them
  abbrev pub SameHeap : Type 0
  SameHeap = heap_after r.program (own_memory l) q.both.f.registers q.both.x.op ≡ heap_after r.program (own_memory l0) q.both.f0.registers q.both.x.op

  pub stands : (known : List (List Symbolic)) → (thread_of u.known (thread_in u.seen.moment)).calls ≡ known → SameHeap →
      AreCallsLike input (op_after r.program l0 q.both.x answer0 q.both.x.op) known (op_after r.program l q.both.x answer q.both.x.op) →
      (like input).local (deed_of d u).to (deed_moved r.program input st moves y).to
  stands known e heap c = record {
    moves = ap (λ (v : ℕ). suc (moves v)) q.own ∙ ap suc q.units;
    stands = subst (λ (v : ℕ). StandLike input (standing_of u.local (thread_of u.known (thread_in u.seen.moment)).calls) (effect_of r.program input st v).local) (sym q.own)
        (rw (e, local0, local) (record { thread = refl; halfway = refl; heap = heap; calls = c }));
  }

  pub live_is : is_live d.pinned (thread_of u.seen.before (thread_in u.seen.moment)).extents ≡ true
  live_is = sym q.unit.met.live ∙ q.unit.live

  -- ---- inner steps

  module _ (inner0 : IsInner act0) (inner : IsInner act) where
    inner_kind0 : IsInnerKind (kind_in u.seen)
    inner_kind0 = subst IsInnerKind (sym (ap (λ (z : Step). z.kind) told0))
        (kind_inner r.gated r.program u.state (thread_in u.seen.moment) (operands_in r.program (slice_get u.state.locals (thread_in u.seen.moment))) answer0
        (number_in r.program (slice_get u.state.locals (thread_in u.seen.moment)) answer0) act0 inner0)

    nothing0 : TellsNothing (kind_in u.seen)
    nothing0 = tells_nothing (kind_in u.seen) inner_kind0

    nothing : TellsNothing y.kind
    nothing = tells_nothing y.kind (subst IsInnerKind (sym (ap (λ (z : Step). z.kind) told))
        (kind_inner r.gated r.program st (thread_in u.seen.moment) (operands_in r.program (slice_get st.locals (thread_in u.seen.moment))) answer
        (number_in r.program (slice_get st.locals (thread_in u.seen.moment)) answer) act inner))

    untouched : TouchesNothing r.program st (thread_in u.seen.moment) act
    untouched = touches_nothing r.program st (thread_in u.seen.moment) act inner

    e_reads : (effect_of r.program input st y.thread.0).reads ≡ None
    unfolding effect_of
    e_reads = ap (λ (v : ℕ). range_read (next_of r.program st v)) q.own ∙ untouched.reads

    e_word : (effect_of r.program input st y.thread.0).word_read ≡ None
    unfolding effect_of
    e_word = ap (λ (v : ℕ). word_read_by v (next_of r.program st v)) q.own ∙ untouched.word

    e_writes : (effect_of r.program input st y.thread.0).writes ≡ None
    unfolding effect_of
    e_writes = ap (λ (v : ℕ). write_of st (next_of r.program st v)) q.own ∙ untouched.writes

    e_request : (effect_of r.program input st y.thread.0).request ≡ None
    unfolding effect_of
    e_request = ap (λ (v : ℕ). request_effect r.program st v (next_of r.program st v)) q.own ∙ untouched.request

    abbrev pub inner_known : List (List Symbolic)
    inner_known = after_op r.program (d.pinned u.seen.number) u.seen.number u.seen.moment (region_of r.program r.regions u.seen.moment (instr_in r.program u.seen.moment))
        (result_in (kind_in u.seen)) q.both.x q.both.x.op (q.both.ks ∷ q.both.more)

    pub inner_fits : SameHeap → AreCallsLike input (op_after r.program l0 q.both.x answer0 q.both.x.op) inner_known (op_after r.program l q.both.x answer q.both.x.op)
        → Fits (like input) (deed_of d u) (deed_moved r.program input st moves y)
    inner_fits heap c = record {
      thread = q.own;
      to = stands inner_known (ap (λ (z : SymbolicState). (thread_of z (thread_in u.seen.moment)).calls) q.unit.known
          ∙ inner_calls (reference_of r) d u.seen.number u.seen.moment u.seen.before q.both.x instr_is live_is q.both.ks q.both.more q.both.calls inner_kind0) heap c;
      told = record {
        thread = ap (λ (v : ℕ). record { 0 = v }) q.own;
        instr = same_instr;
        turn = ap (turn_at y) nothing.event ∙ sym (ap (turn_at u.seen.moment.did.did) nothing0.event);
        reply = nothing.reply ∙ sym nothing0.reply;
      };
      objects = none_if (is_some (event_of y)) _ (ap is_some (ap (turn_at y) nothing.event)) ∙ sym (none_if (is_event_at u.seen) _ (ap is_some nothing0.event));
      cells = λ b v w k. rw (
        none_if (writes_cell d u.seen b) (cell_known u.known b) (unit_writes_none d u b nothing0 q.plain),
        writes_none (effect_of r.program input st y.thread.0) b e_writes e_request,
      ) k;
      reads = λ b k. absurd (true≢false (sym k ∙ reads_none (effect_of r.program input st y.thread.0) b e_reads e_word));
      writes = λ b k. absurd (true≢false (sym k ∙ ap is_some (writes_none (effect_of r.program input st y.thread.0) b e_writes e_request)));
    }
