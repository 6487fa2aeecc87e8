-- Events of known functions that touch no cell fit.
use Rattle.std.proofs.Common.{◌≡◌, ℕ, ℤ, ◌+◌, ◌-◌, Bool, true, false, List, ◌∷◌, length, Option, Some, None, refl, sym, ap, ◌∙◌, subst}
use Rattle.std.specs.Prelude.{◌==◌, nat_lt, is_some, slice_get, slice_index_or, if◌then◌else◌}
use Rattle.std.specs.List.{AllByRecursion as AllOf}
use Rattle.std.proofs.lemmas.Bool.{true≢false}
use Rattle.pg_num.specs.declared.layout.TheConstants.{MEMORY_BYTES}
use Rattle.pg_ir.specs.declared.instr.Op.{Op}
use Rattle.pg_ir.specs.declared.instr.Op.TheVariants as op
use Rattle.pg_ir.specs.declared.library_call.LibraryCall.{LibraryCall}
use Rattle.pg_ir.specs.declared.request.Request.{Request}
use Rattle.pg_ir.specs.declared.value.Value.{Value}
use Rattle.pg_ir.specs.Signatures.{returned_by}
use Rattle.pg_ir.specs.WellFormed.{IsProgram}
use Rattle.pg_law_threads.specs.Plans.{Fits}
use Rattle.pg_run_objects.specs.Sync as sync
use Rattle.pg_run_thread.specs.declared.action.Action.TheVariants as actions
use Rattle.pg_run_thread.specs.LocalState.{own_memory}
use Rattle.pg_run_thread.specs.Operands.{argument, first_four, number_at, operands_of}
use Rattle.pg_run_thread.specs.Step.{cut_to, heap_after, op_after, result_number, stepped}
use Rattle.pg_run_thread.specs.Told.{library_own, op_own, or_zero}
use Rattle.pg_run_trace.specs.declared.turn.TurnKind.{TurnKind}
use Rattle.pg_run_trace.specs.declared.step.Event.{Event}
use Rattle.pg_run_trace.specs.declared.step.Step.{Step}
use Rattle.pg_run_trace.specs.declared.step.StepKind.{StepKind}
use Rattle.pg_run_trace.specs.Kinds.{kind_of, object_of}
use Rattle.pg_run_trace.specs.Races.{reply_in, reply_of}
use Rattle.pg_run_trace.specs.Steps.{access_by, event_of, turn_at}
use Rattle.pg_run.specs.MachineStep.{event_told, kind_told, number_in, operands_in, write_told}
use Rattle.pg_run.specs.State.{State, next_of}
use Rattle.pg_law_effects.specs.Effect.{Effect, MadeThread, RequestEffect, answer_to, effect_of, request_effect}
use Rattle.pg_law_effects.specs.Views.{Objects, cell_written, objects_of, objects_with, word_in, word_made}
use Rattle.pg_law_effects.specs.Views as views
use Rattle.pg_slice_rules.specs.Known.{SymbolicState, Taken, after_event, set_symbolic, thread_of, with_top}
use Rattle.pg_slice_rules.specs.Moments.{thread_in}
use Rattle.pg_slice_rules.specs.Rules.{checked, kind_in}
use Rattle.pg_slice_rules.specs.SymbolicValues.{always, unset}
use Rattle.pg_law_plan.specs.Likes.{AreCallsLike, IsToldLike, like}
use Rattle.pg_law_plan.specs.Moves.{deed_moved}
use Rattle.pg_law_plan.specs.Units.{PlanUnit, ReferenceRun, cell_known, deed_of, event_word_read, event_word_written, is_event_at, reads_cell, reference_of, word_written, writes_cell}
use Rattle.pg_law_plan.proofs.AllocationFits.{told_number}
use Rattle.pg_law_plan.proofs.BranchFits.{act0_at, act_at, can0_at}
use Rattle.pg_law_plan.proofs.AskedNumbers as facing
use Rattle.pg_law_plan.proofs.StepChecks.{IsGood}
use Rattle.pg_law_plan.proofs.ThreadAtInstruction.{number_here, operands_here}
use Rattle.pg_law_plan.proofs.LocalStepFits.{Pair, answer, answer0, instr_is, live_is, locals, no_touch, none_if, reads_none, same_instr, stands, told, told0}
use Rattle.pg_law_plan.proofs.KnownCalls.{event_calls}
use Rattle.pg_law_plan.proofs.LoadFits.{effect_reads, effect_request, effect_thread, effect_word, effect_writes, request0, unit_objects}
use Rattle.pg_law_plan.proofs.LikeRequests.{core, is_checked, kind_core, object_core, same_action, same_objects}
use Rattle.pg_law_plan.proofs.RequestEffects.{Shape, is_start, names_object, shape_of}

-- ---- an event in both runs

module _ (r : ReferenceRun) (d : Taken) (input : List ℤ) (program : IsProgram r.program) (u : PlanUnit) (st : State) (moves : ℕ → ℕ) (y : Step) (q : Pair r d input u st moves y)
    (good : IsGood (reference_of r) d input u.seen) (objects : is_event_at u.seen ≡ true → objects_of u.state ≡ objects_of st) where
  open locals r d input u st moves y q use {l0, l}

  abbrev pub numbers0 : List ℕ
  numbers0 = first_four r.program q.both.f0.registers (operands_of q.both.x.op)

  abbrev pub numbers : List ℕ
  numbers = first_four r.program q.both.f.registers (operands_of q.both.x.op)

  abbrev pub reply0 : ℕ
  reply0 = or_zero q.both.x.result (op_own r.program l0 q.both.f0.registers (answer0 r d input u st moves y q) q.both.x.op)

  abbrev pub reply : ℕ
  reply = or_zero q.both.x.result (op_own r.program l q.both.f.registers (answer r d input u st moves y q) q.both.x.op)

  pub kind0_is : (r0 : Request) → next_of r.program u.state (thread_in u.seen.moment) ≡ actions.Event r0 → kind_in u.seen ≡ event_told u.state (thread_in u.seen.moment) numbers0 reply0 r0
  kind0_is r0 e =
      let p = r.program in
      let o = slice_get u.state.locals (thread_in u.seen.moment) in
      let a0 = answer0 r d input u st moves y q in
      ap (λ (z : Step). z.kind) (told0 r d input u st moves y q) ∙ ap (kind_told r.gated p u.state (thread_in u.seen.moment) (operands_in p o) a0 (number_in p o a0)) e
      ∙ ap (λ (ns : List ℕ). event_told u.state (thread_in u.seen.moment) ns (number_in p o a0) r0)
      (operands_here p u.state (thread_in u.seen.moment) q.both.h q.both.f0 q.both.fs0 q.both.n q.both.x q.both.here0)
      ∙ ap (λ (n : ℕ). event_told u.state (thread_in u.seen.moment) numbers0 n r0)
      (number_here p u.state (thread_in u.seen.moment) q.both.h q.both.f0 q.both.fs0 q.both.n q.both.x q.both.here0 a0)

  pub kind_is : (r1 : Request) → next_of r.program st (thread_in u.seen.moment) ≡ actions.Event r1 → y.kind ≡ event_told st (thread_in u.seen.moment) numbers reply r1
  kind_is r1 e =
      let p = r.program in
      let o = slice_get st.locals (thread_in u.seen.moment) in
      let a = answer r d input u st moves y q in
      ap (λ (z : Step). z.kind) (told r d input u st moves y q) ∙ ap (kind_told r.gated p st (thread_in u.seen.moment) (operands_in p o) a (number_in p o a)) e
      ∙ ap (λ (ns : List ℕ). event_told st (thread_in u.seen.moment) ns (number_in p o a) r1)
      (operands_here p st (thread_in u.seen.moment) q.both.h q.both.f q.both.fs q.both.n q.both.x q.both.here)
      ∙ ap (λ (n : ℕ). event_told st (thread_in u.seen.moment) numbers n r1) (number_here p st (thread_in u.seen.moment) q.both.h q.both.f q.both.fs q.both.n q.both.x q.both.here a)

  module _ (r0 r1 : Request) (act0 : next_of r.program u.state (thread_in u.seen.moment) ≡ actions.Event r0) (act : next_of r.program st (thread_in u.seen.moment) ≡ actions.Event r1)
      (same : core r1 ≡ core r0) where
    pub is_event : is_event_at u.seen ≡ true
    is_event = ap (λ (k : StepKind). is_some (Rattle.pg_run_trace.specs.Steps.happening_in k)) (kind0_is r0 act0)

    pub same_state : objects_of st ≡ objects_of u.state
    same_state = sym (objects is_event)

    pub same_sync : st.sync ≡ u.state.sync
    same_sync = ap (λ (o : Objects). o.sync) same_state

    pub event_objects : (deed_moved r.program input st moves y).objects ≡ (deed_of d u).objects
    event_objects =
        let p = r.program in
        let t = thread_in u.seen.moment in
        let ef = effect_of p input st y.thread.0 in
        let some : is_some (event_of y) ≡ true = ap (λ (k : StepKind). is_some (turn_at y (Rattle.pg_run_trace.specs.Steps.happening_in k))) (kind_is r1 act) in
        ap (λ (b : Bool). if b then Some (objects_with ef.thread ef.request (objects_of st)) else None) some
        ∙ ap (λ (v : ℕ). Some (objects_with v ef.request (objects_of st))) (effect_thread r d input program u st moves y q)
        ∙ ap (λ (z : Option RequestEffect). Some (objects_with t z (objects_of st))) (effect_request r d input program u st moves y q (actions.Event r1) act)
        ∙ ap (λ (o : Objects). Some o) (same_objects p st u.state t r1 r0 (objects_of st) same same_sync
        ∙ ap (objects_with t (request_effect p u.state t (actions.Event r0))) same_state
        ∙ ap (λ (z : Option RequestEffect). objects_with t z (objects_of u.state)) (sym (request0 r d input program u st moves y q (actions.Event r0) act0))
        ∙ sym (unit_objects r d input program u st moves y q))
        ∙ sym (ap (λ (b : Bool). if b then Some u.objects else None) is_event)

    pub same_kind : kind_of r1 ≡ kind_of r0
    same_kind = kind_core r1 ∙ ap kind_of same ∙ sym (kind_core r0)

    pub same_object : object_of (thread_in u.seen.moment) (length st.sync.threads) r1 ≡ object_of (thread_in u.seen.moment) (length u.state.sync.threads) r0
    same_object =
        let t = thread_in u.seen.moment in
        ap (λ (s : sync.Sync). object_of t (length s.threads) r1) same_sync ∙ object_core t (length u.state.sync.threads) r1 ∙ ap (object_of t (length u.state.sync.threads)) same
        ∙ sym (object_core t (length u.state.sync.threads) r0)

    pub event_told_alike : reply_of (kind_of r0) reply ≡ reply_of (kind_of r0) reply0 → IsToldLike u.seen.moment.did.did y
    event_told_alike h =
        let t = thread_in u.seen.moment in
        record {
          thread = ap (λ (v : ℕ). record { 0 = v }) q.own;
          instr = same_instr r d input u st moves y q;
          turn = ap (λ (k : StepKind). turn_at y (Rattle.pg_run_trace.specs.Steps.happening_in k)) (kind_is r1 act)
              ∙ ap (λ (k : TurnKind). turn_at y (Some (record { kind = k; object = object_of t (length st.sync.threads) r1 }))) same_kind
              ∙ ap (λ (o : ℕ). turn_at y (Some (record { kind = kind_of r0; object = o }))) same_object
              ∙ ap (λ (v : ℕ). Some (record { thread = record { 0 = v }; instr = y.instr; kind = kind_of r0; object = object_of t (length u.state.sync.threads) r0 })) q.own
              ∙ ap (λ i. Some (record { thread = u.seen.moment.did.did.thread; instr = i; kind = kind_of r0; object = object_of t (length u.state.sync.threads) r0 }))
              (same_instr r d input u st moves y q)
              ∙ sym (ap (λ (k : StepKind). turn_at u.seen.moment.did.did (Rattle.pg_run_trace.specs.Steps.happening_in k)) (kind0_is r0 act0));
          reply = ap reply_in (kind_is r1 act) ∙ ap (λ (k : TurnKind). Some (reply_of k reply)) same_kind ∙ ap (λ (n : ℕ). Some n) h ∙ sym (ap reply_in (kind0_is r0 act0));
        }

    abbrev pub event0 : Event
    event0 = record { kind = kind_of r0; object = object_of (thread_in u.seen.moment) (length u.state.sync.threads) r0; operands = numbers0; reply = reply0; write = write_told u.state numbers0 r0 }

    pub event_known : (thread_of u.known (thread_in u.seen.moment)).calls
        ≡ after_event r.program u.seen.moment event0 (kind_of r0) (slice_index_or u.seen.before.words (thread_in u.seen.moment) unset) q.both.x (q.both.ks ∷ q.both.more)
    event_known = ap (λ (z : SymbolicState). (thread_of z (thread_in u.seen.moment)).calls) q.unit.known
        ∙ event_calls (reference_of r) d u.seen.number u.seen.moment u.seen.before q.both.x (instr_is r d input u st moves y q)
        (live_is r d input u st moves y q) q.both.ks q.both.more q.both.calls event0 (kind0_is r0 act0)

  -- ---- a request that touches no cell

  either_false : (b : Bool) → (if b then false else false) ≡ false
  either_false true = refl
  either_false false = refl

  either_none : (b : Bool) → Path (Option ℕ) (if b then None else None) None
  either_none true = refl
  either_none false = refl

  pub shaped_fits : (k : LibraryCall) (args : List Value) → q.both.x.op ≡ op.CallLibrary k args → (r0 r1 : Request)
      → next_of r.program u.state (thread_in u.seen.moment) ≡ actions.Event r0 → next_of r.program st (thread_in u.seen.moment) ≡ actions.Event r1 → core r1 ≡ core r0 →
      Shape k q.both.h r0 → Shape k q.both.h r1 → ((s : sync.Sync) → (sync.done s (thread_in u.seen.moment) r1).1.value ≡ (sync.done s (thread_in u.seen.moment) r0).1.value)
      → Fits (like input) (deed_of d u) (deed_moved r.program input st moves y)
  shaped_fits k args e r0 r1 act0 act same s0 s1 answers =
      let p = r.program in
      let t = thread_in u.seen.moment in
      let b = q.both in
      let ef = effect_of p input st y.thread.0 in
      let a0 : answer0 r d input u st moves y q ≡ (sync.done u.state.sync t r0).1.value = ap (answer_to r.input u.state t) act0 ∙ s0.answer u.state t (sync.done u.state.sync t r0).1 in
      let a1 : answer r d input u st moves y q ≡ (sync.done st.sync t r1).1.value = ap (answer_to input st t) act ∙ s1.answer st t (sync.done st.sync t r1).1 in
      let alike : answer r d input u st moves y q ≡ answer0 r d input u st moves y q =
      a1 ∙ ap (λ (z : sync.Sync). (sync.done z t r1).1.value) (same_sync r0 r1 act0 act same) ∙ answers u.state.sync ∙ sym a0 in
      let write0 : write_told u.state numbers0 r0 ≡ None = s0.told u.state numbers0 in
      let wc : (c : ℕ) → writes_cell d u.seen c ≡ false = λ c.
      ap (λ fs. if nat_lt c MEMORY_BYTES then Rattle.std.specs.List.list_any (λ f. Rattle.pg_law_plan.specs.Units.is_written_in f c) fs else views.is_thread (word_written t (kind_in u.seen))
      (c - MEMORY_BYTES)) (no_touch d u (ap Rattle.pg_run_trace.specs.Steps.access_in (kind0_is r0 act0) ∙ ap access_by write0) q.plain)
      ∙ ap (λ (o : Option ℕ). if nat_lt c MEMORY_BYTES then false else views.is_thread o (c - MEMORY_BYTES))
      (ap (word_written t) (kind0_is r0 act0) ∙ s0.written t (event0 r0 r1 act0 act same)) ∙ either_false (nat_lt c MEMORY_BYTES) in
      let cw : (c : ℕ) → cell_written ef c ≡ None = λ c.
      ap (λ z. if nat_lt c MEMORY_BYTES then Rattle.pg_law_effects.specs.Meets.byte_in z c else word_in ef.thread ef.request (c - MEMORY_BYTES))
      (effect_writes r d input program u st moves y q (actions.Event r1) act ∙ s1.write st)
      ∙ ap (λ (z : Option RequestEffect). if nat_lt c MEMORY_BYTES then None else word_in ef.thread z (c - MEMORY_BYTES)) (effect_request r d input program u st moves y q (actions.Event r1) act)
      ∙ ap (λ (m : Option MadeThread). if nat_lt c MEMORY_BYTES then None else word_made m (c - MEMORY_BYTES)
      (if ef.thread == (c - MEMORY_BYTES) then Rattle.pg_law_effects.specs.Effect.word_left r1 else None)) (s1.made p st)
      ∙ ap (λ (o : Option ℕ). if nat_lt c MEMORY_BYTES then None else (if ef.thread == (c - MEMORY_BYTES) then o else None)) s1.word
      ∙ ap (λ (o : Option ℕ). if nat_lt c MEMORY_BYTES then None else o) (either_none (ef.thread == (c - MEMORY_BYTES))) ∙ either_none (nat_lt c MEMORY_BYTES) in
      record {
        thread = q.own;
        to = stands r d input u st moves y q (if s0.goes then with_top (set_symbolic b.x.result (always reply0)) (b.ks ∷ b.more) else (b.ks ∷ b.more))
            (event_known r0 r1 act0 act same ∙ s0.symbolics p u.seen.moment (event0 r0 r1 act0 act same) (slice_index_or u.seen.before.words t unset) b.x (b.ks ∷ b.more))
            (subst (λ (z : Op). heap_after p (own_memory l) b.f.registers z ≡ heap_after p (own_memory l0) b.f0.registers z) (sym e)
            (s0.heap (own_memory l) (number_at p b.f.registers args 0) ∙ sym (s0.heap (own_memory l0) (number_at p b.f0.registers args 0))))
            (subst (λ (z : Op). AreCallsLike input (op_after p l0 b.x (answer0 r d input u st moves y q) z)
            (if s0.goes then with_top (set_symbolic b.x.result (always (or_zero b.x.result (op_own p l0 b.f0.registers (answer0 r d input u st moves y q) z)))) (b.ks ∷ b.more) else
            (b.ks ∷ b.more)) (op_after p l b.x (answer r d input u st moves y q) z)) (sym e)
            (calls_like alike s0));
        told = event_told_alike r0 r1 act0 act same (ap (reply_of (kind_of r0)) (same_reply alike s0 s0.goes refl));
        objects = event_objects r0 r1 act0 act same;
        cells = λ c z m j. rw (none_if (writes_cell d u.seen c) (cell_known u.known c) (wc c), cw c) j;
        reads = λ c j. absurd (true≢false
            (sym j ∙ reads_none ef c (effect_reads r d input program u st moves y q (actions.Event r1) act) (effect_word r d input program u st moves y q (actions.Event r1) act ∙ s1.asked t)));
        writes = λ c j. absurd (true≢false (sym j ∙ ap is_some (cw c)));
      }
    where
      calls_like : answer r d input u st moves y q ≡ answer0 r d input u st moves y q → (s : Shape k q.both.h r0) →
          AreCallsLike input (op_after r.program l0 q.both.x (answer0 r d input u st moves y q) (op.CallLibrary k args))
          (if s.goes then with_top (set_symbolic q.both.x.result
          (always (or_zero q.both.x.result (op_own r.program l0 q.both.f0.registers (answer0 r d input u st moves y q) (op.CallLibrary k args))))) (q.both.ks ∷ q.both.more) else
          (q.both.ks ∷ q.both.more)) (op_after r.program l q.both.x (answer r d input u st moves y q) (op.CallLibrary k args))
      calls_like alike s = rw (
        s.frames (q.both.f0 ∷ q.both.fs0)
            (stepped q.both.f0 q.both.x.result (result_number r.program (own_memory l0) q.both.f0.registers (op.CallLibrary k args) (answer0 r d input u st moves y q)) ∷ q.both.fs0),
        s.frames (q.both.f ∷ q.both.fs) (stepped q.both.f q.both.x.result
            (result_number r.program (own_memory l) q.both.f.registers (op.CallLibrary k args) (answer r d input u st moves y q)) ∷ q.both.fs),
      ) (go s.goes refl)
        where
          go : (g : Bool) → s.goes ≡ g
              → AreCallsLike input (if g then stepped q.both.f0 q.both.x.result
              (result_number r.program (own_memory l0) q.both.f0.registers (op.CallLibrary k args) (answer0 r d input u st moves y q)) ∷ q.both.fs0 else (q.both.f0 ∷ q.both.fs0))
              (if g then with_top (set_symbolic q.both.x.result
              (always (or_zero q.both.x.result (op_own r.program l0 q.both.f0.registers (answer0 r d input u st moves y q) (op.CallLibrary k args))))) (q.both.ks ∷ q.both.more) else
              (q.both.ks ∷ q.both.more)) (if g then stepped q.both.f q.both.x.result
              (result_number r.program (own_memory l) q.both.f.registers (op.CallLibrary k args) (answer r d input u st moves y q)) ∷ q.both.fs else (q.both.f ∷ q.both.fs))
          go false v = (q.both.top, q.both.rest)
          go true v = (
            record {
              function = q.both.top.function;
              place = ap (λ (i : ℕ). i + 1) q.both.top.place;
              height = q.both.top.height;
              registers = told_number input q.both.x.result q.both.ks q.both.f.registers
                  (library_own q.both.h k (result_number r.program (own_memory l0) q.both.f0.registers (op.CallLibrary k args) (answer0 r d input u st moves y q)))
                  (result_number r.program (own_memory l) q.both.f.registers (op.CallLibrary k args) (answer r d input u st moves y q)) q.both.top.registers
                  (s.own v (result_number r.program (own_memory l0) q.both.f0.registers (op.CallLibrary k args) (answer0 r d input u st moves y q))
                  ∙ s.number (own_memory l0) (number_at r.program q.both.f0.registers args 0) (answer0 r d input u st moves y q) ∙ ap (cut_to (returned_by k)) (sym alike)
                  ∙ sym (s.number (own_memory l) (number_at r.program q.both.f.registers args 0) (answer r d input u st moves y q)));
            },
            q.both.rest,
          )

      own_same : answer r d input u st moves y q ≡ answer0 r d input u st moves y q → Shape k q.both.h r0
          → op_own r.program l q.both.f.registers (answer r d input u st moves y q) (op.CallLibrary k args)
          ≡ op_own r.program l0 q.both.f0.registers (answer0 r d input u st moves y q) (op.CallLibrary k args)
      own_same alike s = ap (library_own q.both.h k) (s.number (own_memory l) (number_at r.program q.both.f.registers args 0) (answer r d input u st moves y q) ∙ ap (cut_to (returned_by k)) alike
          ∙ sym (s.number (own_memory l0) (number_at r.program q.both.f0.registers args 0) (answer0 r d input u st moves y q)))

      same_reply : answer r d input u st moves y q ≡ answer0 r d input u st moves y q → Shape k q.both.h r0 → (g : Bool) → g ≡ g → reply ≡ reply0
      same_reply alike s g w =
          ap (or_zero q.both.x.result) (ap (op_own r.program l q.both.f.registers (answer r d input u st moves y q)) e ∙ own_same alike s
          ∙ sym (ap (op_own r.program l0 q.both.f0.registers (answer0 r d input u st moves y q)) e))

  -- ---- operands that are checked are the recorded ones

  pub checked_same : (k : LibraryCall) (args : List Value) → q.both.x.op ≡ op.CallLibrary k args → (r0 : Request)
      → next_of r.program u.state (thread_in u.seen.moment) ≡ actions.Event r0 → is_start (kind_of r0) ≡ false →
      AllOf (λ (i : ℕ). argument r.program q.both.f.registers args i ≡ argument r.program q.both.f0.registers args i) (checked k)
  checked_same k args e r0 act0 start = facing.checked_same r d input u st q.unit q.both good k args e r0 act0 start

  -- ---- calls that name objects

  pub object_fits : (k : LibraryCall) (args : List Value) → q.both.x.op ≡ op.CallLibrary k args → names_object k ≡ true → is_checked k ≡ true
      → Fits (like input) (deed_of d u) (deed_moved r.program input st moves y)
  object_fits k args e names c =
      let p = r.program in
      let t = thread_in u.seen.moment in
      let b = q.both in
      let s = shape_of p t b.h b.f0.registers k args names (can0_at r d input u st moves y q (op.CallLibrary k args) e) in
      let act0 = act0_at r d input u st moves y q (op.CallLibrary k args) e ∙ s.1 in
      let act = act_at r d input u st moves y q (op.CallLibrary k args) e ∙ same_action p t b.h b.f.registers b.f0.registers args k c (checked_same k args e s.0 act0 s.2.start) ∙ s.1 in
      shaped_fits k args e s.0 s.0 act0 act refl s.2 s.2 (λ z. refl)
