-- Events that print, end a thread, make one or join one fit.
use Rattle.std.proofs.Common.{◌≡◌, ℕ, ℤ, ◌<◌, ◌-◌, ◌%◌, ◌^◌, zero, suc, Bool, true, false, List, [], ◌∷◌, ◌++◌, length, Option, Some, None, refl, sym, ap}
use Rattle.std.proofs.Common.{◌∙◌, subst, arith}
use Rattle.std.specs.Prelude.{◌==◌, nat_lt, is_some, slice_set, slice_index_or, if◌then◌else◌}
use Rattle.std.specs.List.{list_any}
use Rattle.std.proofs.lemmas.Bool.{or_left, true≢false}
use Rattle.pg_num.specs.Numbers.{modulus}
use Rattle.pg_num.specs.Places.{ByteRange}
use Rattle.pg_num.specs.declared.layout.TheConstants.{MEMORY_BYTES}
use Rattle.pg_num.specs.declared.width.Width.TheVariants.{W32}
use Rattle.pg_ir.specs.declared.instr.Op.{Op}
use Rattle.pg_ir.specs.declared.instr.Op.TheVariants as op
use Rattle.pg_ir.specs.declared.library_call.LibraryCall.{LibraryCall}
use Rattle.pg_ir.specs.declared.library_call.LibraryCall.TheVariants as known
use Rattle.pg_ir.specs.declared.request.Request.{Request}
use Rattle.pg_ir.specs.declared.request.Request.TheVariants as requests
use Rattle.pg_ir.specs.declared.value.Value.{Value}
use Rattle.pg_ir.specs.WellFormed.{IsProgram}
use Rattle.pg_law_threads.specs.Effects.{or_old}
use Rattle.pg_law_threads.specs.Plans.{Fits}
use Rattle.pg_run_objects.specs.Sync as sync
use Rattle.pg_run_thread.specs.declared.action.Action.{Action}
use Rattle.pg_run_thread.specs.declared.action.Action.TheVariants as actions
use Rattle.pg_run_thread.specs.LocalState.{own_memory}
use Rattle.pg_run_thread.specs.Operands.{argument}
use Rattle.pg_run_thread.specs.States.{CanStep}
use Rattle.pg_run_thread.specs.Step.{heap_after, on_value, op_after}
use Rattle.pg_run_trace.specs.declared.step.Event.{Event}
use Rattle.pg_run_trace.specs.declared.step.Step.{Step}
use Rattle.pg_run_trace.specs.declared.step.StepKind.{StepKind}
use Rattle.pg_run_trace.specs.declared.step.StepKind.TheVariants as kinds
use Rattle.pg_run_trace.specs.declared.step.Write.{Write as ToldWrite}
use Rattle.pg_run_trace.specs.Kinds.{kind_of}
use Rattle.pg_run_trace.specs.Races.{reply_of}
use Rattle.pg_run_trace.specs.Steps.{access_by, access_in}
use Rattle.pg_run.specs.MachineStep.{write_told}
use Rattle.pg_run.specs.State.{State, next_of}
use Rattle.pg_law_effects.specs.Effect.{Effect, MadeThread, RequestEffect, answer_to, effect_of, request_write, thread_made, word_asked, word_left}
use Rattle.pg_law_effects.specs.Meets.{byte_in, is_in_range}
use Rattle.pg_law_effects.specs.Views.{cell_at, cell_written, is_thread, objects_of, word_in, word_made}
use Rattle.pg_law_effects.specs.Views as views
use Rattle.pg_slice_rules.specs.Known.{SymbolicState, Taken, bytes_by, exit_symbolic, live_by, low_byte, operand_at, region_of, registers_of, set_symbolic, thread_of, words_after}
use Rattle.pg_slice_rules.specs.Moments.{instr_in, thread_in}
use Rattle.pg_slice_rules.specs.Rules.{kind_in}
use Rattle.pg_slice_rules.specs.SymbolicValues.{Symbolic, always}
use Rattle.pg_law_plan.specs.Likes.{AreCallsLike, IsCellLike, IsLike, like}
use Rattle.pg_law_plan.specs.Moves.{deed_moved}
use Rattle.pg_law_plan.specs.Units.{PlanUnit, ReferenceRun, access_touch, cell_known, deed_of, event_word_read, event_word_written, instance_touch, is_event_at, is_read_in, is_written_in}
use Rattle.pg_law_plan.specs.Units.{reads_cell, reference_of, word_read, word_written, writes_cell}
use Rattle.pg_law_plan.proofs.AccessFits.{cut_like}
use Rattle.pg_law_plan.proofs.BranchFits.{act0_at, act_at, can0_at, can_at, top_known}
use Rattle.pg_law_plan.proofs.ComputationFits.{frame_stepped}
use Rattle.pg_law_plan.proofs.ObjectEventFits.{event0, event_known, event_objects, event_told_alike, is_event, kind0_is, reply, reply0, shaped_fits}
use Rattle.pg_law_plan.proofs.StepChecks.{IsGood}
use Rattle.pg_law_plan.proofs.LocalStepFits.{Pair, answer, answer0, instr_is, live_is, locals, none_if, stands}
use Rattle.pg_law_plan.proofs.KnownCalls.{after_live}
use Rattle.pg_law_plan.proofs.LikeOperands.{argument_like}
use Rattle.pg_law_plan.proofs.LoadFits.{effect_reads, effect_request, effect_thread, effect_word, effect_writes}
use Rattle.pg_law_plan.proofs.LikeRequests.{core}
use Rattle.pg_law_plan.proofs.ComputedNumbers.{on_some, value_done}
use Rattle.pg_law_plan.proofs.RequestEffects.{Shape, shape_out, shape_print}

either_false : (b : Bool) → (if b then false else false) ≡ false
either_false true = refl
either_false false = refl

-- ---- lists of words

pub word_set : {A : Type 0} (xs : List A) (i : ℕ) (x z : A) → i < length xs → slice_index_or (slice_set xs i x) i z ≡ x
word_set [] i x z h = absurd (omega arith)
word_set (y ∷ xs) zero x z h = refl
word_set (y ∷ xs) (suc i) x z h = word_set xs i x z (omega arith)

pub word_pushed : {A : Type 0} (xs : List A) (x z : A) → slice_index_or (xs ++ x ∷ []) (length xs) z ≡ x
word_pushed [] x z = refl
word_pushed (y ∷ xs) x z = word_pushed xs x z

pub word_there : {A : Type 0} (xs : List A) (i : ℕ) (x z : A) → i < length xs → slice_index_or xs i x ≡ slice_index_or xs i z
word_there [] i x z h = absurd (omega arith)
word_there (y ∷ xs) zero x z h = refl
word_there (y ∷ xs) (suc i) x z h = word_there xs i x z (omega arith)

module _ (r : ReferenceRun) (d : Taken) (input : List ℤ) (program : IsProgram r.program) (u : PlanUnit) (st : State) (moves : ℕ → ℕ) (y : Step) (q : Pair r d input u st moves y)
    (good : IsGood (reference_of r) d input u.seen) (objects : is_event_at u.seen ≡ true → objects_of u.state ≡ objects_of st) where
  open locals r d input u st moves y q use {l0, l}

  abbrev pub ef : Effect
  ef = effect_of r.program input st y.thread.0

  -- ---- what an event touches

  module _ (r0 r1 : Request) (act0 : next_of r.program u.state (thread_in u.seen.moment) ≡ actions.Event r0) (act : next_of r.program st (thread_in u.seen.moment) ≡ actions.Event r1)
      (same : core r1 ≡ core r0) where
    abbrev pub ev : Event
    ev = event0 r d input program u st moves y q good objects r0 r1 act0 act same

    kind_event : kind_in u.seen ≡ kinds.Event ev
    kind_event = kind0_is r d input program u st moves y q good objects r0 act0

    pub known_words : u.known.words ≡ words_after r.program (thread_in u.seen.moment) (kind_of r0) q.both.ks q.both.x.op u.seen.before.words
    known_words =
        ap (λ (z : SymbolicState). z.words) (q.unit.known
        ∙ after_live (reference_of r) d u.seen.number u.seen.moment u.seen.before q.both.x (instr_is r d input u st moves y q) (live_is r d input u st moves y q))
        ∙ ap (λ (k : StepKind). (live_by r.program d u.seen.number u.seen.moment
        (region_of r.program r.regions u.seen.moment (instr_in r.program u.seen.moment)) q.both.x k u.seen.before).words) kind_event
        ∙ ap (λ (ks : List Symbolic). words_after r.program (thread_in u.seen.moment) (kind_of r0) ks q.both.x.op u.seen.before.words) (top_known r d input u st moves y q)

    pub known_bytes : u.known.bytes ≡ bytes_by ev (write_told u.state (Rattle.pg_law_plan.proofs.ObjectEventFits.numbers0 r d input program u st moves y q good objects) r0) u.seen.before.words
        u.seen.before.bytes
    known_bytes =
        ap (λ (z : SymbolicState). z.bytes) (q.unit.known
        ∙ after_live (reference_of r) d u.seen.number u.seen.moment u.seen.before q.both.x (instr_is r d input u st moves y q) (live_is r d input u st moves y q))
        ∙ ap (λ (k : StepKind). (live_by r.program d u.seen.number u.seen.moment
        (region_of r.program r.regions u.seen.moment (instr_in r.program u.seen.moment)) q.both.x k u.seen.before).bytes) kind_event

    pub cw_is : (c : ℕ) → cell_written ef c ≡ (if nat_lt c MEMORY_BYTES then byte_in (request_write st r1) c else word_made (thread_made r.program st r1) (c - MEMORY_BYTES)
        (if thread_in u.seen.moment == (c - MEMORY_BYTES) then word_left r1 else None))
    cw_is c =
        ap (λ z. if nat_lt c MEMORY_BYTES then byte_in z c else word_in ef.thread ef.request (c - MEMORY_BYTES)) (effect_writes r d input program u st moves y q (actions.Event r1) act)
        ∙ ap (λ (z : Option RequestEffect). if nat_lt c MEMORY_BYTES then byte_in (request_write st r1) c else word_in ef.thread z (c - MEMORY_BYTES))
        (effect_request r d input program u st moves y q (actions.Event r1) act)
        ∙ ap (λ (v : ℕ). if nat_lt c MEMORY_BYTES then byte_in (request_write st r1) c else word_made (thread_made r.program st r1) (c - MEMORY_BYTES)
        (if v == (c - MEMORY_BYTES) then word_left r1 else None)) (effect_thread r d input program u st moves y q)

    pub wc_is : (c : ℕ) → writes_cell d u.seen c ≡ (if nat_lt c MEMORY_BYTES then list_any (λ f. is_written_in f c)
        (access_touch d u.seen.number (access_by (write_told u.state (Rattle.pg_law_plan.proofs.ObjectEventFits.numbers0 r d input program u st moves y q good objects) r0)) ++ []) else is_thread
        (event_word_written (thread_in u.seen.moment) ev (kind_of r0)) (c - MEMORY_BYTES))
    wc_is c =
        ap (λ (k : StepKind). if nat_lt c MEMORY_BYTES then list_any (λ f. is_written_in f c) (access_touch d u.seen.number (access_in k) ++ instance_touch d u.seen) else is_thread
        (word_written (thread_in u.seen.moment) k) (c - MEMORY_BYTES)) kind_event
        ∙ ap (λ (b : Bool). if nat_lt c MEMORY_BYTES then list_any (λ f. is_written_in f c)
        (access_touch d u.seen.number (access_in (kinds.Event ev)) ++ (if b then Rattle.pg_slice_rules.specs.Rules.footprints_in u.seen.region else [])) else is_thread
        (word_written (thread_in u.seen.moment) (kinds.Event ev)) (c - MEMORY_BYTES)) q.plain

    pub rc_is : (c : ℕ) → reads_cell d u.seen c ≡ (if nat_lt c MEMORY_BYTES then list_any (λ f. is_read_in f c)
        (access_touch d u.seen.number (access_by (write_told u.state (Rattle.pg_law_plan.proofs.ObjectEventFits.numbers0 r d input program u st moves y q good objects) r0)) ++ []) else is_thread
        (event_word_read (thread_in u.seen.moment) ev (kind_of r0)) (c - MEMORY_BYTES))
    rc_is c =
        ap (λ (k : StepKind). if nat_lt c MEMORY_BYTES then list_any (λ f. is_read_in f c) (access_touch d u.seen.number (access_in k) ++ instance_touch d u.seen) else is_thread
        (word_read (thread_in u.seen.moment) k) (c - MEMORY_BYTES)) kind_event
        ∙ ap (λ (b : Bool). if nat_lt c MEMORY_BYTES then list_any (λ f. is_read_in f c)
        (access_touch d u.seen.number (access_in (kinds.Event ev)) ++ (if b then Rattle.pg_slice_rules.specs.Rules.footprints_in u.seen.region else [])) else is_thread
        (word_read (thread_in u.seen.moment) (kinds.Event ev)) (c - MEMORY_BYTES)) q.plain

    pub er_is : (c : ℕ) → views.reads_cell ef c ≡ (if nat_lt c MEMORY_BYTES then false else is_thread (word_asked (thread_in u.seen.moment) r1) (c - MEMORY_BYTES))
    er_is c =
        ap (λ (o : Option ByteRange). if nat_lt c MEMORY_BYTES then is_in_range o c else is_thread ef.word_read (c - MEMORY_BYTES))
        (effect_reads r d input program u st moves y q (actions.Event r1) act)
        ∙ ap (λ (o : Option ℕ). if nat_lt c MEMORY_BYTES then false else is_thread o (c - MEMORY_BYTES)) (effect_word r d input program u st moves y q (actions.Event r1) act)

    -- where nothing is asked of a word nothing is read
    pub reads_nothing : word_asked (thread_in u.seen.moment) r1 ≡ None → (c : ℕ) → views.reads_cell ef c ≡ true → reads_cell d u.seen c ≡ true
    reads_nothing h c k = absurd (true≢false
        (sym k ∙ er_is c ∙ ap (λ (o : Option ℕ). if nat_lt c MEMORY_BYTES then false else is_thread o (c - MEMORY_BYTES)) h ∙ either_false (nat_lt c MEMORY_BYTES)))

    -- ---- put together

    pub event_fits : (known : List (List Symbolic)) → (thread_of u.known (thread_in u.seen.moment)).calls ≡ known →
        heap_after r.program (own_memory l) q.both.f.registers q.both.x.op ≡ heap_after r.program (own_memory l0) q.both.f0.registers q.both.x.op →
        AreCallsLike input (op_after r.program l0 q.both.x (answer0 r d input u st moves y q) q.both.x.op) known (op_after r.program l q.both.x (answer r d input u st moves y q) q.both.x.op) →
        reply_of (kind_of r0) (reply r d input program u st moves y q good objects) ≡ reply_of (kind_of r0) (reply0 r d input program u st moves y q good objects) →
        ((c : ℕ) (s : Symbolic) (m : ℕ) → IsCellLike input s m → IsCellLike input (or_old (if writes_cell d u.seen c then Some (cell_known u.known c) else None) s)
        (or_old (cell_written ef c) m)) →
        ((c : ℕ) → views.reads_cell ef c ≡ true → reads_cell d u.seen c ≡ true) → ((c : ℕ) → is_some (cell_written ef c) ≡ true → writes_cell d u.seen c ≡ true) →
        Fits (like input) (deed_of d u) (deed_moved r.program input st moves y)
    event_fits known e heap c replies cells reads writes = record {
      thread = q.own;
      to = stands r d input u st moves y q known e heap c;
      told = event_told_alike r d input program u st moves y q good objects r0 r1 act0 act same replies;
      objects = event_objects r d input program u st moves y q good objects r0 r1 act0 act same;
      cells = cells;
      reads = λ c k. or_left (reads_cell d u.seen c) _ (reads c k);
      writes = λ c k. some_if (writes_cell d u.seen c) (cell_known u.known c) (writes c k);
    }
      where
        some_if : (b : Bool) (x : Symbolic) → b ≡ true → is_some (if b then Some x else None) ≡ true
        some_if true x h = refl
        some_if false x h = h

    -- the calls as the event leaves them
    pub known_is : (thread_of u.known (thread_in u.seen.moment)).calls
        ≡ Rattle.pg_slice_rules.specs.Known.after_event r.program u.seen.moment ev (kind_of r0)
        (slice_index_or u.seen.before.words (thread_in u.seen.moment) Rattle.pg_slice_rules.specs.SymbolicValues.unset) q.both.x (q.both.ks ∷ q.both.more)
    known_is = event_known r d input program u st moves y q good objects r0 r1 act0 act same

    -- ---- a request that writes no cell

    pub cells_nothing : write_told u.state (Rattle.pg_law_plan.proofs.ObjectEventFits.numbers0 r d input program u st moves y q good objects) r0 ≡ None
        → event_word_written (thread_in u.seen.moment) ev (kind_of r0) ≡ None → request_write st r1 ≡ None → thread_made r.program st r1 ≡ None → word_left r1 ≡ None →
        ((c : ℕ) → writes_cell d u.seen c ≡ false) × ((c : ℕ) → cell_written ef c ≡ None)
    cells_nothing a b x y z = (
      (λ c. wc_is c ∙ ap (λ (w : Option ToldWrite). if nat_lt c MEMORY_BYTES then list_any (λ f. is_written_in f c) (access_touch d u.seen.number (access_by w) ++ []) else is_thread
          (event_word_written (thread_in u.seen.moment) ev (kind_of r0)) (c - MEMORY_BYTES)) a
          ∙ ap (λ (o : Option ℕ). if nat_lt c MEMORY_BYTES then false else is_thread o (c - MEMORY_BYTES)) b ∙ either_false (nat_lt c MEMORY_BYTES)),
      (λ c. cw_is c ∙ ap (λ w. if nat_lt c MEMORY_BYTES then byte_in w c else word_made (thread_made r.program st r1) (c - MEMORY_BYTES)
          (if thread_in u.seen.moment == (c - MEMORY_BYTES) then word_left r1 else None)) x
          ∙ ap (λ (m : Option MadeThread). if nat_lt c MEMORY_BYTES then None else word_made m (c - MEMORY_BYTES) (if thread_in u.seen.moment == (c - MEMORY_BYTES) then word_left r1 else None)) y
          ∙ ap (λ (o : Option ℕ). if nat_lt c MEMORY_BYTES then None else (if thread_in u.seen.moment == (c - MEMORY_BYTES) then o else None)) z
          ∙ nones (nat_lt c MEMORY_BYTES) (thread_in u.seen.moment == (c - MEMORY_BYTES))),
    )
      where
        nones : (a b : Bool) → Path (Option ℕ) (if a then None else (if b then None else None)) None
        nones true b = refl
        nones false true = refl
        nones false false = refl

  -- ---- prints

  out_done : (s : sync.Sync) (t n : ℕ) (line : Bool) → (sync.done s t (requests.Out n line)).1.value ≡ 0
  unfolding sync.done
  out_done s t n line = refl

  -- a number, with a line feed or without
  abbrev asks_out : Bool → List (Option ℕ) → List Value → Action
  asks_out line rs args = on_value (argument r.program rs args 0) (λ n. actions.Event (requests.Out n line))

  number_fits : (k : LibraryCall) (line : Bool) (args : List Value) → q.both.x.op ≡ op.CallLibrary k args → ((n : ℕ) → Shape k q.both.h (requests.Out n line))
      → next_of r.program u.state (thread_in u.seen.moment) ≡ asks_out line q.both.f0.registers args → CanStep (asks_out line q.both.f0.registers args)
      → next_of r.program st (thread_in u.seen.moment) ≡ asks_out line q.both.f.registers args → CanStep (asks_out line q.both.f.registers args)
      → Fits (like input) (deed_of d u) (deed_moved r.program input st moves y)
  number_fits k line args e shape act0 can0 act can =
      let p = r.program in
      let b = q.both in
      let v0 = value_done (argument p b.f0.registers args 0) (λ n. actions.Event (requests.Out n line)) can0 in
      let v = value_done (argument p b.f.registers args 0) (λ n. actions.Event (requests.Out n line)) can in
      shaped_fits r d input program u st moves y q good objects k args e (requests.Out v0.0 line) (requests.Out v.0 line)
      (act0 ∙ on_some (argument p b.f0.registers args 0) v0.0 (λ n. actions.Event (requests.Out n line)) v0.1)
      (act ∙ on_some (argument p b.f.registers args 0) v.0 (λ n. actions.Event (requests.Out n line)) v.1)
      refl (shape v0.0) (shape v.0) (λ s. out_done s (thread_in u.seen.moment) v.0 line ∙ sym (out_done s (thread_in u.seen.moment) v0.0 line))

  pub out_fits : (args : List Value) → q.both.x.op ≡ op.CallLibrary known.PgOut args → Fits (like input) (deed_of d u) (deed_moved r.program input st moves y)
  out_fits args e = let o = op.CallLibrary known.PgOut args in
      number_fits known.PgOut true args e (shape_out q.both.h) (act0_at r d input u st moves y q o e) (can0_at r d input u st moves y q o e)
      (act_at r d input u st moves y q o e) (can_at r d input u st moves y q o e)

  pub print_fits : (args : List Value) → q.both.x.op ≡ op.CallLibrary known.PgPrint args → Fits (like input) (deed_of d u) (deed_moved r.program input st moves y)
  print_fits args e = let o = op.CallLibrary known.PgPrint args in
      number_fits known.PgPrint false args e (shape_print q.both.h) (act0_at r d input u st moves y q o e) (can0_at r d input u st moves y q o e)
      (act_at r d input u st moves y q o e) (can_at r d input u st moves y q o e)

  putchar_done : (s : sync.Sync) (t n : ℕ) → (sync.done s t (requests.Putchar n)).1.value ≡ n % 256
  unfolding sync.done
  putchar_done s t n = refl

  low_small : (n : ℕ) → n % 256 % modulus W32 ≡ n % 2 ^ 8
  low_small n = omega arith

  pub putchar_fits : (args : List Value) → q.both.x.op ≡ op.CallLibrary known.Putchar args → Fits (like input) (deed_of d u) (deed_moved r.program input st moves y)
  putchar_fits args e =
      let p = r.program in
      let b = q.both in
      let t = thread_in u.seen.moment in
      let o = op.CallLibrary known.Putchar args in
      let v0 = value_done (argument p b.f0.registers args 0) (λ n. actions.Event (requests.Putchar n)) (can0_at r d input u st moves y q o e) in
      let v = value_done (argument p b.f.registers args 0) (λ n. actions.Event (requests.Putchar n)) (can_at r d input u st moves y q o e) in
      let act0 = act0_at r d input u st moves y q o e ∙ on_some (argument p b.f0.registers args 0) v0.0 (λ n. actions.Event (requests.Putchar n)) v0.1 in
      let act = act_at r d input u st moves y q o e ∙ on_some (argument p b.f.registers args 0) v.0 (λ n. actions.Event (requests.Putchar n)) v.1 in
      let r0 = requests.Putchar v0.0 in
      let r1 = requests.Putchar v.0 in
      let none = cells_nothing r0 r1 act0 act refl refl refl refl refl refl in
      let a : answer r d input u st moves y q ≡ v.0 % 256 = ap (answer_to input st t) act ∙ putchar_done st.sync t v.0 in
      event_fits r0 r1 act0 act refl (set_symbolic b.x.result (low_byte (operand_at p b.ks b.x.op 0)) b.ks ∷ b.more) (known_is r0 r1 act0 act refl)
      (ap (heap_after p (own_memory l) b.f.registers) e ∙ sym (ap (heap_after p (own_memory l0) b.f0.registers) e))
      (subst (λ (z : Op). AreCallsLike input (op_after p l0 b.x (answer0 r d input u st moves y q) z) (set_symbolic b.x.result (low_byte (operand_at p b.ks z 0)) b.ks ∷ b.more)
      (op_after p l b.x (answer r d input u st moves y q) z)) (sym e) (
        frame_stepped input b.f0 b.f b.ks b.x.result (low_byte (operand_at p b.ks o 0)) (answer0 r d input u st moves y q % modulus W32) (answer r d input u st moves y q % modulus W32) b.top
            (subst (λ (n : ℕ). IsLike input (low_byte (operand_at p b.ks o 0)) (Some n)) (sym (ap (λ (n : ℕ). n % modulus W32) a ∙ low_small v.0))
            (cut_like input (λ n. n % 2 ^ 8) (operand_at p b.ks o 0) v.0
            (subst (λ (m : Option ℕ). IsLike input (operand_at p b.ks o 0) m) v.1 (argument_like input p b.ks b.f.registers b.top.registers args 0)))),
        b.rest,
      ))
      refl (λ c s m k. rw (none_if (writes_cell d u.seen c) (cell_known u.known c) (none.0 c), none.1 c) k) (reads_nothing r0 r1 act0 act refl refl)
      (λ c k. absurd (true≢false (sym k ∙ ap is_some (none.1 c))))
