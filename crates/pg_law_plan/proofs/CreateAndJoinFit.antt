-- Creates and joins fit.
use Rattle.std.proofs.Common.{◌≡◌, ℕ, ℤ, ◌<◌, ◌+◌, ◌-◌, Bool, true, false, List, [], ◌∷◌, ◌++◌, length, Option, Some, None, Result, Ok, refl, sym, ap}
use Rattle.std.proofs.Common.{◌∙◌, subst, arith}
use Rattle.std.specs.Prelude.{◌||◌, ◌==◌, nat_lt, is_some, slice_get, slice_index, slice_index_or, if◌then◌else◌}
use Rattle.std.proofs.lemmas.Option.{slice_get_within}
use Rattle.std.proofs.lemmas.Bool.{false_from_ne_true, ltb-true, eq-eqb, eqb-true, true≢false}
use Rattle.pg_num.specs.Places.{ByteRange}
use Rattle.pg_num.specs.declared.layout.TheConstants.{MEMORY_BYTES}
use Rattle.pg_ir.specs.declared.instr.Op.{Op}
use Rattle.pg_ir.specs.declared.instr.Op.TheVariants as op
use Rattle.pg_ir.specs.declared.library_call.LibraryCall.TheVariants as known
use Rattle.pg_ir.specs.declared.request.Request.{Request}
use Rattle.pg_ir.specs.declared.request.Request.TheVariants as requests
use Rattle.pg_ir.specs.declared.value.Value.{Value}
use Rattle.pg_ir.specs.Program.{NumberedProgram}
use Rattle.pg_ir.specs.WellFormed.{IsProgram}
use Rattle.pg_law_threads.specs.Effects.{or_old}
use Rattle.pg_law_threads.specs.Plans.{Fits}
use Rattle.pg_run_objects.specs.Sync as sync
use Rattle.pg_run_objects.specs.declared.status.Status.{Status}
use Rattle.pg_run_thread.specs.declared.action.Action.{Action}
use Rattle.pg_run_thread.specs.declared.action.Action.TheVariants as actions
use Rattle.pg_run_thread.specs.LocalState.{own_memory}
use Rattle.pg_run_thread.specs.Operands.{argument, given, operands_of}
use Rattle.pg_run_thread.specs.States.{CanStep}
use Rattle.pg_run_thread.specs.Step.{heap_after, on_value, op_after}
use Rattle.pg_run_thread.specs.Told.{op_own, or_zero}
use Rattle.pg_run_trace.specs.declared.step.Step.{Step}
use Rattle.pg_run_trace.specs.Kinds.{kind_of}
use Rattle.pg_run.specs.State.{State, next_of}
use Rattle.pg_law_effects.specs.Effect.{answer_to}
use Rattle.pg_law_effects.specs.Views.{cell_at, cell_written, objects_of}
use Rattle.pg_law_effects.specs.Views as views
use Rattle.pg_slice_rules.specs.Known.{Taken, operand_at, set_symbolic}
use Rattle.pg_slice_rules.specs.Moments.{thread_in}
use Rattle.pg_slice_rules.specs.SymbolicValues.{Symbolic, always}
use Rattle.pg_law_plan.specs.Likes.{AreCallsLike, IsCellLike, IsLike, like}
use Rattle.pg_law_plan.specs.Moves.{deed_moved}
use Rattle.pg_law_plan.specs.Units.{PlanUnit, ReferenceRun, cell_known, deed_of, is_event_at, reads_cell, reference_of, writes_cell}
use Rattle.pg_law_plan.proofs.AccessFits.{cut_like}
use Rattle.pg_law_plan.proofs.BranchFits.{act0_at, act_at, can0_at, can_at}
use Rattle.pg_law_plan.proofs.ObjectEventFits.{reply, reply0, shaped_fits}
use Rattle.pg_law_plan.proofs.StepChecks.{IsGood}
use Rattle.pg_law_plan.proofs.LocalStepFits.{Pair, answer, answer0, locals}
use Rattle.pg_law_plan.proofs.LikeOperands.{argument_like, valued_like}
use Rattle.pg_law_plan.proofs.ComputedNumbers.{on_some, value_done}
use Rattle.pg_ir.specs.declared.request.TrapName.{TrapName}
use Rattle.pg_ir.specs.declared.request.TrapName.TheVariants as traps
use Rattle.pg_run_memory.specs.Bytes.{byte_of}
use Rattle.pg_num.specs.Pointers.{byte_place, place_of}
use Rattle.pg_num.specs.declared.places.PlaceFault.{PlaceFault}
use Rattle.pg_run_thread.specs.Operands.{first_four}
use Rattle.pg_run_thread.specs.Step.{create_action, cut_to, join_action, join_at, on_null, on_place}
use Rattle.pg_ir.specs.Signatures.{returned_by}
use Rattle.pg_run.proofs.ActionPlaces.{place_is}
use Rattle.pg_law_effects.proofs.ThreadLimits.{did_allowed}
use Rattle.pg_law_effects.proofs.ReachedStates.{fresh_number}
use Rattle.pg_run_trace.specs.Races.{is_in}
use Rattle.pg_slice_rules.specs.SymbolicValues.{byte_in as byte_symbolic, unset}
use Rattle.pg_law_plan.proofs.AccessFits.{place_done}
use Rattle.pg_law_plan.proofs.AllocationFits.{told_number}
use Rattle.pg_law_plan.proofs.ObjectEventFits.{checked_same, numbers0, same_sync}
use Rattle.pg_law_plan.proofs.LikeRequests.{same_action}
use Rattle.pg_law_plan.proofs.RequestEffects.{shape_join}
use Rattle.pg_law_plan.proofs.ThreadEventFits.{cw_is, er_is, event_fits, known_bytes, known_is, known_words, rc_is, reads_nothing, wc_is, word_pushed, word_there}

null_done : (a : ℕ) (act : Action) → CanStep (on_null a act) → on_null a act ≡ act
null_done a act h = go (a == 0) h
  where
    go : (b : Bool) → CanStep (if b then act else actions.Trap traps.BadAttribute) → (if b then act else actions.Trap traps.BadAttribute) ≡ act
    go true h = refl
    go false h = absurd h

-- a create that can be done
record Creates (p : NumberedProgram) (rs : List (Option ℕ)) (args : List Value) : Type 0 where
  word : ℕ
  function : ℕ
  number : ℕ
  range : ByteRange
  is_word : argument p rs args 0 ≡ Some word
  is_function : argument p rs args 2 ≡ Some function
  is_number : argument p rs args 3 ≡ Some number
  place : place_of word 8 ≡ Ok range
  is : create_action p rs args ≡ actions.Event (requests.Create range function number)

creates : (p : NumberedProgram) (rs : List (Option ℕ)) (args : List Value) → CanStep (create_action p rs args) → Creates p rs args
creates p rs args h =
    let w = value_done (argument p rs args 0) (λ w. on_value (argument p rs args 1)
    (λ a. on_value (argument p rs args 2) (λ f. on_value (argument p rs args 3) (λ n. on_place w 8 (λ r. on_null a (actions.Event (requests.Create r f n))))))) h in
    let a = value_done (argument p rs args 1) (λ a. on_value (argument p rs args 2)
    (λ f. on_value (argument p rs args 3) (λ n. on_place w.0 8 (λ r. on_null a (actions.Event (requests.Create r f n)))))) w.2 in
    let f = value_done (argument p rs args 2) (λ f. on_value (argument p rs args 3) (λ n. on_place w.0 8 (λ r. on_null a.0 (actions.Event (requests.Create r f n))))) a.2 in
    let n = value_done (argument p rs args 3) (λ n. on_place w.0 8 (λ r. on_null a.0 (actions.Event (requests.Create r f.0 n)))) f.2 in
    let g = place_done w.0 8 (λ r. on_null a.0 (actions.Event (requests.Create r f.0 n.0))) n.2 in
    record {
      word = w.0;
      function = f.0;
      number = n.0;
      range = g.0;
      is_word = w.1;
      is_function = f.1;
      is_number = n.1;
      place = g.1;
      is = on_some (argument p rs args 0) w.0 (λ w. on_value (argument p rs args 1)
          (λ a. on_value (argument p rs args 2) (λ f. on_value (argument p rs args 3) (λ n. on_place w 8 (λ r. on_null a (actions.Event (requests.Create r f n))))))) w.1
          ∙ on_some (argument p rs args 1) a.0 (λ a. on_value (argument p rs args 2)
          (λ f. on_value (argument p rs args 3) (λ n. on_place w.0 8 (λ r. on_null a (actions.Event (requests.Create r f n)))))) a.1
          ∙ on_some (argument p rs args 2) f.0 (λ f. on_value (argument p rs args 3) (λ n. on_place w.0 8 (λ r. on_null a.0 (actions.Event (requests.Create r f n))))) f.1
          ∙ on_some (argument p rs args 3) n.0 (λ n. on_place w.0 8 (λ r. on_null a.0 (actions.Event (requests.Create r f.0 n)))) n.1
          ∙ g.2 ∙ null_done a.0 (actions.Event (requests.Create g.0 f.0 n.0)) (subst CanStep g.2 n.2);
    }

some_same : (a b : ℕ) → Path (Option ℕ) (Some a) (Some b) → a ≡ b
some_same a b e = cc

ok_same : (a b : ByteRange) → Path (Result ByteRange PlaceFault) (Ok a) (Ok b) → a ≡ b
ok_same a b e = cc

-- ---- eight bytes that are written in both runs

or_nothing : (b : Bool) → (b || false) ≡ b
or_nothing true = refl
or_nothing false = refl

module _ (input : List ℤ) (R : ByteRange) (bytes : ℕ → Symbolic) (s : Symbolic) (n : ℕ) (value : IsLike input s (Some n)) where
  -- a byte of a range that is stored to
  stored_cell : (c : ℕ) (X v : Symbolic) (m : ℕ) → X ≡ Rattle.pg_slice_rules.specs.SymbolicValues.stored R s bytes c → IsCellLike input v m →
      IsCellLike input (or_old (if is_in R c then Some X else None) v) (or_old (if is_in R c then Some (byte_of n (c - R.start)) else None) m)
  stored_cell c X v m e k = go (is_in R c) refl
    where
      go : (b : Bool) → is_in R c ≡ b → IsCellLike input (or_old (if b then Some X else None) v) (or_old (if b then Some (byte_of n (c - R.start)) else None) m)
      go false w = k
      go true w = subst (λ (z : Symbolic). IsLike input z (Some (byte_of n (c - R.start)))) (sym (e ∙ ap (λ (b : Bool). if b then byte_symbolic (c - R.start) s else bytes c) w))
          (cut_like input (λ k. byte_of k (c - R.start)) s n value)

module _ (r : ReferenceRun) (d : Taken) (input : List ℤ) (program : IsProgram r.program) (u : PlanUnit) (st : State) (moves : ℕ → ℕ) (y : Step) (q : Pair r d input u st moves y)
    (good : IsGood (reference_of r) d input u.seen) (objects : is_event_at u.seen ≡ true → objects_of u.state ≡ objects_of st)
    (words : length u.seen.before.words ≡ length u.state.locals) where
  open locals r d input u st moves y q use {l0, l, ef}

  abbrev ns0 : List ℕ
  ns0 = numbers0 r d input program u st moves y q good objects

  -- as many threads are made in both
  same_threads : st.sync ≡ u.state.sync → length st.locals ≡ length u.state.locals
  same_threads e = sym q.reached.machine.threads ∙ ap (λ (z : sync.Sync). length z.threads) e ∙ q.unit.met.reached.machine.threads

  -- ---- creates

  module _ (args : List Value) (e : q.both.x.op ≡ op.CallLibrary known.PthreadCreate args) (R : ByteRange) (g n0 n1 w0 : ℕ) (place : place_of w0 8 ≡ Ok R)
      (act0 : next_of r.program u.state (thread_in u.seen.moment) ≡ actions.Event (requests.Create R g n0))
      (act : next_of r.program st (thread_in u.seen.moment) ≡ actions.Event (requests.Create R g n1))
      (word0 : argument r.program q.both.f0.registers args 0 ≡ Some w0) (number : argument r.program q.both.f.registers args 3 ≡ Some n1) where
    abbrev r0 : Request
    r0 = requests.Create R g n0

    abbrev r1 : Request
    r1 = requests.Create R g n1

    range_is : record { start = byte_place (slice_index ns0 0); bytes = 8 } ≡ R
    range_is = ap (λ (w : ℕ). record { start = byte_place w; bytes = 8 }) (ap (λ (z : Op). slice_index (first_four r.program q.both.f0.registers (operands_of z)) 0) e ∙ ap given word0)
        ∙ place_is w0 8 R place

    threads_same : length st.locals ≡ length u.state.locals
    threads_same = same_threads (same_sync r d input program u st moves y q good objects r0 r1 act0 act refl)

    bytes_is : (c : ℕ) → nat_lt c MEMORY_BYTES ≡ true → cell_known u.known c ≡ Rattle.pg_slice_rules.specs.SymbolicValues.stored R (always (length u.state.locals)) u.seen.before.bytes c
    bytes_is c lt = ap (λ (z : Bool). if z then u.known.bytes c else slice_index_or u.known.words (c - MEMORY_BYTES) (always 0)) lt
        ∙ ap (λ (f : ℕ → Symbolic). f c) (known_bytes r d input program u st moves y q good objects r0 r1 act0 act refl)
        ∙ ap (λ (z : ByteRange). Rattle.pg_slice_rules.specs.SymbolicValues.stored z (always (length u.state.locals)) u.seen.before.bytes c) range_is

    argument_known : IsLike input (operand_at r.program q.both.ks q.both.x.op 3) (Some n1)
    argument_known = subst (λ (z : Op). IsLike input (operand_at r.program q.both.ks z 3) (Some n1)) (sym e)
        (subst (λ (m : Option ℕ). IsLike input (operand_at r.program q.both.ks (op.CallLibrary known.PthreadCreate args) 3) m) number
        (argument_like input r.program q.both.ks q.both.f.registers q.both.top.registers args 3))

    word_is : (c : ℕ) → nat_lt c MEMORY_BYTES ≡ false → (length u.state.sync.threads == (c - MEMORY_BYTES)) ≡ true → IsLike input (cell_known u.known c) (Some n1)
    word_is c lt w = subst (λ (s : Symbolic). IsLike input s (Some n1))
        (sym (ap (λ (z : Bool). if z then u.known.bytes c else slice_index_or u.known.words (c - MEMORY_BYTES) (always 0)) lt
        ∙ ap (λ (ws : List Symbolic). slice_index_or ws (c - MEMORY_BYTES) (always 0)) (known_words r d input program u st moves y q good objects r0 r1 act0 act refl)
        ∙ ap (λ (i : ℕ). slice_index_or (u.seen.before.words ++ operand_at r.program q.both.ks q.both.x.op 3 ∷ []) i (always 0))
        (sym (words ∙ sym q.unit.met.reached.machine.threads ∙ eqb-true (length u.state.sync.threads) (c - MEMORY_BYTES) w))
        ∙ word_pushed u.seen.before.words (operand_at r.program q.both.ks q.both.x.op 3) (always 0))) argument_known

    wc_here : (c : ℕ) → writes_cell d u.seen c ≡ (if nat_lt c MEMORY_BYTES then is_in R c else (length u.state.sync.threads == (c - MEMORY_BYTES)))
    wc_here c = wc_is r d input program u st moves y q good objects r0 r1 act0 act refl c
        ∙ ap (λ (b : Bool). if nat_lt c MEMORY_BYTES then b else (length u.state.sync.threads == (c - MEMORY_BYTES)))
        (or_nothing (is_in (record { start = byte_place (slice_index ns0 0); bytes = 8 }) c) ∙ ap (λ (z : ByteRange). is_in z c) range_is)

    nones : (b : Bool) → Path (Option ℕ) (if b then None else None) None
    nones true = refl
    nones false = refl

    cw_here : (c : ℕ) → cell_written ef c ≡ (if nat_lt c MEMORY_BYTES then (if is_in R c then Some (byte_of (length st.locals) (c - R.start)) else None) else
        (if length u.state.sync.threads == (c - MEMORY_BYTES) then Some n1 else None))
    cw_here c = cw_is r d input program u st moves y q good objects r0 r1 act0 act refl c
        ∙ ap (λ (v : ℕ). if nat_lt c MEMORY_BYTES then (if is_in R c then Some (byte_of (length st.locals) (c - R.start)) else None) else
        (if v == (c - MEMORY_BYTES) then Some n1 else (if thread_in u.seen.moment == (c - MEMORY_BYTES) then None else None)))
        (fresh_number r.program (length st.locals) g ∙ threads_same ∙ sym q.unit.met.reached.machine.threads)
        ∙ ap (λ (o : Option ℕ). if nat_lt c MEMORY_BYTES then (if is_in R c then Some (byte_of (length st.locals) (c - R.start)) else None) else
        (if length u.state.sync.threads == (c - MEMORY_BYTES) then Some n1 else o)) (nones (thread_in u.seen.moment == (c - MEMORY_BYTES)))

    create_cell : (c : ℕ) (s : Symbolic) (m : ℕ) → IsCellLike input s m
        → IsCellLike input (or_old (if writes_cell d u.seen c then Some (cell_known u.known c) else None) s) (or_old (cell_written ef c) m)
    create_cell c s m k = rw (wc_here c, cw_here c) (go (nat_lt c MEMORY_BYTES) refl (length u.state.sync.threads == (c - MEMORY_BYTES)) refl)
      where
        go : (x : Bool) → nat_lt c MEMORY_BYTES ≡ x → (w : Bool) → (length u.state.sync.threads == (c - MEMORY_BYTES)) ≡ w →
            IsCellLike input (or_old (if (if x then is_in R c else w) then Some (cell_known u.known c) else None) s)
            (or_old (if x then (if is_in R c then Some (byte_of (length st.locals) (c - R.start)) else None) else (if w then Some n1 else None)) m)
        go true v w z = stored_cell input R u.seen.before.bytes (always (length u.state.locals)) (length st.locals)
            (valued_like input (λ i. Some (length u.state.locals)) (Some (length st.locals)) (ap Some threads_same)) c (cell_known u.known c) s m (bytes_is c v) k
        go false v false z = k
        go false v true z = word_is c v z

    create_writes : (c : ℕ) → is_some (cell_written ef c) ≡ true → writes_cell d u.seen c ≡ true
    create_writes c k = wc_here c ∙ go (nat_lt c MEMORY_BYTES) (is_in R c) (length u.state.sync.threads == (c - MEMORY_BYTES)) (sym (ap is_some (cw_here c)) ∙ k)
      where
        go : (x i w : Bool) → is_some (if x then (if i then Some (byte_of (length st.locals) (c - R.start)) else None) else (if w then Some n1 else None)) ≡ true → (if x then i else w) ≡ true
        go true true w h = refl
        go true false w h = absurd (true≢false (sym h))
        go false i true h = refl
        go false i false h = absurd (true≢false (sym h))

    pub created_writes : (c : ℕ) → nat_lt c MEMORY_BYTES ≡ true → writes_cell d u.seen c ≡ true → is_some (cell_written ef c) ≡ true
    created_writes c lt h =
        let there : is_in R c ≡ true = sym (ap (λ (b : Bool). if b then is_in R c else (length u.state.sync.threads == (c - MEMORY_BYTES))) lt) ∙ sym (wc_here c) ∙ h in
        ap is_some (cw_here c)
        ∙ ap (λ (b : Bool). is_some (if b then (if is_in R c then Some (byte_of (length st.locals) (c - R.start)) else None) else
        (if length u.state.sync.threads == (c - MEMORY_BYTES) then Some n1 else None))) lt
        ∙ ap (λ (b : Bool). is_some (if b then Some (byte_of (length st.locals) (c - R.start)) else None)) there

    create_done : (s : sync.Sync) (m : ℕ) → (sync.done s (thread_in u.seen.moment) (requests.Create R g m)).1.value ≡ 0
    unfolding sync.done
    create_done s m = refl

    answers : answer r d input u st moves y q ≡ answer0 r d input u st moves y q
    answers = ap (answer_to input st (thread_in u.seen.moment)) act ∙ create_done st.sync n1 ∙ sym (ap (answer_to r.input u.state (thread_in u.seen.moment)) act0 ∙ create_done u.state.sync n0)

    replies : reply r d input program u st moves y q good objects ≡ reply0 r d input program u st moves y q good objects
    replies = ap (or_zero q.both.x.result) (ap (op_own r.program l q.both.f.registers (answer r d input u st moves y q)) e ∙ ap (cut_to (returned_by known.PthreadCreate)) answers
        ∙ sym (ap (op_own r.program l0 q.both.f0.registers (answer0 r d input u st moves y q)) e))

    pub created_fits : Fits (like input) (deed_of d u) (deed_moved r.program input st moves y)
    created_fits = event_fits r d input program u st moves y q good objects r0 r1 act0 act refl _ (known_is r d input program u st moves y q good objects r0 r1 act0 act refl)
        (ap (heap_after r.program (own_memory l) q.both.f.registers) e ∙ sym (ap (heap_after r.program (own_memory l0) q.both.f0.registers) e))
        (subst (λ (z : Op). AreCallsLike input (op_after r.program l0 q.both.x (answer0 r d input u st moves y q) z)
        (set_symbolic q.both.x.result (always (or_zero q.both.x.result (op_own r.program l0 q.both.f0.registers (answer0 r d input u st moves y q) z))) q.both.ks ∷ q.both.more)
        (op_after r.program l q.both.x (answer r d input u st moves y q) z)) (sym e) (
          record {
            function = q.both.top.function;
            place = ap (λ (i : ℕ). i + 1) q.both.top.place;
            height = q.both.top.height;
            registers = told_number input q.both.x.result q.both.ks q.both.f.registers (cut_to (returned_by known.PthreadCreate) (answer0 r d input u st moves y q))
                (cut_to (returned_by known.PthreadCreate) (answer r d input u st moves y q)) q.both.top.registers (ap (cut_to (returned_by known.PthreadCreate)) (sym answers));
          },
          q.both.rest,
        ))
        replies create_cell (reads_nothing r d input program u st moves y q good objects r0 r1 act0 act refl refl) create_writes

  -- a create in both runs
  abbrev pub AsCreate : List Value → Type 0 → Type 0
  AsCreate args P = (R : ByteRange) (g n0 n1 w0 : ℕ) → place_of w0 8 ≡ Ok R →
      next_of r.program u.state (thread_in u.seen.moment) ≡ actions.Event (requests.Create R g n0) → next_of r.program st (thread_in u.seen.moment) ≡ actions.Event (requests.Create R g n1) →
      argument r.program q.both.f0.registers args 0 ≡ Some w0 → argument r.program q.both.f.registers args 3 ≡ Some n1 → P

  pub create_as : (args : List Value) → q.both.x.op ≡ op.CallLibrary known.PthreadCreate args → (P : Type 0) → AsCreate args P → P
  create_as args e P with_create =
      let p = r.program in
      let b = q.both in
      let o = op.CallLibrary known.PthreadCreate args in
      let c0 = creates p b.f0.registers args (can0_at r d input u st moves y q o e) in
      let c = creates p b.f.registers args (can_at r d input u st moves y q o e) in
      let act0 = act0_at r d input u st moves y q o e ∙ c0.is in
      let same = checked_same r d input program u st moves y q good objects known.PthreadCreate args e (requests.Create c0.range c0.function c0.number) act0 refl in
      let w : c.word ≡ c0.word = some_same c.word c0.word (sym c.is_word ∙ same.0 ∙ c0.is_word) in
      let f : c.function ≡ c0.function = some_same c.function c0.function (sym c.is_function ∙ same.1.1.0 ∙ c0.is_function) in
      let R : c.range ≡ c0.range = ok_same c.range c0.range (sym c.place ∙ ap (λ (v : ℕ). place_of v 8) w ∙ c0.place) in
      let act : next_of p st (thread_in u.seen.moment) ≡ actions.Event (requests.Create c0.range c0.function c.number) =
      act_at r d input u st moves y q o e ∙ c.is ∙ ap (λ (z : ByteRange). actions.Event (requests.Create z c.function c.number)) R
      ∙ ap (λ (z : ℕ). actions.Event (requests.Create c0.range z c.number)) f in
      with_create c0.range c0.function c0.number c.number c0.word c0.place act0 act c0.is_word c.is_number

  pub create_fits : (args : List Value) → q.both.x.op ≡ op.CallLibrary known.PthreadCreate args → Fits (like input) (deed_of d u) (deed_moved r.program input st moves y)
  create_fits args e = create_as args e (Fits (like input) (deed_of d u) (deed_moved r.program input st moves y))
      (λ R g n0 n1 w0 place act0 act word0 number. created_fits args e R g n0 n1 w0 place act0 act word0 number)

  -- ---- joins

  module _ (cells : (c : ℕ) → reads_cell d u.seen c ≡ true → IsCellLike input (cell_known u.seen.before c) (cell_at st c)) where
    module _ (args : List Value) (e : q.both.x.op ≡ op.CallLibrary known.PthreadJoin args) (g : ℕ) (R : ByteRange) (w0 : ℕ) (place : place_of w0 8 ≡ Ok R)
        (act0 : next_of r.program u.state (thread_in u.seen.moment) ≡ actions.Event (requests.Join g (Some R)))
        (act : next_of r.program st (thread_in u.seen.moment) ≡ actions.Event (requests.Join g (Some R)))
        (word0 : argument r.program q.both.f0.registers args 1 ≡ Some w0) where
      abbrev rj : Request
      rj = requests.Join g (Some R)

      join_range : record { start = byte_place (slice_index ns0 1); bytes = 8 } ≡ R
      join_range = ap (λ (w : ℕ). record { start = byte_place w; bytes = 8 }) (ap (λ (z : Op). slice_index (first_four r.program q.both.f0.registers (operands_of z)) 1) e ∙ ap given word0)
          ∙ place_is w0 8 R place

      -- the joined thread was made
      joined_made : g < length u.seen.before.words
      unfolding sync.check
      joined_made =
          let a = did_allowed r.gated r.program r.input u.state q.unit.met.takes.after (thread_in u.seen.moment) u.seen.moment.did.did q.unit.met.takes.is_step in
          let k = made (slice_get u.state.sync.threads g) refl (subst (λ (z : Action). Rattle.pg_law_effects.proofs.ThreadLimits.IsAllowed u.state (thread_in u.seen.moment) z) act0 a) in
          let m = q.unit.met.reached.machine.threads in
          omega (arith, k, m, words)
        where
          made : (o : Option Status) → slice_get u.state.sync.threads g ≡ o
              → Path (Option TrapName) (sync.unless (sync.may_join (thread_in u.seen.moment) g (slice_get u.state.sync.threads g)) traps.BadJoin) None → g < length u.state.sync.threads
          made (Some z) k h = slice_get_within u.state.sync.threads g z k
          made None k h = let j : Path (Option TrapName) (Some traps.BadJoin) None =
              sym (ap (λ (z : Option Status). sync.unless (sync.may_join (thread_in u.seen.moment) g z) traps.BadJoin) k) ∙ h in absurd cc

      behind_memory : (i : ℕ) → (nat_lt (MEMORY_BYTES + i) MEMORY_BYTES ≡ false) × (MEMORY_BYTES + i - MEMORY_BYTES ≡ i)
      behind_memory i = (false_from_ne_true (nat_lt (MEMORY_BYTES + i) MEMORY_BYTES) (λ h. let lt = ltb-true (MEMORY_BYTES + i) MEMORY_BYTES h in absurd (omega (arith, lt))), omega arith)

      rc_here : (c : ℕ) → reads_cell d u.seen c ≡ (if nat_lt c MEMORY_BYTES then false else g == (c - MEMORY_BYTES))
      rc_here c = rc_is r d input program u st moves y q good objects rj rj act0 act refl c

      joined_word : IsLike input (slice_index_or u.seen.before.words g unset) (Some (slice_index st.words g))
      joined_word =
          let b = behind_memory g in
          let k : reads_cell d u.seen (MEMORY_BYTES + g) ≡ true = rc_here (MEMORY_BYTES + g) ∙ ap (λ (z : Bool). if z then false else g == (MEMORY_BYTES + g - MEMORY_BYTES)) b.0
          ∙ ap (λ (i : ℕ). g == i) b.1 ∙ eq-eqb g g refl in
          let h = cells (MEMORY_BYTES + g) k in
          let x : cell_known u.seen.before (MEMORY_BYTES + g) ≡ slice_index_or u.seen.before.words g unset =
          ap (λ (z : Bool). if z then u.seen.before.bytes (MEMORY_BYTES + g) else slice_index_or u.seen.before.words (MEMORY_BYTES + g - MEMORY_BYTES) (always 0)) b.0
          ∙ ap (λ (i : ℕ). slice_index_or u.seen.before.words i (always 0)) b.1 ∙ sym (word_there u.seen.before.words g unset (always 0) joined_made) in
          let z : cell_at st (MEMORY_BYTES + g) ≡ slice_index st.words g =
          ap (λ (z : Bool). if z then Rattle.pg_run_memory.specs.Memory.byte_at st.memory (MEMORY_BYTES + g) else slice_index st.words (MEMORY_BYTES + g - MEMORY_BYTES)) b.0
          ∙ ap (slice_index st.words) b.1 in
          subst (λ (s : Symbolic). IsLike input s (Some (slice_index st.words g))) x (subst (λ (n : ℕ). IsLike input (cell_known u.seen.before (MEMORY_BYTES + g)) (Some n)) z h)

      join_bytes : (c : ℕ) → nat_lt c MEMORY_BYTES ≡ true → cell_known u.known c ≡ Rattle.pg_slice_rules.specs.SymbolicValues.stored R (slice_index_or u.seen.before.words g unset) u.seen.before.bytes c
      join_bytes c lt = ap (λ (z : Bool). if z then u.known.bytes c else slice_index_or u.known.words (c - MEMORY_BYTES) (always 0)) lt
          ∙ ap (λ (f : ℕ → Symbolic). f c) (known_bytes r d input program u st moves y q good objects rj rj act0 act refl)
          ∙ ap (λ (z : ByteRange). Rattle.pg_slice_rules.specs.SymbolicValues.stored z (slice_index_or u.seen.before.words g unset) u.seen.before.bytes c) join_range

      wj : (c : ℕ) → writes_cell d u.seen c ≡ (if nat_lt c MEMORY_BYTES then is_in R c else false)
      wj c = wc_is r d input program u st moves y q good objects rj rj act0 act refl c
          ∙ ap (λ (b : Bool). if nat_lt c MEMORY_BYTES then b else false)
          (or_nothing (is_in (record { start = byte_place (slice_index ns0 1); bytes = 8 }) c) ∙ ap (λ (z : ByteRange). is_in z c) join_range)

      no_word : (b : Bool) → Path (Option ℕ) (if b then None else None) None
      no_word true = refl
      no_word false = refl

      cj : (c : ℕ) → cell_written ef c ≡ (if nat_lt c MEMORY_BYTES then (if is_in R c then Some (byte_of (slice_index st.words g) (c - R.start)) else None) else None)
      cj c = cw_is r d input program u st moves y q good objects rj rj act0 act refl c
          ∙ ap (λ (o : Option ℕ). if nat_lt c MEMORY_BYTES then (if is_in R c then Some (byte_of (slice_index st.words g) (c - R.start)) else None) else o)
          (no_word (thread_in u.seen.moment == (c - MEMORY_BYTES)))

      join_cell : (c : ℕ) (s : Symbolic) (m : ℕ) → IsCellLike input s m
          → IsCellLike input (or_old (if writes_cell d u.seen c then Some (cell_known u.known c) else None) s) (or_old (cell_written ef c) m)
      join_cell c s m k = rw (wj c, cj c) (go (nat_lt c MEMORY_BYTES) refl)
        where
          go : (x : Bool) → nat_lt c MEMORY_BYTES ≡ x → IsCellLike input (or_old (if (if x then is_in R c else false) then Some (cell_known u.known c) else None) s)
              (or_old (if x then (if is_in R c then Some (byte_of (slice_index st.words g) (c - R.start)) else None) else None) m)
          go true v = stored_cell input R u.seen.before.bytes (slice_index_or u.seen.before.words g unset) (slice_index st.words g) joined_word c (cell_known u.known c) s m (join_bytes c v) k
          go false v = k

      join_writes : (c : ℕ) → is_some (cell_written ef c) ≡ true → writes_cell d u.seen c ≡ true
      join_writes c k = wj c ∙ go (nat_lt c MEMORY_BYTES) (is_in R c) (sym (ap is_some (cj c)) ∙ k)
        where
          go : (x i : Bool) → is_some (if x then (if i then Some (byte_of (slice_index st.words g) (c - R.start)) else None) else None) ≡ true → (if x then i else false) ≡ true
          go true true h = refl
          go true false h = absurd (true≢false (sym h))
          go false i h = absurd (true≢false (sym h))

      pub joined_writes : (c : ℕ) → nat_lt c MEMORY_BYTES ≡ true → writes_cell d u.seen c ≡ true → is_some (cell_written ef c) ≡ true
      joined_writes c lt h =
          let there : is_in R c ≡ true = sym (ap (λ (b : Bool). if b then is_in R c else false) lt) ∙ sym (wj c) ∙ h in
          ap is_some (cj c) ∙ ap (λ (b : Bool). is_some (if b then (if is_in R c then Some (byte_of (slice_index st.words g) (c - R.start)) else None) else None)) lt
          ∙ ap (λ (b : Bool). is_some (if b then Some (byte_of (slice_index st.words g) (c - R.start)) else None)) there

      join_reads : (c : ℕ) → views.reads_cell ef c ≡ true → reads_cell d u.seen c ≡ true
      join_reads c k = rc_here c ∙ sym (er_is r d input program u st moves y q good objects rj rj act0 act refl c) ∙ k

      join_done : (s : sync.Sync) → (sync.done s (thread_in u.seen.moment) rj).1.value ≡ 0
      unfolding sync.done
      join_done s = refl

      join_answers : answer r d input u st moves y q ≡ answer0 r d input u st moves y q
      join_answers = ap (answer_to input st (thread_in u.seen.moment)) act ∙ join_done st.sync ∙ sym (ap (answer_to r.input u.state (thread_in u.seen.moment)) act0 ∙ join_done u.state.sync)

      join_replies : reply r d input program u st moves y q good objects ≡ reply0 r d input program u st moves y q good objects
      join_replies = ap (or_zero q.both.x.result) (ap (op_own r.program l q.both.f.registers (answer r d input u st moves y q)) e ∙ ap (cut_to (returned_by known.PthreadJoin)) join_answers
          ∙ sym (ap (op_own r.program l0 q.both.f0.registers (answer0 r d input u st moves y q)) e))

      pub joined_fits : Fits (like input) (deed_of d u) (deed_moved r.program input st moves y)
      joined_fits = event_fits r d input program u st moves y q good objects rj rj act0 act refl _ (known_is r d input program u st moves y q good objects rj rj act0 act refl)
          (ap (heap_after r.program (own_memory l) q.both.f.registers) e ∙ sym (ap (heap_after r.program (own_memory l0) q.both.f0.registers) e))
          (subst (λ (z : Op). AreCallsLike input (op_after r.program l0 q.both.x (answer0 r d input u st moves y q) z)
          (set_symbolic q.both.x.result (always (or_zero q.both.x.result (op_own r.program l0 q.both.f0.registers (answer0 r d input u st moves y q) z))) q.both.ks ∷ q.both.more)
          (op_after r.program l q.both.x (answer r d input u st moves y q) z)) (sym e) (
            record {
              function = q.both.top.function;
              place = ap (λ (i : ℕ). i + 1) q.both.top.place;
              height = q.both.top.height;
              registers = told_number input q.both.x.result q.both.ks q.both.f.registers (cut_to (returned_by known.PthreadJoin) (answer0 r d input u st moves y q))
                  (cut_to (returned_by known.PthreadJoin) (answer r d input u st moves y q)) q.both.top.registers (ap (cut_to (returned_by known.PthreadJoin)) (sym join_answers));
            },
            q.both.rest,
          ))
          join_replies join_cell join_reads join_writes

    -- a join in both runs: without a place, and with one
    abbrev pub AsJoin : Type 0 → Type 0
    AsJoin P = (n : ℕ) → next_of r.program u.state (thread_in u.seen.moment) ≡ actions.Event (requests.Join n None)
        → next_of r.program st (thread_in u.seen.moment) ≡ actions.Event (requests.Join n None) → P

    abbrev pub AsPlacedJoin : List Value → Type 0 → Type 0
    AsPlacedJoin args P = (n : ℕ) (R : ByteRange) (w0 : ℕ) → place_of w0 8 ≡ Ok R →
        next_of r.program u.state (thread_in u.seen.moment) ≡ actions.Event (requests.Join n (Some R))
        → next_of r.program st (thread_in u.seen.moment) ≡ actions.Event (requests.Join n (Some R)) →
        argument r.program q.both.f0.registers args 1 ≡ Some w0 → P

    pub join_as : (args : List Value) → q.both.x.op ≡ op.CallLibrary known.PthreadJoin args → (P : Type 0) → AsJoin P → AsPlacedJoin args P → P
    join_as args e P plain placed =
        let p = r.program in
        let b = q.both in
        let o = op.CallLibrary known.PthreadJoin args in
        let n = value_done (argument p b.f0.registers args 0) (λ t. on_value (argument p b.f0.registers args 1) (λ w. join_at t w)) (can0_at r d input u st moves y q o e) in
        let w = value_done (argument p b.f0.registers args 1) (λ w. join_at n.0 w) n.2 in
        let is : join_action p b.f0.registers args ≡ join_at n.0 w.0 =
        on_some (argument p b.f0.registers args 0) n.0 (λ t. on_value (argument p b.f0.registers args 1) (λ w. join_at t w)) n.1
        ∙ on_some (argument p b.f0.registers args 1) w.0 (λ w. join_at n.0 w) w.1 in
        by_word n.0 w.0 w.1 is (w.0 == 0) refl w.2
      where
        both_acts : (a : Request) → join_action r.program q.both.f0.registers args ≡ actions.Event a → Rattle.pg_law_plan.proofs.RequestEffects.is_start (kind_of a) ≡ false →
            (next_of r.program u.state (thread_in u.seen.moment) ≡ actions.Event a) × (next_of r.program st (thread_in u.seen.moment) ≡ actions.Event a)
        both_acts a k s =
            let act0 = act0_at r d input u st moves y q (op.CallLibrary known.PthreadJoin args) e ∙ k in (
              act0,
              act_at r d input u st moves y q (op.CallLibrary known.PthreadJoin args) e
                  ∙ same_action r.program (thread_in u.seen.moment) q.both.h q.both.f.registers q.both.f0.registers args known.PthreadJoin refl
                  (checked_same r d input program u st moves y q good objects known.PthreadJoin args e a act0 s) ∙ k,
            )

        by_word : (n w : ℕ) → argument r.program q.both.f0.registers args 1 ≡ Some w → join_action r.program q.both.f0.registers args ≡ join_at n w → (z : Bool) → (w == 0) ≡ z
            → CanStep (join_at n w) → P
        by_word n w v is true z c =
            let k = both_acts (requests.Join n None) (is
            ∙ ap (λ (b : Bool). if b then actions.Event (requests.Join n None) else on_place w 8 (λ r. actions.Event (requests.Join n (Some r)))) z) refl in
            plain n k.0 k.1
        by_word n w v is false z c =
            let there : join_at n w ≡ on_place w 8 (λ r. actions.Event (requests.Join n (Some r))) =
            ap (λ (b : Bool). if b then actions.Event (requests.Join n None) else on_place w 8 (λ r. actions.Event (requests.Join n (Some r)))) z in
            let g = place_done w 8 (λ r. actions.Event (requests.Join n (Some r))) (subst CanStep there c) in
            let k = both_acts (requests.Join n (Some g.0)) (is ∙ there ∙ g.2) refl in
            placed n g.0 w g.1 k.0 k.1 v

    pub join_fits : (args : List Value) → q.both.x.op ≡ op.CallLibrary known.PthreadJoin args → Fits (like input) (deed_of d u) (deed_moved r.program input st moves y)
    join_fits args e = join_as args e (Fits (like input) (deed_of d u) (deed_moved r.program input st moves y))
        (λ n act0 act. shaped_fits r d input program u st moves y q good objects known.PthreadJoin args e (requests.Join n None) (requests.Join n None) act0 act refl (shape_join q.both.h n)
        (shape_join q.both.h n) (λ s. refl))
        (λ n R w0 place act0 act word0. joined_fits args e n R w0 place act0 act word0)
