-- Ends of threads fit, and joins and creates.
use Rattle.std.proofs.Common.{◌≡◌, ℕ, ℤ, ◌<◌, ◌-◌, suc, Bool, true, false, List, [], ◌∷◌, length, Option, Some, None, refl, sym, ap, ◌∙◌, subst, arith}
use Rattle.std.specs.Prelude.{◌==◌, nat_lt, is_some, slice_set, slice_index_or, if◌then◌else◌}
use Rattle.std.proofs.lemmas.Bool.{eqb-true, true≢false}
use Rattle.pg_num.specs.declared.layout.TheConstants.{MEMORY_BYTES}
use Rattle.pg_ir.specs.declared.instr.Op.{Op}
use Rattle.pg_ir.specs.declared.instr.Op.TheVariants as op
use Rattle.pg_ir.specs.declared.library_call.LibraryCall.TheVariants as known
use Rattle.pg_ir.specs.declared.request.Request.TheVariants as requests
use Rattle.pg_ir.specs.declared.value.Value.{Value}
use Rattle.pg_ir.specs.Program.{NumberedProgram}
use Rattle.pg_ir.specs.WellFormed.{IsProgram}
use Rattle.pg_law_threads.specs.Effects.{or_old}
use Rattle.pg_law_threads.specs.Plans.{Fits}
use Rattle.pg_run_thread.specs.declared.action.Action.TheVariants as actions
use Rattle.pg_run_thread.specs.LocalState.{Frame, own_memory}
use Rattle.pg_run_thread.specs.Operands.{argument, number_at, operand, operands_of}
use Rattle.pg_run_thread.specs.States.{CanStep}
use Rattle.pg_run_thread.specs.Step.{exit_value, heap_after, on_value, op_after, return_action, returning_action, stepped}
use Rattle.pg_run_trace.specs.declared.step.Step.{Step}
use Rattle.pg_run.specs.State.{State, next_of}
use Rattle.pg_run.proofs.StepsBegin.{ready_made}
use Rattle.pg_law_effects.specs.Views.{cell_written, objects_of}
use Rattle.pg_slice_rules.specs.Known.{SymbolicState, Taken, bytes_by, exit_symbolic, live_by, low_byte, operand_at, region_of, registers_of, set_symbolic, thread_of, words_after}
use Rattle.pg_slice_rules.specs.Moments.{thread_in}
use Rattle.pg_slice_rules.specs.SymbolicValues.{Symbolic, always}
use Rattle.pg_law_plan.specs.Likes.{IsCellLike, IsLike, like}
use Rattle.pg_law_plan.specs.Moves.{deed_moved}
use Rattle.pg_law_plan.specs.Units.{PlanUnit, ReferenceRun, cell_known, deed_of, is_event_at, reference_of, writes_cell}
use Rattle.pg_law_plan.proofs.BranchFits.{act0_at, act_at, can0_at, can_at}
use Rattle.pg_law_plan.proofs.StepChecks.{IsGood}
use Rattle.pg_law_plan.proofs.LocalStepFits.{Pair, answer, answer0, locals}
use Rattle.pg_law_plan.proofs.LikeOperands.{argument_like, depth_like, operand_like, valued_like}
use Rattle.pg_law_plan.proofs.ComputedNumbers.{on_some, value_done}
use Rattle.pg_law_plan.proofs.ThreadEventFits.{cw_is, event_fits, known_is, known_words, reads_nothing, wc_is, word_set}

-- ---- a return in the first call

record Exits (p : NumberedProgram) (rs : List (Option ℕ)) (depth : ℕ) (v : Option Value) : Type 0 where
  number : ℕ
  is : returning_action p rs depth v ≡ actions.Event (requests.Exit number true)
  none : v ≡ None → number ≡ 0
  some : (w : Value) → v ≡ Some w → operand p rs w ≡ Some number

return_exit : (depth n : ℕ) → (depth == 1) ≡ true → return_action depth n ≡ actions.Event (requests.Exit n true)
return_exit depth n h = ap (λ (b : Bool). if b then actions.Event (requests.Exit n true) else actions.Local) h

returning_exit : (p : NumberedProgram) (rs : List (Option ℕ)) (depth : ℕ) (v : Option Value) → (depth == 1) ≡ true → CanStep (returning_action p rs depth v) → Exits p rs depth v
returning_exit p rs depth None h k = record { number = 0; is = return_exit depth 0 h; none = λ e. refl; some = λ w e. absurd cc }
returning_exit p rs depth (Some v) h k =
    let n = value_done (operand p rs v) (λ n. return_action depth n) k in
    record {
      number = n.0;
      is = on_some (operand p rs v) n.0 (λ n. return_action depth n) n.1 ∙ return_exit depth n.0 h;
      none = λ e. absurd cc;
      some = λ w e. let q : v ≡ w = cc in
          ap (operand p rs) (sym q) ∙ n.1;
    }

no_frames : (fs : List Frame) → (suc (length fs) == 1) ≡ true → fs ≡ []
no_frames [] h = refl
no_frames (f ∷ fs) h = let e = eqb-true (suc (suc (length fs))) 1 h in absurd (omega (arith, e))

module _ (r : ReferenceRun) (d : Taken) (input : List ℤ) (program : IsProgram r.program) (u : PlanUnit) (st : State) (moves : ℕ → ℕ) (y : Step) (q : Pair r d input u st moves y)
    (good : IsGood (reference_of r) d input u.seen) (objects : is_event_at u.seen ≡ true → objects_of u.state ≡ objects_of st)
    (words : length u.seen.before.words ≡ length u.state.locals) where
  open locals r d input u st moves y q use {l0, l, ef}

  own_word : thread_in u.seen.moment < length u.seen.before.words
  own_word = let h = ready_made r.program u.state (thread_in u.seen.moment) q.unit.met.takes.is_ready in omega (arith, h, words)

  -- ---- exits

  module _ (n0 n1 : ℕ) (b : Bool) (act0 : next_of r.program u.state (thread_in u.seen.moment) ≡ actions.Event (requests.Exit n0 b))
      (act : next_of r.program st (thread_in u.seen.moment) ≡ actions.Event (requests.Exit n1 b))
      (value : IsLike input (exit_symbolic r.program (thread_in u.seen.moment) q.both.ks q.both.x.op) (Some n1)) where
    word_like : (c : ℕ) → nat_lt c MEMORY_BYTES ≡ false → (thread_in u.seen.moment == (c - MEMORY_BYTES)) ≡ true → IsLike input (cell_known u.known c) (Some n1)
    word_like c lt e =
        let t = thread_in u.seen.moment in
        subst (λ (s : Symbolic). IsLike input s (Some n1))
        (sym (ap (λ (z : Bool). if z then u.known.bytes c else slice_index_or u.known.words (c - MEMORY_BYTES) (always 0)) lt
        ∙ ap (λ (ws : List Symbolic). slice_index_or ws (c - MEMORY_BYTES) (always 0))
        (known_words r d input program u st moves y q good objects (requests.Exit n0 b) (requests.Exit n1 b) act0 act refl)
        ∙ ap (λ (i : ℕ). slice_index_or (slice_set u.seen.before.words t (exit_symbolic r.program t q.both.ks q.both.x.op)) i (always 0)) (sym (eqb-true t (c - MEMORY_BYTES) e))
        ∙ word_set u.seen.before.words t (exit_symbolic r.program t q.both.ks q.both.x.op) (always 0) own_word)) value

    exit_cell : (c : ℕ) (s : Symbolic) (m : ℕ) → IsCellLike input s m
        → IsCellLike input (or_old (if writes_cell d u.seen c then Some (cell_known u.known c) else None) s) (or_old (cell_written ef c) m)
    exit_cell c s m k = rw (
      wc_is r d input program u st moves y q good objects (requests.Exit n0 b) (requests.Exit n1 b) act0 act refl c,
      cw_is r d input program u st moves y q good objects (requests.Exit n0 b) (requests.Exit n1 b) act0 act refl c,
    )
        (go (nat_lt c MEMORY_BYTES) refl (thread_in u.seen.moment == (c - MEMORY_BYTES)) refl)
      where
        go : (x : Bool) → nat_lt c MEMORY_BYTES ≡ x → (e : Bool) → (thread_in u.seen.moment == (c - MEMORY_BYTES)) ≡ e →
            IsCellLike input (or_old (if (if x then false else e) then Some (cell_known u.known c) else None) s) (or_old (if x then None else (if e then Some n1 else None)) m)
        go true v e w = k
        go false v false w = k
        go false v true w = word_like c v w

    exit_writes : (c : ℕ) → is_some (cell_written ef c) ≡ true → writes_cell d u.seen c ≡ true
    exit_writes c k = wc_is r d input program u st moves y q good objects (requests.Exit n0 b) (requests.Exit n1 b) act0 act refl c
        ∙ go (nat_lt c MEMORY_BYTES) (thread_in u.seen.moment == (c - MEMORY_BYTES))
        (sym (ap is_some (cw_is r d input program u st moves y q good objects (requests.Exit n0 b) (requests.Exit n1 b) act0 act refl c)) ∙ k)
      where
        go : (x e : Bool) → is_some (if x then None else (if e then Some n1 else None)) ≡ true → (if x then false else e) ≡ true
        go true e h = absurd (true≢false (sym h))
        go false true h = refl
        go false false h = absurd (true≢false (sym h))

    pub exit_fits : heap_after r.program (own_memory l) q.both.f.registers q.both.x.op ≡ heap_after r.program (own_memory l0) q.both.f0.registers q.both.x.op →
        op_after r.program l0 q.both.x (answer0 r d input u st moves y q) q.both.x.op ≡ [] → op_after r.program l q.both.x (answer r d input u st moves y q) q.both.x.op ≡ []
        → Fits (like input) (deed_of d u) (deed_moved r.program input st moves y)
    exit_fits heap a0 a = event_fits r d input program u st moves y q good objects (requests.Exit n0 b) (requests.Exit n1 b) act0 act refl []
        (known_is r d input program u st moves y q good objects (requests.Exit n0 b) (requests.Exit n1 b) act0 act refl)
        heap (rw (a0, a) tt) refl exit_cell (reads_nothing r d input program u st moves y q good objects (requests.Exit n0 b) (requests.Exit n1 b) act0 act refl refl) exit_writes

  pub ret_exit_fits : (v : Option Value) → q.both.x.op ≡ op.Ret v → (length (q.both.f0 ∷ q.both.fs0) == 1) ≡ true → Fits (like input) (deed_of d u) (deed_moved r.program input st moves y)
  ret_exit_fits v e deep =
      let p = r.program in
      let b = q.both in
      let deep' : (length (b.f ∷ b.fs) == 1) ≡ true = ap (λ (n : ℕ). suc n == 1) (depth_like input b.fs0 b.more b.fs b.rest) ∙ deep in
      let x0 = returning_exit p b.f0.registers (length (b.f0 ∷ b.fs0)) v deep (can0_at r d input u st moves y q (op.Ret v) e) in
      let x = returning_exit p b.f.registers (length (b.f ∷ b.fs)) v deep' (can_at r d input u st moves y q (op.Ret v) e) in
      exit_fits x0.number x.number true (act0_at r d input u st moves y q (op.Ret v) e ∙ x0.is) (act_at r d input u st moves y q (op.Ret v) e ∙ x.is)
      (subst (λ (z : Op). IsLike input (exit_symbolic p (thread_in u.seen.moment) b.ks z) (Some x.number)) (sym e) (value v refl x.number x.none x.some))
      (ap (heap_after p (own_memory l) b.f.registers) e ∙ sym (ap (heap_after p (own_memory l0) b.f0.registers) e))
      (ap (op_after p l0 b.x (answer0 r d input u st moves y q)) e ∙ ap (λ (fs : List Frame). Rattle.pg_run_thread.specs.Step.returned p fs (number_at p b.f0.registers (operands_of (op.Ret v)) 0))
      (no_frames b.fs0 deep))
      (ap (op_after p l b.x (answer r d input u st moves y q)) e ∙ ap (λ (fs : List Frame). Rattle.pg_run_thread.specs.Step.returned p fs (number_at p b.f.registers (operands_of (op.Ret v)) 0))
      (no_frames b.fs deep'))
    where
      value : (w : Option Value) → v ≡ w → (n : ℕ) → (v ≡ None → n ≡ 0) → ((z : Value) → v ≡ Some z → operand r.program q.both.f.registers z ≡ Some n)
          → IsLike input (Rattle.pg_slice_rules.specs.Known.returned_symbolic r.program q.both.ks v) (Some n)
      value None k n none some = rw k (valued_like input (λ i. Some 0) (Some n) (ap Some (none k)))
      value (Some z) k n none some = rw k (subst (λ (o : Option ℕ). IsLike input (Rattle.pg_slice_rules.specs.SymbolicValues.symbolic_of r.program q.both.ks z) o) (some z k)
          (operand_like input r.program q.both.ks q.both.f.registers q.both.top.registers z))

  pub pthread_exit_fits : (args : List Value) → q.both.x.op ≡ op.CallLibrary known.PthreadExit args → Fits (like input) (deed_of d u) (deed_moved r.program input st moves y)
  pthread_exit_fits args e =
      let p = r.program in
      let b = q.both in
      let t = thread_in u.seen.moment in
      let o = op.CallLibrary known.PthreadExit args in
      let v0 = value_done (argument p b.f0.registers args 0) (λ n. actions.Event (requests.Exit (exit_value t n) false)) (can0_at r d input u st moves y q o e) in
      let v = value_done (argument p b.f.registers args 0) (λ n. actions.Event (requests.Exit (exit_value t n) false)) (can_at r d input u st moves y q o e) in
      exit_fits (exit_value t v0.0) (exit_value t v.0) false
      (act0_at r d input u st moves y q o e ∙ on_some (argument p b.f0.registers args 0) v0.0 (λ n. actions.Event (requests.Exit (exit_value t n) false)) v0.1)
      (act_at r d input u st moves y q o e ∙ on_some (argument p b.f.registers args 0) v.0 (λ n. actions.Event (requests.Exit (exit_value t n) false)) v.1)
      (subst (λ (z : Op). IsLike input (exit_symbolic p t b.ks z) (Some (exit_value t v.0))) (sym e)
      (value (t == 0) v.0 (subst (λ (m : Option ℕ). IsLike input (operand_at p b.ks o 0) m) v.1 (argument_like input p b.ks b.f.registers b.top.registers args 0))))
      (ap (heap_after p (own_memory l) b.f.registers) e ∙ sym (ap (heap_after p (own_memory l0) b.f0.registers) e))
      (ap (op_after p l0 b.x (answer0 r d input u st moves y q)) e) (ap (op_after p l b.x (answer r d input u st moves y q)) e)
    where
      value : (z : Bool) (n : ℕ) → IsLike input (operand_at r.program q.both.ks (op.CallLibrary known.PthreadExit args) 0) (Some n)
          → IsLike input (if z then always 0 else operand_at r.program q.both.ks (op.CallLibrary known.PthreadExit args) 0) (Some (if z then 0 else n))
      value true n h = valued_like input (λ i. Some 0) (Some 0) refl
      value false n h = h
