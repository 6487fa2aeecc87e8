-- Stores fit.
use Rattle.std.proofs.Common.{◌≡◌, ℕ, ℤ, ◌+◌, ◌-◌, Bool, true, false, List, ◌∷◌, Option, Some, None, refl, sym, ap, ◌∙◌, subst}
use Rattle.std.specs.Prelude.{◌&&◌, ◌||◌, nat_lt, is_some, slice_get, slice_index, if◌then◌else◌}
use Rattle.std.proofs.lemmas.Bool.{true≢false}
use Rattle.pg_num.specs.Places.{ByteRange}
use Rattle.pg_num.specs.declared.layout.TheConstants.{MEMORY_BYTES}
use Rattle.pg_num.specs.declared.width.Width.{Width}
use Rattle.pg_ir.specs.declared.instr.Op.{Op}
use Rattle.pg_ir.specs.declared.instr.Op.TheVariants as op
use Rattle.pg_ir.specs.declared.value.Value.{Value}
use Rattle.pg_ir.specs.Program.{function_of, result_of, types_of}
use Rattle.pg_ir.specs.WellFormed.{FitsOp, IsProgram, type_at}
use Rattle.pg_run_memory.specs.Bytes.{byte_of}
use Rattle.pg_law_threads.specs.Effects.{or_old}
use Rattle.pg_law_threads.specs.Plans.{Fits}
use Rattle.pg_run_thread.specs.declared.action.Action.TheVariants as actions
use Rattle.pg_run_thread.specs.LocalState.{own_memory}
use Rattle.pg_run_thread.specs.Operands.{first_four, given, operand, operands_of}
use Rattle.pg_run_thread.specs.Step.{bytes_of, heap_after, on_place, on_value, op_after}
use Rattle.pg_run_trace.specs.declared.step.Access.{Access}
use Rattle.pg_run_trace.specs.declared.step.Step.{Step}
use Rattle.pg_run_trace.specs.declared.step.StepKind.{StepKind}
use Rattle.pg_run_trace.specs.declared.step.StepKind.TheVariants as kinds
use Rattle.pg_run_trace.specs.Races.{is_in}
use Rattle.pg_run_trace.specs.Steps.{range_of}
use Rattle.pg_run.specs.MachineStep.{access_told, is_gated, kind_told, number_in, operands_in}
use Rattle.pg_run.specs.State.{State, instr_of, next_of}
use Rattle.pg_law_effects.specs.Effect.{Effect, RequestEffect, Write, effect_of}
use Rattle.pg_law_effects.specs.Meets.{byte_in}
use Rattle.pg_law_effects.specs.Views.{cell_written, objects_of, word_in}
use Rattle.pg_slice_rules.specs.declared.decision.Decision.TheVariants.{Exact}
use Rattle.pg_slice_rules.specs.Freeable.{bounds_of}
use Rattle.pg_slice_rules.specs.Known.{SymbolicState, Taken, after_access, bytes_stored, live_by, region_of, registers_of}
use Rattle.pg_slice_rules.specs.Moments.{instr_in, thread_in}
use Rattle.pg_slice_rules.specs.Rules.{address_index, kind_in}
use Rattle.pg_slice_rules.specs.SymbolicValues.{Symbolic, Unknown, byte_in as byte_symbolic, symbolic_of, stored}
use Rattle.pg_law_plan.specs.Likes.{AreCallsLike, IsCellLike, IsLike, like}
use Rattle.pg_law_plan.specs.Moves.{deed_moved}
use Rattle.pg_law_plan.specs.Units.{PlanUnit, ReferenceRun, cell_known, deed_of, is_event_at, range_touched, reference_of, writes_cell}
use Rattle.pg_law_plan.proofs.AccessFits.{Access', cut_like, fixed, place_done, same_range, told_access, told_alike, within, writes_here}
use Rattle.pg_law_plan.proofs.BranchFits.{act0_at, act_at, can0_at, can_at, top_known}
use Rattle.pg_law_plan.proofs.CallFits.{no_result}
use Rattle.pg_law_plan.proofs.StepChecks.{IsGood}
use Rattle.pg_law_plan.proofs.ThreadAtInstruction.{operands_here, running}
use Rattle.pg_law_plan.proofs.LocalStepFits.{Pair, answer, answer0, instr_is, live_is, reads_none, same_place, stands, told, told0}
use Rattle.pg_law_plan.proofs.KnownCalls.{after_live}
use Rattle.pg_law_plan.proofs.LikeOperands.{operand_like}
use Rattle.pg_law_plan.proofs.LoadFits.{effect_reads, effect_request, effect_word, effect_writes, known_calls, objects_kept}
use Rattle.pg_law_plan.proofs.ComputedNumbers.{on_some, value_done}

or_turn : (a b : Bool) → (a || b) ≡ (b || a)
or_turn true true = refl
or_turn true false = refl
or_turn false true = refl
or_turn false false = refl

module _ (r : ReferenceRun) (d : Taken) (input : List ℤ) (program : IsProgram r.program) (u : PlanUnit) (st : State) (moves : ℕ → ℕ) (y : Step) (q : Pair r d input u st moves y)
    (good : IsGood (reference_of r) d input u.seen) (objects : is_event_at u.seen ≡ true → objects_of u.state ≡ objects_of st) where
  module _ (a : Access' r d input u st moves y q good) (w : Width) (v at : Value) (e : q.both.x.op ≡ op.Store w v at) (n : ℕ) (value : operand r.program q.both.f.registers v ≡ Some n)
      (writes : a.writes ≡ true)
      (act0 : next_of r.program u.state (thread_in u.seen.moment) ≡ actions.Store a.q0 a.number0) (act : next_of r.program st (thread_in u.seen.moment) ≡ actions.Store a.q1 n) where
    abbrev t : Access
    t = told_access r d input u st moves y q good a

    abbrev is_fixed : Bool
    is_fixed = fixed r d input u st moves y q good a

    abbrev ef : Effect
    ef = effect_of r.program input st y.thread.0

    -- what is known of bytes behind the unit
    known_bytes : u.known.bytes ≡ bytes_stored r.program is_fixed u.seen.number t q.both.ks (op.Store w v at) u.seen.before.bytes
    known_bytes =
        ap (λ (z : SymbolicState). z.bytes) (q.unit.known
        ∙ after_live (reference_of r) d u.seen.number u.seen.moment u.seen.before q.both.x (instr_is r d input u st moves y q) (live_is r d input u st moves y q))
        ∙ ap (λ (k : StepKind). (live_by r.program d u.seen.number u.seen.moment
        (region_of r.program r.regions u.seen.moment (instr_in r.program u.seen.moment)) q.both.x k u.seen.before).bytes) a.kind0
        ∙ ap (λ (b : Bool). bytes_stored r.program b u.seen.number t (registers_of u.seen.before (thread_in u.seen.moment)) q.both.x.op u.seen.before.bytes)
        (or_turn (d.exact u.seen.number) a.event)
        ∙ ap (λ (ks : List Symbolic). bytes_stored r.program is_fixed u.seen.number t ks q.both.x.op u.seen.before.bytes) (top_known r d input u st moves y q)
        ∙ ap (λ (z : Op). bytes_stored r.program is_fixed u.seen.number t q.both.ks z u.seen.before.bytes) e

    value_like : IsLike input (symbolic_of r.program q.both.ks v) (Some n)
    value_like = subst (λ (o : Option ℕ). IsLike input (symbolic_of r.program q.both.ks v) o) value (operand_like input r.program q.both.ks q.both.f.registers q.both.top.registers v)

    -- the cells that the machine writes
    written_is : (c : ℕ) → cell_written ef c ≡ (if nat_lt c MEMORY_BYTES then (if is_in a.q1 c then Some (byte_of n (c - a.q1.start)) else None) else None)
    written_is c = ap (λ (z : Option Write). if nat_lt c MEMORY_BYTES then byte_in z c else word_in ef.thread ef.request (c - MEMORY_BYTES))
        (effect_writes r d input program u st moves y q (actions.Store a.q1 n) act)
        ∙ ap (λ (z : Option RequestEffect). if nat_lt c MEMORY_BYTES then (if is_in a.q1 c then Some (byte_of n (c - a.q1.start)) else None) else word_in ef.thread z (c - MEMORY_BYTES))
        (effect_request r d input program u st moves y q (actions.Store a.q1 n) act)

    unit_writes : (c : ℕ) → writes_cell d u.seen c ≡ (if nat_lt c MEMORY_BYTES then is_in (range_touched is_fixed t) c else false)
    unit_writes c = writes_here r d input u st moves y q good a c ∙ ap (λ (b : Bool). if nat_lt c MEMORY_BYTES then b && is_in (range_touched is_fixed t) c else false) writes

    -- a byte that is known behind the unit
    byte_like : (c : ℕ) → nat_lt c MEMORY_BYTES ≡ true → is_in (range_touched is_fixed t) c ≡ true → (m : ℕ)
        → IsLike input (cell_known u.known c) (Some (or_old (if is_in a.q1 c then Some (byte_of n (c - a.q1.start)) else None) m))
    byte_like c lt i m = subst (λ (s : Symbolic). IsLike input s (Some (or_old (if is_in a.q1 c then Some (byte_of n (c - a.q1.start)) else None) m)))
        (sym (in_memory (nat_lt c MEMORY_BYTES) refl lt ∙ ap (λ (f : ℕ → Symbolic). f c) known_bytes)) (go is_fixed refl i)
      where
        in_memory : (b : Bool) → nat_lt c MEMORY_BYTES ≡ b → b ≡ true → cell_known u.known c ≡ u.known.bytes c
        in_memory b k h = rw (k ∙ h) refl

        go : (b : Bool) → is_fixed ≡ b → is_in (range_touched b t) c ≡ true
            → IsLike input (bytes_stored r.program b u.seen.number t q.both.ks (op.Store w v at) u.seen.before.bytes c)
            (Some (or_old (if is_in a.q1 c then Some (byte_of n (c - a.q1.start)) else None) m))
        go true f i =
            let range = same_range r d input u st moves y q good a f in
            subst (λ (z : ByteRange). IsLike input (stored (range_of t) (symbolic_of r.program q.both.ks v) u.seen.before.bytes c)
            (Some (or_old (if is_in z c then Some (byte_of n (c - z.start)) else None) m))) (sym range)
            (here (is_in (range_of t) c) i (cut_like input (λ k. byte_of k (c - (range_of t).start)) (symbolic_of r.program q.both.ks v) n value_like))
          where
            here : (b : Bool) → b ≡ true → IsLike input (byte_symbolic (c - (range_of t).start) (symbolic_of r.program q.both.ks v)) (Some (byte_of n (c - (range_of t).start))) →
                IsLike input (if b then byte_symbolic (c - (range_of t).start) (symbolic_of r.program q.both.ks v) else u.seen.before.bytes c)
                (Some (or_old (if b then Some (byte_of n (c - (range_of t).start)) else None) m))
            here true h k = k
            here false h k = absurd (true≢false (sym h))
        go false f i = here (is_in (bounds_of t.pointer) c) i
          where
            here : (b : Bool) → b ≡ true → IsLike input (if b then Unknown (Exact u.seen.number) else u.seen.before.bytes c)
                (Some (or_old (if is_in a.q1 c then Some (byte_of n (c - a.q1.start)) else None) m))
            here true h = tt
            here false h = absurd (true≢false (sym h))

    cell_like : (c : ℕ) (s : Symbolic) (m : ℕ) → IsCellLike input s m
        → IsCellLike input (or_old (if writes_cell d u.seen c then Some (cell_known u.known c) else None) s) (or_old (cell_written ef c) m)
    cell_like c s m k = rw (unit_writes c, written_is c) (go (nat_lt c MEMORY_BYTES) refl (is_in (range_touched is_fixed t) c) refl)
      where
        out : (b : Bool) → b ≡ is_in a.q1 c → (b ≡ true → ⊥) → or_old (if is_in a.q1 c then Some (byte_of n (c - a.q1.start)) else None) m ≡ m
        out true h f = absurd (f refl)
        out false h f = ap (λ (z : Bool). or_old (if z then Some (byte_of n (c - a.q1.start)) else None) m) (sym h)

        go : (b : Bool) → nat_lt c MEMORY_BYTES ≡ b → (i : Bool) → is_in (range_touched is_fixed t) c ≡ i →
            IsCellLike input (or_old (if (if b then i else false) then Some (cell_known u.known c) else None) s)
            (or_old (if b then (if is_in a.q1 c then Some (byte_of n (c - a.q1.start)) else None) else None) m)
        go false e i f = k
        go true e false f = subst (λ (z : ℕ). IsCellLike input s z) (sym (out (is_in a.q1 c) refl (λ h. true≢false (sym (within r d input u st moves y q good a c h) ∙ f)))) k
        go true e true f = byte_like c e f m

    no_target : q.both.x.result ≡ None
    no_target = no_result (types_of r.program (function_of r.program q.both.x.block.0)) q.both.x.result (program.instrs q.both.f.place q.both.x q.both.here.instr).target
        (subst (FitsOp r.program (types_of r.program (function_of r.program q.both.x.block.0)) (result_of r.program (function_of r.program q.both.x.block.0))
        (type_at (types_of r.program (function_of r.program q.both.x.block.0)) q.both.x.result)) e (program.instrs q.both.f.place q.both.x q.both.here.instr).op).0

    calls_like : AreCallsLike input (op_after r.program (running (thread_in u.seen.moment) q.both.h q.both.f0 q.both.fs0 q.both.n) q.both.x (answer0 r d input u st moves y q) q.both.x.op)
        (after_access r.program (d.exact u.seen.number) u.seen.number t u.seen.before.bytes q.both.x q.both.x.op q.both.ks ∷ q.both.more)
        (op_after r.program (running (thread_in u.seen.moment) q.both.h q.both.f q.both.fs q.both.n) q.both.x (answer r d input u st moves y q) q.both.x.op)
    calls_like = subst (λ (z : Op). AreCallsLike input (op_after r.program (running (thread_in u.seen.moment) q.both.h q.both.f0 q.both.fs0 q.both.n) q.both.x (answer0 r d input u st moves y q) z)
        (after_access r.program (d.exact u.seen.number) u.seen.number t u.seen.before.bytes q.both.x z q.both.ks ∷ q.both.more)
        (op_after r.program (running (thread_in u.seen.moment) q.both.h q.both.f q.both.fs q.both.n) q.both.x (answer r d input u st moves y q) z)) (sym e)
        (record { function = q.both.top.function; place = ap (λ (i : ℕ). i + 1) q.both.top.place; height = q.both.top.height; registers = rw no_target q.both.top.registers }, q.both.rest)

    heap_same : heap_after r.program (own_memory (running (thread_in u.seen.moment) q.both.h q.both.f q.both.fs q.both.n)) q.both.f.registers q.both.x.op
        ≡ heap_after r.program (own_memory (running (thread_in u.seen.moment) q.both.h q.both.f0 q.both.fs0 q.both.n)) q.both.f0.registers q.both.x.op
    heap_same = ap (heap_after r.program (own_memory (running (thread_in u.seen.moment) q.both.h q.both.f q.both.fs q.both.n)) q.both.f.registers) e
        ∙ sym (ap (heap_after r.program (own_memory (running (thread_in u.seen.moment) q.both.h q.both.f0 q.both.fs0 q.both.n)) q.both.f0.registers) e)

    written_in : (c : ℕ) → is_some (cell_written ef c) ≡ true → writes_cell d u.seen c ≡ true
    written_in c k = unit_writes c ∙ go (nat_lt c MEMORY_BYTES) refl (sym (ap is_some (written_is c)) ∙ k)
      where
        go : (b : Bool) → nat_lt c MEMORY_BYTES ≡ b → is_some (if b then (if is_in a.q1 c then Some (byte_of n (c - a.q1.start)) else None) else None) ≡ true
            → (if b then is_in (range_touched is_fixed t) c else false) ≡ true
        go false e h = absurd (true≢false (sym h))
        go true e h = within r d input u st moves y q good a c (is_there (is_in a.q1 c) h)
          where
            is_there : (b : Bool) → is_some (if b then Some (byte_of n (c - a.q1.start)) else None) ≡ true → b ≡ true
            is_there true h = refl
            is_there false h = h

    -- a store that is exact or an event writes all that the unit may write
    pub stored_writes : is_fixed ≡ true → (c : ℕ) → nat_lt c MEMORY_BYTES ≡ true → writes_cell d u.seen c ≡ true → is_some (cell_written ef c) ≡ true
    stored_writes f c lt h =
        let touched : is_in (range_touched is_fixed t) c ≡ true = sym (ap (λ (b : Bool). if b then is_in (range_touched is_fixed t) c else false) lt) ∙ sym (unit_writes c) ∙ h in
        let there : is_in a.q1 c ≡ true = ap (λ (z : ByteRange). is_in z c) (same_range r d input u st moves y q good a f) ∙ sym (ap (λ (b : Bool). is_in (range_touched b t) c) f) ∙ touched in
        ap is_some (written_is c) ∙ ap (λ (b : Bool). is_some (if b then (if is_in a.q1 c then Some (byte_of n (c - a.q1.start)) else None) else None)) lt
        ∙ ap (λ (b : Bool). is_some (if b then Some (byte_of n (c - a.q1.start)) else None)) there

    pub stored_fits : Fits (like input) (deed_of d u) (deed_moved r.program input st moves y)
    stored_fits = record {
      thread = q.own;
      to = stands r d input u st moves y q _ (known_calls r d input program u st moves y q good objects a) heap_same calls_like;
      told = told_alike r d input u st moves y q good a;
      objects = objects_kept r d input program u st moves y q good objects a (actions.Store a.q0 a.number0) (actions.Store a.q1 n) act0 act refl refl;
      cells = cell_like;
      reads = λ c k. absurd (true≢false
          (sym k ∙ reads_none ef c (effect_reads r d input program u st moves y q (actions.Store a.q1 n) act) (effect_word r d input program u st moves y q (actions.Store a.q1 n) act)));
      writes = λ c k. some_if (writes_cell d u.seen c) (cell_known u.known c) (written_in c k);
    }
      where
        some_if : (b : Bool) (x : Symbolic) → b ≡ true → is_some (if b then Some x else None) ≡ true
        some_if true x h = refl
        some_if false x h = h

  -- a store as an access in both runs
  abbrev pub AsStore : Width → Value → Value → Type 0 → Type 0
  AsStore w v at P = (a : Access' r d input u st moves y q good) (n : ℕ) → operand r.program q.both.f.registers v ≡ Some n → a.writes ≡ true →
      next_of r.program u.state (thread_in u.seen.moment) ≡ actions.Store a.q0 a.number0 → next_of r.program st (thread_in u.seen.moment) ≡ actions.Store a.q1 n → P

  pub store_as : (w : Width) (v at : Value) → q.both.x.op ≡ op.Store w v at → (P : Type 0) → AsStore w v at P → P
  store_as w v at e P with_store =
      let p = r.program in
      let b = q.both in
      let o = op.Store w v at in
      let t = thread_in u.seen.moment in
      let n0 = value_done (operand p b.f0.registers v) (λ m. on_value (operand p b.f0.registers at) (λ a. on_place a (bytes_of w) (λ z. actions.Store z m)))
      (can0_at r d input u st moves y q o e) in
      let n = value_done (operand p b.f.registers v) (λ m. on_value (operand p b.f.registers at) (λ a. on_place a (bytes_of w) (λ z. actions.Store z m))) (can_at r d input u st moves y q o e) in
      let v0 = value_done (operand p b.f0.registers at) (λ a. on_place a (bytes_of w) (λ z. actions.Store z n0.0)) n0.2 in
      let v1 = value_done (operand p b.f.registers at) (λ a. on_place a (bytes_of w) (λ z. actions.Store z n.0)) n.2 in
      let g0 = place_done v0.0 (bytes_of w) (λ z. actions.Store z n0.0) v0.2 in
      let g = place_done v1.0 (bytes_of w) (λ z. actions.Store z n.0) v1.2 in
      let act0 : next_of p u.state t ≡ actions.Store g0.0 n0.0 = act0_at r d input u st moves y q o e
      ∙ on_some (operand p b.f0.registers v) n0.0 (λ m. on_value (operand p b.f0.registers at) (λ a. on_place a (bytes_of w) (λ z. actions.Store z m))) n0.1
      ∙ on_some (operand p b.f0.registers at) v0.0 (λ a. on_place a (bytes_of w) (λ z. actions.Store z n0.0)) v0.1 ∙ g0.2 in
      let act : next_of p st t ≡ actions.Store g.0 n.0 = act_at r d input u st moves y q o e
      ∙ on_some (operand p b.f.registers v) n.0 (λ m. on_value (operand p b.f.registers at) (λ a. on_place a (bytes_of w) (λ z. actions.Store z m))) n.1
      ∙ on_some (operand p b.f.registers at) v1.0 (λ a. on_place a (bytes_of w) (λ z. actions.Store z n.0)) v1.1 ∙ g.2 in
      let ns0 = operands_here p u.state t b.h b.f0 b.fs0 b.n b.x b.here0 ∙ ap (λ (z : Op). first_four p b.f0.registers (operands_of z)) e in
      let ns = operands_here p st t b.h b.f b.fs b.n b.x b.here ∙ ap (λ (z : Op). first_four p b.f.registers (operands_of z)) e in
      let kind0 : kind_in u.seen ≡ access_told r.gated u.state t v0.0 g0.0 true n0.0 =
      ap (λ (z : Step). z.kind) (told0 r d input u st moves y q) ∙ ap
      (kind_told r.gated p u.state t (operands_in p (slice_get u.state.locals t)) (answer0 r d input u st moves y q)
      (number_in p (slice_get u.state.locals t) (answer0 r d input u st moves y q))) act0
      ∙ ap (λ (l : List ℕ). access_told r.gated u.state t (slice_index l 1) g0.0 true n0.0) ns0
      ∙ ap (λ (m : Option ℕ). access_told r.gated u.state t (given m) g0.0 true n0.0) v0.1 in
      let kind : y.kind ≡ access_told r.gated u.state t v1.0 g.0 true n.0 =
      ap (λ (z : Step). z.kind) (told r d input u st moves y q) ∙ ap
      (kind_told r.gated p st t (operands_in p (slice_get st.locals t)) (answer r d input u st moves y q) (number_in p (slice_get st.locals t) (answer r d input u st moves y q))) act
      ∙ ap (λ (l : List ℕ). access_told r.gated st t (slice_index l 1) g.0 true n.0) ns
      ∙ ap (λ (m : Option ℕ). access_told r.gated st t (given m) g.0 true n.0) v1.1
      ∙ ap (λ (i : ℕ). kinds.Access (record { pointer = v1.0; number = n.0; bytes = g.0.bytes; writes = true; event = is_gated r.gated i })) (same_place r d input u st moves y q) in
      let a : Access' r d input u st moves y q good = record {
        word0 = v0.0;
        word = v1.0;
        q0 = g0.0;
        q1 = g.0;
        size = bytes_of w;
        number0 = n0.0;
        number = n.0;
        writes = true;
        event = is_gated r.gated (instr_of u.state t);
        kind0 = kind0;
        kind = kind;
        place0 = g0.1;
        place = g.1;
        at = at;
        index = ap (λ (z : Op). slice_get (operands_of z) (address_index z)) e;
        address = v1.1;
      } in
      with_store a n.0 n.1 refl act0 act

  pub store_fits : (w : Width) (v at : Value) → q.both.x.op ≡ op.Store w v at → Fits (like input) (deed_of d u) (deed_moved r.program input st moves y)
  store_fits w v at e = store_as w v at e (Fits (like input) (deed_of d u) (deed_moved r.program input st moves y)) (λ a n value writes act0 act. stored_fits a w v at e n value writes act0 act)
