-- Loads and stores fit.
use Rattle.std.proofs.Common.{◌≡◌, ℕ, ℤ, ◌+◌, ◌-◌, ◌≤◌, ◌%◌, Bool, true, false, List, [], ◌∷◌, length, Option, Some, None, Result, Ok, refl, sym, ap}
use Rattle.std.proofs.Common.{◌∙◌, subst, arith}
use Rattle.std.specs.Prelude.{◌&&◌, ◌||◌, not, nat_lt, nat_le, is_some, slice_get, slice_index, if◌then◌else◌}
use Rattle.std.proofs.lemmas.Bool.{and_parts, leb-true, lt-ltb, ltb-true, or_left, true≢false}
use Rattle.pg_num.specs.Numbers.{modulus}
use Rattle.pg_num.specs.Places.{ByteRange}
use Rattle.pg_num.specs.Pointers.{byte_place, place_of, pointer_of}
use Rattle.pg_num.specs.declared.layout.TheConstants.{MEMORY_BYTES}
use Rattle.pg_num.specs.declared.width.Width.{Width}
use Rattle.pg_ir.specs.declared.instr.Op.{Op}
use Rattle.pg_ir.specs.declared.instr.Op.TheVariants as op
use Rattle.pg_ir.specs.declared.value.Value.{Value}
use Rattle.pg_ir.specs.WellFormed.{IsProgram}
use Rattle.pg_run_memory.specs.Bytes.{number_of}
use Rattle.pg_run_memory.specs.Memory.{Words, byte_at, read}
use Rattle.pg_law_threads.specs.Plans.{Fits}
use Rattle.pg_run_thread.specs.declared.action.Action.{Action}
use Rattle.pg_run_thread.specs.declared.action.Action.TheVariants as actions
use Rattle.pg_run_thread.specs.LocalState.{own_memory}
use Rattle.pg_run_thread.specs.Operands.{first_four, given, operand, operands_of}
use Rattle.pg_run_thread.specs.Step.{bytes_of, heap_after, on_place, op_after}
use Rattle.pg_run_trace.specs.declared.step.Step.{Step}
use Rattle.pg_run_trace.specs.declared.step.StepKind.TheVariants as kinds
use Rattle.pg_run_trace.specs.Races.{is_in}
use Rattle.pg_run_trace.specs.Steps.{range_of}
use Rattle.pg_run.specs.MachineStep.{access_told, is_gated, kind_told, number_in, operands_in}
use Rattle.pg_run.specs.State.{State, instr_of, next_of}
use Rattle.pg_law_effects.specs.Effect.{RequestEffect, answer_to, effect_of, range_read, request_effect, word_read_by, write_of}
use Rattle.pg_law_effects.specs.Meets.{is_in_range}
use Rattle.pg_law_effects.specs.Views.{Objects, cell_at, cell_written, is_thread, objects_of, objects_with, word_in}
use Rattle.pg_law_effects.specs.Views as views
use Rattle.pg_law_effects.proofs.StepViews.{leads_to}
use Rattle.pg_slice_rules.specs.Known.{SymbolicState, Taken, after_access, load_of, thread_of}
use Rattle.pg_slice_rules.specs.Moments.{thread_in}
use Rattle.pg_slice_rules.specs.Rules.{kind_in}
use Rattle.pg_slice_rules.specs.SymbolicValues.{cut, loaded}
use Rattle.pg_law_plan.specs.Likes.{AreCallsLike, IsCellLike, IsLike, like}
use Rattle.pg_law_plan.specs.Moves.{deed_moved}
use Rattle.pg_law_plan.specs.Units.{PlanUnit, ReferenceRun, cell_known, deed_of, is_event_at, range_touched, reads_cell, reference_of, writes_cell}
use Rattle.pg_law_plan.proofs.AccessFits.{Access', cut_like, event_alike, fixed, loaded_like, place_done, reads_here, same_range, told_access, told_alike, within, writes_here}
use Rattle.pg_law_plan.proofs.EachUnit.{behind_is}
use Rattle.pg_law_plan.proofs.BranchFits.{act0_at, act_at, can0_at, can_at}
use Rattle.pg_law_plan.proofs.ComputationFits.{frame_stepped}
use Rattle.pg_law_plan.proofs.StepChecks.{IsGood}
use Rattle.pg_law_plan.proofs.ThreadAtInstruction.{operands_here, running}
use Rattle.pg_law_plan.proofs.LocalStepFits.{Pair, answer, answer0, instr_is, live_is, none_if, same_place, stands, told, told0, writes_none}
use Rattle.pg_law_plan.proofs.KnownCalls.{access_calls}
use Rattle.pg_law_plan.proofs.AccessesInBounds.{place_range}
use Rattle.pg_law_plan.proofs.ComputedNumbers.{on_some, value_done}

read_is : (m : Words) (r : ByteRange) → read m r ≡ number_of (byte_at m) r.start r.bytes
unfolding read
read_is m r = refl

pub same_if : {A : Type 0} (b : Bool) (x y : A) → (b ≡ true → x ≡ y) → Path (Option A) (if b then Some x else None) (if b then Some y else None)
same_if true x y h = ap (λ z. Some z) (h refl)
same_if false x y h = refl

either_false : (b : Bool) → (if b then false else false) ≡ false
either_false true = refl
either_false false = refl

-- the bytes of a place are in memory
pub in_memory : (word size : ℕ) (r : ByteRange) (c : ℕ) → place_of word size ≡ Ok r → is_in (record { start = byte_place word; bytes = size }) c ≡ true → nat_lt c MEMORY_BYTES ≡ true
in_memory word size r c e h =
    let p = and_parts (nat_le ((pointer_of word).offset + size) (pointer_of word).length) (nat_le (byte_place word + size) MEMORY_BYTES) (place_range word size r e) in
    let k = and_parts (nat_le (byte_place word) c) (nat_lt c (byte_place word + size)) h in
    let i = leb-true (byte_place word + size) MEMORY_BYTES p.1 in
    let j = ltb-true c (byte_place word + size) k.1 in
    lt-ltb c MEMORY_BYTES (omega (arith, i, j))

module _ (r : ReferenceRun) (d : Taken) (input : List ℤ) (program : IsProgram r.program) (u : PlanUnit) (st : State) (moves : ℕ → ℕ) (y : Step) (q : Pair r d input u st moves y) where
  -- the objects behind the unit
  pub unit_objects : u.objects ≡ objects_with (thread_in u.seen.moment) (effect_of r.program r.input u.state (thread_in u.seen.moment)).request (objects_of u.state)
  unfolding effect_of
  unit_objects = q.unit.objects ∙ ap objects_of (behind_is r d u.state u.seen.moment.did.did q.unit.met.takes)
      ∙ (leads_to r.gated r.program r.input u.state q.unit.met.takes.after
      (thread_in u.seen.moment) u.seen.moment.did.did q.unit.met.reached q.unit.met.takes.is_ready q.unit.met.takes.is_step).objects

  -- what the effects are by the actions
  pub effect_request : (a : Action) → next_of r.program st (thread_in u.seen.moment) ≡ a
      → (effect_of r.program input st y.thread.0).request ≡ request_effect r.program st (thread_in u.seen.moment) a
  unfolding effect_of
  effect_request a e = ap (λ (v : ℕ). request_effect r.program st v (next_of r.program st v)) q.own ∙ ap (request_effect r.program st (thread_in u.seen.moment)) e

  pub effect_reads : (a : Action) → next_of r.program st (thread_in u.seen.moment) ≡ a → (effect_of r.program input st y.thread.0).reads ≡ range_read a
  unfolding effect_of
  effect_reads a e = ap (λ (v : ℕ). range_read (next_of r.program st v)) q.own ∙ ap range_read e

  pub effect_word : (a : Action) → next_of r.program st (thread_in u.seen.moment) ≡ a → (effect_of r.program input st y.thread.0).word_read ≡ word_read_by (thread_in u.seen.moment) a
  unfolding effect_of
  effect_word a e = ap (λ (v : ℕ). word_read_by v (next_of r.program st v)) q.own ∙ ap (word_read_by (thread_in u.seen.moment)) e

  pub effect_writes : (a : Action) → next_of r.program st (thread_in u.seen.moment) ≡ a → (effect_of r.program input st y.thread.0).writes ≡ write_of st a
  unfolding effect_of
  effect_writes a e = ap (λ (v : ℕ). write_of st (next_of r.program st v)) q.own ∙ ap (write_of st) e

  pub effect_thread : (effect_of r.program input st y.thread.0).thread ≡ thread_in u.seen.moment
  unfolding effect_of
  effect_thread = q.own

  pub request0 : (a : Action) → next_of r.program u.state (thread_in u.seen.moment) ≡ a
      → (effect_of r.program r.input u.state (thread_in u.seen.moment)).request ≡ request_effect r.program u.state (thread_in u.seen.moment) a
  unfolding effect_of
  request0 a e = ap (request_effect r.program u.state (thread_in u.seen.moment)) e

  -- ---- a load or a store leaves the objects

  module _ (good : IsGood (reference_of r) d input u.seen) (objects : is_event_at u.seen ≡ true → objects_of u.state ≡ objects_of st) where
    pub objects_kept : (a : Access' r d input u st moves y q good) (act0 act : Action) → next_of r.program u.state (thread_in u.seen.moment) ≡ act0
        → next_of r.program st (thread_in u.seen.moment) ≡ act →
        request_effect r.program u.state (thread_in u.seen.moment) act0 ≡ None → request_effect r.program st (thread_in u.seen.moment) act ≡ None
        → (deed_moved r.program input st moves y).objects ≡ (deed_of d u).objects
    objects_kept a act0 act e0 e n0 n =
        let k : (effect_of r.program input st y.thread.0).request ≡ None = effect_request act e ∙ n in
        let k0 : u.objects ≡ objects_of u.state = unit_objects ∙ ap (λ (z : Option RequestEffect). objects_with (thread_in u.seen.moment) z (objects_of u.state)) (request0 act0 e0 ∙ n0) in
        ap (λ (b : Bool). if b then Some (objects_with (effect_of r.program input st y.thread.0).thread (effect_of r.program input st y.thread.0).request (objects_of st)) else None)
        (event_alike r d input u st moves y q good a)
        ∙ ap (λ (z : Option RequestEffect). if is_event_at u.seen then Some (objects_with (effect_of r.program input st y.thread.0).thread z (objects_of st)) else None) k
        ∙ same_if (is_event_at u.seen) (objects_of st) u.objects (λ v. sym (objects v) ∙ sym k0)

    pub known_calls : (a : Access' r d input u st moves y q good) → (thread_of u.known (thread_in u.seen.moment)).calls
        ≡ after_access r.program (d.exact u.seen.number) u.seen.number (told_access r d input u st moves y q good a) u.seen.before.bytes q.both.x q.both.x.op q.both.ks ∷ q.both.more
    known_calls a = ap (λ (z : SymbolicState). (thread_of z (thread_in u.seen.moment)).calls) q.unit.known
        ∙ access_calls (reference_of r) d u.seen.number u.seen.moment u.seen.before q.both.x (instr_is r d input u st moves y q)
        (live_is r d input u st moves y q) q.both.ks q.both.more q.both.calls (told_access r d input u st moves y q good a) a.kind0

    -- ---- loads

    module _ (cells : (c : ℕ) → reads_cell d u.seen c ≡ true → IsCellLike input (cell_known u.seen.before c) (cell_at st c)) where
      load_value : (a : Access' r d input u st moves y q good) → a.writes ≡ false → (w : Width)
          → IsLike input (load_of (d.exact u.seen.number) u.seen.number w (told_access r d input u st moves y q good a) u.seen.before.bytes) (Some (read st.memory a.q1 % modulus w))
      load_value a reads w = go (d.exact u.seen.number) refl
        where
          go : (b : Bool) → d.exact u.seen.number ≡ b → IsLike input (load_of b u.seen.number w (told_access r d input u st moves y q good a) u.seen.before.bytes)
              (Some (read st.memory a.q1 % modulus w))
          go false e = tt
          go true e =
              let t = told_access r d input u st moves y q good a in
              let fix : fixed r d input u st moves y q good a ≡ true = or_second a.event (d.exact u.seen.number) e in
              let range = same_range r d input u st moves y q good a fix in
              let size : a.q0.bytes ≡ a.size = Rattle.std.proofs.Common.ap (λ (z : ByteRange). z.bytes) (sym (Rattle.pg_run.proofs.ActionPlaces.place_is a.word0 a.size a.q0 a.place0)) in
              let one : (c : ℕ) → is_in (range_of t) c ≡ true → IsLike input (u.seen.before.bytes c) (Some (byte_at st.memory c)) = λ c i.
              let m : nat_lt c MEMORY_BYTES ≡ true = in_memory a.word0 a.size a.q0 c a.place0 (subst (λ (n : ℕ). is_in (record { start = byte_place a.word0; bytes = n }) c ≡ true) size i) in
              let k : reads_cell d u.seen c ≡ true = reads_here r d input u st moves y q good a c
              ∙ ap (λ (b : Bool). if b then not a.writes && is_in (range_touched (fixed r d input u st moves y q good a) t) c else false) m
              ∙ ap (λ (b : Bool). not b && is_in (range_touched (fixed r d input u st moves y q good a) t) c) reads ∙ ap (λ (b : Bool). is_in (range_touched b t) c) fix ∙ i in
              at_byte c m (cells c k) in
              subst (λ (n : ℕ). IsLike input (cut (λ k. k % modulus w) (loaded u.seen.before.bytes (range_of t).start t.bytes)) (Some (n % modulus w)))
              (sym (ap (read st.memory) range ∙ read_is st.memory (range_of t)))
              (cut_like input (λ k. k % modulus w) (loaded u.seen.before.bytes (range_of t).start t.bytes) (number_of (byte_at st.memory) (range_of t).start t.bytes)
              (loaded_like input u.seen.before.bytes (byte_at st.memory) (range_of t).start t.bytes one))
            where
              or_second : (a b : Bool) → b ≡ true → (a || b) ≡ true
              or_second true b h = refl
              or_second false b h = h

              at_byte : (c : ℕ) → nat_lt c MEMORY_BYTES ≡ true → IsCellLike input (cell_known u.seen.before c) (cell_at st c)
                  → IsLike input (u.seen.before.bytes c) (Some (byte_at st.memory c))
              at_byte c m h = rw m at h

      pub load_fits : (w : Width) (from : Value) → q.both.x.op ≡ op.Load w from → Fits (like input) (deed_of d u) (deed_moved r.program input st moves y)
      load_fits w from e =
          let p = r.program in
          let b = q.both in
          let o = op.Load w from in
          let t = thread_in u.seen.moment in
          let v0 = value_done (operand p b.f0.registers from) (λ a. on_place a (bytes_of w) (λ z. actions.Load z)) (can0_at r d input u st moves y q o e) in
          let v = value_done (operand p b.f.registers from) (λ a. on_place a (bytes_of w) (λ z. actions.Load z)) (can_at r d input u st moves y q o e) in
          let g0 = place_done v0.0 (bytes_of w) (λ z. actions.Load z) v0.2 in
          let g = place_done v.0 (bytes_of w) (λ z. actions.Load z) v.2 in
          let act0 : next_of p u.state t ≡ actions.Load g0.0 = act0_at r d input u st moves y q o e
          ∙ on_some (operand p b.f0.registers from) v0.0 (λ a. on_place a (bytes_of w) (λ z. actions.Load z)) v0.1 ∙ g0.2 in
          let act : next_of p st t ≡ actions.Load g.0 = act_at r d input u st moves y q o e
          ∙ on_some (operand p b.f.registers from) v.0 (λ a. on_place a (bytes_of w) (λ z. actions.Load z)) v.1 ∙ g.2 in
          let ns0 = operands_here p u.state t b.h b.f0 b.fs0 b.n b.x b.here0 ∙ ap (λ (z : Op). first_four p b.f0.registers (operands_of z)) e in
          let ns = operands_here p st t b.h b.f b.fs b.n b.x b.here ∙ ap (λ (z : Op). first_four p b.f.registers (operands_of z)) e in
          let kind0 : kind_in u.seen ≡ access_told r.gated u.state t v0.0 g0.0 false (answer0 r d input u st moves y q) =
          ap (λ (z : Step). z.kind) (told0 r d input u st moves y q) ∙ ap
          (kind_told r.gated p u.state t (operands_in p (slice_get u.state.locals t)) (answer0 r d input u st moves y q)
          (number_in p (slice_get u.state.locals t) (answer0 r d input u st moves y q))) act0
          ∙ ap (λ (l : List ℕ). access_told r.gated u.state t (slice_index l 0) g0.0 false (answer0 r d input u st moves y q)) ns0
          ∙ ap (λ (m : Option ℕ). access_told r.gated u.state t (given m) g0.0 false (answer0 r d input u st moves y q)) v0.1 in
          let kind : y.kind ≡ access_told r.gated u.state t v.0 g.0 false (answer r d input u st moves y q) =
          ap (λ (z : Step). z.kind) (told r d input u st moves y q) ∙ ap
          (kind_told r.gated p st t (operands_in p (slice_get st.locals t)) (answer r d input u st moves y q) (number_in p (slice_get st.locals t) (answer r d input u st moves y q))) act
          ∙ ap (λ (l : List ℕ). access_told r.gated st t (slice_index l 0) g.0 false (answer r d input u st moves y q)) ns
          ∙ ap (λ (m : Option ℕ). access_told r.gated st t (given m) g.0 false (answer r d input u st moves y q)) v.1
          ∙ ap (λ (i : ℕ). kinds.Access (record { pointer = v.0; number = answer r d input u st moves y q; bytes = g.0.bytes; writes = false; event = is_gated r.gated i }))
          (same_place r d input u st moves y q) in
          let a : Access' r d input u st moves y q good = record {
            word0 = v0.0;
            word = v.0;
            q0 = g0.0;
            q1 = g.0;
            size = bytes_of w;
            number0 = answer0 r d input u st moves y q;
            number = answer r d input u st moves y q;
            writes = false;
            event = is_gated r.gated (instr_of u.state t);
            kind0 = kind0;
            kind = kind;
            place0 = g0.1;
            place = g.1;
            at = from;
            index = ap (λ (z : Op). slice_get (operands_of z) (Rattle.pg_slice_rules.specs.Rules.address_index z)) e;
            address = v.1;
          } in
          let read : answer r d input u st moves y q ≡ read st.memory g.0 = ap (answer_to input st t) act in
          finish a act0 act e (subst (λ (n : ℕ). IsLike input (load_of (d.exact u.seen.number) u.seen.number w (told_access r d input u st moves y q good a) u.seen.before.bytes)
          (Some (n % modulus w))) (sym read) (load_value a refl w)) refl
        where
          finish : (a : Access' r d input u st moves y q good) → next_of r.program u.state (thread_in u.seen.moment) ≡ actions.Load a.q0
              → next_of r.program st (thread_in u.seen.moment) ≡ actions.Load a.q1 → q.both.x.op ≡ op.Load w from →
              IsLike input (load_of (d.exact u.seen.number) u.seen.number w (told_access r d input u st moves y q good a) u.seen.before.bytes) (Some (answer r d input u st moves y q % modulus w))
              → a.writes ≡ false → Fits (like input) (deed_of d u) (deed_moved r.program input st moves y)
          finish a act0 act e v reads =
              let ef = effect_of r.program input st y.thread.0 in
              let none : (c : ℕ) → writes_cell d u.seen c ≡ false =
              λ c. writes_here r d input u st moves y q good a c ∙ ap
              (λ (b : Bool). if nat_lt c MEMORY_BYTES then b && is_in (range_touched (fixed r d input u st moves y q good a) (told_access r d input u st moves y q good a)) c else false)
              reads ∙ either_false (nat_lt c MEMORY_BYTES) in
              let nothing : (c : ℕ) → cell_written ef c ≡ None = λ c. writes_none ef c (effect_writes (actions.Load a.q1) act) (effect_request (actions.Load a.q1) act) in
              record {
                thread = q.own;
                to = stands r d input u st moves y q _ (known_calls a) (heap_same e) (calls_like e v);
                told = told_alike r d input u st moves y q good a;
                objects = objects_kept a (actions.Load a.q0) (actions.Load a.q1) act0 act refl refl;
                cells = λ c s m k. rw (none_if (writes_cell d u.seen c) (cell_known u.known c) (none c), nothing c) k;
                reads = λ c k. or_left (reads_cell d u.seen c) _ (read_here c (nat_lt c MEMORY_BYTES) refl (effect_reads (actions.Load a.q1) act) (effect_word (actions.Load a.q1) act) k);
                writes = λ c k. absurd (true≢false (sym k ∙ ap is_some (nothing c)));
              }
            where
              heap_same : q.both.x.op ≡ op.Load w from → heap_after r.program
                  (own_memory (running (thread_in u.seen.moment) q.both.h q.both.f q.both.fs q.both.n)) q.both.f.registers q.both.x.op
                  ≡ heap_after r.program (own_memory (running (thread_in u.seen.moment) q.both.h q.both.f0 q.both.fs0 q.both.n)) q.both.f0.registers q.both.x.op
              heap_same e = ap (heap_after r.program (own_memory (running (thread_in u.seen.moment) q.both.h q.both.f q.both.fs q.both.n)) q.both.f.registers) e
                  ∙ sym (ap (heap_after r.program (own_memory (running (thread_in u.seen.moment) q.both.h q.both.f0 q.both.fs0 q.both.n)) q.both.f0.registers) e)

              calls_like : q.both.x.op ≡ op.Load w from → IsLike input (load_of (d.exact u.seen.number) u.seen.number w (told_access r d input u st moves y q good a) u.seen.before.bytes)
                  (Some (answer r d input u st moves y q % modulus w)) →
                  AreCallsLike input (op_after r.program (running (thread_in u.seen.moment) q.both.h q.both.f0 q.both.fs0 q.both.n) q.both.x (answer0 r d input u st moves y q) q.both.x.op)
                  (after_access r.program (d.exact u.seen.number) u.seen.number (told_access r d input u st moves y q good a) u.seen.before.bytes q.both.x q.both.x.op q.both.ks ∷ q.both.more)
                  (op_after r.program (running (thread_in u.seen.moment) q.both.h q.both.f q.both.fs q.both.n) q.both.x (answer r d input u st moves y q) q.both.x.op)
              calls_like e v = subst (λ (z : Op). AreCallsLike input
                  (op_after r.program (running (thread_in u.seen.moment) q.both.h q.both.f0 q.both.fs0 q.both.n) q.both.x (answer0 r d input u st moves y q) z)
                  (after_access r.program (d.exact u.seen.number) u.seen.number (told_access r d input u st moves y q good a) u.seen.before.bytes q.both.x z q.both.ks ∷ q.both.more)
                  (op_after r.program (running (thread_in u.seen.moment) q.both.h q.both.f q.both.fs q.both.n) q.both.x (answer r d input u st moves y q) z)) (sym e) (
                    frame_stepped input q.both.f0 q.both.f q.both.ks q.both.x.result
                        (load_of (d.exact u.seen.number) u.seen.number w (told_access r d input u st moves y q good a) u.seen.before.bytes) (answer0 r d input u st moves y q % modulus w)
                        (answer r d input u st moves y q % modulus w) q.both.top v,
                    q.both.rest,
                  )

              read_here : (c : ℕ) (b : Bool) → nat_lt c MEMORY_BYTES ≡ b → (effect_of r.program input st y.thread.0).reads ≡ Some a.q1
                  → (effect_of r.program input st y.thread.0).word_read ≡ None → views.reads_cell (effect_of r.program input st y.thread.0) c ≡ true → reads_cell d u.seen c ≡ true
              read_here c b m i j k =
                  let k' : (if b then is_in a.q1 c else false) ≡ true =
                  sym (ap (λ (z : Option ByteRange). if nat_lt c MEMORY_BYTES then is_in_range z c else is_thread (effect_of r.program input st y.thread.0).word_read (c - MEMORY_BYTES)) i
                  ∙ ap (λ (z : Option ℕ). if nat_lt c MEMORY_BYTES then is_in a.q1 c else is_thread z (c - MEMORY_BYTES)) j ∙ ap (λ (z : Bool). if z then is_in a.q1 c else false) m) ∙ k in
                  reads_here r d input u st moves y q good a c
                  ∙ ap (λ (z : Bool). if z then not a.writes && is_in (range_touched (fixed r d input u st moves y q good a) (told_access r d input u st moves y q good a)) c else false) m
                  ∙ ap (λ (z : Bool). if b then not z && is_in (range_touched (fixed r d input u st moves y q good a) (told_access r d input u st moves y q good a)) c else false) reads
                  ∙ pick b k' (λ h. within r d input u st moves y q good a c h)
                where
                  pick : (b : Bool) → (if b then is_in a.q1 c else false) ≡ true
                      → (is_in a.q1 c ≡ true → is_in (range_touched (fixed r d input u st moves y q good a) (told_access r d input u st moves y q good a)) c ≡ true)
                      → (if b then is_in (range_touched (fixed r d input u st moves y q good a) (told_access r d input u st moves y q good a)) c else false) ≡ true
                  pick true h f = f h
                  pick false h f = h
