-- Branches fit: a pinned one takes the recorded edge.
use Rattle.std.proofs.Common.{◌≡◌, ◌≢◌, ℕ, ℤ, ◌==◌, Bool, true, false, List, [], ◌∷◌, length, map, Option, Some, None, refl, sym, ap, ◌∙◌, subst, inl, inr, ◌⊎◌}
use Rattle.std.specs.Prelude.{◌&&◌, ◌||◌, not, slice_get, slice_index, if◌then◌else◌}
use Rattle.std.specs.List.{AllByRecursion as AllOf, list_any}
use Rattle.std.proofs.lemmas.Bool.{and_from, and_parts, eq-eqb, eqb-true, not-true, not_from_false, or_cases, true≢false}
use Rattle.pg_num.specs.declared.width.Width.{Width}
use Rattle.pg_ir.specs.declared.edge.Case.{Case}
use Rattle.pg_ir.specs.declared.ids.BlockNo.{BlockNo}
use Rattle.pg_ir.specs.declared.instr.Op.{Op}
use Rattle.pg_ir.specs.declared.instr.Op.TheVariants as op
use Rattle.pg_ir.specs.declared.request.TrapName.TheVariants as traps
use Rattle.pg_ir.specs.declared.value.Value.{Value}
use Rattle.pg_ir.specs.Edges.{case_of, phis_of}
use Rattle.pg_ir.specs.Program.{NumberedProgram}
use Rattle.pg_precondition.specs.declared.check.Test.{Test}
use Rattle.pg_precondition.specs.declared.check.Test.TheVariants as test
use Rattle.pg_precondition.specs.Values.{is_met}
use Rattle.pg_law_threads.specs.Plans.{Fits}
use Rattle.pg_run_thread.specs.declared.action.Action.{Action}
use Rattle.pg_run_thread.specs.declared.action.Action.TheVariants as actions
use Rattle.pg_run_thread.specs.Compute.{chosen}
use Rattle.pg_run_thread.specs.EdgeStep.{have_values}
use Rattle.pg_run_thread.specs.LocalState.{Frame, own_memory}
use Rattle.pg_run_thread.specs.Operands.{first_four, given, number_at, operand, operands_of}
use Rattle.pg_run_thread.specs.States.{CanStep}
use Rattle.pg_run_thread.specs.Step.{edge_action, heap_after, moved, on_value, op_action, op_after, total}
use Rattle.pg_run_thread.specs.Told.{op_own, or_zero}
use Rattle.pg_run_trace.specs.declared.step.Step.{Step}
use Rattle.pg_run_trace.specs.declared.step.StepKind.{StepKind}
use Rattle.pg_run_trace.specs.declared.step.StepKind.TheVariants as kinds
use Rattle.pg_run.specs.MachineStep.{instr_told, kind_told, number_in, op_told, operands_in}
use Rattle.pg_run.specs.State.{State, next_of}
use Rattle.pg_slice_rules.specs.Extents.{edge_by, edge_in}
use Rattle.pg_slice_rules.specs.Known.{Taken, after_branch, after_op, along_edge, is_branch, operand_at, region_of, result_in, top_of}
use Rattle.pg_slice_rules.specs.Moments.{calls_of, instr_in, registers_in, thread_in}
use Rattle.pg_slice_rules.specs.Rules.{Value as ValueNeed, edge_tests, has_region, is_bound, is_case, kind_in, operand_of, registers_before, value_needs, value_needs_by, value_needs_in, value_of}
use Rattle.pg_slice_rules.specs.SymbolicValues.{OnInput, Symbolic}
use Rattle.pg_law_plan.specs.Likes.{AreCallsLike, IsCallLike, IsLike, like}
use Rattle.pg_law_plan.specs.Moves.{deed_moved}
use Rattle.pg_law_plan.specs.Units.{PlanUnit, ReferenceRun, deed_of, reference_of}
use Rattle.pg_law_plan.proofs.StepChecks.{Holds, IsGood}
use Rattle.pg_law_plan.proofs.ThreadAtInstruction.{number_here, operands_here}
use Rattle.pg_law_plan.proofs.LocalStepFits.{IsInner, Pair, act0_is, act_is, answer, answer0, can, can0, inner_fits, instr_at0, instr_is, locals, told0}
use Rattle.pg_law_plan.proofs.LikeOperands.{edge_like, like_value, operand_like}
use Rattle.pg_law_plan.proofs.ComputedNumbers.{if_done, value_done}

pub edge_done : (p : NumberedProgram) (rs : List (Option ℕ)) (from to : ℕ) → CanStep (edge_action p rs from to) → edge_action p rs from to ≡ actions.Local
unfolding edge_action
edge_done p rs from to h = ap (λ (b : Bool). if b then actions.Local else actions.Trap traps.Unset) (if_done (have_values p rs from (phis_of p to)) h)

-- ---- the edge by the number of the condition

case_here : (n k : ℕ) (c : Case) (cs : List Case) (other : ℕ) → (c.value == n) ≡ false → (c.value == k) ≡ false → case_of cs other k ≡ case_of cs other n
    → case_of (c ∷ cs) other k ≡ case_of (c ∷ cs) other n
case_here n k c cs other a b e = rw (a, b) e

or_false : (a b : Bool) → (a || b) ≡ false → (a ≡ false) × (b ≡ false)
or_false true b h = absurd (true≢false h)
or_false false b h = (refl, h)

cases_same : (n k : ℕ) (cs : List Case) (other : ℕ) → list_any (λ (c : Case). c.value == n) cs ≡ false
    → AllOf (λ (t : Test). is_met t (Some k) ≡ true) (map (λ (c : Case). test.Ne c.value) cs) → case_of cs other k ≡ case_of cs other n
cases_same n k [] other a h = refl
cases_same n k (c ∷ cs) other a h =
    let p = or_false (c.value == n) (list_any (λ (c : Case). c.value == n) cs) a in
    case_here n k c cs other p.0 (turn (k == c.value) (not-true (k == c.value) h.0)) (cases_same n k cs other p.1 h.1)
  where
    turn : (b : Bool) → (k == c.value) ≡ false → (c.value == k) ≡ false
    turn b e = Rattle.std.proofs.lemmas.Bool.ne_eqb c.value k (λ q. true≢false (sym (eq-eqb k c.value (sym q)) ∙ e))

pub eq_met : (n k : ℕ) → is_met (test.Eq n) (Some k) ≡ true → k ≡ n
eq_met n k h = eqb-true k n h

switch_same : (w : Width) (on : Value) (other : BlockNo) (cs : List Case) (n k : ℕ) → AllOf (λ (t : Test). is_met t (Some k) ≡ true) (edge_tests (op.Switch w on other cs) n)
    → case_of cs other.0 k ≡ case_of cs other.0 n
switch_same w on other cs n k h = go (is_case n cs) refl h
  where
    go : (b : Bool) → is_case n cs ≡ b → AllOf (λ (t : Test). is_met t (Some k) ≡ true) (if b then test.Eq n ∷ [] else map (λ (c : Case). test.Ne c.value) cs)
        → case_of cs other.0 k ≡ case_of cs other.0 n
    go true e z = ap (case_of cs other.0) (eq_met n k z.0)
    go false e z = cases_same n k cs other.0 e z

-- ---- frames

frame_moved : (input : List ℤ) (p : NumberedProgram) (f0 f : Frame) (ks : List Symbolic) (from to0 to : ℕ) → IsCallLike input f0 ks f → to ≡ to0
    → IsCallLike input (moved p f0 from to0) (along_edge p from (Some to0) ks) (moved p f from to)
frame_moved input p f0 f ks from to0 to h e = subst (λ (z : ℕ). IsCallLike input (moved p f0 from to0) (along_edge p from (Some to0) ks) (moved p f from z)) (sym e) (record {
  function = h.function;
  place = refl;
  height = h.height;
  registers = edge_like input p ks f.registers from to0 h.registers;
})

module _ (r : ReferenceRun) (d : Taken) (input : List ℤ) (u : PlanUnit) (st : State) (moves : ℕ → ℕ) (y : Step) (q : Pair r d input u st moves y) where
  abbrev t : ℕ
  t = thread_in u.seen.moment

  open locals r d input u st moves y q use {l0, l}

  -- a local step tells what its instruction and its numbers are
  pub kind_local : next_of r.program u.state (thread_in u.seen.moment) ≡ actions.Local
      → kind_in u.seen ≡ op_told (first_four r.program q.both.f0.registers (operands_of q.both.x.op))
      (or_zero q.both.x.result (op_own r.program l0 q.both.f0.registers (answer0 r d input u st moves y q) q.both.x.op)) q.both.x.op
  kind_local e =
      let p = r.program in
      let o = slice_get u.state.locals (thread_in u.seen.moment) in
      let a0 = answer0 r d input u st moves y q in
      ap (λ (z : Step). z.kind) (told0 r d input u st moves y q)
      ∙ ap (kind_told r.gated p u.state (thread_in u.seen.moment) (operands_in p o) a0 (number_in p o a0)) e
      ∙ ap (instr_told (operands_in p o) (number_in p o a0)) (instr_at0 r d input u st moves y q)
      ∙ ap (λ (ns : List ℕ). op_told ns (number_in p o a0) q.both.x.op) (operands_here p u.state (thread_in u.seen.moment) q.both.h q.both.f0 q.both.fs0 q.both.n q.both.x q.both.here0)
      ∙ ap (λ (n : ℕ). op_told (first_four p q.both.f0.registers (operands_of q.both.x.op)) n q.both.x.op)
      (number_here p u.state (thread_in u.seen.moment) q.both.h q.both.f0 q.both.fs0 q.both.n q.both.x q.both.here0 a0)

  -- where the operation is this one
  pub inner_at : (o : Op) → q.both.x.op ≡ o → (inner0 : IsInner (next_of r.program u.state (thread_in u.seen.moment))) (inner : IsInner (next_of r.program st (thread_in u.seen.moment))) →
      heap_after r.program (own_memory l) q.both.f.registers o ≡ heap_after r.program (own_memory l0) q.both.f0.registers o →
      AreCallsLike input (op_after r.program l0 q.both.x (answer0 r d input u st moves y q) o)
      (after_op r.program (d.pinned u.seen.number) u.seen.number u.seen.moment (region_of r.program r.regions u.seen.moment (instr_in r.program u.seen.moment))
      (result_in (kind_in u.seen)) q.both.x o (q.both.ks ∷ q.both.more))
      (op_after r.program l q.both.x (answer r d input u st moves y q) o) →
      Fits (like input) (deed_of d u) (deed_moved r.program input st moves y)
  inner_at o e inner0 inner heap c = inner_fits r d input u st moves y q inner0 inner
      (subst (λ (z : Op). heap_after r.program (own_memory l) q.both.f.registers z ≡ heap_after r.program (own_memory l0) q.both.f0.registers z) (sym e) heap)
      (subst (λ (z : Op). AreCallsLike input (op_after r.program l0 q.both.x (answer0 r d input u st moves y q) z)
      (after_op r.program (d.pinned u.seen.number) u.seen.number u.seen.moment (region_of r.program r.regions u.seen.moment (instr_in r.program u.seen.moment))
      (result_in (kind_in u.seen)) q.both.x z (q.both.ks ∷ q.both.more))
      (op_after r.program l q.both.x (answer r d input u st moves y q) z)) (sym e) c)

  abbrev pub Act0 : Op → Action
  Act0 o = op_action r.program (own_memory l0) q.both.h q.both.f0.registers (length (q.both.f0 ∷ q.both.fs0)) (total (q.both.f0 ∷ q.both.fs0)) q.both.x.block.0 o

  abbrev pub Act : Op → Action
  Act o = op_action r.program (own_memory l) q.both.h q.both.f.registers (length (q.both.f ∷ q.both.fs)) (total (q.both.f ∷ q.both.fs)) q.both.x.block.0 o

  pub can0_at : (o : Op) → q.both.x.op ≡ o → CanStep (Act0 o)
  can0_at o e = subst (λ (z : Op). CanStep (Act0 z)) e (can0 r d input u st moves y q)

  pub can_at : (o : Op) → q.both.x.op ≡ o → CanStep (Act o)
  can_at o e = subst (λ (z : Op). CanStep (Act z)) e (can r d input u st moves y q)

  pub act0_at : (o : Op) → q.both.x.op ≡ o → next_of r.program u.state (thread_in u.seen.moment) ≡ Act0 o
  act0_at o e = act0_is r d input u st moves y q ∙ ap Act0 e

  pub act_at : (o : Op) → q.both.x.op ≡ o → next_of r.program st (thread_in u.seen.moment) ≡ Act o
  act_at o e = act_is r d input u st moves y q ∙ ap Act e

  -- the registers of the present call, in the reference run
  pub frames_in : u.seen.moment.calls ≡ q.both.f0 ∷ q.both.fs0
  frames_in = q.unit.met.calls ∙ ap calls_of q.both.here0.local

  pub top_known : registers_before u.seen ≡ q.both.ks
  top_known = ap top_of q.both.calls

  -- what is asked of values here
  pub needs_here : (k : StepKind) → kind_in u.seen ≡ k → value_needs (reference_of r) d u.seen ≡ value_needs_by r.program d u.seen q.both.x k
  needs_here k e = ap (value_needs_in r.program d u.seen) (instr_is r d input u st moves y q)
      ∙ ap (λ (b : Bool). if b then value_needs_by r.program d u.seen q.both.x (kind_in u.seen) else []) q.unit.live ∙ ap (value_needs_by r.program d u.seen q.both.x) e

  -- an operand that is known
  pub number_known : (o : Op) → q.both.x.op ≡ o → (i : ℕ) (v : Value) → slice_get (operands_of o) i ≡ Some v → (f : OnInput)
      → value_of (operand_of r.program u.seen q.both.x i) ≡ Some f → operand r.program q.both.f.registers v ≡ f input
  number_known o e i v g f k =
      like_value input (operand_of r.program u.seen q.both.x i) f (operand r.program q.both.f.registers v) k
      (subst (λ (s : Symbolic). IsLike input s (operand r.program q.both.f.registers v))
      (at_known (operands_of o) i v g ∙ ap (λ (ss : List Symbolic). operand_at r.program ss o i) (sym top_known) ∙ ap (λ (z : Op). operand_at r.program (registers_before u.seen) z i) (sym e))
      (operand_like input r.program q.both.ks q.both.f.registers q.both.top.registers v))
    where
      at_known : (vs : List Value) (i : ℕ) (v : Value) → slice_get vs i ≡ Some v
          → Rattle.pg_slice_rules.specs.SymbolicValues.symbolic_of r.program q.both.ks v
          ≡ Rattle.std.specs.Prelude.slice_index_or (map (Rattle.pg_slice_rules.specs.SymbolicValues.symbolic_of r.program q.both.ks) vs) i Rattle.pg_slice_rules.specs.SymbolicValues.unset
      at_known [] i v g = absurd cc
      at_known (w ∷ vs) Rattle.std.proofs.Common.zero v g = let same : v ≡ w = cc in ap (Rattle.pg_slice_rules.specs.SymbolicValues.symbolic_of r.program q.both.ks) same
      at_known (w ∷ vs) (Rattle.std.proofs.Common.suc i) v g = at_known vs i v g

  -- ---- a branch without a condition

  pub br_fits : (to : BlockNo) → q.both.x.op ≡ op.Br to → Fits (like input) (deed_of d u) (deed_moved r.program input st moves y)
  br_fits to e = inner_at (op.Br to) e
      (subst IsInner (sym (act0_at (op.Br to) e ∙ edge_done r.program q.both.f0.registers q.both.x.block.0 to.0 (can0_at (op.Br to) e))) tt)
      (subst IsInner (sym (act_at (op.Br to) e ∙ edge_done r.program q.both.f.registers q.both.x.block.0 to.0 (can_at (op.Br to) e))) tt)
      refl (frame_moved input r.program q.both.f0 q.both.f q.both.ks q.both.x.block.0 to.0 to.0 q.both.top refl, q.both.rest)

  -- ---- a branch with one

  pinned_here : (c : ℕ) → kind_in u.seen ≡ kinds.Branch c → (is_bound u.seen && not (d.pinned u.seen.number)) ≡ false → d.pinned u.seen.number ≡ true
  pinned_here c e pins = go (d.pinned u.seen.number) refl (has_region u.seen.region) refl
    where
      go : (b : Bool) → d.pinned u.seen.number ≡ b → (f : Bool) → has_region u.seen.region ≡ f → b ≡ true
      go true a f g = refl
      go false a true g = absurd (true≢false (sym (and_from (has_region u.seen.region) (not (d.pinned u.seen.number)) g (not_from_false (d.pinned u.seen.number) a)) ∙ q.plain))
      go false a false g =
          let bound : is_bound u.seen ≡ true = and_from (u.seen.live && is_branch (kind_in u.seen)) (not (has_region u.seen.region))
          (and_from u.seen.live (is_branch (kind_in u.seen)) q.unit.live (ap is_branch e)) (not_from_false (has_region u.seen.region) g) in
          absurd (true≢false (sym (and_from (is_bound u.seen) (not (d.pinned u.seen.number)) bound (not_from_false (d.pinned u.seen.number) a)) ∙ pins))

  module _ (good : IsGood (reference_of r) d input u.seen) where
    -- the tests of the edge hold of the number at hand
    record Edge (o : Op) (c n : ℕ) : Type 0 where
      tests : AllOf (λ (t : Test). is_met t (Some n) ≡ true) (edge_tests o c)
      pinned : d.pinned u.seen.number ≡ true

    edge_of : (o : Op) → q.both.x.op ≡ o → (v : Value) → slice_get (operands_of o) 0 ≡ Some v → (c : ℕ) → kind_in u.seen ≡ kinds.Branch c → (n : ℕ)
        → operand r.program q.both.f.registers v ≡ Some n → Edge o c n
    edge_of o e v g c k n s =
        let pin = pinned_here c k good.pins in
        let needs : value_needs (reference_of r) d u.seen ≡ ValueNeed (operand_of r.program u.seen q.both.x 0) (edge_tests q.both.x.op c) ∷ [] =
        needs_here (kinds.Branch c) k ∙ ap (λ (b : Bool). if b then ValueNeed (operand_of r.program u.seen q.both.x 0) (edge_tests q.both.x.op c) ∷ [] else []) pin in
        let h = (subst (AllOf (Holds input)) needs good.values).0 in
        let same : h.0 input ≡ Some n = sym (number_known o e 0 v g h.0 h.1) ∙ s in
        record {
          pinned = pin;
          tests = subst (λ (z : Op). AllOf (λ (t : Test). is_met t (Some n) ≡ true) (edge_tests z c)) e
              (subst (λ (m : Option ℕ). AllOf (λ (t : Test). is_met t m ≡ true) (edge_tests q.both.x.op c)) same h.2);
        }

    condition : (o : Op) → number_at r.program (registers_in u.seen.moment.calls) (operands_of o) 0 ≡ number_at r.program q.both.f0.registers (operands_of o) 0
    condition o = ap (λ (fs : List Frame). number_at r.program (registers_in fs) (operands_of o) 0) frames_in

    pub cond_fits : (c : Value) (a b : BlockNo) → q.both.x.op ≡ op.CondBr c a b → Fits (like input) (deed_of d u) (deed_moved r.program input st moves y)
    cond_fits c a b e =
        let o = op.CondBr c a b in
        let p = r.program in
        let v0 = value_done (operand p q.both.f0.registers c) (λ n. edge_action p q.both.f0.registers q.both.x.block.0 (chosen n a.0 b.0)) (can0_at o e) in
        let v = value_done (operand p q.both.f.registers c) (λ n. edge_action p q.both.f.registers q.both.x.block.0 (chosen n a.0 b.0)) (can_at o e) in
        let local0 = act0_at o e ∙ on_some (operand p q.both.f0.registers c) v0.0 (λ n. edge_action p q.both.f0.registers q.both.x.block.0 (chosen n a.0 b.0)) v0.1
        ∙ edge_done p q.both.f0.registers q.both.x.block.0 (chosen v0.0 a.0 b.0) v0.2 in
        let local = act_at o e ∙ on_some (operand p q.both.f.registers c) v.0 (λ n. edge_action p q.both.f.registers q.both.x.block.0 (chosen n a.0 b.0)) v.1
        ∙ edge_done p q.both.f.registers q.both.x.block.0 (chosen v.0 a.0 b.0) v.2 in
        let kind : kind_in u.seen ≡ kinds.Branch (given (operand p q.both.f0.registers c)) = kind_local local0 ∙ kind_cond e in
        let edge = edge_of o e c refl (given (operand p q.both.f0.registers c)) kind v.0 v.1 in
        let same : given (operand p q.both.f.registers c) ≡ given (operand p q.both.f0.registers c) = ap given v.1 ∙ eq_met (given (operand p q.both.f0.registers c)) v.0 edge.tests.0 in
        inner_at o e (subst IsInner (sym local0) tt) (subst IsInner (sym local) tt) refl (
          subst (λ (z : List Symbolic). IsCallLike input (moved p q.both.f0 q.both.x.block.0 (chosen (given (operand p q.both.f0.registers c)) a.0 b.0)) z
              (moved p q.both.f q.both.x.block.0 (chosen (given (operand p q.both.f.registers c)) a.0 b.0)))
              (sym (after_pinned edge.pinned (edge_in p u.seen.moment (Some q.both.x))
              ∙ ap (λ (g : Option ℕ). along_edge p q.both.x.block.0 g q.both.ks) (ap (edge_by p u.seen.moment) e ∙ ap (λ (n : ℕ). Some (chosen n a.0 b.0)) (condition o))))
              (frame_moved input p q.both.f0 q.both.f q.both.ks q.both.x.block.0 (chosen (given (operand p q.both.f0.registers c)) a.0 b.0)
              (chosen (given (operand p q.both.f.registers c)) a.0 b.0) q.both.top (ap (λ (n : ℕ). chosen n a.0 b.0) same)),
          q.both.rest,
        )
      where
        on_some : (m : Option ℕ) (n : ℕ) (act : ℕ → Action) → m ≡ Some n → on_value m act ≡ act n
        on_some m n act k = rw k refl

        kind_cond : q.both.x.op ≡ op.CondBr c a b → op_told (first_four r.program q.both.f0.registers (operands_of q.both.x.op))
            (or_zero q.both.x.result (op_own r.program l0 q.both.f0.registers (answer0 r d input u st moves y q) q.both.x.op)) q.both.x.op
            ≡ kinds.Branch (given (operand r.program q.both.f0.registers c))
        kind_cond k = ap (λ (z : Op). op_told (first_four r.program q.both.f0.registers (operands_of z))
            (or_zero q.both.x.result (op_own r.program l0 q.both.f0.registers (answer0 r d input u st moves y q) z)) z) k

        after_pinned : d.pinned u.seen.number ≡ true → (g : Option ℕ)
            → after_branch r.program (d.pinned u.seen.number) u.seen.number q.both.x g (region_of r.program r.regions u.seen.moment (instr_in r.program u.seen.moment)) q.both.ks
            ≡ along_edge r.program q.both.x.block.0 g q.both.ks
        after_pinned k g = ap (λ (z : Bool). after_branch r.program z u.seen.number q.both.x g (region_of r.program r.regions u.seen.moment (instr_in r.program u.seen.moment)) q.both.ks) k

    pub switch_fits : (w : Width) (on : Value) (other : BlockNo) (cs : List Case) → q.both.x.op ≡ op.Switch w on other cs
        → Fits (like input) (deed_of d u) (deed_moved r.program input st moves y)
    switch_fits w on other cs e =
        let o = op.Switch w on other cs in
        let p = r.program in
        let v0 = value_done (operand p q.both.f0.registers on) (λ n. edge_action p q.both.f0.registers q.both.x.block.0 (case_of cs other.0 n)) (can0_at o e) in
        let v = value_done (operand p q.both.f.registers on) (λ n. edge_action p q.both.f.registers q.both.x.block.0 (case_of cs other.0 n)) (can_at o e) in
        let local0 = act0_at o e ∙ on_some (operand p q.both.f0.registers on) v0.0 (λ n. edge_action p q.both.f0.registers q.both.x.block.0 (case_of cs other.0 n)) v0.1
        ∙ edge_done p q.both.f0.registers q.both.x.block.0 (case_of cs other.0 v0.0) v0.2 in
        let local = act_at o e ∙ on_some (operand p q.both.f.registers on) v.0 (λ n. edge_action p q.both.f.registers q.both.x.block.0 (case_of cs other.0 n)) v.1
        ∙ edge_done p q.both.f.registers q.both.x.block.0 (case_of cs other.0 v.0) v.2 in
        let kind : kind_in u.seen ≡ kinds.Branch (given (operand p q.both.f0.registers on)) = kind_local local0 ∙ kind_switch e in
        let edge = edge_of o e on refl (given (operand p q.both.f0.registers on)) kind v.0 v.1 in
        let same : case_of cs other.0 (given (operand p q.both.f.registers on)) ≡ case_of cs other.0 (given (operand p q.both.f0.registers on)) =
        ap (λ (m : Option ℕ). case_of cs other.0 (given m)) v.1 ∙ switch_same w on other cs (given (operand p q.both.f0.registers on)) v.0 edge.tests in
        inner_at o e (subst IsInner (sym local0) tt) (subst IsInner (sym local) tt) refl (
          subst (λ (z : List Symbolic). IsCallLike input (moved p q.both.f0 q.both.x.block.0 (case_of cs other.0 (given (operand p q.both.f0.registers on)))) z
              (moved p q.both.f q.both.x.block.0 (case_of cs other.0 (given (operand p q.both.f.registers on)))))
              (sym (after_pinned edge.pinned (edge_in p u.seen.moment (Some q.both.x))
              ∙ ap (λ (g : Option ℕ). along_edge p q.both.x.block.0 g q.both.ks) (ap (edge_by p u.seen.moment) e ∙ ap (λ (n : ℕ). Some (case_of cs other.0 n)) (condition o))))
              (frame_moved input p q.both.f0 q.both.f q.both.ks q.both.x.block.0 (case_of cs other.0 (given (operand p q.both.f0.registers on)))
              (case_of cs other.0 (given (operand p q.both.f.registers on))) q.both.top same),
          q.both.rest,
        )
      where
        on_some : (m : Option ℕ) (n : ℕ) (act : ℕ → Action) → m ≡ Some n → on_value m act ≡ act n
        on_some m n act k = rw k refl

        kind_switch : q.both.x.op ≡ op.Switch w on other cs → op_told (first_four r.program q.both.f0.registers (operands_of q.both.x.op))
            (or_zero q.both.x.result (op_own r.program l0 q.both.f0.registers (answer0 r d input u st moves y q) q.both.x.op)) q.both.x.op
            ≡ kinds.Branch (given (operand r.program q.both.f0.registers on))
        kind_switch k = ap (λ (z : Op). op_told (first_four r.program q.both.f0.registers (operands_of z))
            (or_zero q.both.x.result (op_own r.program l0 q.both.f0.registers (answer0 r d input u st moves y q) z)) z) k

        after_pinned : d.pinned u.seen.number ≡ true → (g : Option ℕ)
            → after_branch r.program (d.pinned u.seen.number) u.seen.number q.both.x g (region_of r.program r.regions u.seen.moment (instr_in r.program u.seen.moment)) q.both.ks
            ≡ along_edge r.program q.both.x.block.0 g q.both.ks
        after_pinned k g = ap (λ (z : Bool). after_branch r.program z u.seen.number q.both.x g (region_of r.program r.regions u.seen.moment (instr_in r.program u.seen.moment)) q.both.ks) k
