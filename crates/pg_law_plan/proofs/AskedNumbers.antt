-- What is asked of the numbers at a unit's instruction, in any state in which its thread stands alike: whether or not the thread can
-- step there.
use Rattle.std.proofs.Common.{◌≡◌, ℕ, ℤ, zero, suc, Bool, true, false, List, [], ◌∷◌, length, map, Option, Some, None, refl, sym, ap, ◌∙◌, subst, arith}
use Rattle.std.specs.Prelude.{nat_lt, slice_get, slice_index, slice_index_or, if◌then◌else◌}
use Rattle.std.specs.List.{AllByRecursion as AllOf}
use Rattle.std.proofs.lemmas.Bool.{ltb-true, true≢false}
use Rattle.pg_ir.specs.declared.instr.Op.{Op}
use Rattle.pg_ir.specs.declared.instr.Op.TheVariants as op
use Rattle.pg_ir.specs.declared.library_call.LibraryCall.{LibraryCall}
use Rattle.pg_ir.specs.declared.library_call.LibraryCall.TheVariants as known
use Rattle.pg_ir.specs.declared.request.Request.{Request}
use Rattle.pg_ir.specs.declared.value.Value.{Value}
use Rattle.pg_precondition.specs.declared.check.Test.TheVariants as test
use Rattle.pg_precondition.specs.Values.{is_met}
use Rattle.pg_run_thread.specs.declared.action.Action.TheVariants as actions
use Rattle.pg_run_thread.specs.LocalState.{LocalState}
use Rattle.pg_run_thread.specs.Operands.{argument, first_four, given, operands_of}
use Rattle.pg_run_thread.specs.States.{CanStep}
use Rattle.pg_run_thread.specs.Told.{op_own, or_zero}
use Rattle.pg_run_trace.specs.declared.step.Event.{Event}
use Rattle.pg_run_trace.specs.declared.step.Step.{Step}
use Rattle.pg_run_trace.specs.declared.step.StepKind.{StepKind}
use Rattle.pg_run_trace.specs.declared.step.StepKind.TheVariants as kinds
use Rattle.pg_run_trace.specs.Kinds.{kind_of, object_of}
use Rattle.pg_run.specs.MachineStep.{event_told, kind_told, number_in, operands_in, write_told}
use Rattle.pg_run.specs.State.{State, next_of}
use Rattle.pg_law_effects.specs.Effect.{answer_to}
use Rattle.pg_slice_rules.specs.Known.{Taken, operand_at, thread_of}
use Rattle.pg_slice_rules.specs.Moments.{thread_in}
use Rattle.pg_slice_rules.specs.Rules.{checked, checked_of, equal_to, kind_in, operand_of, registers_before, value_needs, value_needs_by, value_needs_in, value_of}
use Rattle.pg_slice_rules.specs.SymbolicValues.{OnInput, Symbolic, symbolic_of, unset}
use Rattle.pg_law_plan.specs.Likes.{IsLike}
use Rattle.pg_law_plan.specs.Units.{PlanUnit, ReferenceRun, reference_of}
use Rattle.pg_law_plan.proofs.EachUnit.{IsUnit}
use Rattle.pg_law_plan.proofs.BranchFits.{eq_met}
use Rattle.pg_law_plan.proofs.StepChecks.{Holds, IsGood}
use Rattle.pg_law_plan.proofs.ThreadAtInstruction.{number_here, operands_here, running}
use Rattle.pg_law_plan.proofs.LikeOperands.{argument_like, like_value}
use Rattle.pg_law_plan.proofs.MetSteps as meeting
use Rattle.pg_law_plan.proofs.AlikeThreads.{Both}
use Rattle.pg_law_plan.proofs.LikeRequests.{given_args}
use Rattle.pg_law_plan.proofs.RequestEffects.{is_start, needs_event}

module _ (r : ReferenceRun) (d : Taken) (input : List ℤ) (u : PlanUnit) (st : State) (unit : IsUnit r d u)
    (b : Both r.program input (thread_in u.seen.moment) u.state st (thread_of u.seen.before (thread_in u.seen.moment)).calls)
    (good : IsGood (reference_of r) d input u.seen) where
  abbrev l0 : LocalState
  l0 = running (thread_in u.seen.moment) b.h b.f0 b.fs0 b.n

  abbrev answer0 : ℕ
  answer0 = answer_to r.input u.state (thread_in u.seen.moment) (next_of r.program u.state (thread_in u.seen.moment))

  abbrev numbers0 : List ℕ
  numbers0 = first_four r.program b.f0.registers (operands_of b.x.op)

  abbrev reply0 : ℕ
  reply0 = or_zero b.x.result (op_own r.program l0 b.f0.registers answer0 b.x.op)

  pub act0_at : (o : Op) → b.x.op ≡ o → next_of r.program u.state (thread_in u.seen.moment) ≡ meeting.Act0 r d input u.seen u.state st unit.met b o
  act0_at o e = meeting.act0_at r d input u.seen u.state st unit.met b o e

  pub act_at : (o : Op) → b.x.op ≡ o → next_of r.program st (thread_in u.seen.moment) ≡ meeting.Act r d input u.seen u.state st unit.met b o
  act_at o e = meeting.act_at r d input u.seen u.state st unit.met b o e

  pub can0_at : (o : Op) → b.x.op ≡ o → CanStep (meeting.Act0 r d input u.seen u.state st unit.met b o)
  can0_at o e = meeting.can0_at r d input u.seen u.state st unit.met b o e

  needs_here : (k : StepKind) → kind_in u.seen ≡ k → value_needs (reference_of r) d u.seen ≡ value_needs_by r.program d u.seen b.x k
  needs_here k e = ap (value_needs_in r.program d u.seen) (meeting.instr_is r d input u.seen u.state st unit.met b)
      ∙ ap (λ (c : Bool). if c then value_needs_by r.program d u.seen b.x (kind_in u.seen) else []) unit.live ∙ ap (value_needs_by r.program d u.seen b.x) e

  kind0_is : (r0 : Request) → next_of r.program u.state (thread_in u.seen.moment) ≡ actions.Event r0 → kind_in u.seen ≡ event_told u.state (thread_in u.seen.moment) numbers0 reply0 r0
  kind0_is r0 e =
      let p = r.program in
      let o = slice_get u.state.locals (thread_in u.seen.moment) in
      ap (λ (z : Step). z.kind) (meeting.told_met r d u.seen u.state unit.met) ∙ ap (kind_told r.gated p u.state (thread_in u.seen.moment) (operands_in p o) answer0 (number_in p o answer0)) e
      ∙ ap (λ (ns : List ℕ). event_told u.state (thread_in u.seen.moment) ns (number_in p o answer0) r0) (operands_here p u.state (thread_in u.seen.moment) b.h b.f0 b.fs0 b.n b.x b.here0)
      ∙ ap (λ (n : ℕ). event_told u.state (thread_in u.seen.moment) numbers0 n r0) (number_here p u.state (thread_in u.seen.moment) b.h b.f0 b.fs0 b.n b.x b.here0 answer0)

  -- ---- operands that are checked are the recorded ones

  pub checked_same : (k : LibraryCall) (args : List Value) → b.x.op ≡ op.CallLibrary k args → (r0 : Request) → next_of r.program u.state (thread_in u.seen.moment) ≡ actions.Event r0
      → is_start (kind_of r0) ≡ false →
      AllOf (λ (i : ℕ). argument r.program b.f.registers args i ≡ argument r.program b.f0.registers args i) (checked k)
  checked_same k args e r0 act0 start =
      let p = r.program in
      let ev : Event = record {
        kind = kind_of r0;
        object = object_of (thread_in u.seen.moment) (length u.state.sync.threads) r0;
        operands = numbers0;
        reply = reply0;
        write = write_told u.state numbers0 r0;
      } in
      let needs : value_needs (reference_of r) d u.seen ≡ map (equal_to p u.seen b.x ev) (checked k) =
      needs_here (kinds.Event ev) (kind0_is r0 act0) ∙ needs_event p u.seen b.x ev (kind_of r0) start ∙ ap (λ (z : Op). map (equal_to p u.seen b.x ev) (checked_of z)) e in
      each (checked k) (given_args p (thread_in u.seen.moment) b.h b.f0.registers args k (can0_at (op.CallLibrary k args) e)) (subst (AllOf (Holds input)) needs good.values) (small k)
    where
      -- the checked operands are among the first four
      small : (k : LibraryCall) → AllOf (λ (i : ℕ). nat_lt i 3 ≡ true) (checked k)
      small known.PthreadCreate = (refl, (refl, (refl, tt)))
      small known.PthreadJoin = (refl, (refl, tt))
      small known.PthreadMutexInit = (refl, (refl, tt))
      small known.PthreadMutexLock = (refl, tt)
      small known.PthreadMutexTrylock = (refl, tt)
      small known.PthreadMutexUnlock = (refl, tt)
      small known.PthreadMutexDestroy = (refl, tt)
      small known.PthreadCondInit = (refl, (refl, tt))
      small known.PthreadCondWait = (refl, (refl, tt))
      small known.PthreadCondSignal = (refl, tt)
      small known.PthreadCondBroadcast = (refl, tt)
      small known.PthreadCondDestroy = (refl, tt)
      small known.PthreadBarrierInit = (refl, (refl, (refl, tt)))
      small known.PthreadBarrierWait = (refl, tt)
      small known.PthreadBarrierDestroy = (refl, tt)
      small k = tt

      number_of : (i : ℕ) → nat_lt i 3 ≡ true → slice_index numbers0 i ≡ given (argument r.program b.f0.registers args i)
      number_of i h = ap (λ (z : Op). slice_index (first_four r.program b.f0.registers (operands_of z)) i) e ∙ pick i h
        where
          pick : (i : ℕ) → nat_lt i 3 ≡ true → slice_index (first_four r.program b.f0.registers args) i ≡ given (argument r.program b.f0.registers args i)
          pick zero h = refl
          pick (suc zero) h = refl
          pick (suc (suc zero)) h = refl
          pick (suc (suc (suc i))) h = let lt = ltb-true (suc (suc (suc i))) 3 h in absurd (omega (arith, lt))

      one : (i : ℕ) → nat_lt i 3 ≡ true → (n : ℕ) → argument r.program b.f0.registers args i ≡ Some n → (f : OnInput) → value_of (operand_of r.program u.seen b.x i) ≡ Some f
          → is_met (test.Eq (slice_index numbers0 i)) (f input) ≡ true → argument r.program b.f.registers args i ≡ argument r.program b.f0.registers args i
      one i s n g f k m =
          let symbolic : slice_index_or (map (symbolic_of r.program b.ks) args) i unset ≡ operand_of r.program u.seen b.x i =
          ap (λ (ss : List Symbolic). operand_at r.program ss (op.CallLibrary known.PgIn args) i) (sym (meeting.top_known r d input u.seen u.state st unit.met b))
          ∙ sym (ap (λ (z : Op). slice_index_or (map (symbolic_of r.program (registers_before u.seen)) (operands_of z)) i unset) e) in
          let v : argument r.program b.f.registers args i ≡ f input = like_value input (operand_of r.program u.seen b.x i) f (argument r.program b.f.registers args i) k
          (subst (λ (z : Symbolic). IsLike input z (argument r.program b.f.registers args i)) symbolic (argument_like input r.program b.ks b.f.registers b.top.registers args i)) in
          v ∙ met (f input) m ∙ sym g
        where
          met : (o : Option ℕ) → is_met (test.Eq (slice_index numbers0 i)) o ≡ true → o ≡ Some n
          met None h = absurd (true≢false (sym h))
          met (Some z) h = ap Some (eq_met (slice_index numbers0 i) z h ∙ number_of i s ∙ ap given g)

      each : (is : List ℕ) → AllOf (λ (i : ℕ). (n : ℕ) × (argument r.program b.f0.registers args i ≡ Some n)) is →
          AllOf (Holds input) (map (equal_to r.program u.seen b.x
          (record {
            kind = kind_of r0;
            object = object_of (thread_in u.seen.moment) (length u.state.sync.threads) r0;
            operands = numbers0;
            reply = reply0;
            write = write_told u.state numbers0 r0;
          })) is) →
          AllOf (λ (i : ℕ). nat_lt i 3 ≡ true) is → AllOf (λ (i : ℕ). argument r.program b.f.registers args i ≡ argument r.program b.f0.registers args i) is
      each [] g h s = tt
      each (i ∷ is) g h s = (one i s.0 g.0.0 g.0.1 h.0.0 h.0.1 h.0.2.0, each is g.1 h.1 s.1)
