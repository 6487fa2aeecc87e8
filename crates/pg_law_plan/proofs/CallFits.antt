-- Calls of the program's own functions, and returns from them, fit.
use Rattle.std.proofs.Common.{◌≡◌, ℕ, ℤ, ◌==◌, ◌+◌, ◌<◌, Bool, true, false, List, [], ◌∷◌, length, map, Option, Some, None, refl, sym, ap, ◌∙◌, subst, inl}
use Rattle.std.proofs.Common.{inr, ◌⊎◌, suc, IfSome}
use Rattle.std.specs.Prelude.{nat_le, slice_get, if◌then◌else◌}
use Rattle.std.proofs.lemmas.Bool.{true≢false}
use Rattle.pg_num.specs.declared.limits.TheConstants.{CALL_DEPTH_LIMIT, THREAD_REGISTER_LIMIT}
use Rattle.pg_ir.specs.declared.instr.Instr.{Instr}
use Rattle.pg_ir.specs.declared.instr.Op.TheVariants as op
use Rattle.pg_ir.specs.declared.request.Request.TheVariants as requests
use Rattle.pg_ir.specs.declared.request.TrapName.TheVariants as traps
use Rattle.pg_ir.specs.declared.value.Scalar.{Scalar}
use Rattle.pg_ir.specs.declared.value.Value.{Value}
use Rattle.pg_ir.specs.Program.{NumberedProgram, function_of, result_of, types_of}
use Rattle.pg_ir.specs.WellFormed.{FitsOp, FitsReturn, IsProgram, type_at}
use Rattle.pg_law_threads.specs.Plans.{Fits}
use Rattle.pg_run_thread.specs.declared.action.Action.{Action}
use Rattle.pg_run_thread.specs.declared.action.Action.TheVariants as actions
use Rattle.pg_run_thread.specs.LocalState.{Frame}
use Rattle.pg_run_thread.specs.Operands.{given, number_at, operand, operands_of}
use Rattle.pg_run_thread.specs.States.{AreFramesOf, Calls, CanStep, IsOf, WaitFor}
use Rattle.pg_run_thread.specs.Step.{are_set, call_action, entered, on_all, return_action, returning_action, stepped, target_in, total}
use Rattle.pg_run_thread.proofs.PresentInstructions.{same_function}
use Rattle.pg_run_trace.specs.declared.step.Step.{Step}
use Rattle.pg_run.specs.State.{State}
use Rattle.pg_run.proofs.StepsBegin.{there}
use Rattle.pg_run.proofs.StepsKeepStates.{all_at}
use Rattle.pg_slice_rules.specs.Known.{Taken, optional_symbolic, set_symbolic, target_of}
use Rattle.pg_slice_rules.specs.Known as symbolics
use Rattle.pg_slice_rules.specs.Moments.{thread_in}
use Rattle.pg_slice_rules.specs.SymbolicValues.{Symbolic, symbolic_of, unset}
use Rattle.pg_law_plan.specs.Likes.{IsCallLike, IsLike, like}
use Rattle.pg_law_plan.specs.Moves.{deed_moved}
use Rattle.pg_law_plan.specs.Units.{PlanUnit, ReferenceRun, deed_of}
use Rattle.pg_law_plan.proofs.BranchFits.{act0_at, act_at, can0_at, can_at, frames_in, inner_at}
use Rattle.pg_law_plan.proofs.ComputationFits.{frame_stepped, state_of}
use Rattle.pg_law_plan.proofs.ThreadAtInstruction.{running}
use Rattle.pg_law_plan.proofs.LocalStepFits.{IsInner, Pair}
use Rattle.pg_law_plan.proofs.LikeOperands.{depth_like, entered_like, operand_like, operands_like}
use Rattle.pg_law_plan.proofs.AlikeThreads.{Parts, parts}
use Rattle.pg_law_plan.proofs.ComputedNumbers.{on_some, value_done}
use Rattle.pg_run_thread.proofs.StepsKeepStates.{call_result}

-- ---- actions that can be done

pub all_done : (p : NumberedProgram) (rs : List (Option ℕ)) (vs : List Value) (act : Action) → CanStep (on_all p rs vs act) → (on_all p rs vs act ≡ act) × CanStep act
all_done p rs vs act h = go (are_set p rs vs) h
  where
    go : (b : Bool) → CanStep (if b then act else actions.Trap traps.Unset) → ((if b then act else actions.Trap traps.Unset) ≡ act) × CanStep act
    go true h = (refl, h)
    go false h = absurd h

call_done : (p : NumberedProgram) (g depth used : ℕ) → CanStep (call_action p g depth used) → call_action p g depth used ≡ actions.Local
unfolding call_action
call_done p g depth used h = go (nat_le CALL_DEPTH_LIMIT depth) (nat_le (used + length (types_of p g)) THREAD_REGISTER_LIMIT) h
  where
    go : (a b : Bool) → CanStep (if a then actions.Trap traps.CallDepth else if b then actions.Local else actions.Trap traps.Registers)
        → (if a then actions.Trap traps.CallDepth else if b then actions.Local else actions.Trap traps.Registers) ≡ actions.Local
    go true b h = absurd h
    go false true h = refl
    go false false h = absurd h

return_local : (depth n : ℕ) → (depth == 1) ≡ false → return_action depth n ≡ actions.Local
return_local depth n h = ap (λ (b : Bool). if b then actions.Event (requests.Exit n true) else actions.Local) h

returning_local : (p : NumberedProgram) (rs : List (Option ℕ)) (depth : ℕ) (v : Option Value) → (depth == 1) ≡ false → CanStep (returning_action p rs depth v)
    → returning_action p rs depth v ≡ actions.Local
returning_local p rs depth None h k = return_local depth 0 h
returning_local p rs depth (Some v) h k = let n = value_done (operand p rs v) (λ n. return_action depth n) k in
    on_some (operand p rs v) n.0 (λ n. return_action depth n) n.1 ∙ return_local depth n.0 h

-- ---- registers without a type

pub no_result : (types : List Scalar) (target : Option ℕ) → IfSome target (λ r. r < length types) → type_at types target ≡ None → target ≡ None
no_result types None h e = refl
no_result types (Some r) h e = let k = there types r h in absurd (contra (slice_get types r) k.0 k.1 e)
  where
    contra : (o : Option Scalar) (s : Scalar) → o ≡ Some s → o ≡ None → ⊥
    contra o s a b = let q : Path (Option Scalar) (Some s) None = sym a ∙ b in cc

caller_none : (p : NumberedProgram) (g : ℕ) (f : Frame) (o : Option Instr) → IsProgram p → slice_get p.instrs f.place ≡ o → Calls g o → result_of p g ≡ None → target_in o ≡ None
caller_none p g f None program e h k = absurd h
caller_none p g f (Some x) program e h k =
    let types = types_of p (function_of p x.block.0) in
    let i = program.instrs f.place x e in
    no_result types x.result i.target (call_result p types (result_of p (function_of p x.block.0)) (type_at types x.result) g x.op h i.op ∙ k)

returns_nothing : (p : NumberedProgram) (types : List Scalar) (returns : Option Scalar) → FitsReturn p types returns None → returns ≡ None
returns_nothing p types None h = refl
returns_nothing p types (Some s) h = absurd h

module _ (r : ReferenceRun) (d : Taken) (input : List ℤ) (program : IsProgram r.program) (u : PlanUnit) (st : State) (moves : ℕ → ℕ) (y : Step) (q : Pair r d input u st moves y) where
  -- ---- a call

  frame_entered : (g h0 h : ℕ) (ss : List Symbolic) (vs ws : List (Option ℕ)) → h ≡ h0 → Rattle.pg_law_plan.specs.Likes.AreLike input ss vs
      → IsCallLike input (entered r.program g h0 ws) (symbolics.entered r.program g ss) (entered r.program g h vs)
  unfolding entered
  frame_entered g h0 h ss vs ws e k = record { function = refl; place = refl; height = e; registers = entered_like input r.program g ss vs k }

  pub call_fits : (g : ℕ) (args : List Value) → q.both.x.op ≡ op.Call g args → Fits (like input) (deed_of d u) (deed_moved r.program input st moves y)
  call_fits g args e =
      let p = r.program in
      let b = q.both in
      let a0 = all_done p b.f0.registers args (call_action p g (length (b.f0 ∷ b.fs0)) (total (b.f0 ∷ b.fs0))) (can0_at r d input u st moves y q (op.Call g args) e) in
      let a = all_done p b.f.registers args (call_action p g (length (b.f ∷ b.fs)) (total (b.f ∷ b.fs))) (can_at r d input u st moves y q (op.Call g args) e) in
      inner_at r d input u st moves y q (op.Call g args) e
      (subst IsInner (sym (act0_at r d input u st moves y q (op.Call g args) e ∙ a0.0 ∙ call_done p g (length (b.f0 ∷ b.fs0)) (total (b.f0 ∷ b.fs0)) a0.1)) tt)
      (subst IsInner (sym (act_at r d input u st moves y q (op.Call g args) e ∙ a.0 ∙ call_done p g (length (b.f ∷ b.fs)) (total (b.f ∷ b.fs)) a.1)) tt)
      refl (
        frame_entered g b.f0.height b.f.height (map (symbolic_of p b.ks) args) (map (operand p b.f.registers) args) (map (operand p b.f0.registers) args) b.top.height
            (operands_like input p b.ks b.f.registers b.top.registers args),
        (b.top, b.rest),
      )

  -- ---- a return, but for the first call's

  module _ (v : Option Value) (e : q.both.x.op ≡ op.Ret v) (deep : (length (q.both.f0 ∷ q.both.fs0) == 1) ≡ false) where
    deep' : (length (q.both.f ∷ q.both.fs) == 1) ≡ false
    deep' = ap (λ (n : ℕ). suc n == 1) (depth_like input q.both.fs0 q.both.more q.both.fs q.both.rest) ∙ deep

    waits : (g : Frame) (gs : List Frame) → q.both.fs ≡ g ∷ gs → v ≡ None → target_in (slice_get r.program.instrs g.place) ≡ None
    waits g gs is none =
        let p = r.program in
        let b = q.both in
        let frames : AreFramesOf p (b.f ∷ b.fs) = state_of p (running (thread_in u.seen.moment) b.h b.f b.fs b.n)
        (all_at (IsOf p) st.locals (thread_in u.seen.moment) (running (thread_in u.seen.moment) b.h b.f b.fs b.n) b.here.local q.reached.machine.of) in
        let w : WaitFor p b.f.function b.f.height (g ∷ gs) = subst (λ (l : List Frame). WaitFor p b.f.function b.f.height l) is frames.1 in
        let own = same_function p b.f.function b.x (slice_get p.instrs b.f.place) b.here.instr frames.0.place in
        let types = types_of p (function_of p b.x.block.0) in
        let fits : FitsOp p types (result_of p (function_of p b.x.block.0)) (type_at types b.x.result) (op.Ret v) =
        subst (FitsOp p types (result_of p (function_of p b.x.block.0)) (type_at types b.x.result)) e (program.instrs b.f.place b.x b.here.instr).op in
        let void : result_of p (function_of p b.x.block.0) ≡ None = returns_nothing p types (result_of p (function_of p b.x.block.0))
        (subst (FitsReturn p types (result_of p (function_of p b.x.block.0))) none fits.1) in
        caller_none p b.f.function g (slice_get p.instrs g.place) program refl w.1 (ap (result_of p) (sym own) ∙ void)

    -- the caller goes on
    frame_returned : (g0 g : Frame) (gs : List Frame) (k2 : List Symbolic) (n0 : ℕ) → q.both.fs ≡ g ∷ gs → IsCallLike input g0 k2 g →
        IsCallLike input (stepped g0 (target_in (slice_get r.program.instrs g0.place)) n0) (set_symbolic (target_of (slice_get r.program.instrs g0.place)) (optional_symbolic r.program q.both.ks v) k2)
        (stepped g (target_in (slice_get r.program.instrs g.place)) (number_at r.program q.both.f.registers (operands_of (op.Ret v)) 0))
    frame_returned g0 g gs k2 n0 is h =
        let p = r.program in
        subst (λ (i : ℕ). IsCallLike input (stepped g0 (target_in (slice_get p.instrs g0.place)) n0) (set_symbolic (target_of (slice_get p.instrs g0.place)) (optional_symbolic p q.both.ks v) k2)
        (stepped g (target_in (slice_get p.instrs i)) (number_at p q.both.f.registers (operands_of (op.Ret v)) 0))) (sym h.place)
        (subst (λ (o : Option ℕ). IsCallLike input (stepped g0 (target_in (slice_get p.instrs g0.place)) n0) (set_symbolic o (optional_symbolic p q.both.ks v) k2)
        (stepped g (target_in (slice_get p.instrs g0.place)) (number_at p q.both.f.registers (operands_of (op.Ret v)) 0))) (sym (same (slice_get p.instrs g0.place))) (go v refl))
      where
        same : (o : Option Instr) → target_of o ≡ target_in o
        same None = refl
        same (Some x) = refl

        none_set : (target : Option ℕ) (n : ℕ) → target ≡ None → IsCallLike input (stepped g0 target n0) (set_symbolic target unset k2) (stepped g target n)
        none_set target n k = rw k (record { function = h.function; place = ap (λ (i : ℕ). i + 1) h.place; height = h.height; registers = h.registers })

        go : (w : Option Value) → v ≡ w → IsCallLike input (stepped g0 (target_in (slice_get r.program.instrs g0.place)) n0)
            (set_symbolic (target_in (slice_get r.program.instrs g0.place)) (optional_symbolic r.program q.both.ks w) k2)
            (stepped g (target_in (slice_get r.program.instrs g0.place)) (number_at r.program q.both.f.registers (operands_of (op.Ret w)) 0))
        go None k = none_set (target_in (slice_get r.program.instrs g0.place)) _ (ap (λ (i : ℕ). target_in (slice_get r.program.instrs i)) (sym h.place) ∙ waits g gs is k)
        go (Some w) k =
            let c : CanStep (returning_action r.program q.both.f.registers (length (q.both.f ∷ q.both.fs)) (Some w)) =
            subst (λ (z : Option Value). CanStep (returning_action r.program q.both.f.registers (length (q.both.f ∷ q.both.fs)) z)) k (can_at r d input u st moves y q (op.Ret v) e) in
            let n = value_done (operand r.program q.both.f.registers w) (λ n. return_action (length (q.both.f ∷ q.both.fs)) n) c in
            frame_stepped input g0 g k2 (target_in (slice_get r.program.instrs g0.place)) (symbolic_of r.program q.both.ks w) n0 (given (operand r.program q.both.f.registers w)) h
            (subst (λ (o : Option ℕ). IsLike input (symbolic_of r.program q.both.ks w) o) (n.1 ∙ ap Some (sym (ap given n.1)))
            (operand_like input r.program q.both.ks q.both.f.registers q.both.top.registers w))

    pub ret_fits : Fits (like input) (deed_of d u) (deed_moved r.program input st moves y)
    ret_fits = go (parts input q.both.fs0 q.both.more q.both.fs q.both.rest)
      where
        go : (q.both.fs0 ≡ []) ⊎ Parts input q.both.fs0 q.both.more q.both.fs → Fits (like input) (deed_of d u) (deed_moved r.program input st moves y)
        go (inl k) = absurd (true≢false (ap (λ (l : List Frame). length (q.both.f0 ∷ l) == 1) (sym k) ∙ deep))
        go (inr k) =
            let p = r.program in
            let b = q.both in
            inner_at r d input u st moves y q (op.Ret v) e
            (subst IsInner (sym (act0_at r d input u st moves y q (op.Ret v) e
            ∙ returning_local p b.f0.registers (length (b.f0 ∷ b.fs0)) v deep (can0_at r d input u st moves y q (op.Ret v) e))) tt)
            (subst IsInner (sym (act_at r d input u st moves y q (op.Ret v) e ∙ returning_local p b.f.registers (length (b.f ∷ b.fs)) v deep' (can_at r d input u st moves y q (op.Ret v) e))) tt)
            refl (rw (frames_in r d input u st moves y q, k.is0, k.is_known, k.is) (frame_returned k.f0 k.f k.fs k.ks (number_at p b.f0.registers (operands_of (op.Ret v)) 0) k.is k.top, k.rest))
