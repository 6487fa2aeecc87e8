-- Quiet instructions ask nothing of other threads.
use Rattle.std.proofs.Common.{◌≡◌, ℕ, Bool, true, false, List, [], ◌∷◌, length, Option, Some, None, refl, sym, subst, arith, inl, inr, ◌⊎◌}
use Rattle.std.specs.Prelude.{◌==◌, if◌then◌else◌}
use Rattle.std.proofs.lemmas.Bool.Decides.{nat_tests}
use Rattle.pg_num.specs.Numbers.{divided}
use Rattle.pg_ir.specs.declared.library_call.LibraryCall.{LibraryCall}
use Rattle.pg_ir.specs.declared.library_call.LibraryCall.TheVariants as known
use Rattle.pg_ir.specs.declared.request.Request.TheVariants as requests
use Rattle.pg_ir.specs.declared.value.Value.{Value}
use Rattle.pg_ir.specs.declared.instr.Op.{Op}
use Rattle.pg_ir.specs.declared.instr.Op.TheVariants as op
use Rattle.pg_ir.specs.Program.{NumberedProgram}
use Rattle.pg_region_accesses.specs.Accesses.{RootedList}
use Rattle.pg_region_accesses.specs.Laws.{IsQuiet}
use Rattle.pg_run_thread.specs.declared.action.Action.{Action}
use Rattle.pg_run_thread.specs.declared.action.Action.TheVariants as actions
use Rattle.pg_run_thread.specs.declared.thread_memory.ThreadMemory.{ThreadMemory}
use Rattle.pg_run_thread.specs.LocalState.{Frame}
use Rattle.pg_run_thread.specs.Operands.{argument, operand, operands_of}
use Rattle.pg_run_thread.specs.Compute.{chosen}
use Rattle.pg_run_thread.specs.EdgeStep.{case_of}
use Rattle.pg_run_thread.specs.Step.{op_action, library_action, return_action, returning_action, bytes_of, total}
use Rattle.pg_run.proofs.Actions.{on_value_is, on_all_is, on_place_is, edge_is, call_is, divided_is}
use Rattle.pg_law_instances.specs.Moves.{IsReturn}

-- an action that is no request, but for a return from a thread's first call
abbrev pub AsksNothing : List Frame → Op → Action → Type 0
AsksNothing below o (actions.Event r) = IsReturn o × (below ≡ [])
AsksNothing below o a = Unit {0}

module _ (p : NumberedProgram) (r : ThreadMemory) (h : Bool) (f : Frame) (fs : List Frame) (block : ℕ) (gated : ℕ → Bool) (sums : ℕ → Option RootedList) where
  abbrev rs : List (Option ℕ)
  rs = f.registers

  abbrev Q : Op → Action → Type 0
  Q o = AsksNothing fs o

  known_nothing : (k : LibraryCall) (args : List Value) → (k ≡ known.PgIn) ⊎ (k ≡ known.PgInLen) → Q (op.CallLibrary k args) (library_action p r.thread h rs k args)
  known_nothing known.PgIn args q = on_value_is (Q (op.CallLibrary known.PgIn args)) (argument p rs args 0) _ (λ n. tt) (λ n e. tt)
  known_nothing known.PgInLen args q = tt
  known_nothing k args (inl e) = absurd cc
  known_nothing k args (inr e) = absurd cc

  back : (v : Option Value) (n : ℕ) → Q (op.Ret v) (return_action (length (f ∷ fs)) n)
  back v n = go fs refl
    where
      go : (gs : List Frame) → fs ≡ gs → Q (op.Ret v) (return_action (length (f ∷ fs)) n)
      go [] e = either (length (f ∷ fs) == 1)
        where
          either : (b : Bool) → Q (op.Ret v) (if b then actions.Event (requests.Exit n true) else actions.Local)
          either true = (tt, e)
          either false = tt
      go (g ∷ gs) e = subst (λ (b : Bool). Q (op.Ret v) (if b then actions.Event (requests.Exit n true) else actions.Local)) (sym more) tt
        where
          deep : (g : Frame) (gs : List Frame) → (length (f ∷ g ∷ gs) == 1) ≡ false
          deep g gs = grind (arith, nat_tests)

          more : (length (f ∷ fs) == 1) ≡ false
          more = rw e (deep g gs)

  returning : (v : Option Value) → Q (op.Ret v) (returning_action p rs (length (f ∷ fs)) v)
  returning None = back None 0
  returning (Some w) = on_value_is (Q (op.Ret (Some w))) (operand p rs w) _ (λ n. tt) (λ n e. back (Some w) n)

  pub quiet_asks_nothing : (i : ℕ) (o : Op) → IsQuiet true gated sums i o → Q o (op_action p r h rs (length (f ∷ fs)) (total (f ∷ fs)) block o)
  quiet_asks_nothing i (op.Divide d w a b) q = on_value_is (Q (op.Divide d w a b)) (operand p rs a) _ (λ n. tt)
      (λ m u. on_value_is (Q (op.Divide d w a b)) (operand p rs b) _ (λ n. tt) (λ n v. divided_is (Q (op.Divide d w a b)) (divided d w m n) (λ n. tt) tt))
  quiet_asks_nothing i (op.Phi from) q = tt
  quiet_asks_nothing i (op.Br to) q = edge_is (Q (op.Br to)) p rs block to.0 (λ n. tt) tt
  quiet_asks_nothing i (op.CondBr c a b) q = on_value_is (Q (op.CondBr c a b)) (operand p rs c) _ (λ n. tt) (λ n u. edge_is (Q (op.CondBr c a b)) p rs block (chosen n a.0 b.0) (λ n. tt) tt)
  quiet_asks_nothing i (op.Switch w on other cases) q = on_value_is (Q (op.Switch w on other cases)) (operand p rs on) _ (λ n. tt)
      (λ n u. edge_is (Q (op.Switch w on other cases)) p rs block (case_of cases other.0 n) (λ n. tt) tt)
  quiet_asks_nothing i (op.Call g args) q = on_all_is (Q (op.Call g args)) p rs args _ (λ n. tt) (call_is (Q (op.Call g args)) p g (length (f ∷ fs)) (total (f ∷ fs)) (λ n. tt) tt)
  quiet_asks_nothing i (op.Ret v) q = returning v
  quiet_asks_nothing i op.Unreachable q = tt
  quiet_asks_nothing i (op.Alloca bytes) q = absurd q
  quiet_asks_nothing i (op.Load w from) q = on_value_is (Q (op.Load w from)) (operand p rs from) _ (λ n. tt) (λ a u. on_place_is (Q (op.Load w from)) a (bytes_of w) _ (λ n. tt) (λ r e. tt))
  quiet_asks_nothing i (op.Store w v at) q =
      on_value_is (Q (op.Store w v at)) (operand p rs v) _ (λ n. tt) (λ n u.
      on_value_is (Q (op.Store w v at)) (operand p rs at) _ (λ n. tt) (λ a k.
      on_place_is (Q (op.Store w v at)) a (bytes_of w) _ (λ n. tt) (λ r e. tt)))
  quiet_asks_nothing i (op.CallLibrary k args) q = known_nothing k args q
  quiet_asks_nothing i o q = on_all_is (Q o) p rs (operands_of o) actions.Local (λ n. tt) tt

-- what is quiet where a function may return is quiet elsewhere unless it returns
pub quieter : (gated : ℕ → Bool) (sums : ℕ → Option RootedList) (i : ℕ) (o : Op) → IsQuiet false gated sums i o → IsQuiet true gated sums i o
quieter gated sums i (op.Ret v) q = absurd cc
quieter gated sums i (op.Load w from) q = q
quieter gated sums i (op.Store w v at) q = q
quieter gated sums i (op.Call g args) q = q
quieter gated sums i (op.CallLibrary k args) q = q
quieter gated sums i (op.Alloca bytes) q = q
quieter gated sums i o q = tt

pub no_return : (gated : ℕ → Bool) (sums : ℕ → Option RootedList) (i : ℕ) (o : Op) → IsReturn o → IsQuiet false gated sums i o → ⊥
no_return gated sums i (op.Ret v) k q = cc
no_return gated sums i o k q = absurd k
