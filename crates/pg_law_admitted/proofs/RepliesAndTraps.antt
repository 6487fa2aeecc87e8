-- Replies of steps, and traps before a turn.
use Rattle.std.proofs.Common.{◌≡◌, ℕ, Bool, true, false, List, [], ◌∷◌, ◌++◌, Option, Some, None, refl, sym, ap, ◌∙◌, ℤ, length, ◌≤◌, arith, append-nil}
use Rattle.std.specs.Prelude.{if◌then◌else◌}
use Rattle.std.proofs.lemmas.List.{length-append}
use Rattle.pg_ir.specs.declared.ids.InstrId.{InstrId}
use Rattle.pg_ir.specs.declared.request.Request.{Request}
use Rattle.pg_ir.specs.declared.request.TrapName.{TrapName}
use Rattle.pg_ir.specs.Program.{NumberedProgram}
use Rattle.pg_run_objects.specs.Sync as sync
use Rattle.pg_run_thread.specs.declared.action.Action.{Action}
use Rattle.pg_run_thread.specs.declared.action.Action.TheVariants as actions
use Rattle.pg_run_trace.specs.declared.step.Step.{Step}
use Rattle.pg_run_trace.specs.declared.step.StepKind.TheVariants as kinds
use Rattle.pg_run_trace.specs.declared.turn.Turn.{Turn}
use Rattle.pg_run.specs.declared.guided_end.GuidedEnd.TheVariants as ends
use Rattle.pg_run.specs.MachineStep.{trap_of}
use Rattle.pg_run.specs.Permitted.{end_before, has_spent, trapped}
use Rattle.pg_run.specs.State.{State, next_of}

-- ---- traps

-- an action whose checks hold traps by itself
pub own_trap : (s : State) (t : ℕ) (a : Action) (name : TrapName) → ((q : Request) → a ≡ actions.Event q → sync.check s.sync t q ≡ None) → trap_of s t a ≡ Some name
    → a ≡ actions.Trap name
own_trap s t (actions.Trap n) name h e = let k : n ≡ name = cc in ap (λ (i : TrapName). actions.Trap i) k
own_trap s t (actions.Event q) name h e = let k : None ≡ Some name = sym (h q refl) ∙ e in absurd cc
own_trap s t actions.Ended name h e = absurd cc
own_trap s t actions.Local name h e = absurd cc
own_trap s t (actions.In i) name h e = absurd cc
own_trap s t actions.InLen name h e = absurd cc
own_trap s t (actions.Load r) name h e = absurd cc
own_trap s t (actions.Store r n) name h e = absurd cc

trap_name : (s : State) (t : ℕ) (o : Option TrapName) (name : TrapName) (id : InstrId) → trapped s t o ≡ ends.Trap name id → o ≡ Some name
trap_name s t None name id e = absurd cc
trap_name s t (Some n) name id e = let k : n ≡ name = cc in ap (λ (i : TrapName). Some i) k

pub trap_before : (p : NumberedProgram) (xs : List Step) (s : State) (u : Turn) (us : List Turn) (name : TrapName) (id : InstrId) → end_before p xs s (u ∷ us) ≡ ends.Trap name id
    → trap_of s u.thread.0 (next_of p s u.thread.0) ≡ Some name
trap_before p xs s u us name id e = go (has_spent xs u.thread.0) e
  where
    go : (b : Bool) → (if b then ends.Budget u.thread else trapped s u.thread.0 (trap_of s u.thread.0 (next_of p s u.thread.0))) ≡ ends.Trap name id
        → trap_of s u.thread.0 (next_of p s u.thread.0) ≡ Some name
    go true k = absurd cc
    go false k = trap_name s u.thread.0 (trap_of s u.thread.0 (next_of p s u.thread.0)) name id k

-- ---- exits

no_exit : (s : State) (t : ℕ) (o : Option TrapName) (value : ℤ) → trapped s t o ≡ ends.Exit value → ⊥
no_exit s t None value e = absurd cc
no_exit s t (Some name) value e = absurd cc

-- where a run exits no turn is left
pub none_left : (p : NumberedProgram) (xs : List Step) (s : State) (us : List Turn) (value : ℤ) → end_before p xs s us ≡ ends.Exit value → us ≡ []
none_left p xs s [] value e = refl
none_left p xs s (u ∷ us) value e = go (has_spent xs u.thread.0) e
  where
    go : (b : Bool) → (if b then ends.Budget u.thread else trapped s u.thread.0 (trap_of s u.thread.0 (next_of p s u.thread.0))) ≡ ends.Exit value → u ∷ us ≡ []
    go true k = absurd cc
    go false k = absurd (no_exit s u.thread.0 (trap_of s u.thread.0 (next_of p s u.thread.0)) value k)

-- a front that isn't shorter is the whole
pub nothing : {A : Type 0} (xs ys rest : List A) → xs ++ rest ≡ ys → length ys ≤ length xs → xs ≡ ys
nothing xs ys [] e h = sym (append-nil xs) ∙ e
nothing xs ys (a ∷ rest) e h = let k = ap length e in let l = length-append xs (a ∷ rest) in absurd (omega (arith, k, l, h))
