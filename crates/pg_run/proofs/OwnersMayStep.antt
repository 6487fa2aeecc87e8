-- What holds where a turn's owner may step.
use Rattle.std.proofs.Common.{ℤ, ◌≡◌, Bool, true, false, Option, Some, None, Result, Ok, Err, List, refl, sym, ap, ◌∙◌}
use Rattle.std.specs.Prelude.{not, ◌&&◌, ◌||◌, if◌then◌else◌, IfOk}
use Rattle.pg_run_trace.specs.pg_ir.declared.ids.InstrId.{InstrId}
use Rattle.pg_run_trace.specs.pg_ir.declared.request.TrapName.{TrapName}
use Rattle.pg_run_trace.specs.pg_ir.Program.{NumberedProgram}
use Rattle.pg_run_objects.specs.Sync as sync
use Rattle.pg_run_thread.specs.declared.action.Action.{Action}
use Rattle.pg_run_thread.specs.declared.action.Action.TheVariants as actions
use Rattle.pg_run_trace.specs.pg_ir.declared.request.Request.{Request}
use Rattle.pg_run_trace.specs.declared.step.Step.{Step}
use Rattle.pg_run_trace.specs.declared.turn.Turn.{Turn}
use Rattle.pg_run.specs.declared.guided_end.GuidedEnd.{GuidedEnd}
use Rattle.pg_run.specs.declared.guided_end.GuidedEnd.TheVariants as ends
use Rattle.pg_run.specs.State.{State, next_of}
use Rattle.pg_run.specs.MachineStep.{happening_of, is_ended, may_act, ready, trap_of, turn_with, Answered, Did, answered, on_applied, settled, step, taken}
use Rattle.pg_run.specs.Guided.{due, due_by, is_turn, on_event, trap_or}

-- what is due where the run is over or not
abbrev due_if : Bool → List InstrId → Turn → State → Action → Result Bool GuidedEnd
due_if over gated u s action =
    if over || is_ended action then Err ends.Strayed
    else trap_or s u.thread.0 (trap_of s u.thread.0 action)
    (on_event u (may_act s u.thread.0 action) (turn_with s u.thread.0 (happening_of gated s u.thread.0 action)))

only_ready : (same is_ready b : Bool) → Path (Result Bool GuidedEnd) (if same && is_ready then Ok true else Err ends.Strayed) (Ok b) → is_ready ≡ true
only_ready same true b e = refl
only_ready true false b e = absurd cc
only_ready false false b e = absurd cc

module _ (gated : List InstrId) (u : Turn) (s : State) (b : Bool) where
  at_event : (trap : Option TrapName) (is_ready : Bool) (v : Turn) → trap_or s u.thread.0 trap (on_event u is_ready (Some v)) ≡ Ok b → is_ready ≡ true
  at_event None is_ready v e = only_ready (is_turn v u) is_ready b e
  at_event (Some name) is_ready v e = absurd cc

  acts : (action : Action) → due_if false gated u s action ≡ Ok b → may_act s u.thread.0 action ≡ true
  acts actions.Ended e = absurd cc
  acts (actions.Event r) e = at_event (sync.check s.sync u.thread.0 r) (sync.ready s.sync u.thread.0 r) _ e
  acts action e = refl

pub due_ready : (gated : List InstrId) (p : NumberedProgram) (u : Turn) (s : State) (b : Bool) → due gated p u s ≡ Ok b → ready p s u.thread.0 ≡ true
unfolding due ready
due_ready gated p u s b e = go (sync.over s.sync) refl
  where
    go : (over : Bool) → sync.over s.sync ≡ over → not (sync.over s.sync) && may_act s u.thread.0 (next_of p s u.thread.0) ≡ true
    go true k = let h : due_if true gated u s (next_of p s u.thread.0) ≡ Ok b = rw k at e in absurd cc
    go false k = rw k (acts gated u s b (next_of p s u.thread.0) (rw k at e))

-- where an answer tells what is due, the owner is ready
pub ready_if_due : (gated : List InstrId) (p : NumberedProgram) (u : Turn) (s : State) (action : Action) (d : Result Bool GuidedEnd) → d ≡ due_by gated u s action
    → action ≡ next_of p s u.thread.0 → IfOk d (λ b. ready p s u.thread.0 ≡ true)
unfolding due
ready_if_due gated p u s action (Ok b) e h = due_ready gated p u s b (sym (e ∙ ap (due_by gated u s) h))
ready_if_due gated p u s action (Err end) e h = tt

-- ---- where something is due, the owner's step doesn't trap

module _ (gated : List InstrId) (p : NumberedProgram) (input : List ℤ) (u : Turn) (s : State) (b : Bool) where
  -- the step was done
  abbrev Does : Answered → Type 0
  Does a = (x : Step) × (z : State) × (settled gated p s u.thread.0 (taken p s u.thread.0 a) ≡ Did x z)

  event_does : (r : Request) (trap : Option TrapName) (is_ready : Bool) (v : Turn) → sync.check s.sync u.thread.0 r ≡ trap
      → trap_or s u.thread.0 trap (on_event u is_ready (Some v)) ≡ Ok b → Does (on_applied p s u.thread.0 r (sync.on_check trap s.sync (sync.done s.sync u.thread.0 r)))
  event_does r None is_ready v k e = (_, _, refl)
  event_does r (Some name) is_ready v k e = absurd cc

  does : (action : Action) → due_if false gated u s action ≡ Ok b → Does (answered p input s u.thread.0 action)
  unfolding answered sync.applied
  does (actions.Event r) e = event_does r (sync.check s.sync u.thread.0 r) (sync.ready s.sync u.thread.0 r) _ refl e
  does actions.Ended e = absurd cc
  does (actions.Trap name) e = absurd cc
  does action e = (_, _, refl)

pub due_does : (gated : List InstrId) (p : NumberedProgram) (input : List ℤ) (u : Turn) (s : State) (b : Bool) → due gated p u s ≡ Ok b
    → (x : Step) × (z : State) × (step gated p input s u.thread.0 ≡ Did x z)
unfolding due step
due_does gated p input u s b e = go (sync.over s.sync) refl
  where
    go : (over : Bool) → sync.over s.sync ≡ over → (x : Step) × (z : State)
        × (settled gated p s u.thread.0 (taken p s u.thread.0 (answered p input s u.thread.0 (next_of p s u.thread.0))) ≡ Did x z)
    go true k = let h : due_if true gated u s (next_of p s u.thread.0) ≡ Ok b = rw k at e in absurd cc
    go false k = does gated p input u s b (next_of p s u.thread.0) (rw k at e)
