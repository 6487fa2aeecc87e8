-- A guided run that exits does all turns, and is over.
use Rattle.std.proofs.Common.{◌≡◌, ℕ, ℤ, List, [], ◌∷◌, ◌++◌, length, cond, Bool, true, false, Option, Some, None, refl, sym, ap, ◌∙◌, append-nil}
use Rattle.std.specs.Prelude.{is_some, nat_lt, if◌then◌else◌}
use Rattle.pg_num.specs.declared.limits.TheConstants.{RECORDING_STEP_LIMIT}
use Rattle.pg_ir.specs.declared.ids.InstrId.{InstrId}
use Rattle.pg_ir.specs.declared.request.TrapName.{TrapName}
use Rattle.pg_ir.specs.Program.{NumberedProgram}
use Rattle.pg_law_threads.specs.Intervals.{owners}
use Rattle.pg_run_objects.specs.Sync as sync
use Rattle.pg_run_trace.specs.declared.step.Happening.{Happening}
use Rattle.pg_run_trace.specs.declared.step.Step.{Step}
use Rattle.pg_run_trace.specs.declared.turn.Turn.{Turn}
use Rattle.pg_run_trace.specs.Races.{recorded}
use Rattle.pg_run_trace.specs.Steps.{happening_in}
use Rattle.pg_run.specs.declared.guided_end.GuidedEnd.{GuidedEnd}
use Rattle.pg_run.specs.declared.guided_end.GuidedEnd.TheVariants as ends
use Rattle.pg_run.specs.Follow.{Breaks, Exits, Following, following, following_of, reached}
use Rattle.pg_run.specs.Guided.{GuidedRun, end_after, guided_of}
use Rattle.pg_run.specs.MachineStep.{trap_of}
use Rattle.pg_run.specs.Permitted.{end_before, has_spent, trapped, turns_left}
use Rattle.pg_run.specs.Runs.{events}
use Rattle.pg_run.specs.State.{State, exit_value_of, next_of}
use Rattle.pg_run.proofs.GuidedExits.{guided_exits}
use Rattle.pg_run.proofs.GuidedPermitted.{guided_permitted}
use Rattle.pg_law_runs.specs.Deeds.{owners_of}

-- ---- what exits

pub record Exited (r : GuidedRun) (xs : List Step) : Type 0 where
  pub steps : r.trace ≡ xs
  pub value : ℤ
  pub end : r.end ≡ ends.Exit value

by_end : (r : GuidedRun) (e : GuidedEnd) (xs : List Step) (printed : List ℕ) (value : ℤ) → r.end ≡ e → reached r.trace r.state.printed r.turns e ≡ Exits xs printed value → Exited r xs
by_end r (ends.Exit v) xs printed value q h = record { steps = (let k : r.trace ≡ xs = cc in k); value = v; end = q }
by_end r (ends.Trap name id) xs printed value q h = absurd cc
by_end r (ends.Budget t) xs printed value q h = absurd cc
by_end r ends.Strayed xs printed value q h = absurd cc

exited_by : (r : GuidedRun) (xs : List Step) (printed : List ℕ) (value : ℤ) → following r ≡ Exits xs printed value → Exited r xs
exited_by r xs printed value h = go (nat_lt RECORDING_STEP_LIMIT (length r.trace)) h
  where
    go : (b : Bool) → Path Following (if b then Breaks else reached r.trace r.state.printed r.turns r.end) (Exits xs printed value) → Exited r xs
    go true q = absurd cc
    go false q = by_end r r.end xs printed value refl q

pub exited : (p : NumberedProgram) (input : List ℤ) (turns : List Turn) (gated : List InstrId) (xs : List Step) (printed : List ℕ) (value : ℤ)
    → following_of p input turns gated ≡ Exits xs printed value → Exited (guided_of p input turns gated) xs
unfolding following_of
exited p input turns gated xs printed value h = exited_by (guided_of p input turns gated) xs printed value h

-- with this value, having printed this
by_value : (r : GuidedRun) (e : GuidedEnd) (xs : List Step) (printed : List ℕ) (value : ℤ) → r.end ≡ e → reached r.trace r.state.printed r.turns e ≡ Exits xs printed value
    → (r.end ≡ ends.Exit value) × (r.state.printed ≡ printed)
by_value r (ends.Exit v) xs printed value q h = (let k : v ≡ value = cc in q ∙ ap (λ (n : ℤ). ends.Exit n) k, let k : r.state.printed ≡ printed = cc in k)
by_value r (ends.Trap name id) xs printed value q h = absurd cc
by_value r (ends.Budget t) xs printed value q h = absurd cc
by_value r ends.Strayed xs printed value q h = absurd cc

exits_by : (r : GuidedRun) (xs : List Step) (printed : List ℕ) (value : ℤ) → following r ≡ Exits xs printed value → (r.end ≡ ends.Exit value) × (r.state.printed ≡ printed)
exits_by r xs printed value h = go (nat_lt RECORDING_STEP_LIMIT (length r.trace)) h
  where
    go : (b : Bool) → Path Following (if b then Breaks else reached r.trace r.state.printed r.turns r.end) (Exits xs printed value)
        → (r.end ≡ ends.Exit value) × (r.state.printed ≡ printed)
    go true q = absurd cc
    go false q = by_value r r.end xs printed value refl q

pub exits_with : (p : NumberedProgram) (input : List ℤ) (turns : List Turn) (gated : List InstrId) (xs : List Step) (printed : List ℕ) (value : ℤ)
    → following_of p input turns gated ≡ Exits xs printed value
    → ((guided_of p input turns gated).end ≡ ends.Exit value) × ((guided_of p input turns gated).state.printed ≡ printed)
unfolding following_of
exits_with p input turns gated xs printed value h = exits_by (guided_of p input turns gated) xs printed value h

-- ---- its turns

no_exit : (s : State) (t : ℕ) (o : Option TrapName) (value : ℤ) → trapped s t o ≡ ends.Exit value → (P : Type 0) → P
no_exit s t None value e P = absurd cc
no_exit s t (Some name) value e P = absurd cc

over_after : (s : State) (value : ℤ) → end_after s ≡ ends.Exit value → sync.over s.sync ≡ true
over_after s value e = go (sync.over s.sync) refl e
  where
    go : (b : Bool) → sync.over s.sync ≡ b → (if b then ends.Exit (exit_value_of s) else ends.Strayed) ≡ ends.Exit value → sync.over s.sync ≡ true
    go true k h = k
    go false k h = absurd cc

none_left : (p : NumberedProgram) (xs : List Step) (s : State) (us : List Turn) (value : ℤ) → end_before p xs s us ≡ ends.Exit value → (us ≡ []) × (sync.over s.sync ≡ true)
none_left p xs s [] value e = (refl, over_after s value e)
none_left p xs s (u ∷ us) value e = go (has_spent xs u.thread.0) e
  where
    go : (b : Bool) → (if b then ends.Budget u.thread else trapped s u.thread.0 (trap_of s u.thread.0 (next_of p s u.thread.0))) ≡ ends.Exit value
        → (u ∷ us ≡ []) × (sync.over s.sync ≡ true)
    go true k = absurd cc
    go false k = no_exit s u.thread.0 (trap_of s u.thread.0 (next_of p s u.thread.0)) value k ((u ∷ us ≡ []) × (sync.over s.sync ≡ true))

-- no turn is left, and it is over
pub all_done : (p : NumberedProgram) (input : List ℤ) (turns : List Turn) (gated : List InstrId) (xs : List Step) → Exited (guided_of p input turns gated) xs →
    (turns_left turns (guided_of p input turns gated).trace ≡ []) × (sync.over (guided_of p input turns gated).state.sync ≡ true)
all_done p input turns gated xs h =
    let g = guided_of p input turns gated in
    none_left p g.trace g.state (turns_left turns g.trace) h.value (guided_exits p input turns gated h.value h.end).1

pub all_turns : (p : NumberedProgram) (input : List ℤ) (turns : List Turn) (gated : List InstrId) (xs : List Step) → Exited (guided_of p input turns gated) xs → events xs ≡ turns
all_turns p input turns gated xs h =
    let g = guided_of p input turns gated in
    ap events (sym h.steps) ∙ sym (append-nil (events g.trace)) ∙ ap (λ (l : List Turn). events g.trace ++ l) (sym (all_done p input turns gated xs h).0)
    ∙ (guided_permitted p input turns gated).in_order

-- the owners of its events
pub owners_events : (xs : List Step) → owners recorded xs ≡ owners_of (events xs)
owners_events [] = refl
owners_events (x ∷ xs) = go (happening_in x.kind) refl (owners_events xs)
  where
    go : (o : Option Happening) → happening_in x.kind ≡ o → owners recorded xs ≡ owners_of (events xs)
        → cond (is_some (happening_in x.kind)) (x.thread.0 ∷ owners recorded xs) (owners recorded xs) ≡ owners_of (events (x ∷ xs))
    go None e ih = rw e ih
    go (Some h) e ih = rw e (ap (λ (l : List ℕ). x.thread.0 ∷ l) ih)
