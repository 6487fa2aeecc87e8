-- A guided run along turns of which a full run is ordered strays behind the events of that run.
use Rattle.std.proofs.Common.{◌≡◌, ℕ, ℤ, ◌<◌, ◌≤◌, List, [], ◌∷◌, length, drop, take, true, false, Option, Some, refl, sym, ◌∙◌, ap, subst, arith, zero, suc}
use Rattle.std.proofs.Common.{inl, inr, ◌⊎◌}
use Rattle.std.proofs.lemmas.Bool.{cases_lt}
use Rattle.pg_ir.specs.declared.ids.InstrId.{InstrId}
use Rattle.pg_ir.specs.Program.{NumberedProgram}
use Rattle.pg_run_objects.specs.Sync as sync
use Rattle.pg_run_trace.specs.declared.turn.Turn.{Turn}
use Rattle.pg_run_trace.specs.declared.step.Step.{Step}
use Rattle.pg_run.specs.declared.guided_end.GuidedEnd.TheVariants as ends
use Rattle.pg_run.specs.State.{State, initial, next_of}
use Rattle.pg_run.specs.MachineStep.{is_ended, may_act, step, turn_of}
use Rattle.pg_run.specs.Guided.{cannot_go, due, guided_of, is_turn}
use Rattle.pg_run.specs.Permitted.{IsPermitted, turns_left}
use Rattle.pg_run.specs.Runs.{event_of, events}
use Rattle.pg_run.proofs.StepsBegin.{ready_acts}
use Rattle.pg_run.proofs.GuidedPermitted.{guided_permitted}
use Rattle.pg_run.proofs.GuidedRuns.{guided_is, turn_is_itself}
use Rattle.pg_law_runs.specs.pg_law_effects.PermittedSteps.{IsDue, MayTake}
use Rattle.pg_law_runs.proofs.of_pg_law_effects.RunsByThreads.{is_going, same_runs}
use Rattle.pg_law_runs.proofs.of_pg_law_effects.PermittedStepByStep.{permitted_more}
use Rattle.pg_law_runs.proofs.of_pg_law_effects.ToldByStep.{event_is}
use Rattle.pg_law_runs.specs.Cuts.{CanRun, CanStep, IsOrderedFull}
use Rattle.pg_law_runs.proofs.MaximalRuns.{not_ended}
use Rattle.pg_law_runs.proofs.PermittedRuns as law
use Rattle.pg_law_runs.proofs.StrayedOwners.{IsStuck, StuckAt, guided_strays}

-- ---- where the owner can step it isn't stuck

length_take : (n : ℕ) (us : List Turn) → n ≤ length us → length (take n us) ≡ n
length_take zero us h = refl
length_take (suc n) [] h = absurd (omega (arith, h))
length_take (suc n) (u ∷ us) h = ap suc (length_take n us (omega (arith, h)))

not_stuck : (gated : List InstrId) (p : NumberedProgram) (input : List ℤ) (turns : List Turn) (u : Turn) (us : List Turn) (xs : List Step) (z : State) → IsPermitted p input turns gated xs z
    → turns_left turns xs ≡ u ∷ us → CanStep p input turns gated xs u.thread.0 → IsStuck gated p input u z → ⊥
not_stuck gated p input turns u us xs z h left c stuck = go stuck
  where
    k : (s : State) × IsPermitted p input turns gated xs s
        × ((m : MayTake gated p input s (turns_left turns xs) (λ t. Rattle.pg_run.specs.Runs.steps_of t xs) c.step) × (m.takes.after ≡ c.after))
    k = (permitted_more p input turns gated xs c.step c.after).0 c.permitted

    same : k.0 ≡ z
    same = (same_runs gated p input (initial p) k.0 z xs xs k.1.run h.run refl).1

    m : MayTake gated p input z (turns_left turns xs) (λ t. Rattle.pg_run.specs.Runs.steps_of t xs) c.step
    m = subst (λ (s : State). MayTake gated p input s (turns_left turns xs) (λ t. Rattle.pg_run.specs.Runs.steps_of t xs) c.step) same k.2.0

    acts : may_act z u.thread.0 (next_of p z u.thread.0) ≡ true
    acts = subst (λ (t : ℕ). may_act z t (next_of p z t) ≡ true) c.own (ready_acts p z c.step.thread.0 m.takes.is_ready)

    goes : cannot_go z (next_of p z u.thread.0) ≡ false
    goes =
        let o : sync.over z.sync ≡ false = is_going p z c.step.thread.0 m.takes.is_ready in
        let e : is_ended (next_of p z u.thread.0) ≡ false = not_ended z u.thread.0 (next_of p z u.thread.0) acts in
        rw (o, e) refl

    due : IsDue (event_of c.step) (u ∷ us)
    due = subst (IsDue (event_of c.step)) left m.due

    event : event_of c.step ≡ turn_of gated p z u.thread.0
    event = event_is gated p input z m.takes.after c.step.thread.0 c.step m.takes.is_step ∙ ap (turn_of gated p z) c.own

    go : IsStuck gated p input u z → ⊥
    go (inl e) = let q : true ≡ false = sym e ∙ goes in absurd cc
    go (inr r) =
        let d : IsDue (Some r.0) (u ∷ us) = subst (λ (o : Option Turn). IsDue o (u ∷ us)) (event ∙ r.2) due in
        let v : r.0 ≡ u = d in
        let t : is_turn r.0 u ≡ true = (turn_is_itself r.0 u).1 v in
        let q : true ≡ false = sym (rw (t, acts) refl) ∙ r.3 in absurd cc

-- the owner of a turn that the ordered full run does isn't stuck, so a guided run strays behind them
pub strays_late : (p : NumberedProgram) (input : List ℤ) (turns : List Turn) (gated : List InstrId) → CanRun p input → (full : List Step) (w : State)
    → IsOrderedFull p input turns gated full w → (guided_of p input turns gated).end ≡ ends.Strayed → length (events full) ≤ (guided_of p input turns gated).turns
strays_late p input turns gated can full w o e = go (cases_lt (guided_of p input turns gated).turns (length (events full)))
  where
    h : IsPermitted p input turns gated (guided_of p input turns gated).trace (guided_of p input turns gated).state
    h = guided_permitted p input turns gated

    within : length (events full) ≤ length turns
    within = let a = ap length o.permitted.in_order in let b = Rattle.std.proofs.lemmas.List.length-append (events full) (turns_left turns full) in omega (arith, a, b)

    by : (us : List Turn) → drop (guided_of p input turns gated).turns turns ≡ us → (guided_of p input turns gated).turns < length (events full)
        → length (events (guided_of p input turns gated).trace) ≡ (guided_of p input turns gated).turns → StuckAt gated p input us (guided_of p input turns gated).state
        → length (events full) ≤ (guided_of p input turns gated).turns
    by [] q lt n s = absurd (let a = Rattle.pg_law_runs.proofs.MaximalRuns.drop_end (guided_of p input turns gated).turns turns q in let b = within in omega (arith, a, b, lt))
    by (u ∷ us) q lt n s =
        let left : turns_left turns (guided_of p input turns gated).trace ≡ u ∷ us = ap (λ (i : ℕ). drop i turns) n ∙ q in
        absurd (not_stuck gated p input turns u us (guided_of p input turns gated).trace (guided_of p input turns gated).state h left
        (law.owner p input turns gated can full w o (guided_of p input turns gated).trace (guided_of p input turns gated).state h u us left (omega (arith, n, lt))) s)

    go : ((guided_of p input turns gated).turns < length (events full)) ⊎ (length (events full) ≤ (guided_of p input turns gated).turns)
        → length (events full) ≤ (guided_of p input turns gated).turns
    go (inr ge) = ge
    go (inl lt) =
        let n : length (events (guided_of p input turns gated).trace) ≡ (guided_of p input turns gated).turns =
        ap length (guided_is p input turns gated).1 ∙ length_take (guided_of p input turns gated).turns turns (let b = within in omega (arith, b, lt)) in
        by (drop (guided_of p input turns gated).turns turns) refl lt n (guided_strays p input turns gated e)
