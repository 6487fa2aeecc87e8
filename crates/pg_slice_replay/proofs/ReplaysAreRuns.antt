-- A run that follows a schedule is a run of the machine.
use Rattle.std.proofs.Common.{◌≡◌, ℕ, ℤ, List, length, Bool, true, false, ap, subst}
use Rattle.std.specs.Prelude.{nat_lt, if◌then◌else◌}
use Rattle.pg_num.specs.declared.limits.TheConstants.{RECORDING_STEP_LIMIT}
use Rattle.pg_ir.specs.declared.ids.InstrId.{InstrId}
use Rattle.pg_ir.specs.Program.{NumberedProgram}
use Rattle.pg_run_trace.specs.declared.step.Step.{Step}
use Rattle.pg_run_trace.specs.declared.turn.Turn.{Turn}
use Rattle.pg_law_effects.specs.pg_run.declared.guided_end.GuidedEnd.{GuidedEnd}
use Rattle.pg_law_effects.specs.pg_run.declared.guided_end.GuidedEnd.TheVariants as ends
use Rattle.pg_law_effects.specs.pg_run.Follow.{Breaks, Exits, Following, Strays, following, following_of, reached}
use Rattle.pg_law_effects.specs.pg_run.Guided.{GuidedRun, guided_of}
use Rattle.pg_law_effects.specs.pg_run.Runs.{IsRun}
use Rattle.pg_law_effects.specs.pg_run.State.{initial}
use Rattle.pg_law_effects.proofs.of_pg_run.GuidedRuns.{guided_is}

abbrev steps_in : Following → List Step → List Step
steps_in (Exits xs output value) ys = xs
steps_in (Strays k) ys = ys
steps_in Breaks ys = ys

reached_steps : (ts xs : List Step) (printed output : List ℕ) (turns : ℕ) (value : ℤ) (e : GuidedEnd) → reached ts printed turns e ≡ Exits xs output value → ts ≡ xs
reached_steps ts xs printed output turns value (ends.Exit v) h = ap (λ (f : Following). steps_in f ts) h
reached_steps ts xs printed output turns value ends.Strayed h = absurd cc
reached_steps ts xs printed output turns value e h = absurd cc

following_steps : (r : GuidedRun) (xs : List Step) (output : List ℕ) (value : ℤ) → following r ≡ Exits xs output value → r.trace ≡ xs
following_steps r xs output value h = go (nat_lt RECORDING_STEP_LIMIT (length r.trace)) h
  where
    go : (b : Bool) → (if b then Breaks else reached r.trace r.state.printed r.turns r.end) ≡ Exits xs output value → r.trace ≡ xs
    go true h = absurd cc
    go false h = reached_steps r.trace xs r.state.printed output r.turns value r.end h

pub followed_runs : (p : NumberedProgram) (input : List ℤ) (turns : List Turn) (gated : List InstrId) (xs : List Step) (output : List ℕ) (value : ℤ)
    → following_of p input turns gated ≡ Exits xs output value → IsRun gated p input (initial p) xs (guided_of p input turns gated).state
unfolding following_of
followed_runs p input turns gated xs output value h =
    subst (λ (ys : List Step). IsRun gated p input (initial p) ys (guided_of p input turns gated).state) (following_steps (guided_of p input turns gated) xs output value h)
    (guided_is p input turns gated).0
