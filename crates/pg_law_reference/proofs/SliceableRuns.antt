-- The steps of a guided run that exits can be sliced, and its replay's edges lead to blocks.
use Rattle.std.proofs.Common.{◌≡◌, ℕ, ℤ, ◌<◌, ◌≤◌, ◌^◌, List, length, Bool, true, false, Option, refl, ap, arith}
use Rattle.std.specs.Prelude.{nat_lt, if◌then◌else◌}
use Rattle.std.proofs.lemmas.Bool.{ltb-false}
use Rattle.pg_num.specs.declared.limits.TheConstants.{RECORDING_STEP_LIMIT}
use Rattle.pg_ir.specs.declared.ids.InstrId.{InstrId}
use Rattle.pg_ir.specs.Program.{NumberedProgram}
use Rattle.pg_ir.specs.WellFormed.{IsProgram}
use Rattle.pg_region_accesses.specs.Accesses.{RootedList, is_gated}
use Rattle.pg_region_summaries.specs.Summaries.{AreSummaries}
use Rattle.pg_run_trace.specs.declared.step.Step.{Step}
use Rattle.pg_run_trace.specs.declared.turn.Turn.{Turn}
use Rattle.pg_run.specs.declared.guided_end.GuidedEnd.{GuidedEnd}
use Rattle.pg_run.specs.declared.guided_end.GuidedEnd.TheVariants as ends
use Rattle.pg_run.specs.Follow.{Breaks, Exits, Following, Strays, following, following_of, reached}
use Rattle.pg_run.specs.Guided.{GuidedRun, guided_of}
use Rattle.pg_slice_passes.specs.pg_law_effects.Reached.{HoldBytes}
use Rattle.pg_slice_passes.specs.pg_slice_replay.declared.run.ReferenceRun.{ReferenceRun}
use Rattle.pg_slice_passes.proofs.of_pg_slice_replay.ReplaysAreRuns.{followed_runs}
use Rattle.pg_slice_passes.specs.Given.{EdgesStand, reference_of}
use Rattle.pg_slice_passes.proofs.RunsFit.{edges_are, run_fits}
use Rattle.pg_law_instances.proofs.ReferenceExtents.{extents_keep}
use Rattle.pg_law_reference.proofs.BranchRegions.{regions_are}
use Rattle.pg_law_reference.specs.Sliceable.{CanBeSliced, HasItsLandmarks}

-- ---- how many steps a run takes that exits within the limit of a recording

abbrev steps_in : Following → ℕ → ℕ
steps_in (Exits xs output value) n = length xs
steps_in (Strays k) n = n
steps_in Breaks n = n

reached_length : (ts xs : List Step) (printed output : List ℕ) (turns : ℕ) (value : ℤ) (e : GuidedEnd) → reached ts printed turns e ≡ Exits xs output value → length ts ≡ length xs
reached_length ts xs printed output turns value (ends.Exit v) h = ap (λ (f : Following). steps_in f 0) h
reached_length ts xs printed output turns value ends.Strayed h = absurd cc
reached_length ts xs printed output turns value e h = absurd cc

following_few : (r : GuidedRun) (xs : List Step) (output : List ℕ) (value : ℤ) → following r ≡ Exits xs output value → length xs ≤ RECORDING_STEP_LIMIT
following_few r xs output value h = go (nat_lt RECORDING_STEP_LIMIT (length r.trace)) refl h
  where
    go : (b : Bool) → nat_lt RECORDING_STEP_LIMIT (length r.trace) ≡ b → (if b then Breaks else reached r.trace r.state.printed r.turns r.end) ≡ Exits xs output value
        → length xs ≤ RECORDING_STEP_LIMIT
    go true e q = absurd cc
    go false e q =
        let same : length r.trace ≡ length xs = reached_length r.trace xs r.state.printed output r.turns value r.end q in
        let few : length r.trace ≤ RECORDING_STEP_LIMIT = ltb-false RECORDING_STEP_LIMIT (length r.trace) e in
        omega (arith, same, few)

exits_few : (p : NumberedProgram) (input : List ℤ) (turns : List Turn) (gated : List InstrId) (xs : List Step) (printed : List ℕ) (value : ℤ)
    → following_of p input turns gated ≡ Exits xs printed value → length xs < 4294967296
unfolding following_of
exits_few p input turns gated xs printed value h = let few : length xs ≤ RECORDING_STEP_LIMIT = following_few (guided_of p input turns gated) xs printed value h in omega (arith, few)

-- ---- runs and replays

pub exits_sliceable : (p : NumberedProgram) (input : List ℤ) (turns : List Turn) (gated : List InstrId) (xs : List Step) (printed : List ℕ) (value : ℤ) → IsProgram p
    → HoldBytes p.globals → length input < 2 ^ 64 → following_of p input turns gated ≡ Exits xs printed value → CanBeSliced p input gated xs
exits_sliceable p input turns gated xs printed value program bytes small exits =
    let run = followed_runs p input turns gated xs printed value exits in
    record {
      run = ((guided_of p input turns gated).state, run);
      steps = run_fits gated p input (guided_of p input turns gated).state xs program bytes small run;
      few = exits_few p input turns gated xs printed value exits;
      extents = λ sums regions summaries are. extents_keep p gated sums regions are program summaries input small bytes turns xs printed value exits;
    }

pub replay_edges : (p : NumberedProgram) (input : List ℤ) (gated : List InstrId) (sums : ℕ → Option RootedList) (xs : List Step) (r : ReferenceRun) → IsProgram p
    → AreSummaries p (is_gated gated) sums → HasItsLandmarks p input gated sums xs r → EdgesStand p r
replay_edges p input gated sums xs r program summaries h =
    let regions = regions_are p (is_gated gated) sums program summaries in
    edges_are (reference_of p regions.0 gated input xs) r program (h regions.0 regions.1)
