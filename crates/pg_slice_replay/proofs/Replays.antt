-- The steps of a trace taken one after another.
use Rattle.std.proofs.Common.{◌≡◌, ℕ, ℤ, ◌+◌, ◌≤◌, List, [], ◌∷◌, ◌++◌, length, map, drop, Option, Some, refl, sym, ap, ◌∙◌, subst}
use Rattle.std.specs.Prelude.{slice_get}
use Rattle.std.specs.List.{AllByRecursion}
use Rattle.pg_ir.specs.declared.ids.InstrId.{InstrId}
use Rattle.pg_ir.specs.Program.{NumberedProgram, function_of}
use Rattle.pg_region.specs.Regions.{block_of}
use Rattle.pg_run_trace.specs.declared.step.Step.{Step}
use Rattle.pg_law_effects.specs.pg_run.Bound.{BoundState}
use Rattle.pg_law_effects.specs.pg_run.Machine.{IsMachine}
use Rattle.pg_law_effects.specs.pg_run.MachineStep as steps
use Rattle.pg_law_effects.specs.pg_run.MachineStep.{step}
use Rattle.pg_law_effects.specs.pg_run.Readers.{depth_of}
use Rattle.pg_law_effects.specs.pg_run.Runs.{IsRun, Takes}
use Rattle.pg_law_effects.specs.pg_run.State.{State}
use Rattle.pg_slice_rules.specs.Freeable.{FreeRegion}
use Rattle.pg_slice_rules.specs.Known.{edge_of}
use Rattle.pg_slice_replay.specs.declared.at.At.{At}
use Rattle.pg_slice_replay.specs.declared.found.FoundRegion.{FoundRegion}
use Rattle.pg_slice_replay.specs.declared.row.Row.{Row}
use Rattle.pg_slice_replay.specs.Kept.{FitsRow, landmark_in}
use Rattle.pg_slice_replay.specs.Landmarks.{Landmark, landmark_with, moment_in, told_along}
use Rattle.pg_slice_replay.specs.Sought.{IsFreed}
use Rattle.pg_slice_replay.specs.Targets.{AreTargets, target_in}
use Rattle.pg_slice_replay.proofs.KeptLandmarks.{fits_next, row_is, rows_next, rows_whole, takes_next}
use Rattle.pg_slice_replay.proofs.PresentInstructions.{present}
use Rattle.pg_slice_replay.proofs.Steps.{state_in}

-- the machine m has taken the first i steps of the trace, from the machine `first` on, and these rows are kept of them
pub record Replayed (tell : State → Step → Landmark) (p : NumberedProgram) (regions : List FoundRegion) (first : BoundState) (xs : List Step) (i : ℕ) (m : BoundState) (rows : List Row)
    (ats : List At) : Type 0 where
  pub gated : m.gated ≡ first.gated
  pub input : m.input ≡ first.input
  pub run : (z : State) × IsRun first.gated p first.input m.state (drop i xs) z
  pub fits : AllByRecursion (FitsRow ats regions) rows
  pub told : map (landmark_in ats regions) rows ++ told_along tell first.gated p first.input m.state (drop i xs) ≡ told_along tell first.gated p first.input first.state xs

module _ (tell : State → Step → Landmark) (p : NumberedProgram) (regions : List FoundRegion) (first : BoundState) (xs : List Step) where
  pub replayed_first : (rows : List Row) (ats : List At) → rows ≡ [] → (z : State) × IsRun first.gated p first.input first.state xs z → Replayed tell p regions first xs 0 first rows ats
  replayed_first rows ats e r = record {
    gated = refl;
    input = refl;
    run = r;
    fits = subst (AllByRecursion (FitsRow ats regions)) (sym e) tt;
    told = ap (λ (rs : List Row). map (landmark_in ats regions) rs ++ told_along tell first.gated p first.input first.state xs) e;
  }

  module _ (i : ℕ) (m : BoundState) (rows : List Row) (ats : List At) (h : Replayed tell p regions first xs i m rows ats) (x : Step) (at : slice_get xs i ≡ Some x) where
    taken : (k : Takes first.gated p first.input m.state x) × IsRun first.gated p first.input k.after (drop (i + 1) xs) h.run.0
    taken = takes_next first.gated p first.input m.state h.run.0 xs i x at h.run.1

    -- the machine can take the next step
    pub takes_of : Takes m.gated p m.input m.state x
    takes_of = subst (λ (g : List InstrId). Takes g p m.input m.state x) (sym h.gated) (subst (λ (n : List ℤ). Takes first.gated p n m.state x) (sym h.input) taken.0)

    pub replayed_next : (n : BoundState) (new added : List At) (r : Row) (more : List Row) → step m.gated p m.input m.state x.thread.0 ≡ steps.Did x n.state → n.gated ≡ m.gated
        → n.input ≡ m.input → new ≡ ats ++ added → landmark_in new regions r ≡ tell m.state x → FitsRow new regions r → more ≡ rows ++ r ∷ [] →
        Replayed tell p regions first xs (i + 1) n more new
    replayed_next n new added r more d g j e l f q =
        let did : step first.gated p first.input m.state x.thread.0 ≡ steps.Did x n.state =
        ap (λ (v : List InstrId). step v p first.input m.state x.thread.0) (sym h.gated) ∙ ap (λ (v : List ℤ). step m.gated p v m.state x.thread.0) (sym h.input) ∙ d in
        let same : taken.0.after ≡ n.state = ap (λ (o : steps.Stepped). state_in o m.state) (sym taken.0.is_step ∙ did) in
        record {
          gated = g ∙ h.gated;
          input = j ∙ h.input;
          run = (h.run.0, subst (λ (s : State). IsRun first.gated p first.input s (drop (i + 1) xs) h.run.0) same taken.1);
          fits = subst (AllByRecursion (FitsRow new regions)) (sym q) (fits_next regions ats new added rows r h.fits e f);
          told = ap (λ (rs : List Row). map (landmark_in new regions) rs ++ told_along tell first.gated p first.input n.state (drop (i + 1) xs)) q
              ∙ rows_next tell first.gated p first.input m.state n.state xs i x regions ats new added rows r (told_along tell first.gated p first.input first.state xs) at did h.fits e l h.told;
        }

  pub replayed_all : (i : ℕ) (m : BoundState) (rows : List Row) (ats : List At) → length xs ≤ i → Replayed tell p regions first xs i m rows ats
      → map (landmark_in ats regions) rows ≡ told_along tell first.gated p first.input first.state xs
  replayed_all i m rows ats le h = rows_whole tell first.gated p first.input m.state xs i (map (landmark_in ats regions) rows) (told_along tell first.gated p first.input first.state xs) le h.told

-- a row as it is kept is the landmark of its step
pub row_told : (gated : List InstrId) (p : NumberedProgram) (input : List ℤ) (s : State) (x : Step) (targets : List (Option ℕ)) (free : Option FreeRegion) (regions : List FoundRegion)
    (old new xs : List At) (r : Row) → IsMachine p s → Takes gated p input s x → AreTargets p targets s → r.depth ≡ depth_of s x.thread.0 →
    r.function ≡ function_of p (block_of p x.instr.0) → r.edge ≡ edge_of p (moment_in s x) x.kind → r.target ≡ target_in targets x.thread.0 (depth_of s x.thread.0)
    → IsFreed free regions old new xs r.free → landmark_in new regions r ≡ landmark_with p free s x
row_told gated p input s x targets free regions old new xs r m k h d f e t w = row_is p s x targets free regions old new xs r (present gated p input s x m k) h d f e t w
