-- What is said of the slice of a run.
use Rattle.std.specs.Prelude.{◌≡◌, ◌<◌, ℤ, All, List, length}
use Rattle.pg_ir.specs.declared.ids.InstrId.{InstrId}
use Rattle.pg_ir.specs.Program.{NumberedProgram}
use Rattle.pg_run_trace.specs.declared.step.Step.{Step}
use Rattle.pg_slice_rules.specs.Closed.{IsSlice, admits}
use Rattle.pg_slice_rules.specs.Freeable.{Regions}
use Rattle.pg_slice_rules.specs.Sets.{taken}
use Rattle.pg_law_demands.specs.pg_law_least.Keeps.{ExtentsKeep}
use Rattle.pg_precondition.specs.Names.{AreNeeded}
use Rattle.pg_precondition.specs.Values.{is_admitted}
use Rattle.pg_slice_replay.specs.declared.run.ReferenceRun.{ReferenceRun}
use Rattle.pg_slice_passes.specs.declared.slice.Slice.{Slice}
use Rattle.pg_slice_passes.specs.Given.{HasLandmarks, reference_of}
use Rattle.pg_slice_passes.specs.Listed.{AreListed}

-- the decisions are the slice of the run with these steps, whatever its regions, its loads and stores that are turns and its
-- input are, and the precondition admits the inputs that they admit
pub record IsSliceOf (p : NumberedProgram) (xs : List Step) (r : ReferenceRun) (s : Slice) : Type 0 where
  pub slice : (regions : Regions) (gated : List InstrId) (input : List ℤ) → HasLandmarks (reference_of p regions gated input xs) r → ExtentsKeep (reference_of p regions gated input xs)
      → IsSlice (reference_of p regions gated input xs) (taken s.decisions.pinned.items s.decisions.exact.items)
  pub admits : (regions : Regions) (gated : List InstrId) (input other : List ℤ) → HasLandmarks (reference_of p regions gated input xs) r
      → is_admitted other s.precondition ≡ admits (reference_of p regions gated input xs) (taken s.decisions.pinned.items s.decisions.exact.items) other
  pub pinned : All (λ n. n < length xs) s.decisions.pinned.items
  pub exact : All (λ n. n < length xs) s.decisions.exact.items
  pub listed : AreListed (length xs) s.decisions
  -- no node that no check needs
  pub needed : AreNeeded s.precondition
