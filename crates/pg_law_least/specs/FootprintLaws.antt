-- Laws on footprints.
use Rattle.std.specs.Prelude.{◌≡◌, ℤ, ◌≤◌, ◌&&◌, List}
use Rattle.pg_ir.specs.declared.ids.InstrId.{InstrId}
use Rattle.pg_ir.specs.Program.{NumberedProgram}
use Rattle.pg_law_threads.specs.Steps.{EachPair}
use Rattle.pg_run_trace.specs.declared.step.Step.{Step}
use Rattle.pg_slice_conflicts.specs.Meets.{InOrder}
use Rattle.pg_slice_rules.specs.Freeable.{Regions}
use Rattle.pg_slice_rules.specs.Known.{Seen, Taken, seen_in}
use Rattle.pg_slice_rules.specs.Moments.{moments_of}
use Rattle.pg_slice_rules.specs.Rules as rules
use Rattle.pg_law_least.specs.Footprints.{access_footprints, footprints_of, region_footprints, some_met}

-- the fourth rule by footprints
abbrev pub DisturbedByFootprints : Type 0
DisturbedByFootprints = (all : List Seen) (x : Seen) → rules.is_disturbed all x ≡ some_met (footprints_of all) (region_footprints x)

-- the fifth rule by footprints
abbrev pub SharedByFootprints : Type 0
SharedByFootprints = (all : List Seen) (x : Seen) → rules.is_shared all x ≡ (rules.is_plain (rules.kind_in x) && some_met (footprints_of all) (access_footprints x))

-- of each two steps the last turn of the earlier one doesn't stand behind the next turn of the later one
abbrev pub AreInOrder : List Seen → Type 0
AreInOrder xs = EachPair (λ (x y : Seen). x.moment.did.low ≤ y.moment.did.high) xs

abbrev pub FootprintsInOrder : Type 0
FootprintsInOrder = (all : List Seen) → AreInOrder all → InOrder (footprints_of all)

-- whatever the regions and the decisions
abbrev pub StepsInOrder : Type 0
StepsInOrder = (gated : List InstrId) (p : NumberedProgram) (regions : Regions) (input : List ℤ) (xs : List Step) (d : Taken) →
    AreInOrder (seen_in (record { program = p; regions = regions; moments = moments_of gated p input xs }) d)
    × InOrder (footprints_of (seen_in (record { program = p; regions = regions; moments = moments_of gated p input xs }) d))
