-- The steps of the footprints of a run, and what the footprints that are met ask.
use Rattle.std.specs.Prelude.{ℕ, ◌&&◌, not, List, [], ◌∷◌, ◌++◌, map, Bool, true, false, if◌then◌else◌}
use Rattle.pg_run_trace.specs.declared.step.Step.{Step}
use Rattle.pg_schedule.specs.declared.interval.Interval.{Interval}
use Rattle.pg_slice_conflicts.specs.declared.footprint.Footprint.{Footprint}
use Rattle.pg_slice_rules.specs.declared.decision.Decision.{Decision}
use Rattle.pg_slice_rules.specs.declared.decision.Decision.TheVariants.{Pinned, Exact}
use Rattle.pg_slice_rules.specs.Freeable.{FreeAccess, bounds_of}
use Rattle.pg_slice_rules.specs.Known.{Seen, Taken}
use Rattle.pg_slice_rules.specs.Rules.{is_plain, kind_in}
use Rattle.pg_law_demands.specs.pg_law_least.Footprints.{access_footprints, of_step, region_footprints}
use Rattle.pg_slice_passes.specs.declared.footprints.Owner.{Owner}

-- the step of a footprint, and whether it is a load or a store that is no event
abbrev pub owner : Seen → Owner
owner x = record { step = x.number; plain = is_plain (kind_in x) }

abbrev pub owners_at : Seen → List Owner
owners_at x = map (λ (f : Footprint). owner x) (access_footprints x ++ region_footprints x)

-- in the order of the footprints
abbrev pub owners_of : List Seen → List Owner
owners_of [] = []
owners_of (x ∷ xs) = owners_at x ++ owners_of xs

-- what a footprint asks that is met: that of a region the branch step's pin, another that the access is exact
abbrev pub met_asks : Taken → Bool → Owner → List Decision
met_asks d true o = if d.pinned o.step then [] else Pinned o.step ∷ []
met_asks d false o = if o.plain && not (d.exact o.step) then Exact o.step ∷ [] else []

-- of footprints with their owners and whether they are met
abbrev pub asks_of_met : Taken → List Footprint → List Owner → List Bool → List Decision
asks_of_met d [] os ms = []
asks_of_met d (f ∷ fs) [] ms = []
asks_of_met d (f ∷ fs) (o ∷ os) [] = []
asks_of_met d (f ∷ fs) (o ∷ os) (m ∷ ms) = (if m then met_asks d f.of_region o else []) ++ asks_of_met d fs os ms

-- of a region's access
abbrev pub footprint_by : Seen → FreeAccess → Footprint
footprint_by x a = of_step true x (record { bytes = bounds_of a.at.last; writes = a.writes })

-- of the bounds of a pointer, by a step and its interval
abbrev pub footprint_at : Step → Interval → ℕ → Bool → Bool → Footprint
footprint_at step interval word writes of_region = record {
  thread = step.thread;
  low = interval.low;
  high = interval.high;
  start = (bounds_of word).start;
  bytes = (bounds_of word).bytes;
  writes = writes;
  of_region = of_region;
}
