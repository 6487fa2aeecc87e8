use Rattle.std.proofs.Common.{◌≡◌, ◌++◌, Some, IfSome, drop, map}
use Rattle.pg_slice_rules.specs.Freeable.{FreeAccess, FreeRegion}
use Rattle.pg_slice_rules.specs.Known.{Seen}
use Rattle.pg_slice_replay.specs.Kept.{landmark_at}
use Rattle.pg_slice_passes.specs.Passes.{IsTimed}
use Rattle.pg_slice_passes.specs.Timed.{AddsOf}
use Rattle.pg_slice_passes.specs.Footprints.{footprint_by}
use Rattle.pg_slice_passes.specs.Rows.{all_footprints, all_owners}
use Rattle.pg_slice_passes.proofs.footprints.Footprints.add_region.Given as goal

abbrev pub invariant-loop-k : goal.invariant-loop-k
invariant-loop-k l =
    AddsOf l.at.step.now l.at.interval l.initial.self l.self
    × ((x : Seen) (f : FreeRegion) → IsTimed x l.at.step.now l.at.interval → IfSome (landmark_at l.at.r.now l.at.n) (λ m. m.region ≡ Some f) →
    (all_footprints l.self ++ map (footprint_by x) (drop l.k f.accesses) ≡ all_footprints l.initial.self ++ map (footprint_by x) f.accesses)
    × (all_owners l.self ++ map (λ (a : FreeAccess). l.owner) (drop l.k f.accesses) ≡ all_owners l.initial.self ++ map (λ (a : FreeAccess). l.owner) f.accesses))
