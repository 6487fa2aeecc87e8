use Rattle.std.proofs.Common.{◌≡◌, Some}
use Rattle.std.specs.List.{AllByRecursion}
use Rattle.pg_slice_rules.specs.Freeable.{FreeRegion}
use Rattle.pg_slice_rules.specs.Known.{SymbolicState, Seen}
use Rattle.pg_slice_rules.specs.Moments.{thread_in}
use Rattle.pg_law_least.specs.Keeps.{depth_of}
use Rattle.pg_slice_passes.specs.pg_slice_replay.Kept.{landmark_at}
use Rattle.pg_slice_passes.specs.pg_slice_replay.Landmarks.{Landmark}
use Rattle.pg_law_demands.specs.Cells.{IsMet}
use Rattle.pg_law_demands.specs.Demands.{region_demands}
use Rattle.pg_slice_back.specs.Met.{AreMet}
use Rattle.pg_slice_back.proofs.paths.put_region.Given as goal

abbrev pub invariant-loop-k : goal.invariant-loop-k
invariant-loop-k l =
    (m : Landmark) (q : FreeRegion) (s : SymbolicState) (y : Seen) → landmark_at l.reference l.number ≡ Some m → m.region ≡ Some q → thread_in y.moment ≡ l.at.thread.0 → depth_of y ≡ l.at.depth →
    AllByRecursion (IsMet s) (region_demands y (Some q)) → AreMet s l.initial.demanded → AreMet s l.demanded
