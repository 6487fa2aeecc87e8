use Rattle.pg_slice_passes.specs.pg_slice_replay.Kept.{landmark_at}
use Rattle.pg_slice_back.proofs.RegionWrites.{FewAsked}
use Rattle.pg_slice_back.proofs.region.asks_any.Given as goal

abbrev pub invariant-loop-k : goal.invariant-loop-k
invariant-loop-k l = FewAsked (landmark_at l.reference l.number) l.k l.demanded
