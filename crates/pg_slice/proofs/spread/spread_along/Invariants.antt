use Rattle.std.proofs.Common.{◌≤◌, length}
use Rattle.pg_slice_decisions.specs.Steps.{AreOf, left_by, taken_by}
use Rattle.pg_slice.specs.Settled.{AreLive, Widens}
use Rattle.pg_slice_walk.specs.Settled.{AreSettled}
use Rattle.pg_slice.proofs.spread.spread_along.Given as goal

abbrev pub invariant-loop-n : goal.invariant-loop-n
invariant-loop-n l =
    AreOf (length l.run.t.now.steps) l.decisions
    × AreLive l.holders (taken_by l.decisions) l.s.live.items
    × AreSettled l.holders (taken_by l.decisions) l.s.settled.items
    × (left_by l.decisions ≤ left_by l.initial.decisions)
    × Widens l.run.r.now l.holders l.run.t.now.steps (taken_by l.initial.decisions) (taken_by l.decisions)
