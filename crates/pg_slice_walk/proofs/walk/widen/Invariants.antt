use Rattle.std.proofs.Common.{◌≤◌, ℤ, List, length}
use Rattle.pg_ir.specs.declared.ids.InstrId.{InstrId}
use Rattle.pg_slice_rules.specs.Closed.{AreWithin, IsClosed}
use Rattle.pg_slice_rules.specs.Freeable.{Regions}
use Rattle.pg_slice_rules.specs.Known.{Taken}
use Rattle.pg_slice_back.specs.pg_slice_decisions.Steps.{AreOf, left_by, taken_by}
use Rattle.pg_slice_back.specs.pg_slice_passes.Given.{reference_of}
use Rattle.pg_slice_back.specs.pg_law_demands.Along.{known_at}
use Rattle.pg_slice_walk.specs.Words.{AreWordsMet}
use Rattle.pg_slice_walk.specs.Settled.{AreSettled}
use Rattle.pg_slice_walk.specs.Walks.{IsTold, Walks}
use Rattle.pg_slice_walk.proofs.walk.widen.Given as goal

abbrev pub invariant-loop-left : goal.invariant-loop-left
invariant-loop-left l = record {
  number : l.left ≤ length l.walk.trace.now.steps;
  settled : AreSettled l.walk.holders.now (taken_by l.decisions) l.settled.items;
  size : AreOf (length l.walk.trace.now.steps) l.decisions;
  left : left_by l.decisions ≤ left_by l.fn.decisions;
  walks : (regions : Regions) (gated : List InstrId) (input : List ℤ) → IsTold (reference_of l.walk.program.now regions gated input l.walk.trace.now.steps) l.walk.reference.now l.walk.holders.now l.walk.counts.now
      → (e : Taken) → IsClosed (reference_of l.walk.program.now regions gated input l.walk.trace.now.steps) e →
      AreWithin (taken_by l.fn.decisions) e → Walks (reference_of l.walk.program.now regions gated input l.walk.trace.now.steps) e l.left l.demanded (taken_by l.decisions)
      × AreWordsMet (known_at (reference_of l.walk.program.now regions gated input l.walk.trace.now.steps) e l.left) l.words.items;
}

abbrev pub decreases-loop-left : goal.decreases-loop-left
decreases-loop-left l = l.left
