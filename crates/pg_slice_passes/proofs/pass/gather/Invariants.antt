use Rattle.std.proofs.Common.{ℤ, List, length}
use Rattle.pg_ir.specs.declared.ids.InstrId.{InstrId}
use Rattle.pg_slice_rules.specs.Freeable.{Regions}
use Rattle.pg_slice_decisions.specs.Steps.{taken_by}
use Rattle.pg_slice_checks.specs.Asks.{AreNamed}
use Rattle.pg_slice_passes.specs.Given.{HasLandmarks, reference_of}
use Rattle.pg_slice_passes.specs.Passes.{HasPassed}
use Rattle.pg_slice_passes.specs.State.{AreKept}
use Rattle.pg_slice_passes.specs.Timed.{AreEarlier}
use Rattle.pg_slice_passes.proofs.pass.gather.Given as goal

abbrev pub invariant-loop-n : goal.invariant-loop-n
invariant-loop-n l =
    AreKept (length l.nodes) l.g.symbolic_nodes
    × AreEarlier l.run.t.now.steps l.n l.g.footprints
    × AreNamed (length l.nodes) l.g.asked.checks.items
    × ((regions : Regions) (gated : List InstrId) (input : List ℤ) → HasLandmarks (reference_of l.run.p.now regions gated input l.run.t.now.steps) l.run.r.now →
    HasPassed (reference_of l.run.p.now regions gated input l.run.t.now.steps) (taken_by l.d) l.n l.nodes l.g)
