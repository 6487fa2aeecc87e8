use Rattle.std.proofs.Common.{◌≡◌, ◌≤◌, ℕ, ℤ, List, length}
use Rattle.std.specs.Prelude.{slice_index_or}
use Rattle.pg_ir.specs.declared.ids.InstrId.{InstrId}
use Rattle.pg_ir.specs.Program.{NumberedProgram}
use Rattle.pg_slice_rules.specs.Freeable.{Regions}
use Rattle.pg_slice_back.specs.pg_law_least.Keeps.{ExtentsKeep}
use Rattle.pg_slice_back.specs.pg_slice_passes.Given.{HasLandmarks, reference_of}
use Rattle.pg_slice_walk.specs.Chains.{AreHeld, AreOlder}
use Rattle.pg_slice_walk.proofs.holders.holders.Given as goal

abbrev pub invariant-loop-n : goal.invariant-loop-n
invariant-loop-n l =
    (length l.tops.items ≡ 256)
    × (length l.holders.items ≡ l.n)
    × AreOlder l.holders.items
    × ((u : ℕ) → slice_index_or l.tops.items u 0 ≤ l.n)
    × ((p : NumberedProgram) (regions : Regions) (gated : List InstrId) (input : List ℤ) → HasLandmarks (reference_of p regions gated input l.trace.steps) l.reference →
    ExtentsKeep (reference_of p regions gated input l.trace.steps) → AreHeld (reference_of p regions gated input l.trace.steps) l.reference l.n l.holders.items l.tops.items)
