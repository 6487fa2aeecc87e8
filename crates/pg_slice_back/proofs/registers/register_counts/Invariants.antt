use Rattle.std.proofs.Common.{◌≡◌, ℤ, List, length}
use Rattle.pg_ir.specs.declared.ids.InstrId.{InstrId}
use Rattle.pg_slice_rules.specs.Freeable.{Regions}
use Rattle.pg_law_least.specs.Keeps.{ExtentsKeep, every}
use Rattle.pg_slice_passes.specs.Given.{reference_of}
use Rattle.pg_law_demands.specs.Along.{known_at}
use Rattle.pg_slice_back.specs.Counted.{AreCountedTo}
use Rattle.pg_slice_back.specs.Stacks.{AreStacks}
use Rattle.pg_slice_back.proofs.registers.register_counts.Given as goal

abbrev pub invariant-loop-n : goal.invariant-loop-n
invariant-loop-n l =
    (length l.counts.items ≡ l.n)
    × ((regions : Regions) (gated : List InstrId) (input : List ℤ) → ExtentsKeep (reference_of l.program regions gated input l.trace.steps) →
    AreStacks l.calls (known_at (reference_of l.program regions gated input l.trace.steps) every l.n) × AreCountedTo (reference_of l.program regions gated input l.trace.steps) l.n l.counts.items)
