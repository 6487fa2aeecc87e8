use Rattle.std.proofs.Common.{ℕ, ◌<◌, length}
use Rattle.std.specs.Prelude.{slice_index_or}
use Rattle.pg_ir.specs.declared.ids.InstrId.{InstrId}
use Rattle.pg_test_slice.proofs.slices.tests.runs.are_instructions.Given as goal

abbrev pub invariant-loop-i : goal.invariant-loop-i
invariant-loop-i l = (k : ℕ) (d : InstrId) → k < l.i → (slice_index_or l.gated k d).0 < length l.p.instrs
