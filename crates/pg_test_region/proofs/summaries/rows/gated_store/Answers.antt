use Rattle.std.proofs.Common.{◌<◌, ℕ, List, [], ◌∷◌, length, slice_index_or, zero, suc, arith}
use Rattle.pg_ir.specs.declared.ids.InstrId.{InstrId}
use Rattle.pg_test_region.proofs.summaries.rows.gated_store.Goals as goal

only : (n : ℕ) → 2 < n → (k : ℕ) (d : InstrId) → k < 1 → (slice_index_or (record { 0 = 2 } ∷ []) k d).0 < n
only n few zero d lt = few
only n few (suc k) d lt = absurd (omega (arith, lt))

pub summaries-requires : goal.summaries-requires
summaries-requires g c = record { gated = only (length c.in_ok-p.p.instrs) (omega (arith, c.if-instr_count-le2.false, c.instr_count.ensures.count)) }
