use Rattle.std.proofs.Common.{◌≡◌, ℕ, length, take}
use Rattle.pg_region_accesses.specs.Accesses.{is_gated}
use Rattle.pg_region_accesses.specs.Tables.{in_table}
use Rattle.pg_region_accesses.proofs.register_sets.gated_table.Given as goal

abbrev pub invariant-loop-id : goal.invariant-loop-id
invariant-loop-id l = record {
  size : length l.table.items ≡ l.count;
  gated : (i : ℕ) → in_table l.table.items i ≡ is_gated (take l.id-index l.gated) i;
}
