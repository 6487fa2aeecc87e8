use Rattle.std.proofs.Common.{◌≡◌, ℕ, length, take}
use Rattle.pg_region_paths.specs.pg_num.declared.limits.TheConstants.{FUNCTION_REGISTER_LIMIT}
use Rattle.pg_region_accesses.specs.Accesses.{sets}
use Rattle.pg_region_accesses.specs.Tables.{in_table}
use Rattle.pg_region_accesses.proofs.register_sets.sets_of.Given as goal

abbrev pub invariant-loop-b : goal.invariant-loop-b
invariant-loop-b l = record {
  size : length l.set.items ≡ FUNCTION_REGISTER_LIMIT;
  sets : (r : ℕ) → in_table l.set.items r ≡ sets l.p (take l.b-index l.blocks) r;
}
