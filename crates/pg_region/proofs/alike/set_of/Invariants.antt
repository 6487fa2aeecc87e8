use Rattle.std.proofs.Common.{◌≡◌, ℕ, true}
use Rattle.std.specs.Prelude.{Contains}
use Rattle.pg_region_accesses.specs.Tables.{in_table}
use Rattle.pg_region.proofs.alike.set_of.Given as goal

abbrev pub invariant-loop-block : goal.invariant-loop-block
invariant-loop-block l = (x : ℕ) → in_table l.set.items x ≡ true → Contains l.blocks x
