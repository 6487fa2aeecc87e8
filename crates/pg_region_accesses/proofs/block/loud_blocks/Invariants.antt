use Rattle.std.proofs.Common.{◌≡◌, ℕ, ◌<◌, Bool, true, false, length, Some, None}
use Rattle.pg_region_paths.specs.RootPaths.{count_in}
use Rattle.pg_region_accesses.specs.Accesses.{RootedList, block_accesses, summary_of}
use Rattle.pg_region_accesses.specs.Tables.{in_table}
use Rattle.pg_region_accesses.proofs.block.loud_blocks.Given as goal

abbrev pub invariant-loop-b : goal.invariant-loop-b
invariant-loop-b l = record {
  is_set : l.known.is_set ≡ l.initial.known.is_set;
  count : count_in l.known ≡ count_in l.initial.known;
  size : length l.loud.items ≡ l.b;
  loud : (b : ℕ) → in_table l.loud.items b ≡ true → (is_set : ℕ → Bool) → block_accesses false l.p (in_table l.gated) (summary_of l.sums) is_set b ≡ None;
  quiet : (b : ℕ) → b < l.b → in_table l.loud.items b ≡ false → (accesses : RootedList)
      × (block_accesses false l.p (in_table l.gated) (summary_of l.sums) (λ r. false) b ≡ Some accesses);
}
