use Rattle.std.proofs.Common.{◌≡◌, ◌<◌, ◌≤◌, ◌^◌, ℕ, length, Some}
use Rattle.std.specs.Prelude.{slice_get}
use Rattle.pg_region_paths.specs.pg_ir.declared.instr.Instr.{Instr}
use Rattle.pg_region_accesses.proofs.count.block_count.Given as goal

abbrev pub invariant-loop-i : goal.invariant-loop-i
invariant-loop-i l = record {
  covers : (k : ℕ) (x : Instr) → k < l.i → slice_get l.p.instrs k ≡ Some x → x.block.0 < l.count;
  within : l.count ≤ length l.p.blocks;
  few : l.count ≤ 2 ^ 32;
}
