use Rattle.std.proofs.Common.{◌≡◌, ◌||◌, ℕ, length, take}
use Rattle.std.specs.List.{list_any}
use Rattle.pg_region_paths.specs.pg_ir.declared.instr.Instr.{Instr}
use Rattle.pg_region_paths.specs.pg_ir.Edges.{instrs_of}
use Rattle.pg_region_paths.specs.Registers.{is_register}
use Rattle.pg_region_accesses.specs.Tables.{in_table}
use Rattle.pg_region_accesses.proofs.register_sets.add_sets.Given as goal

abbrev pub invariant-loop-k : goal.invariant-loop-k
invariant-loop-k l = record {
  size : length l.set.items ≡ length l.initial.set.items;
  sets : (r : ℕ) → in_table l.set.items r ≡ (list_any (λ (x : Instr). is_register x.result r) (take l.k (instrs_of l.p l.fn.b.0)) || in_table l.initial.set.items r);
}
