use Rattle.std.proofs.Common.{◌≡◌, ◌+◌, ℕ, drop, take, reverse, []}
use Rattle.pg_region_paths.specs.pg_ir.Program.{types_of, function_of, first_of}
use Rattle.pg_region_paths.specs.pg_ir.Edges.{instrs_of}
use Rattle.pg_region_paths.specs.Registers.{register_path}
use Rattle.pg_region_paths.specs.RootPaths.{path_in, set_in, count_in}
use Rattle.pg_region_accesses.specs.Accesses.{accesses_from, summary_of}
use Rattle.pg_region_accesses.specs.Appends.{behind}
use Rattle.pg_region_accesses.specs.Tables.{in_table}
use Rattle.pg_region_accesses.proofs.block.push_block.Given as goal

abbrev pub invariant-loop-k : goal.invariant-loop-k
invariant-loop-k l = record {
  is_set : l.known.is_set ≡ l.initial.known.is_set;
  count : count_in l.known ≡ count_in l.initial.known;
  paths : (r : ℕ) → path_in l.known r ≡ register_path (set_in l.initial.known) (types_of l.p (function_of l.p l.fn.b.0)) (reverse (take l.k (instrs_of l.p l.fn.b.0))) r;
  accesses :
      behind l.initial.accesses.items (accesses_from l.may_return (in_table l.gated) (summary_of l.sums) (set_in l.initial.known) (types_of l.p (function_of l.p l.fn.b.0)) []
      (first_of l.p l.fn.b.0) (instrs_of l.p l.fn.b.0))
      ≡ behind l.accesses.items (accesses_from l.may_return (in_table l.gated) (summary_of l.sums) (set_in l.initial.known) (types_of l.p (function_of l.p l.fn.b.0))
      (reverse (take l.k (instrs_of l.p l.fn.b.0))) (first_of l.p l.fn.b.0 + l.k) (drop l.k (instrs_of l.p l.fn.b.0)));
}
