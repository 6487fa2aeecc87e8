use Rattle.std.proofs.Common.{◌≡◌, ◌<◌, ℕ, length, take}
use Rattle.std.specs.List.{list_any}
use Rattle.pg_ir.specs.declared.instr.Instr.{Instr}
use Rattle.pg_region_paths.specs.Registers.{is_register}
use Rattle.pg_region_accesses.specs.Tables.{in_table}
use Rattle.pg_region_summaries.specs.Creates.{op_starts}
use Rattle.pg_region_summaries.proofs.creates.started.Given as goal

abbrev pub invariant-loop-i : goal.invariant-loop-i
invariant-loop-i l = record {
  size : length l.started.items ≡ length l.p.functions;
  started : (f : ℕ) → f < length l.p.functions → in_table l.started.items f ≡ list_any (λ (x : Instr). is_register (op_starts x.op) f) (take l.i l.p.instrs);
}
