use Rattle.std.proofs.Common.{◌≡◌, ◌+◌, drop}
use Rattle.std.specs.List.{prefix_len}
use Rattle.pg_ir.specs.Edges.{is_phi}
use Rattle.pg_ir.specs.declared.instr.Instr.{Instr}
use Rattle.pg_ir.proofs.placed.count_phis.Given as goal

abbrev pub invariant-loop-i : goal.invariant-loop-i
invariant-loop-i l = l.i + prefix_len (λ (x : Instr). is_phi x.op) (drop l.i l.xs) ≡ prefix_len (λ (x : Instr). is_phi x.op) l.xs
