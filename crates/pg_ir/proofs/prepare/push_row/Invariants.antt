use Rattle.std.proofs.Common.{◌≡◌, ◌++◌, map, take}
use Rattle.pg_ir.specs.declared.instr.Instr.{Instr}
use Rattle.pg_ir.specs.Edges.{incoming_from, incoming_of}
use Rattle.pg_ir.proofs.prepare.push_row.Given as goal

abbrev pub invariant-loop-x : goal.invariant-loop-x
invariant-loop-x l = l.values.items ≡ l.fn.values.items ++ map (λ (x : Instr). incoming_from (incoming_of x.op) l.from) (take l.x-index l.phis)
