use Rattle.std.proofs.Common.{◌≡◌, drop}
use Rattle.pg_ir.specs.Edges.{incoming_from}
use Rattle.pg_slice_registers.proofs.edges.incoming.Given as goal

abbrev pub invariant-loop-incoming : goal.invariant-loop-incoming
invariant-loop-incoming l = incoming_from l.fn.listed l.from ≡ incoming_from (drop l.incoming-index l.listed) l.from
