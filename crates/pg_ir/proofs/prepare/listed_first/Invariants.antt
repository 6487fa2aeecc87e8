use Rattle.std.proofs.Common.{◌≡◌, drop}
use Rattle.pg_ir.specs.Edges.{incoming_from}
use Rattle.pg_ir.proofs.prepare.listed_first.Given as goal

abbrev pub invariant-loop-listed : goal.invariant-loop-listed
invariant-loop-listed l = incoming_from l.fn.incoming l.fn.from ≡ incoming_from (drop l.listed-index l.incoming) l.from
