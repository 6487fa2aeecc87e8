use Rattle.std.proofs.Common.{◌≡◌, ◌++◌, drop}
use Rattle.pg_ir.specs.Edges.{instrs_of}
use Rattle.pg_region_summaries.specs.Callees.{instrs_calls}
use Rattle.pg_region_summaries.proofs.callees.push_callees.Given as goal

abbrev pub invariant-loop-k : goal.invariant-loop-k
invariant-loop-k l = l.initial.callees.items ++ instrs_calls (instrs_of l.p l.fn.b.0) ≡ l.callees.items ++ instrs_calls (drop l.k (instrs_of l.p l.fn.b.0))
