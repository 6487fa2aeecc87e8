use Rattle.std.proofs.Common.{arith}
use Rattle.pg_slice_memory.proofs.LoadedNumbers.{first_blamed}
use Rattle.pg_slice_memory.proofs.parts.first_unknown.Goals as goal

pub returns-in-Unknown-clause-some : goal.returns-in-Unknown-clause-some
returns-in-Unknown-clause-some c = first_blamed c.args.symbolic_nodes.now c.args.count c.loop-k.k c.in-Unknown.by c.loop-k.invariant (omega arith) c.in-Unknown.is
