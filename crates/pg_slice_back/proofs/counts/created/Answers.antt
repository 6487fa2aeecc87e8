use Rattle.std.proofs.Common.{arith}
use Rattle.pg_slice_back.proofs.ThreadRegisterCounts.{no_types}
use Rattle.pg_slice_back.proofs.counts.created.Goals as goal

pub returns-else-f-function_count : goal.returns-else-f-function_count
returns-else-f-function_count c = no_types c.args.program.now c.args.f (omega (arith, c.if-f-function_count.false, c.function_count.ensures.count))
