use Rattle.std.proofs.Common.{arith}
use Rattle.pg_region_summaries.proofs.CalledFunctions.{block_listed, all_listed}
use Rattle.pg_region_summaries.proofs.callees.callees.Goals as goal

pub loop-b-preserved : goal.loop-b-preserved
loop-b-preserved c = block_listed c.args.p.now c.args.blocks.now c.loop-b.b-index 0 c.loop-b.callees.items _ c.loop-b-test.true c.loop-b.invariant c.in_ok-push_callees.ensures

pub returns : goal.returns
returns c = all_listed c.args.p.now c.args.blocks.now c.loop-b.b-index c.loop-b.callees.items (omega (arith, c.loop-b-test.false)) c.loop-b.invariant
