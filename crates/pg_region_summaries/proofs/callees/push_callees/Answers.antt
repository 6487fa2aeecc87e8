use Rattle.std.proofs.Common.{◌≡◌, Some, arith}
use Rattle.std.specs.Prelude.{slice_get}
use Rattle.pg_ir.specs.Edges.{instrs_of}
use Rattle.pg_region_accesses.proofs.BlockInstructions.{instr_at}
use Rattle.pg_region_summaries.proofs.CalledFunctions.{instr_pushed, block_pushed}
use Rattle.pg_region_summaries.proofs.callees.push_callees.Goals as goal

pub loop-k-preserved : goal.loop-k-preserved
loop-k-preserved c =
    let at : slice_get (instrs_of c.args.p.now c.args.b.0) c.loop-k.k ≡ Some c.instr-instr.result.now =
    instr_at c.args.p.now c.args.b.0 c.loop-k.k c.block-block.result.now c.instr-instr.result.now c.block-block.ensures.at c.loop-k-test.true c.instr-instr.ensures.at in
    instr_pushed (instrs_of c.args.p.now c.args.b.0) c.loop-k.k c.instr-instr.result.now _ c.loop-k.callees.items _ at c.loop-k.invariant c.in_ok-push_called.ensures

pub returns : goal.returns
returns c = block_pushed c.args.p.now c.args.b.0 c.loop-k.k c.block-block.result.now _ c.loop-k.callees.items c.block-block.ensures.at (omega (arith, c.loop-k-test.false)) c.loop-k.invariant
