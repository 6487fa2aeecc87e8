use Rattle.std.proofs.Common.{◌≡◌, ◌<◌, ◌^◌, length, arith, ◌∙◌}
use Rattle.std.proofs.Math.ListN.{length-set}
use Rattle.pg_ir.specs.Program.{function_of}
use Rattle.pg_region_summaries.specs.Spans.{span_at, extended}
use Rattle.pg_region_summaries.proofs.BlockSpans.{function_is}
use Rattle.pg_region_summaries.proofs.FunctionSpans.{one_more}
use Rattle.pg_region_summaries.proofs.span.spans.Goals as goal

pub loop-b-preserved : goal.loop-b-preserved
loop-b-preserved c =
    let own : function_of c.args.p.now c.loop-b.b ≡ c.block.result.now.function = function_is c.args.p.now c.loop-b.b c.block.result.now c.block.ensures.at in
    let new : c.extended.result ≡ extended (span_at c.loop-b.spans.items c.block.result.now.function) c.loop-b.b = rw (← c.as_slice.ensures.value, ← c.span_at-span.ensures) c.extended.ensures in
    let fits : c.block.result.now.function < length c.loop-b.spans.items = omega (arith, c.block.ensures.fits.function, c.loop-b.invariant.size) in
    let small : c.loop-b.b < 2 ^ 32 = omega (arith, c.loop-b-test.true, c.block_count-b-end.ensures.few) in
    record {
      size = length-set c.loop-b.spans.items c.block.result.now.function c.extended.result ∙ c.loop-b.invariant.size;
      covers = rw new (one_more c.args.p.now c.loop-b.b c.block.result.now.function c.loop-b.spans.items small fits own c.loop-b.invariant.covers);
    }
