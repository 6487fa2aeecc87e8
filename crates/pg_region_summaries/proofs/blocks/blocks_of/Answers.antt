use Rattle.std.proofs.Common.{◌≡◌, ◌<◌, length, arith}
use Rattle.std.proofs.lemmas.List.Elements.{All-push, All-nil}
use Rattle.pg_ir.specs.Program.{function_of}
use Rattle.pg_region_summaries.proofs.BlockSpans.{kept, passed, before_span, behind_span, function_is}
use Rattle.pg_region_summaries.proofs.blocks.blocks_of.Goals as goal
use Rattle.pg_region_summaries.proofs.blocks.blocks_of.Goals.{then-block-f+in_ok-push, else-block-f}

pub overflow_cast-b : goal.overflow_cast-b
overflow_cast-b c = record { fits = omega (arith, c.loop-b-test.true, c.requires.few) }

pub loop-b-init : goal.loop-b-init
loop-b-init c = record {
  upto = omega (arith, c.requires.order, c.requires.within);
  blocks = rw c.new-blocks.ensures.items (before_span c.args.p.now c.args.f c.args.span c.requires);
  within = rw c.new-blocks.ensures.items (All-nil (λ b. b < length c.args.p.now.blocks));
}

pub loop-b-preserved : goal.loop-b-preserved
loop-b-preserved c =
    let own : function_of c.args.p.now c.loop-b.b ≡ c.block.result.now.function = function_is c.args.p.now c.loop-b.b c.block.result.now c.block.ensures.at in
    let lt : c.loop-b.b < length c.args.p.now.blocks = omega (arith, c.loop-b-test.true, c.requires.within) in
    elim c.if-block-f.branch [
      | then-block-f+in_ok-push w ↦ record {
        upto = omega (arith, lt);
        blocks = rw (w.blocks-is, w.in_ok-push.ensures.items) (kept c.args.p.now c.args.f c.loop-b.b c.loop-b.blocks.items (omega (arith, own, w.if-block-f.true)) c.loop-b.invariant.blocks);
        within = rw (w.blocks-is, w.in_ok-push.ensures.items) (All-push (λ b. b < length c.args.p.now.blocks) c.loop-b.blocks.items c.loop-b.b c.loop-b.invariant.within lt);
      }
      | else-block-f w ↦ record {
        upto = omega (arith, lt);
        blocks = rw w.blocks-is (passed c.args.p.now c.args.f c.loop-b.b c.loop-b.blocks.items (λ e. omega (arith, own, w.if-block-f.false, e)) c.loop-b.invariant.blocks);
        within = rw w.blocks-is c.loop-b.invariant.within;
      }
    ]

pub returns-clause-blocks : goal.returns-clause-blocks
returns-clause-blocks c = behind_span c.args.p.now c.args.f c.loop-b.b c.args.span c.loop-b.blocks.items c.requires
    (omega (arith, c.loop-b-test.false)) c.loop-b.invariant.upto c.loop-b.invariant.blocks
