use Rattle.std.proofs.Common.{◌∙◌, arith}
use Rattle.pg_region.proofs.FlowGraphs.{successors_are}
use Rattle.pg_region.proofs.PreparedFinders.{if_ok}
use Rattle.pg_region.proofs.flow.successors.Goals as goal

pub overflow_add-last : goal.overflow_add-last
overflow_add-last c = omega (arith, c.block-block.ensures.fits.within, c.block-block.ensures.fits.some, c.facts.ensures.holds.few_instrs)

pub returns : goal.returns
returns c = if_ok c.targets.result (λ xs e. e
    ∙ successors_are c.args.p.now c.args.b.0 c.block-block.result.now c.instr.result.now c.block-block.ensures.at c.block-block.ensures.fits.some c.instr.ensures.at) c.targets.ensures
