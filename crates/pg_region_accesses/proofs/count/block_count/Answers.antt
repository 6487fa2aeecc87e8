use Rattle.std.proofs.Common.{arith}
use Rattle.pg_region_accesses.proofs.BlockCounts.{counted}
use Rattle.pg_region_accesses.proofs.count.block_count.Goals as goal

pub returns-clause-count : goal.returns-clause-count
returns-clause-count c =
    counted c.args.p.now c.loop-i.count c.facts.ensures.holds (λ k x lt e. c.loop-i.invariant.covers k x (omega (arith, lt, c.instr_count-i-end.ensures.count, c.loop-i-test.false)) e)
    c.loop-i.invariant.within
