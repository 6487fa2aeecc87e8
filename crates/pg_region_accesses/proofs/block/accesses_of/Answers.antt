use Rattle.std.proofs.Common.{None, Some, sym, arith}
use Rattle.pg_region_paths.specs.RootPaths.{set_in}
use Rattle.pg_region_accesses.specs.Accesses.{block_accesses, summary_of}
use Rattle.pg_region_accesses.specs.Tables.{in_table}
use Rattle.pg_region_accesses.proofs.AddedAccesses.{stops_at, ends_at}
use Rattle.pg_region_accesses.proofs.LoudBlocks.{by_table}
use Rattle.pg_region_accesses.proofs.block.accesses_of.Goals as goal

pub returns-then-not-branch : goal.returns-then-not-branch
returns-then-not-branch c =
    sym (by_table c.args.may_return c.args.p.now (in_table c.args.gated.now) (summary_of c.args.sums.now) c.args.blocks.now c.in_ok-set.set.items c.in_ok-known.known.is_set
    (c.in_ok-set.ensures.1) c.in_ok-known.ensures.known.0 None
    (stops_at (block_accesses c.args.may_return c.args.p.now (in_table c.args.gated.now) (summary_of c.args.sums.now) (set_in c.in_ok-known.known)) c.args.blocks.now c.loop-b.b-index 0
    c.loop-b-test.true c.loop-b.accesses.items c.push_block.new.accesses.items c.in_ok-push_block.field-0 c.if-not-branch.true
    (rw c.loop-b.invariant.is_set at c.in_ok-push_block.ensures.accesses) c.loop-b.invariant.accesses))

pub returns : goal.returns
returns c =
    sym (by_table c.args.may_return c.args.p.now (in_table c.args.gated.now) (summary_of c.args.sums.now) c.args.blocks.now c.in_ok-set.set.items c.in_ok-known.known.is_set
    (c.in_ok-set.ensures.1) c.in_ok-known.ensures.known.0 (Some c.loop-b.accesses.items)
    (ends_at (block_accesses c.args.may_return c.args.p.now (in_table c.args.gated.now) (summary_of c.args.sums.now) (set_in c.in_ok-known.known)) c.args.blocks.now c.loop-b.b-index
    (omega (arith, c.loop-b-test.false)) c.loop-b.accesses.items c.loop-b.invariant.accesses))
