use Rattle.std.proofs.Common.{false}
use Rattle.pg_slice_passes.specs.pg_slice_replay.Kept.{landmark_at}
use Rattle.pg_slice_back.proofs.RegionWrites.{few_next, few_none, none_asked, none_written, silent}
use Rattle.pg_slice_back.proofs.region.asks_any.Goals as goal

pub loop-k-init : goal.loop-k-init
loop-k-init c = few_none (landmark_at c.args.reference.now c.args.number) c.args.demanded.now

pub loop-k-preserved : goal.loop-k-preserved
loop-k-preserved c =
    few_next (landmark_at c.args.reference.now c.args.number) c.loop-k.k c.args.demanded.now c.asks_one.result c.if-asks_one.false c.loop-k.invariant c.asks_one.ensures.none

pub returns-clause-none : goal.returns-clause-none
returns-clause-none c =
    silent (landmark_at c.args.reference.now c.args.number) c.args.demanded.now false (none_written (landmark_at c.args.reference.now c.args.number) c.access_count-k-end.result c.loop-k.k c.args.demanded.now
    c.loop-k-test.false c.access_count-k-end.ensures.count c.loop-k.invariant)

pub returns-then-not-asks_bytes-clause-none : goal.returns-then-not-asks_bytes-clause-none
returns-then-not-asks_bytes-clause-none c =
    silent (landmark_at c.args.reference.now c.args.number) c.args.demanded.now false
    (none_asked (landmark_at c.args.reference.now c.args.number) c.args.demanded.now (c.asks_bytes.ensures c.if-not-asks_bytes.true))
