use Rattle.std.specs.Prelude.{slice_index_or}
use Rattle.pg_slice_walk.proofs.SettledExtents.{leads_push}
use Rattle.pg_slice_walk.proofs.extents.unsettled.Goals as goal

pub loop-list-preserved : goal.loop-list-preserved
loop-list-preserved c = leads_push c.args.holders.now (slice_index_or c.args.holders.now c.args.number 0) c.loop-list.list.items c.push.new.self.items c.loop-list.holder
    c.holder_at-holder-in-loop-list.result
    (c.is_settled.ensures.some c.loop-list-test.true) c.loop-list.invariant c.in_ok-push.ensures.items c.holder_at-holder-in-loop-list.ensures
