use Rattle.pg_slice_replay.specs.Paths.{accesses_with}
use Rattle.pg_slice_replay.proofs.FramesApart.{stored_is}
use Rattle.pg_slice_replay.proofs.apart.store_on_loads.Goals as goal

pub loop-i-init : goal.loop-i-init
loop-i-init c = stored_is (accesses_with c.args.accesses.now c.args.ats.now)
