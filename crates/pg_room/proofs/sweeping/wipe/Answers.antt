use Rattle.pg_crew.specs.pg_worker.Standing.{run_in}
use Rattle.pg_room.proofs.SweptGranules.{granule_swept, may_wipe}
use Rattle.pg_room.proofs.sweeping.wipe.Goals as goal

pub wipe-requires-clause-next : goal.wipe-requires-clause-next
wipe-requires-clause-next c = may_wipe (run_in c.args.shared.now) c.args.granule c.args.pool.now.me c.requires.before c.whole_granule-at.result c.whole_granule-at.ensures

pub returns-clause-swept : goal.returns-clause-swept
returns-clause-swept c = granule_swept (run_in c.args.shared.now) c.args.granule c.args.pool.now.me c.requires.before c.whole_granule-at.result c.whole_granule-at.ensures c.wipe.new.pool.me c.wipe.ensures.view
