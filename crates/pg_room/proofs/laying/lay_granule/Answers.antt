use Rattle.pg_crew.specs.pg_worker.Standing.{run_in}
use Rattle.pg_room.proofs.LaidGranules.{granule_laid, may_lay}
use Rattle.pg_room.proofs.laying.lay_granule.Goals as goal

pub lay-requires-clause-next : goal.lay-requires-clause-next
lay-requires-clause-next c = may_lay (run_in c.args.shared.now) c.args.granule c.args.pool.now.me c.args.laid.now.words.items c.requires.before c.whole_granule-at.result c.whole_granule-at.ensures
    c.args.word c.requires.bytes

pub returns-clause-laid : goal.returns-clause-laid
returns-clause-laid c = granule_laid (run_in c.args.shared.now) c.args.granule c.args.pool.now.me c.args.laid.now.words.items c.requires.before c.whole_granule-at.result c.whole_granule-at.ensures
    c.lay.new.seat.me c.mark.new.self.words.items c.lay.ensures.view c.mark.ensures.marked c.mark.ensures.kept
