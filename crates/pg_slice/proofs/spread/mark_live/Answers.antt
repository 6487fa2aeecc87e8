use Rattle.pg_slice.proofs.MoreDecisions.{live_set}
use Rattle.pg_slice.proofs.spread.mark_live.Goals as goal

pub returns-clause-live : goal.returns-clause-live
returns-clause-live c = λ hs d here a. live_set hs d c.args.s.now.live.items c.set_mark.new.marks.items c.args.number here c.set_mark.ensures.only a
