use Rattle.pg_slice.proofs.MoreDecisions.{none_live}
use Rattle.pg_slice_walk.proofs.SettledWithMore.{none_settled}
use Rattle.pg_slice.proofs.spread.start.Goals as goal

pub returns-clause-live : goal.returns-clause-live
returns-clause-live c = λ hs d. none_live hs d c.in_ok-live.live.items c.args.steps c.in_ok-live.ensures

pub returns-clause-settled : goal.returns-clause-settled
returns-clause-settled c = λ hs d. none_settled hs d c.in_ok-settled.settled.items c.args.steps c.in_ok-settled.ensures
