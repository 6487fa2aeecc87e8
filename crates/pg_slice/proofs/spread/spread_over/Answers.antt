use Rattle.pg_slice_decisions.specs.Steps.{taken_by}
use Rattle.pg_slice.proofs.spread.spread_over.Goals as goal

pub spread_along-requires-clause-live : goal.spread_along-requires-clause-live
spread_along-requires-clause-live c = c.in_ok-s.ensures.live c.args.holders.now (taken_by c.args.decisions.now)

pub spread_along-requires-clause-settled : goal.spread_along-requires-clause-settled
spread_along-requires-clause-settled c = c.in_ok-s.ensures.settled c.args.holders.now (taken_by c.args.decisions.now)
