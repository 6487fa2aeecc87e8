use Rattle.std.proofs.Common.{sym, ◌∙◌}
use Rattle.pg_slice_walk.proofs.EventKinds.{starts}
use Rattle.pg_slice_walk.proofs.RegionSettings.{less_itself}
use Rattle.pg_slice_walk.proofs.WordsBack.{if_weaker, join_asks, start_asks}
use Rattle.pg_slice_walk.proofs.words.asked_by.Goals as goal

pub returns-then-is_join-clause-less : goal.returns-then-is_join-clause-less
returns-then-is_join-clause-less c = less_itself c.args.demanded.now

pub returns-then-is_join-clause-asked : goal.returns-then-is_join-clause-asked
returns-then-is_join-clause-asked c = if_weaker c.joined.result (λ u j R d x step counts m st call kind present met.
    join_asks R d c.args.s.now.program.now c.args.s.now.reference.now x step counts c.args.s.now.number m st c.args.event.now kind (c.is_join.ensures c.if-is_join.true) c.args.demanded.now met u j) c.joined.ensures

pub returns-then-is_start-clause-asked : goal.returns-then-is_start-clause-asked
returns-then-is_start-clause-asked c = if_weaker c.started.result (λ u j R d x step counts m st call kind present met.
    start_asks R d c.args.s.now.program.now c.args.s.now.reference.now x step counts c.args.s.now.number m st c.args.event.now kind (starts c.args.event.now.kind (sym c.is_start.ensures ∙ c.if-is_start.true)) c.args.demanded.now met c.args.at call c.args.s.now.counts.present present
    c.function.result c.function.ensures.function u j) c.started.ensures.asked

pub returns-clause-less : goal.returns-clause-less
returns-clause-less c = less_itself c.args.demanded.now
