use Rattle.std.specs.Prelude.{slice_index_or}
use Rattle.pg_slice_decisions.specs.Steps.{taken_by}
use Rattle.pg_slice.proofs.MoreDecisions.{live_stays}
use Rattle.pg_slice_walk.proofs.SettledWithMore.{pinned_more}
use Rattle.pg_slice.proofs.spread.take_asked.Goals as goal

pub asks_exact-exact-requires-clause-asked : goal.asks_exact-exact-requires-clause-asked
asks_exact-exact-requires-clause-asked c =
    let asked = c.requires.asked in
    record {
      count = asked.count;
      intervals = asked.intervals;
      number = asked.number;
      live = live_stays c.args.holders.now (taken_by c.args.decisions.now) (taken_by c.take_if.new.decisions) c.args.s.now.live.items c.take_if.ensures.kept asked.live;
      here = pinned_more c.args.holders.now (taken_by c.args.decisions.now) (taken_by c.take_if.new.decisions) (slice_index_or c.args.holders.now c.args.number 0) c.take_if.ensures.kept asked.here;
    }
