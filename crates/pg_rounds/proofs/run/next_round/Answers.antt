use Rattle.pg_room.specs.pg_worker.Standing.{run_in, table_in}
use Rattle.pg_rounds.proofs.NextRounds.{round_counts, round_done, round_gets_on, round_paused}
use Rattle.pg_rounds.proofs.run.next_round.Goals as goal

pub hand_on-requires-clause-next : goal.hand_on-requires-clause-next
hand_on-requires-clause-next g c = c.requires.next.next

pub returns-clause-paused : goal.returns-clause-paused
returns-clause-paused g c = round_paused (run_in c.args.shared.now) (table_in c.args.shared.now) c.args.workers.now c.hand_on.new.workers c.round.new.workers c.hand_on.ensures.workers
    c.round.ensures.workers c.hand_on.ensures.told c.round.ensures.gone

pub returns-clause-done : goal.returns-clause-done
returns-clause-done g c = round_done (run_in c.args.shared.now) (table_in c.args.shared.now) c.args.workers.now c.hand_on.new.workers c.round.new.workers c.hand_on.ensures.workers
    c.round.ensures.workers c.hand_on.ensures.told c.round.ensures.gone

pub returns-clause-counts : goal.returns-clause-counts
returns-clause-counts g c = round_counts (run_in c.args.shared.now) (table_in c.args.shared.now) c.args.workers.now c.hand_on.new.workers c.round.new.workers c.hand_on.ensures.workers
    c.round.ensures.workers c.hand_on.ensures.told c.round.ensures.gone _ _ c.round.ensures.counts

pub returns-clause-gets_on : goal.returns-clause-gets_on
returns-clause-gets_on g c = round_gets_on (run_in c.args.shared.now) (table_in c.args.shared.now) c.args.workers.now c.hand_on.new.workers c.round.new.workers c.hand_on.ensures.workers
    c.round.ensures.workers c.hand_on.ensures.told c.round.ensures.gone c.args.owner c.args.number c.requires.next c.hand_on.ensures.due
