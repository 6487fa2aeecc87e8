use Rattle.pg_room.specs.pg_worker.Standing.{run_in, table_in}
use Rattle.pg_rounds.proofs.Results.{counted_all, have_ended}
use Rattle.pg_rounds.proofs.run.rounds.Goals as goal

pub returns-clause-ended : goal.returns-clause-ended
returns-clause-ended g c = have_ended (run_in c.args.shared.now) (table_in c.args.shared.now) c.go.new.workers c.go.ensures.workers c.go.ensures.paused c.go.ensures.over

pub returns-clause-counts : goal.returns-clause-counts
returns-clause-counts g c = counted_all (run_in c.args.shared.now) (table_in c.args.shared.now) c.args.workers.now c.go.new.workers c.go.ensures.workers c.go.ensures.paused c.requires.first c.go.ensures.done c.go.ensures.over _ _ _
    c.go.ensures.counts c.ended.ensures.turns
