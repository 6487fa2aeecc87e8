use Rattle.std.proofs.Common.{◌∙◌}
use Rattle.pg_worker.specs.Standing.{run_in}
use Rattle.pg_crew.proofs.WorkerLists.{round_since, round_turns}
use Rattle.pg_crew.proofs.parking.counted_round.Goals as goal

pub counted-requires-clause-since : goal.counted-requires-clause-since
counted-requires-clause-since g c = round_since (run_in c.args.shared.now) c.args.workers.now c.in_threads.new.workers c.in_threads.ensures.gone c.of-before.result.turns c.of-before.ensures

pub returns-clause-counts : goal.returns-clause-counts
returns-clause-counts g c = c.counted.ensures ∙ round_turns (run_in c.args.shared.now) c.args.workers.now c.in_threads.new.workers c.in_threads.ensures.gone c.of-before.result.turns c.of-before.ensures c.args.count
