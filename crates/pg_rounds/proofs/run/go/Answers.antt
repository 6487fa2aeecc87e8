use Rattle.std.proofs.Common.{inr, length, ap, arith}
use Rattle.pg_room.specs.pg_worker.Standing.{run_in, table_in}
use Rattle.pg_rounds.proofs.FirstTurns.{awaited_some}
use Rattle.pg_rounds.proofs.NextRounds.{counted_both, done_both, gone_done, gone_paused, past_all, past_first, past_more}
use Rattle.pg_rounds.proofs.Results.{owners_count}
use Rattle.pg_rounds.proofs.run.go.Goals as goal

pub loop-init : goal.loop-init
loop-init g c = record {
  workers = c.round.ensures.workers;
  paused = gone_paused (run_in c.args.shared.now) (table_in c.args.shared.now) c.args.workers.now c.round.new.workers c.requires.workers c.round.ensures.workers c.round.ensures.gone;
  done = gone_done (run_in c.args.shared.now) (table_in c.args.shared.now) c.args.workers.now c.round.new.workers c.requires.workers c.round.ensures.workers c.round.ensures.gone;
  counts = c.round.ensures.counts;
  past = inr (past_first c.round.new.workers);
}

pub loop-preserved : goal.loop-preserved
loop-preserved g c = record {
  workers = c.next_round.ensures.workers;
  paused = c.next_round.ensures.paused;
  done = done_both c.args.workers.now c.loop.workers c.next_round.new.workers c.loop.invariant.done c.next_round.ensures.done;
  counts = counted_both c.args.workers.now c.loop.workers c.next_round.new.workers _ _ _ c.loop.invariant.done c.next_round.ensures.done c.loop.invariant.counts c.next_round.ensures.counts;
  past = past_more (run_in c.args.shared.now) (table_in c.args.shared.now) c.loop.workers c.next_round.new.workers c.loop.invariant.workers c.loop.counter _ _ (awaited_some c.args.shared.now.program.now c.loop.workers c.awaited.result _ _ c.in-Some.is c.awaited.ensures.some)
      c.loop.invariant.past c.next_round.ensures.gets_on;
}

pub returns-clause-over : goal.returns-clause-over
returns-clause-over g c = past_all (run_in c.args.shared.now) (table_in c.args.shared.now) c.loop.workers c.loop.invariant.workers c.loop.counter
    (let items = ap length c.as_slice-end.ensures.items in
    let count = owners_count c.args.shared.now.schedule.now.turns in
    omega (arith, items, count, c.loop-test.false, c.loop.auto.counter-end))
    c.loop.invariant.past
