use Rattle.std.proofs.Common.{◌∙◌, arith}
use Rattle.pg_crew.specs.pg_worker.Standing.{run_in}
use Rattle.pg_room.proofs.SweptGranules.{clears, is_clear, threads_clear}
use Rattle.pg_room.proofs.sweeping.clear_threads.Goals as goal

pub clear_word-requires-clause-view : goal.clear_word-requires-clause-view
clear_word-requires-clause-view c = clears (run_in c.args.shared.now) c.loop-thread.thread c.loop-thread.pool.me c.loop-thread.invariant.view

pub loop-thread-preserved : goal.loop-thread-preserved
loop-thread-preserved c = record {
  own = (c.clear_word.ensures.own.0 ∙ c.loop-thread.invariant.own.0, c.clear_word.ensures.own.1 ∙ c.loop-thread.invariant.own.1);
  view = is_clear (run_in c.args.shared.now) c.loop-thread.thread c.loop-thread.pool.me c.clear_word.new.pool.me c.loop-thread.invariant.view c.clear_word.ensures.view;
}

pub returns-clause-swept : goal.returns-clause-swept
returns-clause-swept c = threads_clear (run_in c.args.shared.now) c.loop-thread.thread c.loop-thread.pool.me c.loop-thread.invariant.view (omega arith)
