use Rattle.std.proofs.Common.{length}
use Rattle.pg_crew.specs.pg_worker.Standing.{run_in, table_in}
use Rattle.pg_room.proofs.SweptGranules.{closes, is_closed, may_rest}
use Rattle.pg_room.proofs.WrittenGranules.{all_marked}
use Rattle.pg_room.proofs.resting.rest.Goals as goal

pub close-requires-clause-view : goal.close-requires-clause-view
close-requires-clause-view c = closes (run_in c.args.run.shared) (length c.args.run.workers.items) c.gather_all.new.pool.me c.gather_all.ensures.view

pub clear_threads-requires-clause-view : goal.clear_threads-requires-clause-view
clear_threads-requires-clause-view c = is_closed (run_in c.args.run.shared) (length c.args.run.workers.items) c.gather_all.new.pool.me c.close.new.pool.me c.gather_all.ensures.view c.close.ensures.view

pub sweep-requires-clause-written : goal.sweep-requires-clause-written
sweep-requires-clause-written c = all_marked (run_in c.args.run.shared) (table_in c.args.run.shared) c.args.run.workers.items c.requires.ready.workers c.requires.ended c.gather_all.new.written.words.items
    c.gather_all.ensures.added c.args.run.laid.words.items c.requires.ready.laid c.gather_all.ensures.kept

pub rest-requires-clause-next : goal.rest-requires-clause-next
rest-requires-clause-next c = may_rest (run_in c.args.run.shared) c.sweep.new.pool.me c.sweep.ensures.swept
