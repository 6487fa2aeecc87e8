use Rattle.std.proofs.Common.{arith}
use Rattle.pg_worker.specs.Standing.{run_in, table_in}
use Rattle.pg_crew.proofs.WorkerLists.{going_all, going_more, going_none}
use Rattle.pg_crew.proofs.one_by_one.in_turn.Goals as goal

pub go_on-requires-clause-at : goal.go_on-requires-clause-at
go_on-requires-clause-at g c = c.loop-i.invariant.workers.at c.loop-i.i _ (omega arith)

pub loop-i-init : goal.loop-i-init
loop-i-init g c = going_none (run_in c.args.shared.now) (table_in c.args.shared.now) c.args.workers.now c.requires.workers

pub loop-i-preserved : goal.loop-i-preserved
loop-i-preserved g c = going_more (run_in c.args.shared.now) (table_in c.args.shared.now) c.args.workers.now c.loop-i.workers c.loop-i.i c.loop-i.invariant (omega arith) c.go_on.new.worker _
    c.go_on.ensures.at c.go_on.ensures.gone

pub returns-clause-gone : goal.returns-clause-gone
returns-clause-gone g c = going_all (run_in c.args.shared.now) (table_in c.args.shared.now) c.args.workers.now c.loop-i.workers c.loop-i.i c.loop-i.invariant (omega (arith, c.loop-i-test.false))
