use Rattle.std.proofs.Common.{refl}
use Rattle.pg_worker.specs.Standing.{run_in, table_in}
use Rattle.pg_worker.proofs.FirstWorkers.{first_at}
use Rattle.pg_worker.proofs.unseated.Unseated.seated.Goals as goal

pub returns-clause-at : goal.returns-clause-at
returns-clause-at c = first_at (run_in c.args.shared.now) (table_in c.args.shared.now) _ c.requires.enforced c.requires.own c.requires.view c.requires.thread.fiber c.requires.thread.of refl
    c.requires.thread.turns refl c.requires.thread.none c.requires.thread.room refl
