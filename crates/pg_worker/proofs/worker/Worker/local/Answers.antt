use Rattle.pg_worker.specs.Standing.{run_in, table_in}
use Rattle.pg_worker.proofs.PlainSteps.{local_at}
use Rattle.pg_worker.proofs.worker.Worker.local.Goals as goal

pub returns-clause-at : goal.returns-clause-at
returns-clause-at c = local_at (run_in c.args.shared.now) (table_in c.args.shared.now) c.args.self.now
    c.requires.at c.requires.left c.requires.turn c.requires.next c.resume.new.self c.resume.ensures.resumed c.resume.ensures.seat
