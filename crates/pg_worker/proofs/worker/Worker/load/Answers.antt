use Rattle.std.proofs.Common.{◌∙◌, ap, refl}
use Rattle.pg_worker.specs.Standing.{run_in, table_in}
use Rattle.pg_worker.proofs.PlainSteps.{load_at, load_may, resumed_of}
use Rattle.pg_worker.proofs.worker.Worker.load.Goals as goal

pub load-number-requires-clause-next : goal.load-number-requires-clause-next
load-number-requires-clause-next c = load_may (run_in c.args.shared.now) (table_in c.args.shared.now)
    c.args.self.now c.requires.at c.requires.left c.requires.turn c.args.at c.requires.next c.requires.plain

pub returns-clause-at : goal.returns-clause-at
returns-clause-at c = load_at (run_in c.args.shared.now) (table_in c.args.shared.now)
    c.args.self.now c.requires.at c.requires.left c.requires.turn c.args.at c.requires.next c.requires.plain c.resume.new.self c.load-number.result c.load-number.ensures.value
    (resumed_of c.args.shared.now.program.now c.load-number.result c.args.self.now (record c.args.self.now { seat = c.load-number.new.seat }) c.resume.new.self refl c.resume.ensures.resumed)
    (ap (λ s. s.table_id) c.resume.ensures.seat ∙ c.load-number.ensures.own.0) (ap (λ s. s.me) c.resume.ensures.seat ∙ c.load-number.ensures.view)
