use Rattle.std.proofs.Common.{◌∙◌, ap, refl}
use Rattle.pg_worker.specs.Standing.{run_in, table_in}
use Rattle.pg_worker.proofs.PlainSteps.{marked_at, resumed_of, store_at, store_may, store_small, took_marked}
use Rattle.pg_worker.proofs.worker.Worker.store.Goals as goal

pub store-requires-clause-small : goal.store-requires-clause-small
store-requires-clause-small c = store_small (run_in c.args.shared.now) (table_in c.args.shared.now)
    c.args.self.now c.requires.at c.requires.left c.requires.turn c.args.at c.args.number c.requires.next c.requires.plain

pub store-requires-clause-next : goal.store-requires-clause-next
store-requires-clause-next c = store_may (run_in c.args.shared.now) (table_in c.args.shared.now)
    c.args.self.now c.requires.at c.requires.left c.requires.turn c.args.at c.args.number c.requires.next c.requires.plain

pub returns-clause-at : goal.returns-clause-at
returns-clause-at c =
    let marked = marked_at (run_in c.args.shared.now) (table_in c.args.shared.now) 0 c.args.self.now (record c.args.self.now { pages = c.mark.new.self }) c.requires.at refl c.mark.ensures.kept in
    store_at (run_in c.args.shared.now) (table_in c.args.shared.now)
    (record c.args.self.now { pages = c.mark.new.self }) marked c.requires.left c.requires.turn c.args.at c.args.number c.requires.next c.requires.plain (c.mark.ensures.place, c.mark.ensures.marked) c.resume.new.self
    (resumed_of c.args.shared.now.program.now 0 (record c.args.self.now { pages = c.mark.new.self }) (record c.args.self.now { pages = c.mark.new.self; seat = c.store.new.seat }) c.resume.new.self refl c.resume.ensures.resumed)
    (ap (λ s. s.table_id) c.resume.ensures.seat ∙ c.store.ensures.own.0) (ap (λ s. s.me) c.resume.ensures.seat ∙ c.store.ensures.view)

pub returns-clause-took : goal.returns-clause-took
returns-clause-took c = took_marked c.args.shared.now.program.now 0 c.args.self.now (record c.args.self.now { pages = c.mark.new.self }) c.resume.new.self refl
    (resumed_of c.args.shared.now.program.now 0 (record c.args.self.now { pages = c.mark.new.self }) (record c.args.self.now { pages = c.mark.new.self; seat = c.store.new.seat }) c.resume.new.self refl c.resume.ensures.resumed)
    (ap (λ s. s.me) c.resume.ensures.seat ∙ c.store.ensures.view)
