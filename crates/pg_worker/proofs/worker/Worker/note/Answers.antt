use Rattle.std.proofs.Common.{◌∙◌, [], ap, refl}
use Rattle.pg_worker.specs.Standing.{run_in, table_in}
use Rattle.pg_worker.proofs.FirstWorkers.{looks_may, note_is, noted_at}
use Rattle.pg_worker.proofs.worker.Worker.note.Goals as goal

pub note-requires-clause-view : goal.note-requires-clause-view
note-requires-clause-view c = looks_may (run_in c.args.shared.now) (table_in c.args.shared.now) c.args.self.now c.requires.at

pub returns-clause-at : goal.returns-clause-at
returns-clause-at c = noted_at (run_in c.args.shared.now) (table_in c.args.shared.now) c.args.self.now (record c.args.self.now { seat = c.note.new.seat }) c.requires.at refl c.note.ensures.own.0 c.note.ensures.view

pub returns-clause-given : goal.returns-clause-given
returns-clause-given c = (c.note.ensures.given.0 ∙ c.requires.at.own, c.note.ensures.given.1 ∙ ap (λ v. (v, [])) (note_is (run_in c.args.shared.now) (table_in c.args.shared.now) c.args.self.now c.requires.at))
