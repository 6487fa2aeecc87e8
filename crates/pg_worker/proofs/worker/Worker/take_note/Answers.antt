use Rattle.std.proofs.Common.{◌∙◌, ap, refl}
use Rattle.pg_seats.specs.Views.{seen_of}
use Rattle.pg_worker.specs.Standing.{looks_of, noted_in, run_in, table_in}
use Rattle.pg_worker.proofs.FirstWorkers.{take_may, told_at, told_looks, told_seen}
use Rattle.pg_worker.proofs.worker.Worker.take_note.Goals as goal

pub take_note-requires-clause-bare : goal.take_note-requires-clause-bare
take_note-requires-clause-bare c = ap (λ m. m.1) c.requires.note

pub take_note-requires-clause-view : goal.take_note-requires-clause-view
take_note-requires-clause-view c = take_may (run_in c.args.shared.now) (table_in c.args.shared.now) c.args.self.now c.requires.at c.args.note.me.0 (noted_in c.args.note.me.0) (ap (λ m. m.0) c.requires.note)

pub returns-clause-at : goal.returns-clause-at
returns-clause-at c = told_at (run_in c.args.shared.now) (table_in c.args.shared.now) c.args.self.now (record c.args.self.now { seat = c.take_note.new.seat }) c.requires.at refl c.take_note.ensures.own.0
    c.args.note.me.0 (noted_in c.args.note.me.0) (ap (λ m. m.0) c.requires.note) c.take_note.ensures.view

pub returns-clause-seen : goal.returns-clause-seen
returns-clause-seen c = ap (λ m. seen_of m.0) c.take_note.ensures.view
    ∙ told_seen (run_in c.args.shared.now) (table_in c.args.shared.now) c.args.self.now c.requires.at c.args.note.me.0 (noted_in c.args.note.me.0) (ap (λ m. m.0) c.requires.note)

pub returns-clause-looks : goal.returns-clause-looks
returns-clause-looks c = ap (λ m. looks_of m.0) c.take_note.ensures.view
    ∙ told_looks (run_in c.args.shared.now) (table_in c.args.shared.now) c.args.self.now c.requires.at c.args.note.me.0 (noted_in c.args.note.me.0) (ap (λ m. m.0) c.requires.note)
