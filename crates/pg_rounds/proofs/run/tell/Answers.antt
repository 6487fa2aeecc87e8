use Rattle.std.proofs.Common.{◌∙◌, [], sym, ap}
use Rattle.pg_room.specs.pg_seats.declared.run.View.TheVariants.{Note}
use Rattle.pg_room.specs.pg_worker.Standing.{noted_in, run_in, table_in}
use Rattle.pg_rounds.proofs.Notes.{noting_are, to_within, told_are, told_is, told_knows}
use Rattle.pg_rounds.proofs.run.tell.Goals as goal

pub take_note-requires-clause-at : goal.take_note-requires-clause-at
take_note-requires-clause-at c = (noting_are (run_in c.args.shared.now) (table_in c.args.shared.now) c.args.workers.now c.requires.workers c.args.from c.args.to c.requires.within.0 c.requires.within.1 c.requires.apart
    c.note-told.new.self c.note-told.new.self _ c.note-told.new.self c.note-told.ensures.same c.note-told.ensures.at).at c.args.to _
    (to_within (run_in c.args.shared.now) (table_in c.args.shared.now) c.args.workers.now c.requires.workers c.args.from c.args.to c.requires.within.0 c.requires.within.1 c.requires.apart
    c.note-told.new.self c.note-told.new.self _ c.note-told.new.self c.note-told.ensures.same c.note-told.ensures.at)

pub take_note-requires-clause-own : goal.take_note-requires-clause-own
take_note-requires-clause-own c = c.note-told.ensures.given.0

pub take_note-requires-clause-note : goal.take_note-requires-clause-note
take_note-requires-clause-note c = c.note-told.ensures.given.1 ∙ ap (λ n. (Note (run_in c.args.shared.now) n, [])) (sym (ap (λ m. noted_in m.0) c.note-told.ensures.given.1))

pub returns-clause-workers : goal.returns-clause-workers
returns-clause-workers c = told_are (run_in c.args.shared.now) (table_in c.args.shared.now) c.args.workers.now c.requires.workers c.args.from c.args.to c.requires.within.0 c.requires.within.1 c.requires.apart
    c.note-told.new.self c.take_note.new.self _ _ c.note-told.ensures.same c.note-told.ensures.at c.take_note.ensures.same c.take_note.ensures.at

pub returns-clause-told : goal.returns-clause-told
returns-clause-told c = told_is (run_in c.args.shared.now) (table_in c.args.shared.now) c.args.workers.now c.requires.workers c.args.from c.args.to c.requires.within.0 c.requires.within.1 c.requires.apart
    c.note-told.new.self c.take_note.new.self _ _ c.note-told.ensures.same c.note-told.ensures.at c.take_note.ensures.same c.take_note.ensures.at

pub returns-clause-knows : goal.returns-clause-knows
returns-clause-knows c = told_knows (run_in c.args.shared.now) (table_in c.args.shared.now) c.args.workers.now c.requires.workers c.args.from c.args.to c.requires.within.0 c.requires.within.1 c.requires.apart
    c.note-told.new.self c.take_note.new.self _ _ c.note-told.ensures.same c.note-told.ensures.at c.take_note.ensures.same c.take_note.ensures.at
    (noted_in c.note-told.result.me.0) c.take_note.ensures.seen (ap (λ m. noted_in m.0) c.note-told.ensures.given.1)
