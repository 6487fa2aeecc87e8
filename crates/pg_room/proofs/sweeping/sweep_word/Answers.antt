use Rattle.std.proofs.Common.{◌∙◌, sym}
use Rattle.pg_crew.specs.pg_worker.Standing.{run_in}
use Rattle.pg_room.proofs.SweptGranules.{word_passed}
use Rattle.pg_room.proofs.sweeping.sweep_word.Goals as goal

pub returns-then-marks-eq0-clause-swept : goal.returns-then-marks-eq0-clause-swept
returns-then-marks-eq0-clause-swept c = word_passed (run_in c.args.shared.now) c.args.index c.args.pool.now.me c.args.written.now.words.items c.requires.written c.requires.inside (sym c.if-marks-eq0.true ∙ c.word-marks.ensures)
    c.requires.before
