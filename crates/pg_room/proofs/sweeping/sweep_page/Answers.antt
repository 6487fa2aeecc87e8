use Rattle.std.proofs.Common.{◌∙◌, sym}
use Rattle.pg_crew.specs.pg_worker.Standing.{run_in}
use Rattle.pg_room.proofs.SweptGranules.{page_passed}
use Rattle.pg_room.proofs.sweeping.sweep_page.Goals as goal

pub returns-then-not-marked-clause-swept : goal.returns-then-not-marked-clause-swept
returns-then-not-marked-clause-swept c = page_passed (run_in c.args.shared.now) c.args.page c.args.pool.now.me c.args.written.now.words.items c.requires.written c.requires.inside (sym c.has-marked.ensures ∙ c.if-not-marked.true) c.requires.before
