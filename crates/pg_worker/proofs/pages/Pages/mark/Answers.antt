use Rattle.pg_worker.proofs.PageMarks.{mark_made, marks_kept}
use Rattle.pg_worker.proofs.pages.Pages.mark.Goals as goal

pub returns-clause-marked : goal.returns-clause-marked
returns-clause-marked c = mark_made c.args.at c.args.self.now.words.items c.start-page.result c.index_mut.result.now c.start-page.ensures.place c.args.self.now.wide c.start-page.ensures.value c.index_mut.ensures.value

pub returns-clause-kept : goal.returns-clause-kept
returns-clause-kept c = marks_kept c.args.at c.args.self.now.words.items c.start-page.result c.index_mut.result.now c.start-page.ensures.place c.args.self.now.wide c.start-page.ensures.value c.index_mut.ensures.value
