use Rattle.std.proofs.Common.{arith}
use Rattle.pg_worker.proofs.AddedMarks.{all_added, none_added, one_added}
use Rattle.pg_worker.proofs.PageMarks.{word_there}
use Rattle.pg_worker.proofs.pages.Pages.add.Goals as goal

pub loop-index-init : goal.loop-index-init
loop-index-init c = none_added c.args.self.now.words.items c.args.other.now.words.items c.args.self.now.wide

pub loop-index-preserved : goal.loop-index-preserved
loop-index-preserved c =
    let w = c.loop-index.invariant.wide in
    one_added c.args.self.now.words.items c.args.other.now.words.items c.loop-index.index c.loop-index.self.words.items c.loop-index.invariant (omega arith) c.index_mut.result.now c.word.result
    (word_there c.loop-index.self.words.items c.loop-index.index c.index_mut.result.now (omega (arith, w)) c.index_mut.ensures.value) c.word.ensures

pub returns-clause-kept : goal.returns-clause-kept
returns-clause-kept c = c.loop-index.invariant.kept

pub returns-clause-added : goal.returns-clause-added
returns-clause-added c = (let w = c.args.other.now.wide in
    all_added c.args.self.now.words.items c.args.other.now.words.items c.loop-index.index c.loop-index.self.words.items c.loop-index.invariant (omega (arith, w)))
