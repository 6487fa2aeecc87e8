use Rattle.pg_worker.proofs.AddedMarks.{AreAdded}
use Rattle.pg_worker.proofs.pages.Pages.add.Given as goal

abbrev pub invariant-loop-index : goal.invariant-loop-index
invariant-loop-index l = AreAdded l.fn.self.words.items l.other.words.items l.index l.self.words.items
