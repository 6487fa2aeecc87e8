use Rattle.pg_law_threads.proofs.CutCounts.{cut_marked, marked_counts}
use Rattle.pg_law_threads.proofs.cuts_are_counts.Goals as goal

pub returns-clause-these : goal.returns-clause-these
returns-clause-these c V counts xs = cut_marked V counts xs

pub returns-clause-all : goal.returns-clause-all
returns-clause-all c V marks h = marked_counts V marks h
