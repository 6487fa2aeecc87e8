use Rattle.pg_session_book.proofs.SavedEntries.{saved_all, saved_step}
use Rattle.pg_session_book.proofs.saving.book_of.Goals as goal

pub held-preserved : goal.held-preserved
held-preserved c =
    saved_step _ _ _ c.args.kept.now.values c.held.place _ _ _ c.values-held.ensures c.held-test.true c.index-held-place.is c.in_ok-entry.ensures c.in_ok-push.ensures.items c.held.invariant

pub returns : goal.returns
returns c = saved_all _ _ c.args.kept.now.values c.held.place c.values-held.ensures c.held-test.false c.held.invariant
