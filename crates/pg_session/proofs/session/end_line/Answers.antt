use Rattle.pg_session.proofs.SessionSteps.{answered_reply, cut_reply, on_any_err}
use Rattle.pg_session.proofs.session.end_line.Goals as goal

pub returns-in_err-write_all-clause-cut : goal.returns-in_err-write_all-clause-cut
returns-in_err-write_all-clause-cut g c = on_any_err _ (cut_reply _ _ _ _ _ _ _ _ _ _ _ _ c.deref.ensures.value c.deref-2.ensures.value c.in_ok-text.ensures.text c.in_err-write_all.ensures.cut)

pub returns-clause-answered : goal.returns-clause-answered
returns-clause-answered g c = answered_reply _ _ _ _ _ _ _ _ _ _ c.deref.ensures.value c.deref-2.ensures.value c.in_ok-text.ensures.text c.in_ok-write_all.ensures.written
