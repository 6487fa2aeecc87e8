use Rattle.pg_law_order.proofs.GoodRunsServe.{follows}
use Rattle.pg_law_order.proofs.served.what_is_served_does_not_stray.Goals as goal

pub returns-clause-end : goal.returns-clause-end
returns-clause-end c p input s h = h.arrives

pub returns-clause-follows : goal.returns-clause-follows
returns-clause-follows c p input s h k = follows p input s h k
