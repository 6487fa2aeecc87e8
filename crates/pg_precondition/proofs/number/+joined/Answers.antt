use Rattle.pg_precondition.proofs.JoinedBytes.{bound_next}
use Rattle.pg_precondition.proofs.number.+joined.Goals as goal

pub returns-clause-bound : goal.returns-clause-bound
returns-clause-bound t c = bound_next c.in_ok-rest.rest c.in_ok-byte.byte c.args.count c.if-count-eq0.false c.in_ok-rest.ensures.bound
