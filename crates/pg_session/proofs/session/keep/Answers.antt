use Rattle.std.proofs.Common.{◌∙◌, arith}
use Rattle.pg_session.proofs.SessionSteps.{keep_long, keep_short}
use Rattle.pg_session.proofs.session.keep.Goals as goal

pub returns-in_ok-push : goal.returns-in_ok-push
returns-in_ok-push c = c.in_ok-push.ensures.items ∙ keep_short _ c.args.byte (omega arith)

pub returns-else-len-le-LINE_LIMIT : goal.returns-else-len-le-LINE_LIMIT
returns-else-len-le-LINE_LIMIT c = keep_long _ c.args.byte (omega arith) (omega arith)
