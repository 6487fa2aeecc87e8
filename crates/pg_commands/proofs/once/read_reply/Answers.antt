use Rattle.pg_commands.proofs.LongTexts.{long_text}
use Rattle.pg_commands.proofs.ShelfFaults.{is_err}
use Rattle.pg_commands.proofs.once.read_reply.Goals as goal

pub returns-in_ok-too_long_line-in-None-clause-reply : goal.returns-in_ok-too_long_line-in-None-clause-reply
returns-in_ok-too_long_line-in-None-clause-reply g c =
    long_text _ _ (c.in-Err.ensures.too_long (is_err _ _ c.in-None.ensures.too_long)) c.in_ok-too_long_line-in-None.ensures
