use Rattle.pg_commands.proofs.TextVerdicts.{accepted_or_refused, not_refused}
use Rattle.pg_commands.proofs.laws.a_text_is_accepted_or_refused.Goals as goal

pub returns-clause-some : goal.returns-clause-some
returns-clause-some c = accepted_or_refused

pub returns-clause-apart : goal.returns-clause-apart
returns-clause-apart c = not_refused
