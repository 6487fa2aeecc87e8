use Rattle.pg_commands.proofs.LongTexts.{too_long_is_refused}
use Rattle.pg_commands.proofs.programs.too_long_line.Goals as goal

pub returns : goal.returns
returns c = λ text long. too_long_is_refused text _ long c.in_ok-line.ensures
