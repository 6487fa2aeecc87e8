use Rattle.pg_commands.proofs.TextVerdicts.{one_name, one_place}
use Rattle.pg_commands.proofs.laws.a_text_is_refused_in_one_way.Goals as goal

pub returns-clause-name : goal.returns-clause-name
returns-clause-name c = one_name

pub returns-clause-place : goal.returns-clause-place
returns-clause-place c = one_place
