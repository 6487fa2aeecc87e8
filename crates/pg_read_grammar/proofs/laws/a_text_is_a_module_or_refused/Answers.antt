use Rattle.pg_read_grammar.proofs.TextLaws.{module_or_first, first_not_module}
use Rattle.pg_read_grammar.proofs.laws.a_text_is_a_module_or_refused.Goals as goal

pub returns-clause-some : goal.returns-clause-some
returns-clause-some c = module_or_first

pub returns-clause-apart : goal.returns-clause-apart
returns-clause-apart c = first_not_module
