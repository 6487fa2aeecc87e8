use Rattle.pg_read_grammar.proofs.TextLaws.{module_once}
use Rattle.pg_read_grammar.proofs.laws.a_text_is_one_module.Goals as goal

pub returns : goal.returns
returns c = module_once
