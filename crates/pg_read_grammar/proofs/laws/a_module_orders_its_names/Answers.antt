use Rattle.pg_read_grammar.proofs.NameLaws.{module_ascends}
use Rattle.pg_read_grammar.proofs.laws.a_module_orders_its_names.Goals as goal

pub returns : goal.returns
returns c = module_ascends
