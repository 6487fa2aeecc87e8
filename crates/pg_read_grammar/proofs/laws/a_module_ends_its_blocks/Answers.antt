use Rattle.pg_read_grammar.proofs.EndingLaws.{module_ends}
use Rattle.pg_read_grammar.proofs.laws.a_module_ends_its_blocks.Goals as goal

pub returns : goal.returns
returns c = module_ends
