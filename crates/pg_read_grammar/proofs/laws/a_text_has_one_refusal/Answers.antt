use Rattle.pg_read_grammar.proofs.TextLaws.{first_once}
use Rattle.pg_read_grammar.proofs.laws.a_text_has_one_refusal.Goals as goal

pub returns : goal.returns
returns c = first_once
