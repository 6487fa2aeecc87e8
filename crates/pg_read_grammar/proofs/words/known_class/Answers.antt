use Rattle.pg_read_grammar.specs.Words.{words}
use Rattle.pg_read_grammar.proofs.words.known_class.Goals as goal

pub returns : goal.returns
unfolding words
returns c = c.find_class.ensures
