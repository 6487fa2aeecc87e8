use Rattle.pg_read_grammar.proofs.SplitLaws.{some_split, blocks_are}
use Rattle.pg_read_grammar.proofs.laws.parts_are_split_in_one_way.Goals as goal

pub returns-clause-some : goal.returns-clause-some
returns-clause-some c = some_split

pub returns-clause-same : goal.returns-clause-same
returns-clause-same c = blocks_are
