use Rattle.pg_law_order.proofs.UnorderedPairs.{ordered_none}
use Rattle.pg_law_order.proofs.no_pair_where_ordered.Goals as goal

pub returns : goal.returns
returns c xs = ordered_none xs
