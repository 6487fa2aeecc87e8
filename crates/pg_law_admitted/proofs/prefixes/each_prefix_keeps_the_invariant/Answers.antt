use Rattle.pg_law_admitted.proofs.GuidedPrefixes.{prefix_keeps}
use Rattle.pg_law_admitted.proofs.prefixes.each_prefix_keeps_the_invariant.Goals as goal

pub returns : goal.returns
returns c p recorded input s sums regions xs d front rest z k q is run = prefix_keeps p recorded input s sums regions xs d k q front rest z is run
