use Rattle.std.proofs.Common.{arith}
use Rattle.pg_law_threads.proofs.EventChains.{chained, ordered_of_chained}
use Rattle.pg_law_threads.proofs.ordered_steps_have_chains.Goals as goal

pub returns : goal.returns
returns c V turns xs a = ((λ o. chained V turns 0 xs (omega arith) a o), (λ h. ordered_of_chained V turns 0 xs (omega arith) a h))
