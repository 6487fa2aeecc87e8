use Rattle.pg_law_own_input.proofs.KnownIsTrue.{all_true}
use Rattle.pg_law_own_input.proofs.what_is_known_is_true.Goals as goal

pub returns : goal.returns
returns c = λ r o keeps d. all_true r d o keeps
