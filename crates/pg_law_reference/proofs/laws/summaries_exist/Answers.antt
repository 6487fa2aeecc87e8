use Rattle.pg_law_reference.proofs.SummariesExist.{summaries}
use Rattle.pg_law_reference.proofs.laws.summaries_exist.Goals as goal

pub returns : goal.returns
returns c p gated program = summaries p program gated
