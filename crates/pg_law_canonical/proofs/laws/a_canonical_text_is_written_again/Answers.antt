use Rattle.pg_law_canonical.proofs.CanonicalIsFixed.{written_again}
use Rattle.pg_law_canonical.proofs.laws.a_canonical_text_is_written_again.Goals as goal

pub returns : goal.returns
returns c = written_again
