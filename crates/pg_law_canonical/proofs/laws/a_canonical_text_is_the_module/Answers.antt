use Rattle.pg_law_canonical.proofs.RoundTrip.{round_trip}
use Rattle.pg_law_canonical.proofs.laws.a_canonical_text_is_the_module.Goals as goal

pub returns : goal.returns
returns c = round_trip
