use Rattle.pg_slice_values.proofs.Widths.{casts_fit}
use Rattle.pg_slice_values.proofs.laws.casts_fit.Goals as goal

pub returns : goal.returns
returns c p types gives given o h = casts_fit p types gives given o h
