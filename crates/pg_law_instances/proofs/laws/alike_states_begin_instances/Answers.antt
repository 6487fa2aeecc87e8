use Rattle.pg_law_instances.proofs.AlikePaths.{alike_begins}
use Rattle.pg_law_instances.proofs.laws.alike_states_begin_instances.Goals as goal

pub returns : goal.returns
returns c = λ p gated sums r q m s l f fs x h. alike_begins p gated sums r q m s l f fs x h
