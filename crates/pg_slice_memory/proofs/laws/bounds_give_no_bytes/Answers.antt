use Rattle.pg_slice_memory.proofs.KnownAfterChanges.{bounded_stored}
use Rattle.pg_slice_memory.proofs.laws.bounds_give_no_bytes.Goals as goal

pub returns : goal.returns
returns c = λ r f x bytes. bounded_stored r f x bytes
