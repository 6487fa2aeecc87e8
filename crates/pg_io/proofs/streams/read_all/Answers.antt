-- Where there is no memory for the bytes of a read, those were taken too.
use Rattle.std.proofs.Common.{◌++◌, take, arith}
use Rattle.std.proofs.lemmas.Grind.{common_steps}
use Rattle.pg_io.proofs.Known.{consumes-append}
use Rattle.pg_io.proofs.streams.read_all.Goals as goal

pub returns-then-is_err-clause-takes : goal.returns-then-is_err-clause-takes
returns-then-is_err-clause-takes g c = (
  c.reads.bytes.items ++ take c.in-Ok.n c.read.new.buf,
  consumes-append _ _ _ _ _ c.reads.invariant.taken c.in-Ok.ensures.takes,
  grind (arith, common_steps, c.in-Ok.ensures.bound),
)
