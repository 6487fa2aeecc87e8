use Rattle.std.proofs.Common.{◌≡◌, ◌≤◌, ◌-◌, ◌+◌, vec_len}
use Rattle.std.specs.Io.KnownBytes.{Consumes}
use Rattle.pg_io.proofs.files.read_whole.Given as goal

abbrev pub invariant-reads : goal.invariant-reads
invariant-reads g l = record {
  within : vec_len l.bytes ≤ l.limit + 1;
  given : Consumes (g.F.Read.remaining l.fn.file) (g.F.Read.remaining l.file) l.bytes.items;
}

abbrev pub decreases-reads : goal.decreases-reads
decreases-reads g l = l.limit + 1 - vec_len l.bytes
