use Rattle.std.proofs.Common.{arith}
use Rattle.pg_test_seats.proofs.workers.go_on.Goals as goal

pub note-known-requires-clause-within : goal.note-known-requires-clause-within
note-known-requires-clause-within g c = c.requires.workers.main

pub take-requires-clause-within : goal.take-requires-clause-within
take-requires-clause-within g c = (let n = c.note-known.auto.workers in let w = c.requires.within in omega (arith, n, w))

pub segment-requires-clause-within : goal.segment-requires-clause-within
segment-requires-clause-within g c = (let n = c.note-known.auto.workers in let m = c.take.auto.workers in let w = c.requires.within in omega (arith, n, m, w))
