use Rattle.std.proofs.Common.{◌≡◌, drop}
use Rattle.pg_book.specs.Values.{ascend_from}
use Rattle.pg_book.proofs.values.ascend.Given as goal

abbrev pub invariant-loop-id : goal.invariant-loop-id
invariant-loop-id l = ascend_from l.least (drop l.id-index l.ids) ≡ ascend_from 0 l.ids
