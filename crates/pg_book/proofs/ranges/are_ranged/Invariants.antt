use Rattle.std.specs.Prelude.{All, take}
use Rattle.pg_book.proofs.ranges.are_ranged.Given as goal

abbrev pub invariant-loop-place : goal.invariant-loop-place
invariant-loop-place g l = All g.T.Ranged.range (take l.place l.items)
