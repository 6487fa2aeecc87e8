use Rattle.pg_book.proofs.RangedEntries.{all, one_more}
use Rattle.pg_book.proofs.ranges.are_ranged.Goals as goal

pub loop-place-preserved : goal.loop-place-preserved
loop-place-preserved g c = one_more g.T.Ranged.range _ _ _ _ c.loop-place-test.true c.index-items-place.is c.loop-place.invariant c.is_ranged.ensures

pub returns : goal.returns
returns g c = all g.T.Ranged.range _ c.loop-place.place c.loop-place-test.false c.loop-place.invariant
