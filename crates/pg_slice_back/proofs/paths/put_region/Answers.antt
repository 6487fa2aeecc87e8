use Rattle.std.proofs.Common.{Option, subst}
use Rattle.std.specs.List.{AllByRecursion}
use Rattle.pg_slice_rules.specs.Freeable.{FreeRegion}
use Rattle.pg_law_demands.specs.Cells.{IsMet}
use Rattle.pg_law_demands.specs.Demands.{region_demands}
use Rattle.pg_slice_back.proofs.RegionPathNeeds.{region_there}
use Rattle.pg_slice_back.proofs.paths.put_region.Goals as goal

pub loop-k-preserved : goal.loop-k-preserved
loop-k-preserved c = λ l q s y e f th dp h m. c.in_ok-put_one.ensures l q s y e f th dp h (c.loop-k.invariant l q s y e f th dp h m)

pub returns : goal.returns
returns c = λ l s y e th dp h m.
    let q = region_there _ l c.is_free.result e c.if-not-is_free.false c.is_free.ensures.free in
    c.loop-k.invariant l q.0 s y e q.1 th dp (subst (λ (o : Option FreeRegion). AllByRecursion (IsMet s) (region_demands y o)) q.1 h) m
