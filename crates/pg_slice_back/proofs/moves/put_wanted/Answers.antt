use Rattle.std.specs.List.{AllByRecursion}
use Rattle.pg_law_demands.specs.Cells.{IsMet}
use Rattle.pg_law_demands.specs.Back.{of_value}
use Rattle.pg_slice_back.specs.declared.moves.Wanted.{Wanted}
use Rattle.pg_slice_back.proofs.NeedsBackOverSteps.{one_of_all}
use Rattle.pg_slice_back.proofs.moves.put_wanted.Goals as goal

pub loop-i-preserved : goal.loop-i-preserved
loop-i-preserved c = λ s m h.
    c.in_ok-put_value.ensures s (c.loop-i.invariant s m h)
    (one_of_all (λ (x : Wanted). AllByRecursion (IsMet s) (of_value c.args.at.thread.0 c.args.at.depth x.whole x.value)) c.args.wanted.now c.loop-i.i c.wanted_at-one.result c.wanted_at-one.ensures h)
