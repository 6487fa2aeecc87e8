use Rattle.std.proofs.Common.{true}
use Rattle.pg_law_demands.specs.Cells.{IsMet}
use Rattle.pg_law_demands.specs.Back.{of_value}
use Rattle.pg_slice_back.specs.Made.{index_values}
use Rattle.pg_slice_back.proofs.NeedsBackOverSteps.{each_of}
use Rattle.pg_slice_back.proofs.moves.put_indices.Goals as goal

pub loop-i-preserved : goal.loop-i-preserved
loop-i-preserved c = λ s m h.
    c.in_ok-put_value.ensures s (c.loop-i.invariant s m h)
    (each_of (of_value c.args.at.thread.0 c.args.at.depth true) (IsMet s) (index_values c.args.indices.now) c.loop-i.i c.index_at.result c.index_at.ensures h)
