use Rattle.std.proofs.Common.{true}
use Rattle.pg_law_demands.specs.Cells.{IsMet}
use Rattle.pg_law_demands.specs.Back.{of_value, of_values}
use Rattle.pg_slice_back.specs.Made.{index_values}
use Rattle.pg_slice_back.proofs.NeedsBackOverSteps.{all_left, all_right}
use Rattle.pg_slice_back.proofs.moves.put_both.Goals as goal

pub returns : goal.returns
returns c = λ s m h.
    let t = c.args.at.thread.0 in
    let k = c.args.at.depth in
    let base = of_value t k true c.args.base in
    let rest = of_values t k (index_values c.args.indices.now) in
    c.in_ok-put_indices.ensures s (c.in_ok-put_value.ensures s m (all_left (IsMet s) base rest h)) (all_right (IsMet s) base rest h)
