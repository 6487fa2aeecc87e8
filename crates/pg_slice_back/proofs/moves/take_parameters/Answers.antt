use Rattle.pg_slice_back.proofs.NeedsBackOverSteps.{less_met, less_then}
use Rattle.pg_slice_back.proofs.moves.take_parameters.Goals as goal

pub loop-i-preserved : goal.loop-i-preserved
loop-i-preserved c =
    let v = c.loop-i.invariant in
    let e = c.in_ok-take_parameter.ensures in (
      less_then c.args.demanded.now c.loop-i.demanded c.take_parameter.new.demanded v.0 e.less,
      λ after before m f. e.wanted after before (less_met after c.args.demanded.now c.loop-i.demanded v.0 m) (λ b g. f c.loop-i.i c.value_at.result b c.value_at.ensures g) (v.1 after before m f),
    )
