use Rattle.std.proofs.Common.{◌+◌, ◌-◌, ◌++◌, replicate, ap, ◌∙◌}
use Rattle.pg_check_constants.proofs.ByteLists.{zero_step, zeros_end}
use Rattle.pg_check_constants.proofs.bytes.add_zeros.Goals as goal

pub loop-place-preserved : goal.loop-place-preserved
loop-place-preserved c =
    ap (λ xs. xs ++ replicate (c.args.count - (c.loop-place.place + 1)) 0) c.in_ok-push.ensures.items
    ∙ zero_step c.loop-place.bytes.items c.args.count c.loop-place.place c.loop-place-test.true
    ∙ c.loop-place.invariant

pub returns : goal.returns
returns c = zeros_end c.loop-place.bytes.items c.args.count c.loop-place.place c.loop-place-test.false ∙ c.loop-place.invariant
