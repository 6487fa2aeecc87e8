use Rattle.std.proofs.Common.{◌+◌, ◌-◌, ◌/◌, ◌++◌, refl, ap, ◌∙◌}
use Rattle.pg_check_rules.specs.Constants.{little_endian}
use Rattle.pg_check_constants.proofs.ByteLists.{byte_step, bytes_end}
use Rattle.pg_check_constants.proofs.bytes.add_little_endian.Goals as goal

pub loop-place-preserved : goal.loop-place-preserved
loop-place-preserved c =
    ap (λ xs. xs ++ little_endian (c.args.count - (c.loop-place.place + 1)) (c.loop-place.rest / 256)) c.in_ok-push.ensures.items
    ∙ byte_step c.loop-place.bytes.items c.args.count c.loop-place.place c.loop-place.rest _ c.loop-place-test.true refl
    ∙ c.loop-place.invariant

pub returns : goal.returns
returns c = bytes_end c.loop-place.bytes.items c.args.count c.loop-place.place c.loop-place.rest c.loop-place-test.false ∙ c.loop-place.invariant
