use Rattle.std.proofs.Common.{refl, ap, ◌∙◌}
use Rattle.pg_check_rules.specs.Constants.{trimmed}
use Rattle.pg_check_constants.proofs.ByteLists.{trim_step, taken}
use Rattle.pg_check_constants.proofs.bytes.trimmed_length.Goals as goal

pub loop-place-preserved : goal.loop-place-preserved
loop-place-preserved c =
    trim_step c.args.bytes.now c.loop-place.place _ _ c.loop-place.length c.kept-length.result c.loop-place-test.true refl c.kept-length.ensures c.loop-place.invariant

pub returns : goal.returns
returns c = c.loop-place.invariant ∙ ap (λ xs. trimmed xs) (taken c.args.bytes.now c.loop-place.place c.loop-place-test.false)
