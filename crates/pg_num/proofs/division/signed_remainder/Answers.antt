use Rattle.std.proofs.Common.{rules, ap, ◌∙◌, FitsSigned}
use Rattle.std.specs.Int.{w128}
use Rattle.std.proofs.lemmas.Int.{rem_is}
use Rattle.pg_num.specs.Numbers.{residue}
use Rattle.pg_num.proofs.division.signed_remainder.Goals as goal

pub returns-clause-value : goal.returns-clause-value
returns-clause-value c =
    let a = c.signed-dividend.result in
    let b = c.signed-divisor.result in
    rw (← c.signed-dividend.ensures.reading, ← c.signed-divisor.ensures.reading)
    (c.wrap.ensures.value ∙ ap (residue c.args.w) (rem_is w128 a b (search rules) (search rules)))
