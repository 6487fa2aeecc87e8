use Rattle.std.proofs.Common.{rules, ap, ◌∙◌, FitsSigned, int_div}
use Rattle.std.specs.Int.{w128}
use Rattle.std.proofs.lemmas.Int.{quot_is}
use Rattle.pg_num.specs.Numbers.{residue}
use Rattle.pg_num.proofs.Quotients.{quotient_fits}
use Rattle.pg_num.proofs.division.signed_quotient.Goals as goal

pub returns-clause-value : goal.returns-clause-value
returns-clause-value c =
    let a = c.signed-dividend.result in
    let b = c.signed-divisor.result in
    let fq : FitsSigned w128 (int_div a b) = quotient_fits a b c.signed-dividend.ensures.low c.signed-dividend.ensures.high in
    rw (← c.signed-dividend.ensures.reading, ← c.signed-divisor.ensures.reading)
    (c.wrap.ensures.value ∙ ap (residue c.args.w) (quot_is w128 a b (search rules) (search rules) fq))
