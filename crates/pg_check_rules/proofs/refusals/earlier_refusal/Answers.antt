use Rattle.std.proofs.Common.{Some, subst}
use Rattle.pg_check_rules.specs.Earliest.{IsFirstIn}
use Rattle.pg_check_rules.proofs.FirstRefusals.{front_none, back_none, one_first, other_first}
use Rattle.pg_check_rules.proofs.refusals.earlier_refusal.Goals as goal

pub returns-in-None-default : goal.returns-in-None-default
returns-in-None-default c = λ p q f g. front_none p q c.args.other (subst (λ o. IsFirstIn p o) c.in-None-default.is-0 f) g

pub returns-in-Some-None : goal.returns-in-Some-None
returns-in-Some-None c = λ p q f g.
    back_none p q (Some c.in-Some-None.one) (subst (λ o. IsFirstIn p o) c.in-Some-None.is-0 f) (subst (λ o. IsFirstIn q o) c.in-Some-None.is-1 g)

pub returns-then-counts_before : goal.returns-then-counts_before
returns-then-counts_before c = λ p q f g.
    other_first p q c.in-Some-Some.one c.in-Some-Some.other (subst (λ o. IsFirstIn p o) c.in-Some-Some.is-0 f) (subst (λ o. IsFirstIn q o) c.in-Some-Some.is-1 g)
    (c.counts_before.ensures.yes c.if-counts_before.true)

pub returns-else-counts_before : goal.returns-else-counts_before
returns-else-counts_before c = λ p q f g.
    one_first p q c.in-Some-Some.one c.in-Some-Some.other (subst (λ o. IsFirstIn p o) c.in-Some-Some.is-0 f) (subst (λ o. IsFirstIn q o) c.in-Some-Some.is-1 g)
    (c.counts_before.ensures.no c.if-counts_before.false)
