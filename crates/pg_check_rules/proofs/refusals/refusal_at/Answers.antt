use Rattle.std.proofs.Common.{sym, ◌∙◌}
use Rattle.pg_check_rules.proofs.FirstRefusals.{kind_first, kind_none}
use Rattle.pg_check_rules.proofs.refusals.refusal_at.Goals as goal

pub returns-in-Some : goal.returns-in-Some
returns-in-Some c = λ places e. kind_first c.args.kind places c.in-Some.span (sym e ∙ c.in-Some.is)

pub returns-in-None : goal.returns-in-None
returns-in-None c = λ places e. kind_none c.args.kind places (sym e ∙ c.in-None.is)
