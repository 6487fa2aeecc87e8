use Rattle.std.proofs.Common.{◌∙◌, sym, rules}
use Rattle.pg_rounds.proofs.Merges.{number_none, number_some, rest_add, rest_none}
use Rattle.pg_rounds.proofs.merge.Reader.next.Goals as goal

pub returns-in-None-clause-number : goal.returns-in-None-clause-number
returns-in-None-clause-number c = sym (number_none c.args.self.now.workers.now c.args.self.now.read c.args.thread.0 (sym c.peek.ensures.number ∙ c.in-None.is))

pub returns-in-None-clause-rest : goal.returns-in-None-clause-rest
returns-in-None-clause-rest c = rest_none c.args.self.now.workers.now c.args.self.now.read c.args.thread.0 (sym c.peek.ensures.number ∙ c.in-None.is)

pub returns-in-Some-clause-number : goal.returns-in-Some-clause-number
returns-in-Some-clause-number c = sym (number_some c.args.self.now.workers.now c.args.self.now.read c.args.thread.0 c.in-Some.number (sym c.peek.ensures.number ∙ c.in-Some.is))

pub returns-in-Some-clause-rest : goal.returns-in-Some-clause-rest
returns-in-Some-clause-rest c = rest_add c.args.self.now.workers.now c.args.self.now.read c.args.thread.0 _ (search rules) (λ u ne. search rules)
