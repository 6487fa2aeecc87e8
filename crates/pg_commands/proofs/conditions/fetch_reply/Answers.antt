use Rattle.pg_commands.proofs.conditions.fetch_reply.Goals as goal

pub returns-in_ok-conditions_text-in-Accepted-clause-rounds : goal.returns-in_ok-conditions_text-in-Accepted-clause-rounds
returns-in_ok-conditions_text-in-Accepted-clause-rounds g c = λ _. c.in_ok-conditions_text-in-Accepted.ensures.rounds

pub returns-in-Refused-clause-rounds : goal.returns-in-Refused-clause-rounds
returns-in-Refused-clause-rounds g c = λ e. absurd cc
