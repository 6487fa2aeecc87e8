use Rattle.pg_session_runner.proofs.TestedSessions.{alone, answer_at, one_text, parts, stays}
use Rattle.pg_session_runner.proofs.laws.a_tested_session_answers_each_line_alone.Goals as goal

pub returns-clause-stays : goal.returns-clause-stays
returns-clause-stays c p first kept inputs answers h = stays p first inputs answers kept h

pub returns-clause-answers : goal.returns-clause-answers
returns-clause-answers c p first kept inputs answers h line input answer i j = answer_at p first inputs answers kept h line input answer i j

pub returns-clause-alone : goal.returns-clause-alone
returns-clause-alone c p first kept last inputs others answers replies h g line place input i j = alone p first inputs others answers replies kept last h g line place input i j

pub returns-clause-parts : goal.returns-clause-parts
returns-clause-parts c form p first inputs others text before behind h i j = parts p first inputs others text before behind h i j

pub returns-clause-one_text : goal.returns-clause-one_text
returns-clause-one_text c form p first inputs text other h i = one_text p first inputs text other h i
