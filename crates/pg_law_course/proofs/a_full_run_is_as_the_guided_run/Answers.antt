use Rattle.pg_law_order.proofs.FullRunOutput.{full_goes_on}
use Rattle.pg_law_order.proofs.GoodRunsServe.{same_end}
use Rattle.pg_law_course.proofs.GuidedOutput.{same_turns}
use Rattle.pg_law_course.proofs.a_full_run_is_as_the_guided_run.Goals as goal

pub returns-clause-output : goal.returns-clause-output
returns-clause-output c p input s = (full_goes_on s.gated p input s.turns).printed

pub returns-clause-end : goal.returns-clause-end
returns-clause-end c p input s = same_end p input s

pub returns-clause-turns : goal.returns-clause-turns
returns-clause-turns c p input s = same_turns p input s
