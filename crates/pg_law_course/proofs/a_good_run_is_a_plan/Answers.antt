use Rattle.pg_law_course.proofs.GuidedPlan.{is_plan, shared_plan}
use Rattle.pg_law_course.proofs.a_good_run_is_a_plan.Goals as goal

pub returns-clause-all : goal.returns-clause-all
returns-clause-all c p input s can g = is_plan p input s can g

pub returns-clause-shared : goal.returns-clause-shared
returns-clause-shared c p input s can g = shared_plan p input s can g
