use Rattle.pg_law_course.proofs.SharedPlaces.{plan_cells, same_cells, shared_end, shared_place}
use Rattle.pg_law_course.proofs.CourseSteps.{turn_high}
use Rattle.pg_law_course.proofs.a_shared_step_stands_in_the_plan.Goals as goal

pub returns-clause-place : goal.returns-clause-place
returns-clause-place c p input s can g t k d own chosen = shared_place p input s can g t k d own chosen

pub returns-clause-turn : goal.returns-clause-turn
returns-clause-turn c p input s can g t k d own event = turn_high p input s can g t k d own event

pub returns-clause-cells : goal.returns-clause-cells
returns-clause-cells c p input s can g t k d own chosen i = same_cells p input s can g t k d own chosen i

pub returns-clause-last : goal.returns-clause-last
returns-clause-last c p input s can g t = shared_end p input s can g t

pub returns-clause-left : goal.returns-clause-left
returns-clause-left c p input s can g i = plan_cells p input s can g i
