use Rattle.pg_law_course.proofs.CourseSteps.{is_step}
use Rattle.pg_law_course.proofs.a_step_is_that_of_its_local_state.Goals as goal

pub returns : goal.returns
returns c p input s can g t k l d own now = is_step p input s can g t k l d own now
