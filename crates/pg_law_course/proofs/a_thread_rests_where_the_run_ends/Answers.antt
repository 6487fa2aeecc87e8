use Rattle.pg_law_course.proofs.RestingThreads.{exits, rests_at}
use Rattle.pg_law_course.proofs.a_thread_rests_where_the_run_ends.Goals as goal

pub returns-clause-rests : goal.returns-clause-rests
returns-clause-rests c p input s can g t l n now left = rests_at p input s can g t l n now left

pub returns-clause-exits : goal.returns-clause-exits
returns-clause-exits c p input s can g e = exits p input s can g e
