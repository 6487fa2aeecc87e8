use Rattle.std.proofs.Common.{refl}
use Rattle.pg_run_memory.specs.Bytes.{number_of}
use Rattle.pg_law_course.proofs.examples.answers_of_actions.Goals as goal

pub returns : goal.returns
unfolding number_of
returns c = record { number = refl; call = refl; print = refl }
