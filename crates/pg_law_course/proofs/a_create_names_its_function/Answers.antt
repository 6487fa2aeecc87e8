use Rattle.pg_law_course.proofs.NamedOperands.{created_function}
use Rattle.pg_law_course.proofs.a_create_names_its_function.Goals as goal

pub returns : goal.returns
returns c p l at function argument program e = created_function p l at function argument program e
