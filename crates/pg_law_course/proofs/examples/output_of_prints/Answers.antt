use Rattle.std.proofs.Common.{arith, refl}
use Rattle.std.proofs.lemmas.Fmt.{decimal_digit}
use Rattle.pg_law_course.proofs.examples.output_of_prints.Goals as goal

pub returns-clause-numbers : goal.returns-clause-numbers
returns-clause-numbers c = rw (decimal_digit 7 (omega arith)) refl
