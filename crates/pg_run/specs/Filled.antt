-- What is told of a step before it is done, and what is added once it is.
use Rattle.std.specs.Prelude.{ℕ, if◌then◌else◌}
use Rattle.pg_run_trace.specs.declared.step.StepKind.{StepKind}
use Rattle.pg_run_trace.specs.declared.step.StepKind.TheVariants as told

-- with the answer to its action, and the number that its register got
abbrev pub filled : StepKind → ℕ → ℕ → StepKind
filled (told.Allocation operand result) answer number = told.Allocation operand number
filled (told.Access a) answer number = told.Access (if a.writes then a else record a { number = answer })
filled (told.Event e) answer number = told.Event (record e { reply = number })
filled k answer number = k
