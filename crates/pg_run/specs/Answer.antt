-- How the answer to an action reads.
use Rattle.std.specs.Prelude.{ℕ, Result, Ok, Err}
use Rattle.pg_run_trace.specs.pg_ir.declared.request.TrapName.{TrapName}
use Rattle.pg_run.specs.declared.advance.Advanced.{Advanced}

abbrev pub answer_in : Result Advanced TrapName → Result ℕ TrapName
answer_in (Ok a) = Ok a.answer
answer_in (Err name) = Err name
