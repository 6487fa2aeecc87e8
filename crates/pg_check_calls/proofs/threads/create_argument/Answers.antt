use Rattle.std.proofs.Common.{sym, ap, ◌∙◌}
use Rattle.pg_check_calls.specs.Threads.{call_operands}
use Rattle.pg_check_calls.proofs.ThreadFunctions.{third_left_out}
use Rattle.pg_check_calls.proofs.threads.create_argument.Goals as goal

pub returns-then-create : goal.returns-then-create
returns-then-create c = λ g s all. ap (λ b. call_operands b all) (sym (c.is_create-create.ensures g s) ∙ c.if-create.true) ∙ third_left_out all

pub returns-else-create : goal.returns-else-create
returns-else-create c = λ g s all. ap (λ b. call_operands b all) (sym (c.is_create-create.ensures g s) ∙ c.if-create.false)
