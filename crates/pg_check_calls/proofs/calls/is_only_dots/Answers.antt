use Rattle.pg_check_calls.specs.Headers.{param_behind}
use Rattle.pg_check_calls.proofs.Params.{no_dots}
use Rattle.pg_check_calls.proofs.calls.is_only_dots.Goals as goal

pub returns-else-place-params : goal.returns-else-place-params
returns-else-place-params c = no_dots param_behind c.args.params.now c.args.place c.if-place-params.false
