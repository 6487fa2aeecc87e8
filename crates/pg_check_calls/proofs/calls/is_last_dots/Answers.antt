use Rattle.std.proofs.Common.{◌∙◌, arith}
use Rattle.pg_check_calls.specs.Headers.{param_behind}
use Rattle.pg_check_calls.proofs.Params.{last_param, more_dots}
use Rattle.pg_check_calls.proofs.calls.is_last_dots.Goals as goal

pub returns-then-left-eq1 : goal.returns-then-left-eq1
returns-then-left-eq1 c =
    c.is_dots.ensures ∙ last_param param_behind c.args.params.now c.args.place c.index-params-place.result c.requires (omega arith) c.index-params-place.is

pub returns-else-left-eq1 : goal.returns-else-left-eq1
returns-else-left-eq1 c = more_dots param_behind c.args.params.now c.args.place c.requires (λ e. c.if-left-eq1.false (omega (arith, e)))
