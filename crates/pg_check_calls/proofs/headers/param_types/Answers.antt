use Rattle.std.proofs.Common.{◌++◌, ◌+◌, map, drop, ap, ◌∙◌}
use Rattle.std.specs.List.{filter_map}
use Rattle.pg_check_rules.specs.Nodes.{tys_behind}
use Rattle.pg_check_rules.specs.CallConditions.{param_type}
use Rattle.pg_check_rules.proofs.Parts.{filter_step}
use Rattle.pg_check_calls.specs.Headers.{param_behind}
use Rattle.pg_check_calls.proofs.headers.param_types.Goals as goal

pub loop-param-preserved : goal.loop-param-preserved
loop-param-preserved c =
    ap (λ ts. ts ++ filter_map param_type (map param_behind (drop (c.loop-param.param-index + 1) c.args.params.now))) c.in_ok-add_param_type.ensures
    ∙ filter_step param_type param_behind (tys_behind c.loop-param.all.items) c.args.params.now c.loop-param.param-index c.param-item.result c.loop-param-test.true c.param-item.is
    ∙ c.loop-param.invariant
