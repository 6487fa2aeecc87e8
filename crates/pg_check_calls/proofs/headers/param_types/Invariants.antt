use Rattle.std.proofs.Common.{◌≡◌, ◌++◌, map, drop}
use Rattle.std.specs.List.{filter_map}
use Rattle.pg_check_rules.specs.Nodes.{tys_behind}
use Rattle.pg_check_rules.specs.CallConditions.{param_type}
use Rattle.pg_check_calls.specs.Headers.{param_behind}
use Rattle.pg_check_calls.proofs.headers.param_types.Given as goal

abbrev pub invariant-loop-param : goal.invariant-loop-param
invariant-loop-param l =
    tys_behind l.all.items ++ filter_map param_type (map param_behind (drop l.param-index l.params)) ≡ filter_map param_type (map param_behind l.params)
