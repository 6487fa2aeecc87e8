use Rattle.std.proofs.Common.{◌≡◌, ◌++◌, map, drop}
use Rattle.std.specs.List.{filter_map}
use Rattle.pg_read_ast.specs.Syntax.{Param, ParamOf}
use Rattle.pg_read_ast.specs.Views.{param_of}
use Rattle.pg_check_rules.specs.Nodes.{tys_behind}
use Rattle.pg_check_rules.specs.CallConditions.{param_type}
use Rattle.pg_check_heads.proofs.definitions.add_param_types.Given as goal

abbrev pub invariant-loop-param : goal.invariant-loop-param
invariant-loop-param l =
    tys_behind l.all.items ++ filter_map param_type (map (λ (p : Param). ParamOf p) (map param_of (drop l.param-index l.params))) ≡ tys_behind l.fn.all.items
    ++ filter_map param_type (map (λ (p : Param). ParamOf p) (map param_of l.params))
