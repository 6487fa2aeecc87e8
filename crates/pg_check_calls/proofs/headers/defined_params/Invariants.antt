use Rattle.std.proofs.Common.{◌≡◌, ◌++◌, map, drop}
use Rattle.pg_read_ast.specs.Syntax.{Param, ParamOf}
use Rattle.pg_read_ast.specs.Views.{param_of}
use Rattle.pg_check_calls.specs.Headers.{params_behind}
use Rattle.pg_check_calls.proofs.headers.defined_params.Given as goal

abbrev pub invariant-loop-param : goal.invariant-loop-param
invariant-loop-param l =
    params_behind l.all.items ++ map (λ (p : Param). ParamOf p) (map param_of (drop l.param-index l.params)) ≡ map (λ (p : Param). ParamOf p) (map param_of l.params)
