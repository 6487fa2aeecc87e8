use Rattle.std.proofs.Common.{◌≡◌, ◌++◌, map, drop}
use Rattle.pg_read_ast.specs.Views.{dparam_of}
use Rattle.pg_check_calls.specs.Headers.{params_behind}
use Rattle.pg_check_calls.proofs.headers.declared_params.Given as goal

abbrev pub invariant-loop-param : goal.invariant-loop-param
invariant-loop-param l = params_behind l.all.items ++ map dparam_of (drop l.param-index l.params) ≡ map dparam_of l.params
