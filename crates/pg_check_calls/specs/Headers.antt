-- The types of functions that are called, as the headers that they are.
use Rattle.std.specs.Prelude.{List, map}
use Rattle.pg_read_ast.specs.Syntax.{Dparam, ParamOf, Metadata, Dots}
use Rattle.pg_read_ast.specs.Views.{ty_of, param_of}
use Rattle.pg_check_rules.specs.CallConditions.{Header}
use Rattle.pg_check_calls.specs.declared.headers.HeaderParam.{HeaderParam}
use Rattle.pg_check_calls.specs.declared.headers.HeaderParam.TheVariants as node
use Rattle.pg_check_calls.specs.declared.headers.HeaderNode.{HeaderNode}

abbrev pub param_behind : HeaderParam → Dparam
param_behind (node.Param p) = ParamOf (param_of p.now)
param_behind (node.Metadata s) = Metadata s
param_behind (node.Dots s) = Dots s

abbrev pub params_behind : List HeaderParam → List Dparam
params_behind ps = map param_behind ps

abbrev pub header_behind : HeaderNode → Header
header_behind h = record { result = ty_of h.result.now; params = params_behind h.params.items }
