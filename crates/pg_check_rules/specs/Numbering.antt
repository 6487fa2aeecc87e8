-- The names of parameters.
use Rattle.std.specs.Prelude.{Option}
use Rattle.pg_read_ast.specs.declared.names.Name.{Name}
use Rattle.pg_read_ast.specs.Syntax.{Param}

abbrev pub param_name : Param → Option Name
param_name p = p.name
