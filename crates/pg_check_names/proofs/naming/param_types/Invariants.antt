use Rattle.std.proofs.Common.{◌≡◌, List, map, take}
use Rattle.pg_read_ast.specs.Syntax.{NamedType, Param}
use Rattle.pg_read_ast.specs.Views.{param_of}
use Rattle.pg_check_types.specs.Resolved.{resolved}
use Rattle.pg_check_names.specs.Registers.{register_type}
use Rattle.pg_check_names.proofs.naming.param_types.Given as goal

abbrev pub invariant-loop-param : goal.invariant-loop-param
invariant-loop-param l = (types : List NamedType) → map (register_type types) l.kinds.items ≡ map (λ (p : Param). resolved types p.ty) (map param_of (take l.param-index l.params))
