use Rattle.std.proofs.Common.{◌≡◌, ◌++◌, map, drop}
use Rattle.pg_read_ast.specs.Syntax.{tys}
use Rattle.pg_read_ast.specs.Views.{ty_of}
use Rattle.pg_check_rules.specs.Nodes.{tys_behind}
use Rattle.pg_check_rules.specs.Written.{types_within_all}
use Rattle.pg_check_rules.proofs.within.+within.Given as goal

abbrev pub invariant-add_fields_within-loop-field : goal.invariant-add_fields_within-loop-field
invariant-add_fields_within-loop-field l =
    tys_behind l.all.items ++ types_within_all (tys (map ty_of (drop l.field-index l.fields))) ≡ tys_behind l.fn.all.items ++ types_within_all (tys (map ty_of l.fields))
