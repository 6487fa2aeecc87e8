use Rattle.std.proofs.Common.{◌≡◌, ◌++◌, take, flat_map, map, codes}
use Rattle.pg_read_ast.specs.Text.{type_text}
use Rattle.pg_read_ast.specs.Views.{ty_of}
use Rattle.pg_read_ast.proofs.print.types.+print_types.Given as goal

abbrev pub invariant-put_fields-loop-field : goal.invariant-put_fields-loop-field
invariant-put_fields-loop-field l = l.out.items ≡ l.initial.out.items ++ flat_map (λ t. codes ", " ++ type_text t) (map ty_of (take l.field-index l.more))
