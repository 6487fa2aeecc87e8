use Rattle.std.proofs.Common.{◌≡◌, map, drop}
use Rattle.std.specs.List.{list_any}
use Rattle.std.specs.Str.{bytes_eq}
use Rattle.pg_read_ast.specs.Syntax.{Definition}
use Rattle.pg_read_ast.specs.Views.{define_of}
use Rattle.pg_check_rules.specs.Conditions.{main_name}
use Rattle.pg_check.proofs.main_function.has_main.Given as goal

abbrev pub invariant-loop-item : goal.invariant-loop-item
invariant-loop-item l =
    list_any (λ (d : Definition). bytes_eq d.name.text main_name) (map define_of l.items)
    ≡ list_any (λ (d : Definition). bytes_eq d.name.text main_name) (map define_of (drop l.item-index l.items))
