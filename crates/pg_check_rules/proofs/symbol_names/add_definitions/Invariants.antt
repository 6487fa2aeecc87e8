use Rattle.std.proofs.Common.{◌≡◌, ◌++◌, map, take}
use Rattle.pg_read_ast.specs.Syntax.{Definition}
use Rattle.pg_read_ast.specs.Views.{define_of}
use Rattle.pg_check_rules.specs.Starts.{names_behind}
use Rattle.pg_check_rules.proofs.symbol_names.add_definitions.Given as goal

abbrev pub invariant-loop-item : goal.invariant-loop-item
invariant-loop-item l = names_behind l.all.items ≡ names_behind l.fn.all.items ++ map (λ (x : Definition). x.name) (map define_of (take l.item-index l.items))
