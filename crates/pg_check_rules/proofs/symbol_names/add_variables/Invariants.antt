use Rattle.std.proofs.Common.{◌≡◌, ◌++◌, map, take}
use Rattle.pg_read_ast.specs.Syntax.{Variable}
use Rattle.pg_read_ast.specs.Views.{global_of}
use Rattle.pg_check_rules.specs.Starts.{names_behind}
use Rattle.pg_check_rules.proofs.symbol_names.add_variables.Given as goal

abbrev pub invariant-loop-item : goal.invariant-loop-item
invariant-loop-item l = names_behind l.all.items ≡ names_behind l.fn.all.items ++ map (λ (x : Variable). x.name) (map global_of (take l.item-index l.items))
