use Rattle.std.proofs.Common.{◌≡◌, map, take}
use Rattle.pg_read_ast.specs.Views.{global_of}
use Rattle.pg_check_types.specs.NameIndex.{texts_of}
use Rattle.pg_check_rules.specs.Symbols.{variable_text}
use Rattle.pg_check_rules.proofs.symbols.variable_names.Given as goal

abbrev pub invariant-loop-item : goal.invariant-loop-item
invariant-loop-item l = texts_of l.names.items ≡ map variable_text (map global_of (take l.item-index l.items))
