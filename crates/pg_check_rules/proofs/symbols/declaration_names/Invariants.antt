use Rattle.std.proofs.Common.{◌≡◌, map, take}
use Rattle.pg_read_ast.specs.Views.{declare_of}
use Rattle.pg_check_types.specs.NameIndex.{texts_of}
use Rattle.pg_check_rules.specs.Symbols.{declaration_text}
use Rattle.pg_check_rules.proofs.symbols.declaration_names.Given as goal

abbrev pub invariant-loop-item : goal.invariant-loop-item
invariant-loop-item l = texts_of l.names.items ≡ map declaration_text (map declare_of (take l.item-index l.items))
