-- What is looked up outside of functions: a map and types of registers in which there is none.
use Rattle.std.proofs.Common.{◌≡◌, [], map, ap}
use Rattle.std.specs.Str.{bytes_eq}
use Rattle.std.specs.Map.{lookup}
use Rattle.indexmap.specs.IndexMap.{IsEmpty}
use Rattle.pg_read_ast.specs.Syntax.{Tree}
use Rattle.pg_read_ast.specs.Views.{tree_of}
use Rattle.pg_check_types.specs.NumberedTypes.{named_types}
use Rattle.pg_check_rules.specs.Names.{register_number}
use Rattle.pg_check_rules.specs.Conditions.{outside}
use Rattle.pg_check_values.specs.pg_check_names.Registers.{register_type}
use Rattle.pg_check_values.specs.declared.scope.ValueScope.{ValueScope}
use Rattle.pg_check_values.specs.Scopes.{IsScope}

pub outside_scope : (s : ValueScope) (m : Tree) → tree_of s.symbols.now.tree.now ≡ m → m.types ≡ named_types s.types.now → IsEmpty s.registers.now
    → s.register_types.now ≡ [] → IsScope s (outside m)
unfolding register_number
outside_scope s m t i e ts = record {
  tree = t;
  types = i;
  known = λ text. ap (λ es. lookup (λ y. bytes_eq text y.now) es) e;
  registers = ap (λ rs. map (register_type m.types) rs) ts;
}
