-- What values and lines are looked up in, as the scope that it is.
use Rattle.std.specs.Prelude.{◌≡◌, ℕ, List, map}
use Rattle.pg_read_ast.specs.Views.{ty_of, tree_of}
use Rattle.pg_check_types.specs.Resolved.{resolved}
use Rattle.pg_check_types.specs.NameIndex.{known_place}
use Rattle.pg_check_types.specs.NumberedTypes.{named_types}
use Rattle.pg_check_rules.specs.Names.{Register, register_number, label_number}
use Rattle.pg_check_rules.specs.ValueConditions.{Scope}
use Rattle.pg_check_names.specs.Registers.{register_type}
use Rattle.pg_check_values.specs.declared.scope.ValueScope.{ValueScope}
use Rattle.pg_check_values.specs.declared.scope.LineScope.{LineScope}

-- the types are the module's, and the registers are found by their names, with their types
pub record IsScope (s : ValueScope) (g : Scope) : Type 0 where
  pub tree : tree_of s.symbols.now.tree.now ≡ g.tree
  pub types : g.tree.types ≡ named_types s.types.now
  pub known : (text : List ℕ) → known_place s.registers.now text ≡ register_number g.registers text
  pub registers : map (register_type g.tree.types) s.register_types.now ≡ map (λ (r : Register). r.ty) g.registers

-- registers and labels are found by their names, and the type of the function's result is this
pub record IsLineScope (s : LineScope) (g : Scope) : Type 0 where
  pub values : IsScope s.values g
  pub labels : (text : List ℕ) → known_place s.labels.now text ≡ label_number g.labels text
  pub result : g.result ≡ resolved g.tree.types (ty_of s.result.now)
