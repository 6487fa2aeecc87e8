-- The names of a function's lines in what they are looked up in.
use Rattle.std.specs.Prelude.{◌≡◌, ℕ, List, Option}
use Rattle.pg_read_ast.specs.declared.names.Name.{Name}
use Rattle.pg_read_ast.specs.Views.{tree_of}
use Rattle.pg_check_types.specs.Resolved.{ResolvedType}
use Rattle.pg_check_types.specs.NameIndex.{known_place}
use Rattle.pg_check_program.specs.declared.function_scope.FunctionScope.{FunctionScope}
use Rattle.pg_check_rules.specs.Names.{Register, register_number, label_number}
use Rattle.pg_check_rules.specs.ValueConditions.{Scope}

-- registers and labels that are found by their names
pub record ScopeNames (s : FunctionScope) : Type 0 where
  pub registers : List Register
  pub labels : List Name
  pub result : Option ResolvedType
  pub register_known : (text : List ℕ) → known_place s.registers.now text ≡ register_number registers text
  pub label_known : (text : List ℕ) → known_place s.labels.now text ≡ label_number labels text

abbrev pub scope_in : (s : FunctionScope) → ScopeNames s → Scope
scope_in s names = record { tree = tree_of s.globals.now.symbols.tree.now; registers = names.registers; labels = names.labels; result = names.result }
