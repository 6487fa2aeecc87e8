-- What a global name stands for, as nodes of the module.
use Rattle.std.specs.Prelude.{◌≡◌, ℕ, List, map, slice_get, Option, Some, None}
use Rattle.std.specs.Option.{option_map}
use Rattle.indexmap.specs.IndexMap.{IndexMap}
use denote.Ref.{Bor}
use Rattle.pg_read_ast.specs.declared.nodes.Module.{Module}
use Rattle.pg_read_ast.specs.Syntax.{Variable, Declaration, Definition}
use Rattle.pg_read_ast.specs.Views.{global_of, declare_of, define_of}
use Rattle.pg_check_types.specs.NameIndex.{known_place, first_place}
use Rattle.pg_check_rules.specs.declared.symbols.SymbolNode.{SymbolNode}
use Rattle.pg_check_rules.specs.declared.symbols.SymbolNode.TheVariants as node
use Rattle.pg_check_rules.specs.Names.{Symbol, VariableOf, DefinitionOf, DeclarationOf, NoSymbol}

abbrev pub symbol_of : SymbolNode → Symbol
symbol_of (node.Variable i v) = VariableOf i (global_of v.now)
symbol_of (node.Definition f d) = DefinitionOf f (define_of d.now)
symbol_of (node.Declaration d) = DeclarationOf (declare_of d.now)
symbol_of node.Unknown = NoSymbol

abbrev pub variable_text : Variable → List ℕ
variable_text v = v.name.text

abbrev pub definition_text : Definition → List ℕ
definition_text d = d.name.text

abbrev pub declaration_text : Declaration → List ℕ
declaration_text d = d.name.text

-- the thing at a place, with its place
abbrev pub placed : {X : Type 0} → List X → Option ℕ → Option (ℕ × X)
placed xs None = None
placed xs (Some p) = option_map (λ x. (p, x)) (slice_get xs p)

-- the first of each name is found
pub record AreSymbols {S : Type 0} (m : Module) (variables definitions declarations : IndexMap (Bor (List ℕ)) ℕ S) : Type 0 where
  pub variable : (text : List ℕ) → known_place variables text ≡ first_place (map variable_text (map global_of m.globals.items)) text
  pub definition : (text : List ℕ) → known_place definitions text ≡ first_place (map definition_text (map define_of m.functions.items)) text
  pub declaration : (text : List ℕ) → known_place declarations text ≡ first_place (map declaration_text (map declare_of m.declares.items)) text
