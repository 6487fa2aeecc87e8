use Rattle.std.proofs.Common.{◌≡◌, ℕ, List, map, take}
use Rattle.pg_read_ast.specs.Syntax.{Tree}
use Rattle.pg_read_ast.specs.Views.{declare_of}
use Rattle.pg_check_types.specs.NameIndex.{known_place}
use Rattle.pg_check_types.specs.NumberedTypes.{named_types}
use Rattle.pg_check_rules.specs.Names.{symbol_names}
use Rattle.pg_check_rules.specs.Starts.{first_start}
use Rattle.pg_check_rules.specs.Earliest.{IsFirstIn}
use Rattle.pg_check_rules.specs.Conditions.{all_of, declaration_refused}
use Rattle.pg_check_heads.proofs.phases.declarations_refusal.Given as goal

abbrev pub invariant-loop-item : goal.invariant-loop-item
invariant-loop-item l = record {
  first : (m : Tree) → m.types ≡ named_types l.types → ((text : List ℕ) → known_place l.starts text ≡ first_start (symbol_names m) text) →
      IsFirstIn (all_of (declaration_refused m) (map declare_of (take l.item-index l.items))) l.found;
}
