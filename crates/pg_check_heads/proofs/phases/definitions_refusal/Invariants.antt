use Rattle.std.proofs.Common.{◌≡◌, ℕ, List, map, take}
use Rattle.std.specs.List.{enumerate_from}
use Rattle.pg_read_ast.specs.Syntax.{Tree}
use Rattle.pg_read_ast.specs.Numbers.{numbered}
use Rattle.pg_read_ast.specs.Views.{define_of}
use Rattle.pg_check_types.specs.NameIndex.{known_place}
use Rattle.pg_check_types.specs.NumberedTypes.{named_types}
use Rattle.pg_check_rules.specs.Names.{symbol_names}
use Rattle.pg_check_rules.specs.Starts.{first_start}
use Rattle.pg_check_rules.specs.Earliest.{IsFirstIn}
use Rattle.pg_check_rules.specs.Conditions.{all_of, definition_refused}
use Rattle.pg_check_heads.proofs.phases.definitions_refusal.Given as goal

abbrev pub invariant-loop-number : goal.invariant-loop-number
invariant-loop-number l = record {
  first : (m : Tree) → m.types ≡ named_types l.types → ((text : List ℕ) → known_place l.starts text ≡ first_start (symbol_names m) text) →
      IsFirstIn (all_of (definition_refused m) (enumerate_from 0 (map (λ d. numbered m.types (define_of d)) (take l.number l.items)))) l.found;
}
