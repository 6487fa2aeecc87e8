use Rattle.std.proofs.Common.{◌≡◌, ◌+◌, ◌≤◌, ℕ, List, map, take}
use Rattle.std.specs.List.{enumerate_from}
use Rattle.pg_num.specs.declared.layout.TheConstants.{GLOBALS_END}
use Rattle.pg_read_ast.specs.Syntax.{Tree}
use Rattle.pg_read_ast.specs.Views.{global_of}
use Rattle.pg_check_types.specs.NameIndex.{known_place}
use Rattle.pg_check_types.specs.NumberedTypes.{named_types}
use Rattle.pg_check_rules.specs.Names.{symbol_names}
use Rattle.pg_check_rules.specs.Starts.{first_start}
use Rattle.pg_check_rules.specs.Earliest.{IsFirstIn}
use Rattle.pg_check_rules.specs.Conditions.{all_of, outside, globals_end, global_refused}
use Rattle.pg_check_values.specs.Scopes.{IsScope}
use Rattle.pg_check_heads.specs.Ends.{ended}
use Rattle.pg_check_heads.proofs.globals.refusal_over.Given as goal

abbrev pub invariant-loop-number : goal.invariant-loop-number
invariant-loop-number l = record {
  first : (m : Tree) → IsScope l.scope (outside m) → m.globals ≡ map global_of l.items →
      ((text : List ℕ) → known_place l.starts text ≡ first_start (symbol_names m) text) →
      IsFirstIn (all_of (global_refused m) (enumerate_from 0 (map global_of (take l.number l.items)))) l.found;
  end : l.end ≡ ended (globals_end (named_types l.scope.types.now) (take l.number (map global_of l.items)));
  small : l.end ≤ GLOBALS_END + 1;
}
