use Rattle.std.proofs.Common.{◌≡◌, map, take}
use Rattle.pg_read_ast.specs.Views.{line_of}
use Rattle.pg_check_rules.specs.ValueConditions.{Scope}
use Rattle.pg_check_rules.specs.LineConditions.{line_refused}
use Rattle.pg_check_rules.specs.Earliest.{IsFirstIn}
use Rattle.pg_check_rules.specs.Conditions.{all_of}
use Rattle.pg_check_calls.specs.pg_check_values.Scopes.{IsLineScope}
use Rattle.pg_check_bodies.proofs.body_lines.lines_refusal.Given as goal

abbrev pub invariant-loop-line : goal.invariant-loop-line
invariant-loop-line l = (g : Scope) → IsLineScope l.scope g → IsFirstIn (all_of (line_refused g) (map line_of (take l.line-index l.lines))) l.found
