use Rattle.std.proofs.Common.{◌≡◌, map, drop}
use Rattle.std.specs.List.{list_any}
use Rattle.pg_read_ast.specs.Syntax.{Line}
use Rattle.pg_read_ast.specs.Views.{line_of}
use Rattle.pg_check_rules.specs.Written.{is_ending}
use Rattle.pg_check_bodies.proofs.limits.has_no_ending.Given as goal

abbrev pub invariant-loop-line : goal.invariant-loop-line
invariant-loop-line l = list_any (λ (x : Line). is_ending x.op) (map line_of l.lines) ≡ list_any (λ (x : Line). is_ending x.op) (map line_of (drop l.line-index l.lines))
