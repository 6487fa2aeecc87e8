use Rattle.std.proofs.Common.{◌≡◌, map, drop}
use Rattle.std.specs.List.{flat_map}
use Rattle.pg_read_ast.specs.Syntax.{Line}
use Rattle.pg_check_rules.specs.Written.{label_targets}
use Rattle.pg_check_rules.specs.BlockConditions.{has_text}
use Rattle.pg_check_bodies.specs.BodyBlocks.{bare_node}
use Rattle.pg_check_bodies.proofs.targets.lines_go_to.Given as goal

abbrev pub invariant-loop-line : goal.invariant-loop-line
invariant-loop-line l =
    has_text (flat_map (λ (x : Line). label_targets x.op) (map bare_node l.lines)) l.text
    ≡ has_text (flat_map (λ (x : Line). label_targets x.op) (map bare_node (drop l.line-index l.lines))) l.text
