use Rattle.std.proofs.Common.{◌≡◌, ◌+◌, map, drop}
use Rattle.std.specs.List.{prefix_len}
use Rattle.pg_read_ast.specs.Syntax.{Line}
use Rattle.pg_check_rules.specs.Written.{is_phi_op}
use Rattle.pg_check_bodies.specs.BodyBlocks.{bare_node}
use Rattle.pg_check_bodies.proofs.phis.phi_count.Given as goal

abbrev pub invariant-loop-index : goal.invariant-loop-index
invariant-loop-index l =
    l.index + prefix_len (λ (x : Line). is_phi_op x.op) (map bare_node (drop l.index l.lines)) ≡ prefix_len (λ (x : Line). is_phi_op x.op) (map bare_node l.lines)
