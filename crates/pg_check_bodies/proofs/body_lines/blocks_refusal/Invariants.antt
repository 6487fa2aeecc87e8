use Rattle.std.proofs.Common.{◌≡◌, map, take}
use Rattle.pg_read_ast.specs.Views.{block_of}
use Rattle.pg_check_rules.specs.ValueConditions.{Scope}
use Rattle.pg_check_rules.specs.Earliest.{IsFirstIn}
use Rattle.pg_check_rules.specs.Conditions.{all_of}
use Rattle.pg_check_calls.specs.pg_check_values.Scopes.{IsLineScope}
use Rattle.pg_check_bodies.specs.BodyParts.{block_refused}
use Rattle.pg_check_bodies.proofs.body_lines.blocks_refusal.Given as goal

abbrev pub invariant-loop-block : goal.invariant-loop-block
invariant-loop-block l = (g : Scope) → IsLineScope l.scope g → IsFirstIn (all_of (block_refused g) (map block_of (take l.block-index l.blocks))) l.found
