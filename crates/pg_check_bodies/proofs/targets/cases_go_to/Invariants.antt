use Rattle.std.proofs.Common.{◌≡◌, map, drop}
use Rattle.pg_read_ast.specs.Syntax.{Case}
use Rattle.pg_read_ast.specs.Views.{case_of}
use Rattle.pg_check_rules.specs.BlockConditions.{has_text}
use Rattle.pg_check_bodies.proofs.targets.cases_go_to.Given as goal

abbrev pub invariant-loop-case : goal.invariant-loop-case
invariant-loop-case l = has_text (map (λ (x : Case). x.block) (map case_of l.cases)) l.text ≡ has_text (map (λ (x : Case). x.block) (map case_of (drop l.case-index l.cases))) l.text
