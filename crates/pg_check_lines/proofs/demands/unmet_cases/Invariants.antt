use Rattle.std.proofs.Common.{◌≡◌, map, take}
use Rattle.std.specs.List.{flat_map}
use Rattle.pg_read_ast.specs.declared.ops.CaseNode.{CaseNode}
use Rattle.pg_read_ast.specs.Views.{typed_of, case_of}
use Rattle.pg_check_types.specs.Resolved.{resolved}
use Rattle.pg_check_types.specs.Kinds.{is_as}
use Rattle.pg_check_types.specs.NumberedTypes.{named_types}
use Rattle.pg_check_rules.specs.Earliest.{earliest}
use Rattle.pg_check_rules.specs.TypeConditions.{unmet}
use Rattle.pg_check_rules.specs.Written.{asks_typed}
use Rattle.pg_check_lines.proofs.demands.unmet_cases.Given as goal

abbrev pub invariant-loop-case : goal.invariant-loop-case
invariant-loop-case l = l.found ≡ earliest (flat_map (unmet (named_types l.types))
    (map (λ (k : CaseNode). asks_typed (is_as (resolved (named_types l.types) (typed_of l.expected).ty)) (case_of k).value) (take l.case-index l.cases)))
