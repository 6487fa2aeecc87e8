use Rattle.std.proofs.Common.{◌≡◌, drop}
use Rattle.std.specs.List.{list_all}
use Rattle.pg_check_types.specs.NumberedTypes.{named_types}
use Rattle.pg_check_rules.specs.Nodes.{tys_behind}
use Rattle.pg_check_rules.specs.CallConditions.{is_resolved}
use Rattle.pg_check_rules.proofs.signatures.are_types.Given as goal

abbrev pub invariant-loop-ty : goal.invariant-loop-ty
invariant-loop-ty l = list_all (is_resolved (named_types l.types)) (tys_behind l.all) ≡ list_all (is_resolved (named_types l.types)) (tys_behind (drop l.ty-index l.all))
