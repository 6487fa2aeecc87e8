use Rattle.std.proofs.Common.{◌≡◌, drop}
use Rattle.std.specs.List.{list_any}
use Rattle.pg_check_types.specs.NumberedTypes.{named_types}
use Rattle.pg_check_rules.specs.Nodes.{tys_behind}
use Rattle.pg_check_rules.specs.TypeConditions.{is_large}
use Rattle.pg_check_rules.proofs.type_rows.any_large.Given as goal

abbrev pub invariant-loop-ty : goal.invariant-loop-ty
invariant-loop-ty l = list_any (is_large (named_types l.types)) (tys_behind l.all) ≡ list_any (is_large (named_types l.types)) (tys_behind (drop l.ty-index l.all))
