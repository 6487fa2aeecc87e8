use Rattle.std.proofs.Common.{◌≡◌, drop, map}
use Rattle.std.specs.List.{list_all}
use Rattle.pg_read_ast.specs.Views.{ty_of}
use Rattle.pg_check_types.specs.NumberedTypes.{named_types}
use Rattle.pg_check_rules.specs.CallConditions.{is_resolved}
use Rattle.pg_check_calls.proofs.calls.are_resolved.Given as goal

abbrev pub invariant-loop-ty : goal.invariant-loop-ty
invariant-loop-ty l = list_all (is_resolved (named_types l.types)) (map ty_of l.written) ≡ list_all (is_resolved (named_types l.types)) (map ty_of (drop l.ty-index l.written))
