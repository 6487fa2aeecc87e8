use Rattle.std.proofs.Common.{◌≡◌, ◌++◌, drop}
use Rattle.std.specs.List.{flat_map}
use Rattle.pg_check_rules.specs.Nodes.{tys_behind}
use Rattle.pg_check_rules.specs.Written.{types_within}
use Rattle.pg_check_rules.proofs.within.all_within.Given as goal

abbrev pub invariant-loop-ty : goal.invariant-loop-ty
invariant-loop-ty l = tys_behind l.all.items ++ flat_map types_within (tys_behind (drop l.ty-index l.types)) ≡ flat_map types_within (tys_behind l.types)
