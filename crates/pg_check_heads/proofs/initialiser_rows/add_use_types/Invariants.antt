use Rattle.std.proofs.Common.{◌≡◌, ◌++◌, take}
use Rattle.std.specs.List.{flat_map}
use Rattle.pg_check_rules.specs.Nodes.{tys_behind}
use Rattle.pg_check_heads.specs.Initialisers.{uses_behind, own_row}
use Rattle.pg_check_heads.proofs.initialiser_rows.add_use_types.Given as goal

abbrev pub invariant-loop-one : goal.invariant-loop-one
invariant-loop-one l = tys_behind l.all.items ≡ tys_behind l.fn.all.items ++ flat_map own_row (uses_behind (take l.one-index l.uses))
