use Rattle.std.proofs.Common.{◌≡◌, drop, map}
use Rattle.pg_read_ast.specs.Views.{dparam_of}
use Rattle.pg_check_types.specs.NumberedTypes.{named_types}
use Rattle.pg_check_rules.specs.Conditions.{are_params}
use Rattle.pg_check_rules.proofs.signatures.are_params.Given as goal

abbrev pub invariant-loop-index : goal.invariant-loop-index
invariant-loop-index l = are_params (named_types l.types) l.scalars (map dparam_of l.params) ≡ are_params (named_types l.types) (drop l.index l.scalars) (map dparam_of (drop l.index l.params))
