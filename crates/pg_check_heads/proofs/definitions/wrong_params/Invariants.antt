use Rattle.std.proofs.Common.{◌≡◌, drop, map}
use Rattle.std.specs.List.{list_any}
use Rattle.pg_read_ast.specs.Views.{param_of}
use Rattle.pg_check_types.specs.NumberedTypes.{named_types}
use Rattle.pg_check_rules.specs.Signatures.{is_wrong_param}
use Rattle.pg_check_heads.proofs.definitions.wrong_params.Given as goal

abbrev pub invariant-loop-param : goal.invariant-loop-param
invariant-loop-param l = list_any (is_wrong_param (named_types l.types)) (map param_of l.params) ≡ list_any (is_wrong_param (named_types l.types)) (map param_of (drop l.param-index l.params))
