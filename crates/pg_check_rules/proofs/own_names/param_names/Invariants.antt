use Rattle.std.proofs.Common.{◌≡◌, ◌++◌, map, drop}
use Rattle.std.specs.List.{filter_map}
use Rattle.pg_read_ast.specs.Numbers.{each_at, behind_all, param_at, behind_param}
use Rattle.pg_read_ast.specs.Views.{param_of}
use Rattle.pg_check_rules.specs.Numbering.{param_name}
use Rattle.pg_check_rules.proofs.own_names.param_names.Given as goal

abbrev pub invariant-loop-param : goal.invariant-loop-param
invariant-loop-param l = record {
  names : l.names.items ++ filter_map param_name (each_at behind_param param_at l.next (map param_of (drop l.param-index l.params)))
      ≡ filter_map param_name (each_at behind_param param_at l.fn.next (map param_of l.params));
  next : behind_all behind_param l.next (map param_of (drop l.param-index l.params)) ≡ behind_all behind_param l.fn.next (map param_of l.params);
}
