use Rattle.std.proofs.Common.{◌≡◌, ◌++◌, map, take}
use Rattle.pg_read_ast.specs.Syntax.{Case}
use Rattle.pg_read_ast.specs.Views.{case_of}
use Rattle.pg_check_rules.specs.Starts.{names_behind}
use Rattle.pg_check_lines.proofs.labels.add_case_labels.Given as goal

abbrev pub invariant-loop-case : goal.invariant-loop-case
invariant-loop-case l = names_behind l.all.items ≡ names_behind l.fn.all.items ++ map (λ (c : Case). c.block) (map case_of (take l.case-index l.cases))
