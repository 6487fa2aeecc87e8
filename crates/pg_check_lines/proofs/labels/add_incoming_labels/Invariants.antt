use Rattle.std.proofs.Common.{◌≡◌, ◌++◌, map, take}
use Rattle.pg_read_ast.specs.Syntax.{Incoming}
use Rattle.pg_read_ast.specs.Views.{incoming_of}
use Rattle.pg_check_rules.specs.Starts.{names_behind}
use Rattle.pg_check_lines.proofs.labels.add_incoming_labels.Given as goal

abbrev pub invariant-loop-incoming : goal.invariant-loop-incoming
invariant-loop-incoming l = names_behind l.all.items ≡ names_behind l.fn.all.items ++ map (λ (j : Incoming). j.block) (map incoming_of (take l.incoming-index l.incomings))
