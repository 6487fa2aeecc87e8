use Rattle.std.proofs.Common.{◌≡◌, ◌++◌, take}
use Rattle.pg_check_rules.specs.Starts.{names_behind}
use Rattle.pg_check_bodies.proofs.doubled_names.add_references.Given as goal

abbrev pub invariant-loop-name : goal.invariant-loop-name
invariant-loop-name l = names_behind l.all.items ≡ names_behind l.fn.all.items ++ take l.name-index l.names
