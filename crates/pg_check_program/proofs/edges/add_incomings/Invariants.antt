use Rattle.std.proofs.Common.{◌≡◌, ◌++◌, map, take}
use Rattle.pg_read_ast.specs.Views.{ty_of, incoming_of}
use Rattle.pg_check_rules.specs.Numbered.{incoming_at}
use Rattle.pg_check_program.specs.ScopeNames.{ScopeNames, scope_in}
use Rattle.pg_check_program.proofs.edges.add_incomings.Given as goal

abbrev pub invariant-loop-incoming : goal.invariant-loop-incoming
invariant-loop-incoming l = (names : ScopeNames l.scope) → l.found.items ≡ l.fn.found.items
    ++ map (incoming_at (scope_in l.scope names) l.scope.first (ty_of l.ty)) (map incoming_of (take l.incoming-index l.all))
