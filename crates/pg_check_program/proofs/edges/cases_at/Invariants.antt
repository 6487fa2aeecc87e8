use Rattle.std.proofs.Common.{◌≡◌, map, take}
use Rattle.pg_read_ast.specs.Views.{ty_of, case_of}
use Rattle.pg_check_rules.specs.Numbered.{case_at}
use Rattle.pg_check_program.specs.ScopeNames.{ScopeNames, scope_in}
use Rattle.pg_check_program.proofs.edges.cases_at.Given as goal

abbrev pub invariant-loop-case : goal.invariant-loop-case
invariant-loop-case l = (names : ScopeNames l.scope) → l.found.items ≡ map (case_at (scope_in l.scope names) l.scope.first (ty_of l.ty)) (map case_of (take l.case-index l.cases))
