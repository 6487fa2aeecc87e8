use Rattle.std.proofs.Common.{◌≡◌, map, take}
use Rattle.pg_read_ast.specs.Views.{ty_of, case_of}
use Rattle.pg_check_types.specs.NumberedTypes.{named_types}
use Rattle.pg_check_types.specs.Resolved.{resolved}
use Rattle.pg_check_lines.specs.Cases.{case_place}
use Rattle.pg_check_lines.proofs.cases.case_places.Given as goal

abbrev pub invariant-loop-case : goal.invariant-loop-case
invariant-loop-case l = l.places.items ≡ map (case_place (resolved (named_types l.types) (ty_of l.ty))) (map case_of (take l.case-index l.cases))
