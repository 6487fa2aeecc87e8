-- The earliest of places, and the first refusal of a part.
use Rattle.std.specs.Prelude.{nat_lt, if◌then◌else◌, ◌==◌, List, [], ◌∷◌, ◌++◌, Option, Some, None}
use Rattle.pg_read_ast.specs.pg_read_lex.declared.token.Span.{Span}
use Rattle.pg_check_rules.specs.declared.fault.CheckKind.{CheckKind}
use Rattle.pg_check_rules.specs.declared.fault.CheckKind.TheVariants.{UnknownName, Doubled, WrongType}
use Rattle.pg_check_rules.specs.declared.refusals.CheckRefusal.{CheckRefusal}
use Rattle.pg_check_rules.specs.Conditions.{RefusedPlaces, rank, IsEarliest, RefusesNothing, IsFirstOf, RefuseNothing}

-- the place that begins earlier, and the first of two that begin together
abbrev pub earlier : Option Span → Option Span → Option Span
earlier None other = other
earlier (Some one) None = Some one
earlier (Some one) (Some other) = if nat_lt other.start one.start then Some other else Some one

unfoldable pub earliest : List Span → Option Span
earliest [] = None
earliest (s ∷ ss) = earlier (Some s) (earliest ss)

-- these places, refused for one kind
abbrev pub only : CheckKind → List Span → RefusedPlaces
only kind places k = if rank kind == rank k then places else []

-- names that nothing has, second names, and what doesn't fit
abbrev pub names_and_types : List Span → List Span → List Span → RefusedPlaces
names_and_types unknown doubled wrong UnknownName = unknown
names_and_types unknown doubled wrong Doubled = doubled
names_and_types unknown doubled wrong WrongType = wrong
names_and_types unknown doubled wrong _ = []

-- the places that two parts refuse
abbrev pub joined : RefusedPlaces → RefusedPlaces → RefusedPlaces
joined p q kind = p kind ++ q kind

-- the first refusal of a part; none where it refuses nothing
abbrev pub IsFirstIn : RefusedPlaces → Option CheckRefusal → Type 0
IsFirstIn part (Some r) = IsEarliest part r.kind r.span
IsFirstIn part None = RefusesNothing part

-- the first refusal of the first part that has one; none where they refuse nothing
abbrev pub IsFirstAmong : List RefusedPlaces → Option CheckRefusal → Type 0
IsFirstAmong parts (Some r) = IsFirstOf parts r.kind r.span
IsFirstAmong parts None = RefuseNothing parts
