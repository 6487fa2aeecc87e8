-- The cases of a switch by their numbers.
use Rattle.std.specs.Prelude.{ℕ, nat_eq, nat_lt, ◌&&◌, if◌then◌else◌, List, [], ◌∷◌, Option, Some, None}
use Rattle.std.specs.List.{list_any}
use Rattle.indexmap.specs.IndexMap.{IndexMap, get}
use Rattle.pg_read_lex.specs.declared.token.Span.{Span}
use Rattle.pg_read_ast.specs.Syntax.{Case}
use Rattle.pg_check_types.specs.Resolved.{ResolvedType}
use Rattle.pg_check_rules.specs.Places.{val_span}
use Rattle.pg_check_rules.specs.Starts.{noted_start}
use Rattle.pg_check_rules.specs.ValueConditions.{number_at}
use Rattle.pg_check_rules.specs.LineConditions.{same_number}
use Rattle.pg_check_lines.specs.declared.cases.CasePlace.{CasePlace}

-- the number of a case at the type of its switch, and its place
abbrev pub case_place : Option ResolvedType → Case → CasePlace
case_place t c = record { number = number_at t c.value.value; span = val_span c.value.value }

-- a case of which another of its number stands before it
abbrev pub repeated : List CasePlace → CasePlace → List Span
repeated all c = if list_any (λ (o : CasePlace). same_number o.number c.number && nat_lt o.span.start c.span.start) all then c.span ∷ [] else []

-- where the first case of a number begins
unfoldable pub starts_behind : Option ℕ → List CasePlace → ℕ → Option ℕ
starts_behind known [] n = known
starts_behind known (c ∷ cs) n = starts_behind (noted_start known (same_number c.number (Some n)) c.span.start) cs n

-- where a map has it
abbrev pub start_of : {S : Type 0} → IndexMap ℕ ℕ S → ℕ → Option ℕ
start_of m n = get nat_eq m n

abbrev pub start_by : (ℕ → Option ℕ) → Option ℕ → Option ℕ
start_by starts None = None
start_by starts (Some n) = starts n
