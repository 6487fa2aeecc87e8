-- Where the first of each name stands.
use Rattle.std.specs.Prelude.{ℕ, nat_lt, min, Bool, false, if◌then◌else◌, List, [], ◌∷◌, map, Option, Some, None}
use Rattle.std.specs.Str.{bytes_eq}
use denote.Ref.{Bor}
use Rattle.pg_read_ast.specs.declared.names.Name.{Name}

-- the names that references point to
abbrev pub names_behind : List (Bor Name) → List Name
names_behind names = map (λ n. n.now) names

-- where a name is known to begin first, and one more of it or of another name
abbrev pub noted_start : Option ℕ → Bool → ℕ → Option ℕ
noted_start None same start = if same then Some start else None
noted_start (Some s) same start = if same then Some (min s start) else Some s

unfoldable pub starts_after : Option ℕ → List Name → List ℕ → Option ℕ
starts_after known [] text = known
starts_after known (n ∷ ns) text = starts_after (noted_start known (bytes_eq n.text text) n.span.start) ns text

abbrev pub first_start : List Name → List ℕ → Option ℕ
first_start names text = starts_after None names text

abbrev pub is_before : Option ℕ → ℕ → Bool
is_before None place = false
is_before (Some start) place = nat_lt start place
