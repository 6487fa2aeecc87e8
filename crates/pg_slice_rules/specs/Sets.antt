-- Sets of numbers by lists, and decisions by them.
use Rattle.std.specs.Prelude.{ℕ, ◌==◌, List, Bool}
use Rattle.std.specs.List.{list_any}
use Rattle.pg_slice_rules.specs.Known.{Taken}

abbrev pub one_of : List ℕ → ℕ → Bool
one_of ns n = list_any (λ m. m == n) ns

-- decisions with these pinned and these exact steps
abbrev pub taken : List ℕ → List ℕ → Taken
taken pinned exact = record { pinned = one_of pinned; exact = one_of exact }
