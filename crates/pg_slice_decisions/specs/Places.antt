-- The places where extents end, as they are kept.
use Rattle.std.specs.Prelude.{◌≡◌, ℕ, ◌==◌, ◌&&◌, ◌||◌, not, List, Bool, Option, Some, None}
use Rattle.std.specs.List.{list_any}
use Rattle.pg_slice_decisions.specs.declared.open.OpenExtents.{OpenExtents}
use Rattle.pg_slice_decisions.specs.declared.open.Place.{Place}

abbrev pub is_at : ℕ → ℕ → Place → Bool
is_at depth join e = e.depth == depth && e.join == join

abbrev pub has : List Place → ℕ → ℕ → Bool
has ends depth join = list_any (is_at depth join) ends

abbrev pub open_at : OpenExtents → ℕ → ℕ → Bool
open_at s = has s.ends.items

-- with an extent more, that ends at this join, if there is one
abbrev pub Begins : ℕ → Option ℕ → (ℕ → ℕ → Bool) → (ℕ → ℕ → Bool) → Type 0
Begins depth None old new = (d j : ℕ) → new d j ≡ old d j
Begins depth (Some join) old new = (d j : ℕ) → new d j ≡ ((depth == d && join == j) || old d j)

-- without those that end at the block that is entered, if one is
abbrev pub EntersBlock : ℕ → Option ℕ → (ℕ → ℕ → Bool) → (ℕ → ℕ → Bool) → Type 0
EntersBlock depth None old new = (d j : ℕ) → new d j ≡ old d j
EntersBlock depth (Some block) old new = (d j : ℕ) → new d j ≡ (old d j && not (depth == d && block == j))
