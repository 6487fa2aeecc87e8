-- The decision on a branch step that is due.
use Rattle.std.specs.Prelude.{◌≡◌, ◌⊎◌, ℕ, Option, None}
use Rattle.pg_slice_rules.specs.declared.decision.Decision.{Decision}
use Rattle.pg_slice_rules.specs.declared.decision.Decision.TheVariants.{Pinned}
use Rattle.pg_slice_rules.specs.Freeable.{FreeRegion}
use Rattle.pg_slice_demands.specs.declared.demanded.Demanded.{Demanded}
use Rattle.pg_slice_back.specs.Sets.{AsksRegion}

-- it is pinned where it isn't freeable, and where something has to be known that its region may set
abbrev pub IsPinDue : Option FreeRegion → ℕ → ℕ → ℕ → ℕ → Demanded → Decision → Type 0
IsPinDue region n t k count m x = (x ≡ Pinned n) × ((region ≡ None) ⊎ AsksRegion region t k count m)
