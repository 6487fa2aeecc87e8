-- What has to be known of that which the region of a freeable step may set.
use Rattle.std.specs.Prelude.{◌≡◌, ◌<◌, ◌⊎◌, ◌&&◌, ℕ, Bool, true, Option, Some, None}
use Rattle.pg_slice_rules.specs.Freeable.{FreeAccess, FreeRegion, bounds_of}
use Rattle.pg_slice_rules.specs.SymbolicValues.{is_within}
use Rattle.pg_law_least.specs.Keeps.{may_write}
use Rattle.pg_slice_demands.specs.declared.demanded.Demanded.{Demanded}
use Rattle.pg_slice_demands.specs.Asked.{asked_of, asks_byte}

-- a register among the first so many of the call of thread t with k calls to it
abbrev pub AsksRegister : (ℕ → Bool) → ℕ → ℕ → ℕ → Demanded → Type 0
AsksRegister sets t k count m = (i : ℕ) × (v : Bool) × (i < count) × (sets i ≡ true) × (asked_of m t k i ≡ Some v)

abbrev pub AsksByte : (ℕ → Bool) → Demanded → Type 0
AsksByte writes m = (b : ℕ) × (writes b ≡ true) × (asks_byte m b ≡ true)

-- a byte that an access of a region may write
abbrev pub AsksOfAccess : Option FreeAccess → Demanded → Type 0
AsksOfAccess None m = ⊥
AsksOfAccess (Some a) m = AsksByte (λ b. a.writes && is_within (bounds_of a.at.last) b) m

abbrev pub AsksRegion : Option FreeRegion → ℕ → ℕ → ℕ → Demanded → Type 0
AsksRegion None t k count m = ⊥
AsksRegion (Some q) t k count m = AsksRegister q.sets t k count m ⊎ AsksByte (may_write q.accesses) m
