-- What a step leaves of what is known.
use Rattle.std.specs.Prelude.{◌≡◌, ◌<◌, ◌⊎◌, ℕ, Bool, true, false, Some}
use Rattle.pg_slice_rules.specs.Known.{SymbolicState}
use Rattle.pg_law_demands.specs.Cells.{IsMet}
use Rattle.pg_law_demands.specs.Back.{byte_demand, register_demand}
use Rattle.pg_slice_demands.specs.declared.demanded.Demanded.{Demanded}
use Rattle.pg_slice_demands.specs.Asked.{asked_of, asks_byte}

-- a register of the call of thread t with k calls to it, one of these, or a register of a call that began later
abbrev pub IsAbove : ℕ → ℕ → (ℕ → Bool) → ℕ → ℕ → ℕ → Type 0
IsAbove t k sets i j r = (i ≡ t) × ((k < j) ⊎ ((j ≡ k) × (sets r ≡ true)))

-- what is known after a step of all but such registers, and of all bytes but these, was known before it
pub record Leaves (t k : ℕ) (sets writes : ℕ → Bool) (after before : SymbolicState) : Type 0 where
  pub registers : (i j r : ℕ) (w : Bool) → (IsAbove t k sets i j r → ⊥) → IsMet after (register_demand i j r w) → IsMet before (register_demand i j r w)
  pub bytes : (b : ℕ) → writes b ≡ false → IsMet after (byte_demand b true) → IsMet before (byte_demand b true)

-- nothing new is asked, and nothing of such registers and bytes
pub record Without (t k : ℕ) (sets writes : ℕ → Bool) (old new : Demanded) : Type 0 where
  pub registers : (i j r : ℕ) (w : Bool) → asked_of new i j r ≡ Some w → (asked_of old i j r ≡ Some w) × (IsAbove t k sets i j r → ⊥)
  pub bytes : (b : ℕ) → asks_byte new b ≡ true → (asks_byte old b ≡ true) × (writes b ≡ false)

-- nothing new is asked
pub record IsLess (old new : Demanded) : Type 0 where
  pub registers : (i j r : ℕ) (w : Bool) → asked_of new i j r ≡ Some w → asked_of old i j r ≡ Some w
  pub bytes : (b : ℕ) → asks_byte new b ≡ true → asks_byte old b ≡ true

abbrev pub none : ℕ → Bool
none b = false

abbrev pub all : ℕ → Bool
all b = true
