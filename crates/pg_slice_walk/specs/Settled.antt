-- Of which branch steps it is known that they and those in whose extents they stand are pinned.
use Rattle.std.specs.Prelude.{◌≡◌, ℕ, suc, List, [], ◌∷◌, Bool, true, false, slice_index_or}
use Rattle.pg_slice_rules.specs.Extents.{Extent, is_live}
use Rattle.pg_slice_rules.specs.Known.{Taken}
use Rattle.pg_slice_walk.specs.Chains.{IsChain}

-- each extent from the one before this number on is that of a pinned branch step
pub record ArePinned (holders : List ℕ) (d : Taken) (h : ℕ) : Type 0 where
  pub by : (es : List Extent) → IsChain holders h es → is_live d.pinned es ≡ true

pub record AreSettled (holders : List ℕ) (d : Taken) (settled : List Bool) : Type 0 where
  pub by : (b : ℕ) → slice_index_or settled b false ≡ true → ArePinned holders d (suc b)

-- from the extent before this number on these are the branch steps, the innermost first, up to the one before another number
abbrev pub Leads : List ℕ → ℕ → List ℕ → ℕ → Type 0
Leads holders h [] rest = h ≡ rest
Leads holders h (b ∷ bs) rest = (h ≡ suc b) × Leads holders (slice_index_or holders b 0) bs rest
