-- How the count of a crew's rounds rises, and its count of turns.
use Rattle.std.proofs.Common.{◌≡◌, ◌⊎◌, ℕ, ◌+◌, ◌-◌, ◌^◌, ◌<◌, ◌≤◌, inl, inr, arith}
use Rattle.std.specs.Prelude.{min}
use Rattle.std.proofs.lemmas.Bool.{cases_lt}
use Rattle.pg_io.specs.Faults.{Rose}
use Rattle.pg_session.specs.Counts.{RoseBy}

pub rose_none : (before now : ℕ) → before ≤ now → RoseBy 0 before now
rose_none before now stays = record { stays = stays; rose = inl (omega (arith, stays)) }

pub rose_one : (before now : ℕ) → before ≤ now → Rose before now → RoseBy 1 before now
rose_one before now stays (inl less) = record { stays = stays; rose = inl (omega (arith, less)) }
rose_one before now stays (inr last) = record { stays = stays; rose = inr (omega (arith, last)) }

-- a count of turns stands still at its greatest value, and else rises by each turn
pub rose_told : (before turns told now : ℕ) → before < 2 ^ 64 → now ≡ min (before + turns) (2 ^ 64 - 1) → told ≡ turns → RoseBy told before now
rose_told before turns told now few e same = go (cases_lt (before + turns) (2 ^ 64 - 1))
  where
    go : (before + turns < 2 ^ 64 - 1) ⊎ (2 ^ 64 - 1 ≤ before + turns) → RoseBy told before now
    go (inl lt) = record { stays = omega (arith, e, lt); rose = inl (omega (arith, e, lt, same)) }
    go (inr le) = record { stays = omega (arith, e, few, le); rose = inr (omega (arith, e, le)) }

pub rose_stays : (n before now : ℕ) → RoseBy n before now → RoseBy 0 before now
rose_stays n before now h = rose_none before now h.stays
