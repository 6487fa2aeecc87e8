-- A part of memory in pages: a table with the slot of each page, and the arena, in which slot s holds the words from
-- s * PAGE_GRANULES on. Slot 0 is a page of zeros, and stands for each page that was never written.
use Rattle.std.specs.Prelude.{◌≡◌, ℕ, zero, suc, ◌+◌, ◌*◌, ◌/◌, ◌%◌, ◌^◌, ◌<◌, ◌≤◌, [], ◌∷◌, length, map, nat_eq, if◌then◌else◌, slice_index, slice_set}
use Rattle.std.specs.List.{range_with_len}
use Rattle.pg_run_memory.specs.declared.pages.TheConstants.{PAGE_GRANULES}
use Rattle.pg_run_memory.specs.Memory.{Words}

-- where in the arena a granule's word stands
abbrev pub place_in_arena : Words → ℕ → ℕ
place_in_arena table granule = slice_index table (granule / PAGE_GRANULES) * PAGE_GRANULES + granule % PAGE_GRANULES

-- the granules that the pages hold, in order
unfoldable pub paged : Words → Words → Words
paged table arena = map (λ g. slice_index arena (place_in_arena table g)) (range_with_len 0 (length table * PAGE_GRANULES))

-- how many pages have a slot of their own
unfoldable pub slot_count : Words → ℕ
slot_count [] = 0
slot_count (zero ∷ table) = slot_count table
slot_count (suc slot ∷ table) = suc (slot_count table)

pub record ArePages (table arena : Words) (used : ℕ) : Type 0 where
  pub room : length arena ≡ length table * PAGE_GRANULES + PAGE_GRANULES
  pub small : length table * PAGE_GRANULES < 2 ^ 32
  pub counted : used ≡ slot_count table
  pub in_use : (page : ℕ) → slice_index table page ≤ used
  pub apart : (page other : ℕ) → 0 < slice_index table page → slice_index table page ≡ slice_index table other → page ≡ other
  pub zeros : (k : ℕ) → k < PAGE_GRANULES → slice_index arena k ≡ 0
  pub unused : (k : ℕ) → used * PAGE_GRANULES + PAGE_GRANULES ≤ k → slice_index arena k ≡ 0

-- the table in which a page has a slot, the next one if it had none
abbrev pub with_slot : Words → ℕ → ℕ → Words
with_slot table used page = if nat_eq (slice_index table page) 0 then slice_set table page (used + 1) else table

-- the last slot that is in use then
abbrev pub used_with : Words → ℕ → ℕ → ℕ
used_with table used page = if nat_eq (slice_index table page) 0 then used + 1 else used
