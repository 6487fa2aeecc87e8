-- The pages of memory that a worker wrote.
use Rattle.std.specs.Prelude.{ℕ, ◌/◌, ◌%◌, ◌==◌, List, Bool, slice_index}
use Rattle.std.specs.Int.{bit_at}

-- the page of a byte: a page has 64 granules
abbrev pub page_of : ℕ → ℕ
page_of b = b / 512

-- a page is marked by a bit
abbrev pub is_marked : List ℕ → ℕ → Bool
is_marked words page = bit_at (slice_index words (page / 64)) (page % 64) == 1
