-- The greatest number of a place, by the numbers at the nodes of a binary tree over the places.
use Rattle.std.specs.Prelude.{ℕ, zero, suc, ◌+◌, ◌-◌, ◌/◌, ◌%◌, ◌==◌, ◌&&◌, ◌||◌, Bool, max, nat_lt}
use Rattle.pg_stamps.specs.declared.stamps.TheConstants.{LEVELS, PLACE_COUNT}
use Rattle.pg_stamps.specs.declared.stamps.Stamps.{Stamps}
use Rattle.pg_stamps.specs.Numbers.{number_at}

-- the number at a node, 0 where there is none
abbrev pub mark_of : Stamps → ℕ → ℕ
mark_of s n = number_at s.marks n

-- the node at a level above a place, from its leaf on
unfoldable pub node_at : ℕ → ℕ → ℕ
node_at x zero = x + PLACE_COUNT
node_at x (suc h) = node_at x h / 2

-- the greatest number at the lowest nodes above a place
unfoldable pub greatest_below : (ℕ → ℕ) → ℕ → ℕ → ℕ
greatest_below m x zero = 0
greatest_below m x (suc h) = max (greatest_below m x h) (m (node_at x h))

-- the greatest number at the nodes above a place
abbrev pub greatest_at : Stamps → ℕ → ℕ
greatest_at s x = greatest_below (mark_of s) x LEVELS

-- a node from l to below r whose parent isn't wholly in there
abbrev pub is_marked : ℕ → ℕ → ℕ → Bool
is_marked l r n = nat_lt l r && ((l % 2 == 1 && n == l) || (r % 2 == 1 && n == r - 1))
