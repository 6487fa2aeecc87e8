-- The bound of numbers of so many bytes.
use Rattle.std.specs.Prelude.{ℕ, zero, suc, ◌*◌}

-- one more than the greatest number of so many bytes
unfoldable pub bound_of : ℕ → ℕ
bound_of zero = 1
bound_of (suc n) = 256 * bound_of n
