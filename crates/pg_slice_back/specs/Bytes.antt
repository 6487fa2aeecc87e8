-- Bytes from one on to before another.
use Rattle.std.specs.Prelude.{ℕ, ◌&&◌, nat_le, nat_lt, Bool}
use Rattle.pg_slice_back.specs.declared.bytes.Bytes.{Bytes}

abbrev pub is_in : Bytes → ℕ → Bool
is_in r b = nat_le r.from b && nat_lt b r.to
