-- Moves of pointers: they keep the bounds, and add up.
use Rattle.std.proofs.Common.{◌≡◌, ℕ, ℤ, pos, arith, refl}
use Rattle.pg_num.specs.Pointers.{moved_by}
use Rattle.pg_num.proofs.Moves.{start-moved_by, length-moved_by}
use Rattle.pg_region_paths.specs.Paths.{moved_offset}
use Rattle.pg_slice_replay.specs.pg_slice_rules.Freeable.{bounds_of}

pub bounds_moved : (word : ℕ) (delta : ℤ) → bounds_of (moved_by word delta) ≡ bounds_of word
bounds_moved word delta = let a = start-moved_by word delta in let b = length-moved_by word delta in rw (a, b) refl

-- a move by an offset that is itself the offset of a pointer that is moved
pub moved_moved : (b k : ℕ) (d : ℤ) → moved_by (moved_by b (pos k)) d ≡ moved_by b (pos (moved_by k d))
moved_moved b k d = grind arith

pub moved_twice : (b j k : ℕ) → moved_by (moved_by b (pos j)) (pos k) ≡ moved_by b (pos (moved_offset j k))
moved_twice b j k = grind arith
