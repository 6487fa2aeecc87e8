-- A move of a pointer: what it keeps, and moves one after another.
use Rattle.std.proofs.Common.{◌≡◌, ℕ, ◌^◌, ◌<◌, ℤ, pos, arith}
use Rattle.std.specs.Prelude.{◌+ℤ◌}
use Rattle.pg_num.specs.Pointers.{moved_by, offset_of, pointer_of}

pub start-moved_by : (word : ℕ) (delta : ℤ) → (pointer_of (moved_by word delta)).start ≡ (pointer_of word).start
start-moved_by word delta = grind arith

pub length-moved_by : (word : ℕ) (delta : ℤ) → (pointer_of (moved_by word delta)).length ≡ (pointer_of word).length
length-moved_by word delta = grind arith

pub offset-moved_by : (word : ℕ) (delta : ℤ) → (pointer_of (moved_by word delta)).offset ≡ offset_of (pos (pointer_of word).offset +ℤ delta)
offset-moved_by word delta = grind arith

pub moved_by-fits : (word : ℕ) (delta : ℤ) → word < 2 ^ 64 → moved_by word delta < 2 ^ 64
moved_by-fits word delta h = grind arith

pub moved_by-moved_by : (word : ℕ) (a b : ℤ) → moved_by (moved_by word a) b ≡ moved_by word (a +ℤ b)
moved_by-moved_by word a b = grind arith

pub moved_by-zero : (word : ℕ) → moved_by word (pos 0) ≡ word
moved_by-zero word = grind arith
