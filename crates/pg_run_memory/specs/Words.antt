-- One granule as the number of its eight bytes: a part of it, and a change of a part by one sum or difference.
use Rattle.std.specs.Prelude.{ℕ, ◌+◌, ◌-◌, ◌*◌, ◌/◌, ◌%◌, ◌^◌}
use Rattle.pg_run_memory.specs.declared.delta.Delta.{Delta}
use Rattle.pg_run_memory.specs.declared.delta.Delta.TheVariants.{Add, Sub}

-- the number in n bytes of a word, from byte first on
abbrev pub part_of : ℕ → ℕ → ℕ → ℕ
part_of word first n = word / 2 ^ (8 * first) % 2 ^ (8 * n)

-- the word with a number in these bytes
abbrev pub with_part : ℕ → ℕ → ℕ → ℕ → ℕ
with_part word first n number =
    (word / 2 ^ (8 * (n + first)) * 2 ^ (8 * n) + number) * 2 ^ (8 * first) + word % 2 ^ (8 * first)

-- a word after the delta was added to it or taken from it, modulo 2 ^ 64
abbrev pub changed_by : Delta → ℕ → ℕ
changed_by (Add n) word = (word + n) % 2 ^ 64
changed_by (Sub n) word = (word + (2 ^ 64 - n)) % 2 ^ 64
