-- Lines and columns, both from 1.
use Rattle.std.specs.Prelude.{ℕ, ◌+◌, List, length, count_by, take_while, reverse, not}
use Rattle.pg_read_lex.specs.Bytes.{is_line_feed}

-- the line of what comes after these bytes
abbrev pub line_after : List ℕ → ℕ
line_after before = 1 + count_by is_line_feed before

-- its column: one more than the bytes since the last line feed
abbrev pub column_after : List ℕ → ℕ
column_after before = 1 + length (take_while (λ b. not (is_line_feed b)) (reverse before))
