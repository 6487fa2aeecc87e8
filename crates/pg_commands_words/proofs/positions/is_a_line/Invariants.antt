use Rattle.std.proofs.Common.{◌≡◌, drop, map, string_bytes}
use Rattle.pg_commands_words.specs.Lines.{is_line, is_line_from}
use Rattle.pg_commands_words.proofs.positions.is_a_line.Given as goal

abbrev pub invariant-words : goal.invariant-words
invariant-words l = is_line_from l.standing (map string_bytes (drop l.place l.words)) ≡ is_line (map string_bytes l.words)
