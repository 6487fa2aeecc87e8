use Rattle.std.proofs.Common.{◌≡◌, ◌≤◌, ◌-◌, ◌++◌, length, drop}
use Rattle.pg_read_lex.specs.Names.{unescaped}
use Rattle.pg_read_lex.proofs.names.unescape.Given as goal

abbrev pub invariant-reading : goal.invariant-reading
invariant-reading l = (l.at ≤ length l.text) × (l.bytes.items ++ unescaped (drop l.at l.text) ≡ unescaped l.text)

abbrev pub decreases-reading : goal.decreases-reading
decreases-reading l = length l.text - l.at
