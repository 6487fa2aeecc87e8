use Rattle.std.proofs.Common.{◌≤◌, ◌-◌, length, drop}
use Rattle.pg_read_grammar.specs.ReaderItems.{begins_next, next_part_at, body_end_at}
use Rattle.pg_read.specs.BodyParts.{body_of, parts_at}
use Rattle.pg_read_grammar.proofs.Loops.{Runs}
use Rattle.pg_read.proofs.body.body_parts.Given as goal

abbrev pub invariant-reading : goal.invariant-reading
invariant-reading l = (l.at ≤ l.place) × (l.place ≤ length l.text.tokens.now)
    × Runs begins_next next_part_at body_end_at (body_of l.body) (drop l.place l.text.tokens.now) (parts_at (drop l.at l.text.tokens.now))

abbrev pub decreases-reading : goal.decreases-reading
decreases-reading l = length l.text.tokens.now - l.place
