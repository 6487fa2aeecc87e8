use Rattle.std.proofs.Common.{◌≤◌, ◌+◌, ◌-◌, ◌*◌, length, drop}
use Rattle.pg_read_grammar.specs.Reader.{skip_at, bracketed_at, inside_at, brackets}
use Rattle.pg_read_grammar.proofs.Loops.{Rests}
use Rattle.pg_read_terms.proofs.skips.+skips.Given as goal

abbrev pub decreases-bracketed : goal.decreases-bracketed
decreases-bracketed l = 3 * l.depth + 1

abbrev pub decreases-inside : goal.decreases-inside
decreases-inside l = 3 * l.depth + 2

abbrev pub decreases-skip_to : goal.decreases-skip_to
decreases-skip_to l = 3 * l.depth

abbrev pub invariant-inside-loop-error : goal.invariant-inside-loop-error
invariant-inside-loop-error l = (l.at ≤ l.place) × (l.place ≤ length l.tokens)
    × Rests brackets (bracketed_at (skip_at l.depth)) (drop l.place l.tokens) (inside_at (skip_at l.depth) (drop l.at l.tokens))

abbrev pub decreases-inside-loop-error : goal.decreases-inside-loop-error
decreases-inside-loop-error l = length l.tokens - l.place
