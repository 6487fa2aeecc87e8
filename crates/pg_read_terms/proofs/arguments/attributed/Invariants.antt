use Rattle.std.proofs.Common.{◌≤◌, ◌-◌, length, drop}
use Rattle.pg_read_grammar.specs.Reader.{begins_pending, pending_at, settled_at, attributed_at}
use Rattle.pg_read_terms.specs.Pending.{pending_of}
use Rattle.pg_read_grammar.proofs.Loops.{Runs}
use Rattle.pg_read_terms.proofs.arguments.attributed.Given as goal

abbrev pub invariant-items : goal.invariant-items
invariant-items l = (l.at ≤ l.place) × (l.place ≤ length l.text.tokens.now)
    × Runs begins_pending pending_at settled_at (pending_of l.state) (drop l.place l.text.tokens.now) (attributed_at (drop l.at l.text.tokens.now))

abbrev pub decreases-items : goal.decreases-items
decreases-items l = length l.text.tokens.now - l.place
