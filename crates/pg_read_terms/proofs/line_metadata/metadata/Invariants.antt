use Rattle.std.proofs.Common.{◌≤◌, ◌-◌, length, drop}
use Rattle.pg_read_grammar.specs.declared.class.Class.TheVariants.{Comma}
use Rattle.pg_read_grammar.specs.Classes.{is}
use Rattle.pg_read_grammar.specs.ReaderOps.{pair_at, metadata_at}
use Rattle.pg_read_grammar.proofs.Loops.{Rests}
use Rattle.pg_read_terms.proofs.line_metadata.metadata.Given as goal

abbrev pub invariant-loop-error : goal.invariant-loop-error
invariant-loop-error l = (l.at ≤ l.place) × (l.place ≤ length l.tokens) × Rests (is Comma) pair_at (drop l.place l.tokens) (metadata_at (drop l.at l.tokens))

abbrev pub decreases-loop-error : goal.decreases-loop-error
decreases-loop-error l = length l.tokens - l.place
