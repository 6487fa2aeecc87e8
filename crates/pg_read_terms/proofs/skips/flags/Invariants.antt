use Rattle.std.proofs.Common.{◌≤◌, ◌-◌, length, drop}
use Rattle.pg_read_grammar.specs.declared.class.Class.TheVariants.{Flag}
use Rattle.pg_read_grammar.specs.Classes.{is}
use Rattle.pg_read_grammar.specs.Reading.{take_one}
use Rattle.pg_read_grammar.specs.Reader.{flags_at}
use Rattle.pg_read_grammar.proofs.Loops.{Rests}
use Rattle.pg_read_terms.proofs.skips.flags.Given as goal

abbrev pub invariant-loop-place : goal.invariant-loop-place
invariant-loop-place l = (l.at ≤ l.place) × (l.place ≤ length l.tokens) × Rests (is Flag) (take_one (is Flag)) (drop l.place l.tokens) (flags_at (drop l.at l.tokens))

abbrev pub decreases-loop-place : goal.decreases-loop-place
decreases-loop-place l = length l.tokens - l.place
