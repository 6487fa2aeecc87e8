use Rattle.std.proofs.Common.{◌≤◌, ◌-◌, length, drop}
use Rattle.pg_read_grammar.specs.Reading.{all_of}
use Rattle.pg_read_grammar.specs.Reader.{attribute_at, begins_attribute, drop_value_at}
use Rattle.pg_read_grammar.proofs.Loops.{Rests}
use Rattle.pg_read_terms.proofs.attribute_lists.attribute_list.Given as goal

abbrev pub invariant-loop-error : goal.invariant-loop-error
invariant-loop-error l = (l.at ≤ l.place) × (l.place ≤ length l.tokens)
    × Rests begins_attribute attribute_at (drop l.place l.tokens) (drop_value_at (all_of begins_attribute attribute_at) (drop l.at l.tokens))

abbrev pub decreases-loop-error : goal.decreases-loop-error
decreases-loop-error l = length l.tokens - l.place
