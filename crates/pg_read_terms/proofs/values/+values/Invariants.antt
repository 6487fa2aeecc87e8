use Rattle.std.proofs.Common.{◌≤◌, ◌+◌, ◌-◌, ◌*◌, length, drop, map}
use Rattle.pg_read_grammar.specs.declared.class.Class.TheVariants.{Comma}
use Rattle.pg_read_grammar.specs.Classes.{is}
use Rattle.pg_read_grammar.specs.Reading.{all_of}
use Rattle.pg_read_grammar.specs.Reader.{typed_in_at, value_at, behind_comma}
use Rattle.pg_read_ast.specs.Views.{typed_of}
use Rattle.pg_read_grammar.proofs.Loops.{Left}
use Rattle.pg_read_terms.proofs.values.+values.Given as goal

abbrev pub decreases-other_value : goal.decreases-other_value
decreases-other_value l = 9 * l.depth

abbrev pub decreases-value : goal.decreases-value
decreases-value l = 9 * l.depth + 1

abbrev pub decreases-typed_value_in : goal.decreases-typed_value_in
decreases-typed_value_in l = 9 * l.depth + 2

abbrev pub decreases-comma_value : goal.decreases-comma_value
decreases-comma_value l = 9 * l.depth + 3

abbrev pub decreases-more_values : goal.decreases-more_values
decreases-more_values l = 9 * l.depth + 4

abbrev pub decreases-gep_indices : goal.decreases-gep_indices
decreases-gep_indices l = 9 * l.depth + 5

abbrev pub decreases-gep_pointer : goal.decreases-gep_pointer
decreases-gep_pointer l = 9 * l.depth + 6

abbrev pub decreases-gep_tail : goal.decreases-gep_tail
decreases-gep_tail l = 9 * l.depth + 7

abbrev pub decreases-gep : goal.decreases-gep
decreases-gep l = 9 * l.depth + 8

abbrev pub invariant-more_values-items : goal.invariant-more_values-items
invariant-more_values-items l = (l.at ≤ l.place) × (l.place ≤ length l.text.tokens.now)
    × Left (is Comma) (behind_comma (typed_in_at l.depth (value_at l.depth))) (map typed_of l.values.items) (drop l.place l.text.tokens.now)
    (all_of (is Comma) (behind_comma (typed_in_at l.depth (value_at l.depth))) (drop l.at l.text.tokens.now))

abbrev pub decreases-more_values-items : goal.decreases-more_values-items
decreases-more_values-items l = length l.text.tokens.now - l.place
