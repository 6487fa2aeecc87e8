use Rattle.std.proofs.Common.{◌≤◌, ◌+◌, ◌-◌, ◌*◌, length, drop, map}
use Rattle.pg_read_grammar.specs.declared.class.Class.TheVariants.{Comma}
use Rattle.pg_read_grammar.specs.Classes.{is}
use Rattle.pg_read_grammar.specs.Reading.{onto, all_of}
use Rattle.pg_read_grammar.specs.Reader.{typed_const_at, const_at, behind_comma}
use Rattle.pg_read_ast.specs.Views.{typed_const_of}
use Rattle.pg_read_grammar.proofs.Loops.{Left}
use Rattle.pg_read_terms.proofs.constants.+constants.Given as goal

abbrev pub decreases-constant : goal.decreases-constant
decreases-constant l = 6 * l.depth

abbrev pub decreases-typed_const : goal.decreases-typed_const
decreases-typed_const l = 6 * l.depth + 1

abbrev pub decreases-comma_constant : goal.decreases-comma_constant
decreases-comma_constant l = 6 * l.depth + 2

abbrev pub decreases-more_constants : goal.decreases-more_constants
decreases-more_constants l = 6 * l.depth + 3

abbrev pub decreases-constants_to : goal.decreases-constants_to
decreases-constants_to l = 6 * l.depth + 4

abbrev pub decreases-array_const : goal.decreases-array_const
decreases-array_const l = 6 * l.depth + 5

abbrev pub decreases-struct_const : goal.decreases-struct_const
decreases-struct_const l = 6 * l.depth + 5

abbrev pub invariant-more_constants-items : goal.invariant-more_constants-items
invariant-more_constants-items l = (l.at ≤ l.place) × (l.place ≤ length l.text.tokens.now)
    × Left (is Comma) (behind_comma (typed_const_at l.depth (const_at l.depth))) (map typed_const_of l.all.items) (drop l.place l.text.tokens.now)
    (onto (map typed_const_of l.fn.all.items) (all_of (is Comma) (behind_comma (typed_const_at l.depth (const_at l.depth))) (drop l.at l.text.tokens.now)))

abbrev pub decreases-more_constants-items : goal.decreases-more_constants-items
decreases-more_constants-items l = length l.text.tokens.now - l.place
