use Rattle.std.proofs.Common.{◌≤◌, ◌+◌, ◌-◌, length, drop, map, ◌*◌}
use Rattle.pg_read_grammar.specs.declared.class.Class.TheVariants.{Comma}
use Rattle.pg_read_grammar.specs.Classes.{is}
use Rattle.pg_read_grammar.specs.Reading.{onto, all_of}
use Rattle.pg_read_grammar.specs.Reader.{type_at, behind_comma}
use Rattle.pg_read_ast.specs.Views.{ty_of}
use Rattle.pg_read_grammar.proofs.Loops.{Left}
use Rattle.pg_read_terms.proofs.types.+types.Given as goal

abbrev pub decreases-array_type : goal.decreases-array_type
decreases-array_type l = 5 * l.depth + 1

abbrev pub decreases-types_to : goal.decreases-types_to
decreases-types_to l = 5 * l.depth + 3

abbrev pub decreases-more_types : goal.decreases-more_types
decreases-more_types l = 5 * l.depth + 2

abbrev pub decreases-struct_type : goal.decreases-struct_type
decreases-struct_type l = 5 * l.depth + 4

abbrev pub decreases-type_node : goal.decreases-type_node
decreases-type_node l = 5 * l.depth

abbrev pub invariant-more_types-items : goal.invariant-more_types-items
invariant-more_types-items l = (l.at ≤ l.place) × (l.place ≤ length l.text.tokens.now)
    × Left (is Comma) (behind_comma (type_at l.depth)) (map ty_of l.types.items) (drop l.place l.text.tokens.now)
    (onto (map ty_of l.fn.types.items) (all_of (is Comma) (behind_comma (type_at l.depth)) (drop l.at l.text.tokens.now)))

abbrev pub decreases-more_types-items : goal.decreases-more_types-items
decreases-more_types-items l = length l.text.tokens.now - l.place

abbrev pub decreases-comma_type : goal.decreases-comma_type
decreases-comma_type l = 5 * l.depth + 1
