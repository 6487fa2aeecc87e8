use Rattle.std.proofs.Common.{◌≤◌, ◌-◌, length, drop, map}
use Rattle.pg_read_grammar.specs.Reading.{onto, all_of}
use Rattle.pg_read_grammar.specs.declared.class.Class.TheVariants.{Comma}
use Rattle.pg_read_grammar.specs.Classes.{is}
use Rattle.pg_read_grammar.specs.Reader.{behind_comma, argument_at}
use Rattle.pg_read_ast.specs.Views.{typed_of}
use Rattle.pg_read_grammar.proofs.Loops.{Left}
use Rattle.pg_read_operations.proofs.calls.more_arguments.Given as goal

abbrev pub invariant-items : goal.invariant-items
invariant-items l = (l.at ≤ l.place) × (l.place ≤ length l.text.tokens.now)
    × Left (is Comma) (behind_comma argument_at) (map typed_of l.all.items) (drop l.place l.text.tokens.now)
    (onto (map typed_of l.fn.all.items) (all_of (is Comma) (behind_comma argument_at) (drop l.at l.text.tokens.now)))

abbrev pub decreases-items : goal.decreases-items
decreases-items l = length l.text.tokens.now - l.place
