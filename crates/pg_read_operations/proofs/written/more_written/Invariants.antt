use Rattle.std.proofs.Common.{◌≤◌, ◌-◌, length, drop}
use Rattle.pg_num.specs.declared.limits.TheConstants.{NESTING_LIMIT}
use Rattle.pg_read_grammar.specs.declared.token.Fault.TheVariants.{Unsupported}
use Rattle.pg_read_grammar.specs.declared.class.Class.TheVariants.{Dots}
use Rattle.pg_read_grammar.specs.Classes.{is}
use Rattle.pg_read_grammar.specs.Grammar.{no_type}
use Rattle.pg_read_grammar.specs.Reading.{unless, take_one}
use Rattle.pg_read_grammar.specs.Reader.{begins_type, type_at, drop_value_at}
use Rattle.pg_read_grammar.specs.ReaderOps.{more_at}
use Rattle.pg_read_ast.specs.Views.{ty_of}
use Rattle.pg_read_operations.specs.Listings.{listing_of}
use Rattle.pg_read_operations.proofs.MoreLoops.{More}
use Rattle.pg_read_operations.proofs.written.more_written.Given as goal

abbrev pub invariant-items : goal.invariant-items
invariant-items l = (l.at ≤ l.place) × (l.place ≤ length l.text.tokens.now)
    × More begins_type (type_at NESTING_LIMIT) (unless Unsupported no_type (drop_value_at (take_one (is Dots)))) (listing_of ty_of l.listing) (drop l.place l.text.tokens.now)
    (more_at begins_type (type_at NESTING_LIMIT) (unless Unsupported no_type (drop_value_at (take_one (is Dots)))) (drop l.at l.text.tokens.now))

abbrev pub decreases-items : goal.decreases-items
decreases-items l = length l.text.tokens.now - l.place
