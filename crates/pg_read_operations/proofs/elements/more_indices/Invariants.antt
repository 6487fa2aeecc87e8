use Rattle.std.proofs.Common.{◌≤◌, ◌-◌, length, drop}
use Rattle.pg_read_grammar.specs.declared.token.Fault.TheVariants.{Unsupported}
use Rattle.pg_read_grammar.specs.Grammar.{no_type}
use Rattle.pg_read_grammar.specs.Reading.{unless}
use Rattle.pg_read_grammar.specs.Reader.{begins_type}
use Rattle.pg_read_grammar.specs.ReaderOps.{more_at, typed_value_at, metadata_tail_at}
use Rattle.pg_read_ast.specs.Views.{typed_of}
use Rattle.pg_read_operations.specs.Listings.{listing_of}
use Rattle.pg_read_operations.proofs.MoreLoops.{More}
use Rattle.pg_read_operations.proofs.elements.more_indices.Given as goal

abbrev pub invariant-items : goal.invariant-items
invariant-items l = (l.at ≤ l.place) × (l.place ≤ length l.text.tokens.now)
    × More begins_type typed_value_at (unless Unsupported no_type metadata_tail_at) (listing_of typed_of l.listing) (drop l.place l.text.tokens.now)
    (more_at begins_type typed_value_at (unless Unsupported no_type metadata_tail_at) (drop l.at l.text.tokens.now))

abbrev pub decreases-items : goal.decreases-items
decreases-items l = length l.text.tokens.now - l.place
