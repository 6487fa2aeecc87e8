use Rattle.std.proofs.Common.{◌≤◌, ◌-◌, length, drop}
use Rattle.pg_read_grammar.specs.declared.class.Class.TheVariants.{OpenSquare}
use Rattle.pg_read_grammar.specs.Classes.{is}
use Rattle.pg_read_grammar.specs.ReaderOps.{more_at, incoming_at, metadata_tail_at}
use Rattle.pg_read_ast.specs.Views.{incoming_of}
use Rattle.pg_read_operations.specs.Listings.{listing_of}
use Rattle.pg_read_operations.proofs.MoreLoops.{More}
use Rattle.pg_read_operations.proofs.phi.more_incoming.Given as goal

abbrev pub invariant-items : goal.invariant-items
invariant-items l = (l.at ≤ l.place) × (l.place ≤ length l.text.tokens.now)
    × More (is OpenSquare) incoming_at metadata_tail_at (listing_of incoming_of l.listing) (drop l.place l.text.tokens.now)
    (more_at (is OpenSquare) incoming_at metadata_tail_at (drop l.at l.text.tokens.now))

abbrev pub decreases-items : goal.decreases-items
decreases-items l = length l.text.tokens.now - l.place
