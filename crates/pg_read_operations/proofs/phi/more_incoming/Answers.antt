use Rattle.std.proofs.Common.{ℕ, drop, sym, ◌∙◌, arith, subst, map, false}
use Rattle.pg_read_grammar.specs.declared.class.Class.TheVariants.{OpenSquare}
use Rattle.pg_read_grammar.specs.Classes.{is}
use Rattle.pg_read_grammar.specs.ReaderOps.{begins_listing, listing_at, listing_end_at, more_at, incoming_at, metadata_tail_at}
use Rattle.pg_read_ast.specs.declared.ops.IncomingNode.{IncomingNode}
use Rattle.pg_read_ast.specs.Views.{incoming_of}
use Rattle.pg_read_operations.specs.declared.listing.Listing.{Listing}
use Rattle.pg_read_operations.specs.Listings.{listing, listing_of}
use Rattle.pg_read_grammar.proofs.Loops.{runs_next, runs_stop, runs_fails, reads_on}
use Rattle.pg_read_operations.proofs.MoreLoops.{More, more_start}
use Rattle.pg_read_operations.proofs.phi.more_incoming.Goals as goal

pub items-init : goal.items-init
items-init c = (
  omega arith,
  omega arith,
  subst (λ xs. More (is OpenSquare) incoming_at metadata_tail_at (listing (map incoming_of xs) false) (drop c.args.at c.args.text.now.tokens.now)
      (more_at (is OpenSquare) incoming_at metadata_tail_at (drop c.args.at c.args.text.now.tokens.now))) (sym c.new.ensures.items)
      (more_start (is OpenSquare) incoming_at metadata_tail_at (drop c.args.at c.args.text.now.tokens.now)),
)

pub returns-in-Err : goal.returns-in-Err
returns-in-Err c = let i = c.items.invariant in
    runs_fails (begins_listing (is OpenSquare)) (listing_at incoming_at) (listing_end_at metadata_tail_at)
    (listing_of incoming_of c.items.listing) c.args.text.now.tokens.now c.args.at c.items.place
    (more_at (is OpenSquare) incoming_at metadata_tail_at (drop c.args.at c.args.text.now.tokens.now)) c.in-Err.error i.2
    (sym c.square_goes_on.ensures ∙ c.items-test.true) i.0 c.in-Err.ensures.read

pub items-preserved : goal.items-preserved
items-preserved c = let i = c.items.invariant in let o = c.in-Ok.ensures.read in (
  omega (arith, i.0, o.1),
  o.2,
  runs_next (begins_listing (is OpenSquare)) (listing_at incoming_at) (listing_end_at metadata_tail_at) (listing_of incoming_of c.items.listing)
      (listing_of incoming_of c.in-Ok.next) c.args.text.now.tokens.now c.items.place c.in-Ok.to
      (more_at (is OpenSquare) incoming_at metadata_tail_at (drop c.args.at c.args.text.now.tokens.now)) i.2 (sym c.square_goes_on.ensures ∙ c.items-test.true) o.0 c.in-Ok.ensures.on o.2,
)

pub returns : goal.returns
returns c = let i = c.items.invariant in
    reads_on c.incoming_end.result (λ (x : Listing IncomingNode × ℕ). listing_of incoming_of x.0)
    (λ (x : Listing IncomingNode × ℕ). x.1) c.args.text.now.tokens.now c.args.at c.items.place
    (listing_end_at metadata_tail_at (listing_of incoming_of c.items.listing) (drop c.items.place c.args.text.now.tokens.now))
    (more_at (is OpenSquare) incoming_at metadata_tail_at (drop c.args.at c.args.text.now.tokens.now)) c.incoming_end.ensures
    (runs_stop (begins_listing (is OpenSquare)) (listing_at incoming_at) (listing_end_at metadata_tail_at) (listing_of incoming_of c.items.listing) (drop c.items.place c.args.text.now.tokens.now)
    (more_at (is OpenSquare) incoming_at metadata_tail_at (drop c.args.at c.args.text.now.tokens.now)) i.2 (sym c.square_goes_on.ensures ∙ c.items-test.false)) i.0
