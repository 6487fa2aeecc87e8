use Rattle.std.proofs.Common.{ℕ, drop, sym, ◌∙◌, arith, subst, map, false}
use Rattle.pg_read_grammar.specs.declared.token.Fault.TheVariants.{Unsupported}
use Rattle.pg_read_grammar.specs.Grammar.{no_type}
use Rattle.pg_read_grammar.specs.Reading.{unless}
use Rattle.pg_read_grammar.specs.Reader.{begins_type}
use Rattle.pg_read_grammar.specs.ReaderOps.{begins_listing, listing_at, listing_end_at, more_at, typed_value_at, metadata_tail_at}
use Rattle.pg_read_ast.specs.declared.values.TypedVal.{TypedVal}
use Rattle.pg_read_ast.specs.Views.{typed_of}
use Rattle.pg_read_operations.specs.declared.listing.Listing.{Listing}
use Rattle.pg_read_operations.specs.Listings.{listing, listing_of}
use Rattle.pg_read_grammar.proofs.Loops.{runs_next, runs_stop, runs_fails, reads_on}
use Rattle.pg_read_operations.proofs.MoreLoops.{More, more_start}
use Rattle.pg_read_operations.proofs.elements.more_indices.Goals as goal

pub items-init : goal.items-init
items-init c = (
  omega arith,
  omega arith,
  subst (λ xs. More begins_type typed_value_at (unless Unsupported no_type metadata_tail_at) (listing (map typed_of xs) false)
      (drop c.args.at c.args.text.now.tokens.now) (more_at begins_type typed_value_at (unless Unsupported no_type metadata_tail_at) (drop c.args.at c.args.text.now.tokens.now)))
      (sym c.new.ensures.items) (more_start begins_type typed_value_at (unless Unsupported no_type metadata_tail_at) (drop c.args.at c.args.text.now.tokens.now)),
)

pub returns-in-Err : goal.returns-in-Err
returns-in-Err c = let i = c.items.invariant in
    runs_fails (begins_listing begins_type) (listing_at typed_value_at) (listing_end_at (unless Unsupported no_type metadata_tail_at))
    (listing_of typed_of c.items.listing) c.args.text.now.tokens.now c.args.at c.items.place
    (more_at begins_type typed_value_at (unless Unsupported no_type metadata_tail_at) (drop c.args.at c.args.text.now.tokens.now)) c.in-Err.error i.2
    (sym c.type_goes_on.ensures ∙ c.items-test.true) i.0 c.in-Err.ensures.read

pub items-preserved : goal.items-preserved
items-preserved c = let i = c.items.invariant in let o = c.in-Ok.ensures.read in (
  omega (arith, i.0, o.1),
  o.2,
  runs_next (begins_listing begins_type) (listing_at typed_value_at) (listing_end_at (unless Unsupported no_type metadata_tail_at))
      (listing_of typed_of c.items.listing) (listing_of typed_of c.in-Ok.next) c.args.text.now.tokens.now c.items.place c.in-Ok.to
      (more_at begins_type typed_value_at (unless Unsupported no_type metadata_tail_at) (drop c.args.at c.args.text.now.tokens.now)) i.2
      (sym c.type_goes_on.ensures ∙ c.items-test.true) o.0 c.in-Ok.ensures.on o.2,
)

pub returns : goal.returns
returns c = let i = c.items.invariant in
    reads_on c.indices_end.result (λ (x : Listing TypedVal × ℕ). listing_of typed_of x.0) (λ (x : Listing TypedVal × ℕ). x.1) c.args.text.now.tokens.now c.args.at c.items.place
    (listing_end_at (unless Unsupported no_type metadata_tail_at) (listing_of typed_of c.items.listing) (drop c.items.place c.args.text.now.tokens.now))
    (more_at begins_type typed_value_at (unless Unsupported no_type metadata_tail_at) (drop c.args.at c.args.text.now.tokens.now)) c.indices_end.ensures
    (runs_stop (begins_listing begins_type) (listing_at typed_value_at) (listing_end_at (unless Unsupported no_type metadata_tail_at)) (listing_of typed_of c.items.listing)
    (drop c.items.place c.args.text.now.tokens.now) (more_at begins_type typed_value_at (unless Unsupported no_type metadata_tail_at) (drop c.args.at c.args.text.now.tokens.now)) i.2
    (sym c.type_goes_on.ensures ∙ c.items-test.false)) i.0
