use Rattle.std.proofs.Common.{ℕ, drop, sym, ◌∙◌, arith, subst, map, false}
use Rattle.pg_num.specs.declared.limits.TheConstants.{NESTING_LIMIT}
use Rattle.pg_read_grammar.specs.declared.token.Fault.TheVariants.{Unsupported}
use Rattle.pg_read_grammar.specs.declared.class.Class.TheVariants.{Dots}
use Rattle.pg_read_grammar.specs.Classes.{is}
use Rattle.pg_read_grammar.specs.Grammar.{no_type}
use Rattle.pg_read_grammar.specs.Reading.{unless, take_one}
use Rattle.pg_read_grammar.specs.Reader.{begins_type, type_at, drop_value_at}
use Rattle.pg_read_grammar.specs.ReaderOps.{begins_listing, listing_at, listing_end_at, more_at}
use Rattle.pg_read_ast.specs.declared.types.TypeNode.{TypeNode}
use Rattle.pg_read_ast.specs.Views.{ty_of}
use Rattle.pg_read_operations.specs.declared.listing.Listing.{Listing}
use Rattle.pg_read_operations.specs.Listings.{listing, listing_of}
use Rattle.pg_read_grammar.proofs.Loops.{runs_next, runs_stop, runs_fails, reads_on}
use Rattle.pg_read_operations.proofs.MoreLoops.{More, more_start}
use Rattle.pg_read_operations.proofs.written.more_written.Goals as goal

pub items-init : goal.items-init
items-init c = (
  omega arith,
  omega arith,
  subst (λ xs. More begins_type (type_at NESTING_LIMIT) (unless Unsupported no_type (drop_value_at (take_one (is Dots)))) (listing (map ty_of xs) false)
      (drop c.args.at c.args.text.now.tokens.now) (more_at begins_type (type_at NESTING_LIMIT) (unless Unsupported no_type (drop_value_at (take_one (is Dots))))
      (drop c.args.at c.args.text.now.tokens.now))) (sym c.new.ensures.items)
      (more_start begins_type (type_at NESTING_LIMIT) (unless Unsupported no_type (drop_value_at (take_one (is Dots)))) (drop c.args.at c.args.text.now.tokens.now)),
)

pub returns-in-Err : goal.returns-in-Err
returns-in-Err c = let i = c.items.invariant in
    runs_fails (begins_listing begins_type) (listing_at (type_at NESTING_LIMIT)) (listing_end_at (unless Unsupported no_type (drop_value_at (take_one (is Dots)))))
    (listing_of ty_of c.items.listing) c.args.text.now.tokens.now c.args.at c.items.place
    (more_at begins_type (type_at NESTING_LIMIT) (unless Unsupported no_type (drop_value_at (take_one (is Dots)))) (drop c.args.at c.args.text.now.tokens.now)) c.in-Err.error i.2
    (sym c.type_goes_on.ensures ∙ c.items-test.true) i.0 c.in-Err.ensures.read

pub items-preserved : goal.items-preserved
items-preserved c = let i = c.items.invariant in let o = c.in-Ok.ensures.read in (
  omega (arith, i.0, o.1),
  o.2,
  runs_next (begins_listing begins_type) (listing_at (type_at NESTING_LIMIT)) (listing_end_at (unless Unsupported no_type (drop_value_at (take_one (is Dots)))))
      (listing_of ty_of c.items.listing) (listing_of ty_of c.in-Ok.next) c.args.text.now.tokens.now c.items.place c.in-Ok.to
      (more_at begins_type (type_at NESTING_LIMIT) (unless Unsupported no_type (drop_value_at (take_one (is Dots)))) (drop c.args.at c.args.text.now.tokens.now)) i.2
      (sym c.type_goes_on.ensures ∙ c.items-test.true) o.0 c.in-Ok.ensures.on o.2,
)

pub returns : goal.returns
returns c = let i = c.items.invariant in
    reads_on c.written_end.result (λ (x : Listing TypeNode × ℕ). listing_of ty_of x.0) (λ (x : Listing TypeNode × ℕ). x.1) c.args.text.now.tokens.now c.args.at c.items.place
    (listing_end_at (unless Unsupported no_type (drop_value_at (take_one (is Dots)))) (listing_of ty_of c.items.listing) (drop c.items.place c.args.text.now.tokens.now))
    (more_at begins_type (type_at NESTING_LIMIT) (unless Unsupported no_type (drop_value_at (take_one (is Dots)))) (drop c.args.at c.args.text.now.tokens.now)) c.written_end.ensures
    (runs_stop (begins_listing begins_type) (listing_at (type_at NESTING_LIMIT)) (listing_end_at (unless Unsupported no_type (drop_value_at (take_one (is Dots)))))
    (listing_of ty_of c.items.listing) (drop c.items.place c.args.text.now.tokens.now)
    (more_at begins_type (type_at NESTING_LIMIT) (unless Unsupported no_type (drop_value_at (take_one (is Dots)))) (drop c.args.at c.args.text.now.tokens.now)) i.2
    (sym c.type_goes_on.ensures ∙ c.items-test.false)) i.0
