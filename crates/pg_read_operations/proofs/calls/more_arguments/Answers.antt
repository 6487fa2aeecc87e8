use Rattle.std.proofs.Common.{drop, map, sym, ◌∙◌, arith}
use Rattle.pg_read_grammar.specs.Reading.{onto, all_of}
use Rattle.pg_read_grammar.specs.declared.class.Class.TheVariants.{Comma}
use Rattle.pg_read_grammar.specs.Classes.{is}
use Rattle.pg_read_grammar.specs.Reader.{behind_comma, argument_at}
use Rattle.pg_read_ast.specs.Views.{typed_of}
use Rattle.pg_read_grammar.proofs.Loops.{left_fails, left_kept, left_stop}
use Rattle.pg_read_operations.proofs.calls.more_arguments.Goals as goal

pub returns-in-Err : goal.returns-in-Err
returns-in-Err c = let i = c.items.invariant in
    left_fails (is Comma) (behind_comma argument_at) (map typed_of c.items.all.items) c.args.text.now.tokens.now c.args.at c.items.place
    (onto (map typed_of c.args.all.items) (all_of (is Comma) (behind_comma argument_at) (drop c.args.at c.args.text.now.tokens.now))) c.in-Err.error
    i.2 (sym c.next_is.ensures ∙ c.items-test.true) i.0 c.in-Err.ensures.read

pub items-preserved : goal.items-preserved
items-preserved c = let i = c.items.invariant in let o = c.in-Ok.ensures.read in (
  omega (arith, i.0, o.1),
  o.2,
  left_kept (is Comma) (behind_comma argument_at) typed_of c.items.all.items c.keep.new.all.items c.in-Ok.next c.args.text.now.tokens.now c.items.place c.in-Ok.to
      (onto (map typed_of c.args.all.items) (all_of (is Comma) (behind_comma argument_at) (drop c.args.at c.args.text.now.tokens.now)))
      c.in_ok-keep-in-Ok.ensures i.2 (sym c.next_is.ensures ∙ c.items-test.true) o.0 c.in-Ok.ensures.on o.2,
)

pub returns : goal.returns
returns c = let i = c.items.invariant in (
  left_stop (is Comma) (behind_comma argument_at) (map typed_of c.items.all.items) (drop c.items.place c.args.text.now.tokens.now)
      (onto (map typed_of c.args.all.items) (all_of (is Comma) (behind_comma argument_at) (drop c.args.at c.args.text.now.tokens.now))) i.2 (sym c.next_is.ensures ∙ c.items-test.false),
  i.0,
  i.1,
)
