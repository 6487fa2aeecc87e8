use Rattle.std.proofs.Common.{drop, map, sym, ◌∙◌, arith}
use Rattle.pg_read_grammar.specs.declared.class.Class.TheVariants.{Comma}
use Rattle.pg_read_grammar.specs.Classes.{is}
use Rattle.pg_read_grammar.specs.Reading.{onto, all_of}
use Rattle.pg_read_grammar.specs.Reader.{behind_comma}
use Rattle.pg_read_grammar.specs.ReaderItems.{defined_param_at}
use Rattle.pg_read_ast.specs.Views.{param_of}
use Rattle.pg_read_grammar.proofs.Loops.{left_fails, left_kept, left_stop}
use Rattle.pg_read.proofs.params.more_params.Goals as goal

pub returns-in-Err : goal.returns-in-Err
returns-in-Err c = let i = c.items.invariant in
    left_fails (is Comma) (behind_comma defined_param_at) (map param_of c.items.all.items) c.args.text.now.tokens.now c.args.at c.items.place
    (onto (map param_of c.args.all.items) (all_of (is Comma) (behind_comma defined_param_at) (drop c.args.at c.args.text.now.tokens.now))) c.in-Err.error
    i.2 (sym c.next_is.ensures ∙ c.items-test.true) i.0 c.in-Err.ensures.read

pub items-preserved : goal.items-preserved
items-preserved c = let i = c.items.invariant in let o = c.in-Ok.ensures.read in (
  omega (arith, i.0, o.1),
  o.2,
  left_kept (is Comma) (behind_comma defined_param_at) param_of c.items.all.items c.keep.new.all.items c.in-Ok.next c.args.text.now.tokens.now c.items.place c.in-Ok.to
      (onto (map param_of c.args.all.items) (all_of (is Comma) (behind_comma defined_param_at) (drop c.args.at c.args.text.now.tokens.now)))
      c.in_ok-keep-in-Ok.ensures i.2 (sym c.next_is.ensures ∙ c.items-test.true) o.0 c.in-Ok.ensures.on o.2,
)

pub returns : goal.returns
returns c = let i = c.items.invariant in (
  left_stop (is Comma) (behind_comma defined_param_at) (map param_of c.items.all.items) (drop c.items.place c.args.text.now.tokens.now)
      (onto (map param_of c.args.all.items) (all_of (is Comma) (behind_comma defined_param_at) (drop c.args.at c.args.text.now.tokens.now))) i.2 (sym c.next_is.ensures ∙ c.items-test.false),
  i.0,
  i.1,
)
