use Rattle.std.proofs.Common.{drop, map, sym, ◌∙◌, arith, subst}
use Rattle.pg_read_grammar.specs.Reading.{all_of}
use Rattle.pg_read_grammar.specs.Reader.{begins_type}
use Rattle.pg_read_grammar.specs.ReaderOps.{case_at}
use Rattle.pg_read_ast.specs.Views.{case_of}
use Rattle.pg_read_grammar.proofs.Loops.{Left, left_start, left_fails, left_kept, left_stop}
use Rattle.pg_read_operations.proofs.branches.cases.Goals as goal

pub items-init : goal.items-init
items-init c = (
  omega arith,
  omega arith,
  subst (λ xs. Left begins_type case_at (map case_of xs) (drop c.args.at c.args.text.now.tokens.now)
      (all_of begins_type case_at (drop c.args.at c.args.text.now.tokens.now))) (sym c.new-all.ensures.items) (left_start begins_type case_at (drop c.args.at c.args.text.now.tokens.now)),
)

pub returns-in-Err : goal.returns-in-Err
returns-in-Err c = let i = c.items.invariant in
    left_fails begins_type case_at (map case_of c.items.all.items) c.args.text.now.tokens.now c.args.at c.items.place
    (all_of begins_type case_at (drop c.args.at c.args.text.now.tokens.now)) c.in-Err.error
    i.2 (sym c.next_in.ensures ∙ c.items-test.true) i.0 c.in-Err.ensures.read

pub items-preserved : goal.items-preserved
items-preserved c = let i = c.items.invariant in let o = c.in-Ok.ensures.read in (
  omega (arith, i.0, o.1),
  o.2,
  left_kept begins_type case_at case_of c.items.all.items c.keep.new.all.items c.in-Ok.next c.args.text.now.tokens.now c.items.place c.in-Ok.to
      (all_of begins_type case_at (drop c.args.at c.args.text.now.tokens.now))
      c.in_ok-keep-in-Ok.ensures i.2 (sym c.next_in.ensures ∙ c.items-test.true) o.0 c.in-Ok.ensures.on o.2,
)

pub returns : goal.returns
returns c = let i = c.items.invariant in (
  left_stop begins_type case_at (map case_of c.items.all.items) (drop c.items.place c.args.text.now.tokens.now) (all_of begins_type case_at (drop c.args.at c.args.text.now.tokens.now)) i.2
      (sym c.next_in.ensures ∙ c.items-test.false),
  i.0,
  i.1,
)
