use Rattle.std.proofs.Common.{drop, sym, ◌∙◌, arith}
use Rattle.pg_read_grammar.specs.Reader.{argument_at}
use Rattle.pg_read_ast.specs.Views.{typed_of}
use Rattle.pg_read_terms.proofs.Listed.{listed}
use Rattle.pg_read_operations.proofs.calls.arguments_to.Goals as goal

pub returns : goal.returns
returns c = let a = c.in_ok-first.ensures in let b = c.in_ok-all.ensures in let d = c.in_ok-at.ensures.read in (
  listed typed_of c.args.close argument_at c.in_ok-first.first c.new-all.result.items c.push.new.self.items c.in_ok-all.all.items _ _ (drop c.args.at c.args.text.now.tokens.now) _ _ _
      c.new-all.ensures.items c.push.ensures.items c.if-is_err.ensures.negation (sym c.next_is.ensures ∙ c.if-next_is.false) a.0 b.0 d.0,
  omega (arith, a.1, b.1, d.1),
  d.2,
)
