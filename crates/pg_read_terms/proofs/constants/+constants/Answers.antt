use Rattle.std.proofs.Common.{◌≡◌, ℕ, zero, suc, ◌<◌, List, false, drop, map, refl, sym, ◌∙◌, arith, rules}
use Rattle.pg_read_grammar.specs.declared.token.Token.{Token}
use Rattle.pg_read_grammar.specs.declared.class.Class.TheVariants.{Comma, OpenSquare, OpenBrace}
use Rattle.pg_read_grammar.specs.Classes.{is}
use Rattle.pg_read_grammar.specs.Reading.{onto, all_of, comes}
use Rattle.pg_read_grammar.specs.Reader.{typed_const_at, const_at, simple_const_at, behind_comma}
use Rattle.pg_read_ast.specs.Views.{typed_const_of}
use Rattle.pg_read_grammar.proofs.Loops.{left_fails, left_kept, left_stop}
use Rattle.pg_read_terms.proofs.Listed.{listed}
use Rattle.pg_read_terms.proofs.constants.+constants.Goals as goal

-- with a bracket to spare, a constant that opens none is read as one
simple_case : (depth : ℕ) (ts : List Token) → 0 < depth → comes (is OpenSquare) ts ≡ false → comes (is OpenBrace) ts ≡ false → const_at depth ts ≡ simple_const_at depth ts
unfolding const_at
simple_case zero ts h k l = absurd (omega (arith, h))
simple_case (suc n) ts h k l = rw (k, l) refl

pub constant-returns : goal.constant-returns
constant-returns t c = rw (simple_case c.args.depth (drop c.args.at c.args.text.now.tokens.now) (omega arith) (sym c.next_is.ensures ∙ c.if-next_is.false)
    (sym c.next_is-2.ensures ∙ c.if-next_is-2.false)) c.simple_const-2.ensures

pub more_constants-returns-in-Err : goal.more_constants-returns-in-Err
more_constants-returns-in-Err t c = let i = c.items.invariant in
    left_fails (is Comma) (behind_comma (typed_const_at c.args.depth (const_at c.args.depth))) (map typed_const_of c.items.all.items) c.args.text.now.tokens.now c.args.at c.items.place
    (onto (map typed_const_of c.args.all.items) (all_of (is Comma) (behind_comma (typed_const_at c.args.depth (const_at c.args.depth))) (drop c.args.at c.args.text.now.tokens.now))) c.in-Err.error
    i.2 (sym c.next_is.ensures ∙ c.items-test.true) i.0 c.in-Err.ensures.read

pub more_constants-items-preserved : goal.more_constants-items-preserved
more_constants-items-preserved t c = let i = c.items.invariant in let o = c.in-Ok.ensures.read in (
  omega (arith, i.0, o.1),
  o.2,
  left_kept (is Comma) (behind_comma (typed_const_at c.args.depth (const_at c.args.depth))) typed_const_of c.items.all.items c.keep.new.all.items c.in-Ok.next c.args.text.now.tokens.now
      c.items.place c.in-Ok.to
      (onto (map typed_const_of c.args.all.items) (all_of (is Comma) (behind_comma (typed_const_at c.args.depth (const_at c.args.depth))) (drop c.args.at c.args.text.now.tokens.now)))
      c.in_ok-keep-in-Ok.ensures i.2 (sym c.next_is.ensures ∙ c.items-test.true) o.0 c.in-Ok.ensures.on o.2,
)

pub more_constants-returns : goal.more_constants-returns
more_constants-returns t c = let i = c.items.invariant in (
  left_stop (is Comma) (behind_comma (typed_const_at c.args.depth (const_at c.args.depth))) (map typed_const_of c.items.all.items) (drop c.items.place c.args.text.now.tokens.now)
      (onto (map typed_const_of c.args.all.items) (all_of (is Comma) (behind_comma (typed_const_at c.args.depth (const_at c.args.depth))) (drop c.args.at c.args.text.now.tokens.now))) i.2
      (sym c.next_is.ensures ∙ c.items-test.false),
  i.0,
  i.1,
)

pub constants_to-returns : goal.constants_to-returns
constants_to-returns t c =
    let none : comes (is c.args.close) (drop c.args.at c.args.text.now.tokens.now) ≡ false = search rules in
    let a = c.in_ok-first.ensures in let b = c.in_ok-all.ensures in let d = c.in_ok-at.ensures.read in (
      listed typed_const_of c.args.close (typed_const_at c.args.depth (const_at c.args.depth)) c.in_ok-first.first c.new-all.result.items c.push.new.self.items c.in_ok-all.all.items _ _
          (drop c.args.at c.args.text.now.tokens.now) _ _ _
          c.new-all.ensures.items c.push.ensures.items c.if-is_err.ensures.negation none a.0 b.0 d.0,
      omega (arith, a.1, b.1, d.1),
      d.2,
    )
