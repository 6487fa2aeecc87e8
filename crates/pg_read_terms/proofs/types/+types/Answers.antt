use Rattle.std.proofs.Common.{◌≡◌, ℕ, false, drop, map, refl, sym, ◌∙◌, arith, rules}
use Rattle.pg_read_grammar.specs.declared.class.Class.TheVariants.{Comma}
use Rattle.pg_read_grammar.specs.Classes.{is}
use Rattle.pg_read_grammar.specs.Grammar.{literal_of}
use Rattle.pg_read_grammar.specs.Reading.{onto, all_of, comes}
use Rattle.pg_read_grammar.specs.Reader.{type_at, array_at, behind_comma}
use Rattle.pg_read_ast.specs.declared.types.TypeNode.{TypeNode}
use Rattle.pg_read_ast.specs.Views.{ty_of}
use Rattle.pg_read_terms.specs.Ends.{array_end_at}
use Rattle.pg_read_grammar.proofs.Loops.{left_fails, left_kept, left_stop, reads_on}
use Rattle.pg_read_terms.proofs.Listed.{listed}
use Rattle.pg_read_terms.proofs.types.+types.Goals as goal

pub more_types-returns-in-Err : goal.more_types-returns-in-Err
more_types-returns-in-Err t c = let i = c.items.invariant in
    left_fails (is Comma) (behind_comma (type_at c.args.depth)) (map ty_of c.items.types.items) c.args.text.now.tokens.now c.args.at c.items.place
    (onto (map ty_of c.args.types.items) (all_of (is Comma) (behind_comma (type_at c.args.depth)) (drop c.args.at c.args.text.now.tokens.now))) c.in-Err.error
    i.2 (sym c.next_is.ensures ∙ c.items-test.true) i.0 c.in-Err.ensures.read

pub more_types-items-preserved : goal.more_types-items-preserved
more_types-items-preserved t c = let i = c.items.invariant in let o = c.in-Ok.ensures.read in (
  omega (arith, i.0, o.1),
  o.2,
  left_kept (is Comma) (behind_comma (type_at c.args.depth)) ty_of c.items.types.items c.keep.new.all.items c.in-Ok.next c.args.text.now.tokens.now c.items.place c.in-Ok.to
      (onto (map ty_of c.args.types.items) (all_of (is Comma) (behind_comma (type_at c.args.depth)) (drop c.args.at c.args.text.now.tokens.now)))
      c.in_ok-keep-in-Ok.ensures i.2 (sym c.next_is.ensures ∙ c.items-test.true) o.0 c.in-Ok.ensures.on o.2,
)

pub more_types-returns : goal.more_types-returns
more_types-returns t c = let i = c.items.invariant in (
  left_stop (is Comma) (behind_comma (type_at c.args.depth)) (map ty_of c.items.types.items) (drop c.items.place c.args.text.now.tokens.now)
      (onto (map ty_of c.args.types.items) (all_of (is Comma) (behind_comma (type_at c.args.depth)) (drop c.args.at c.args.text.now.tokens.now))) i.2
      (sym c.next_is.ensures ∙ c.items-test.false),
  i.0,
  i.1,
)

pub array_type-returns : goal.array_type-returns
array_type-returns t c = let a = c.in_ok-open.ensures.read in let b = c.in_ok-count.ensures.read in let d = c.in_ok-at.ensures.read in let e = c.in_ok-element.ensures in
    reads_on c.array_end.result (λ (x : TypeNode × ℕ). ty_of x.0) (λ (x : TypeNode × ℕ). x.1) c.args.text.now.tokens.now c.args.at c.in_ok-element.at
    (array_end_at c.in_ok-open.open.now (literal_of c.in_ok-count.count.now) (ty_of c.in_ok-element.element) (drop c.in_ok-element.at c.args.text.now.tokens.now))
    (array_at (type_at c.args.depth) (drop c.args.at c.args.text.now.tokens.now))
    c.array_end.ensures (rw a.0 (rw b.0 (rw d.0 (rw e.0 refl)))) (omega (arith, a.1, b.1, d.1, e.1))

pub types_to-returns : goal.types_to-returns
types_to-returns t c =
    let none : comes (is c.args.close) (drop c.args.at c.args.text.now.tokens.now) ≡ false = search rules in
    let a = c.in_ok-first.ensures in let b = c.in_ok-types.ensures in let d = c.in_ok-at.ensures.read in (
      listed ty_of c.args.close (type_at c.args.depth) c.in_ok-first.first c.new-types.result.items c.push.new.self.items c.in_ok-types.types.items _ _
          (drop c.args.at c.args.text.now.tokens.now) _ _ _
          c.new-types.ensures.items c.push.ensures.items c.if-is_err.ensures.negation none a.0 b.0 d.0,
      omega (arith, a.1, b.1, d.1),
      d.2,
    )
