use Rattle.std.proofs.Common.{◌≡◌, ℕ, zero, suc, ◌-◌, ◌<◌, List, true, drop, map, refl, sym, ◌∙◌, arith, subst}
use Rattle.pg_read_grammar.specs.declared.token.Token.{Token}
use Rattle.pg_read_grammar.specs.declared.class.Class.TheVariants.{Comma, GetElementPtr}
use Rattle.pg_read_grammar.specs.Classes.{is}
use Rattle.pg_read_grammar.specs.Reading.{all_of, comes}
use Rattle.pg_read_grammar.specs.Reader.{typed_in_at, value_at, other_value_at, gep_at, gep_tail_at, behind_comma}
use Rattle.pg_read_ast.specs.declared.values.ValNode.{ValNode}
use Rattle.pg_read_ast.specs.Views.{ty_of, val_of, typed_of}
use Rattle.pg_read_terms.specs.Ends.{gep_pointer_at, gep_indices_at, gep_end_at}
use Rattle.pg_read_grammar.proofs.Loops.{Left, left_start, left_fails, left_kept, left_stop, reads_on}
use Rattle.pg_read_terms.proofs.values.+values.Goals as goal

-- with a bracket to spare, a constant getelementptr is read as one
gep_case : (depth : ℕ) (ts : List Token) → 0 < depth → comes (is GetElementPtr) ts ≡ true → other_value_at depth ts ≡ gep_at (depth - 1) (value_at (depth - 1)) ts
unfolding other_value_at
gep_case zero ts h k = absurd (omega (arith, h))
gep_case (suc n) ts h k = let e : suc n - 1 ≡ n = omega arith in rw (e, k) refl

pub other_value-returns-then-next_is : goal.other_value-returns-then-next_is
other_value-returns-then-next_is t c = rw (gep_case c.args.depth (drop c.args.at c.args.text.now.tokens.now) (omega arith) (sym c.next_is.ensures ∙ c.if-next_is.true)) c.gep.ensures

pub more_values-items-init : goal.more_values-items-init
more_values-items-init t c = (
  omega arith,
  omega arith,
  subst (λ xs. Left (is Comma) (behind_comma (typed_in_at c.args.depth (value_at c.args.depth))) (map typed_of xs) (drop c.args.at c.args.text.now.tokens.now)
      (all_of (is Comma) (behind_comma (typed_in_at c.args.depth (value_at c.args.depth))) (drop c.args.at c.args.text.now.tokens.now))) (sym c.new-values.ensures.items)
      (left_start (is Comma) (behind_comma (typed_in_at c.args.depth (value_at c.args.depth))) (drop c.args.at c.args.text.now.tokens.now)),
)

pub more_values-returns-in-Err : goal.more_values-returns-in-Err
more_values-returns-in-Err t c = let i = c.items.invariant in
    left_fails (is Comma) (behind_comma (typed_in_at c.args.depth (value_at c.args.depth))) (map typed_of c.items.values.items) c.args.text.now.tokens.now c.args.at c.items.place
    (all_of (is Comma) (behind_comma (typed_in_at c.args.depth (value_at c.args.depth))) (drop c.args.at c.args.text.now.tokens.now)) c.in-Err.error
    i.2 (sym c.next_is.ensures ∙ c.items-test.true) i.0 c.in-Err.ensures.read

pub more_values-items-preserved : goal.more_values-items-preserved
more_values-items-preserved t c = let i = c.items.invariant in let o = c.in-Ok.ensures.read in (
  omega (arith, i.0, o.1),
  o.2,
  left_kept (is Comma) (behind_comma (typed_in_at c.args.depth (value_at c.args.depth))) typed_of c.items.values.items c.keep.new.all.items c.in-Ok.next c.args.text.now.tokens.now c.items.place
      c.in-Ok.to
      (all_of (is Comma) (behind_comma (typed_in_at c.args.depth (value_at c.args.depth))) (drop c.args.at c.args.text.now.tokens.now))
      c.in_ok-keep-in-Ok.ensures i.2 (sym c.next_is.ensures ∙ c.items-test.true) o.0 c.in-Ok.ensures.on o.2,
)

pub more_values-returns : goal.more_values-returns
more_values-returns t c = let i = c.items.invariant in (
  left_stop (is Comma) (behind_comma (typed_in_at c.args.depth (value_at c.args.depth))) (map typed_of c.items.values.items) (drop c.items.place c.args.text.now.tokens.now)
      (all_of (is Comma) (behind_comma (typed_in_at c.args.depth (value_at c.args.depth))) (drop c.args.at c.args.text.now.tokens.now)) i.2 (sym c.next_is.ensures ∙ c.items-test.false),
  i.0,
  i.1,
)

pub gep_tail-returns : goal.gep_tail-returns
gep_tail-returns t c = let a = c.in_ok-at.ensures.read in let b = c.in_ok-ty.ensures in
    reads_on c.gep_pointer.result (λ (x : ValNode × ℕ). val_of x.0) (λ (x : ValNode × ℕ). x.1) c.args.text.now.tokens.now c.args.at c.in_ok-ty.at
    (gep_pointer_at c.args.depth (value_at c.args.depth) c.args.word.now (ty_of c.in_ok-ty.ty) (drop c.in_ok-ty.at c.args.text.now.tokens.now))
    (gep_tail_at c.args.depth (value_at c.args.depth) c.args.word.now (drop c.args.at c.args.text.now.tokens.now))
    c.gep_pointer.ensures (rw a.0 (rw b.0 refl)) (omega (arith, a.1, b.1))

pub gep_pointer-returns : goal.gep_pointer-returns
gep_pointer-returns t c = let a = c.in_ok-at.ensures.read in let b = c.in_ok-pointer.ensures in
    reads_on c.gep_indices.result (λ (x : ValNode × ℕ). val_of x.0) (λ (x : ValNode × ℕ). x.1) c.args.text.now.tokens.now c.args.at c.in_ok-pointer.at
    (gep_indices_at c.args.depth (value_at c.args.depth) c.args.word.now (ty_of c.args.ty) (typed_of c.in_ok-pointer.pointer) (drop c.in_ok-pointer.at c.args.text.now.tokens.now))
    (gep_pointer_at c.args.depth (value_at c.args.depth) c.args.word.now (ty_of c.args.ty) (drop c.args.at c.args.text.now.tokens.now))
    c.gep_indices.ensures (rw a.0 (rw b.0 refl)) (omega (arith, a.1, b.1))

pub gep_indices-returns : goal.gep_indices-returns
gep_indices-returns t c = let a = c.in_ok-indices.ensures in
    reads_on c.gep_end.result (λ (x : ValNode × ℕ). val_of x.0) (λ (x : ValNode × ℕ). x.1) c.args.text.now.tokens.now c.args.at c.in_ok-indices.at
    (gep_end_at c.args.word.now (ty_of c.args.ty) (typed_of c.args.pointer) (map typed_of c.in_ok-indices.indices.items) (drop c.in_ok-indices.at c.args.text.now.tokens.now))
    (gep_indices_at c.args.depth (value_at c.args.depth) c.args.word.now (ty_of c.args.ty) (typed_of c.args.pointer) (drop c.args.at c.args.text.now.tokens.now))
    c.gep_end.ensures (rw a.0 refl) (omega (arith, a.1))
