use Rattle.std.proofs.Common.{arith, refl, sym, ◌∙◌}
use Rattle.pg_read_grammar.specs.ReaderOps.{count_at}
use Rattle.pg_read_operations.proofs.memory.count.Goals as goal

pub returns-then-next_is-2 : goal.returns-then-next_is-2
unfolding count_at
returns-then-next_is-2 c = let n = sym c.next_is.ensures ∙ c.if-next_is.true in let a = c.in_ok-at.ensures.read in let m = sym c.next_is-then-next_is.ensures ∙ c.if-next_is-2.true in let b =
    c.in_ok-at-2.ensures.read in let d = c.in_ok-at-3.ensures.read in let e = c.in_ok-at-4.ensures in
    (rw n (rw a.0 (rw m (rw b.0 (rw d.0 (rw e.0 refl))))), omega (arith, a.1, b.1, d.1, e.1), e.2)

pub returns-then-next_in : goal.returns-then-next_in
unfolding count_at
returns-then-next_in c = let n = sym c.next_is.ensures ∙ c.if-next_is.true in let a = c.in_ok-at.ensures.read in let m = sym c.next_is-then-next_is.ensures ∙ c.if-next_is-2.false in let k =
    sym c.next_in.ensures ∙ c.if-next_in.true in let b = c.in_ok-at-5.ensures in
    (rw n (rw a.0 (rw m (rw k (rw b.0 refl)))), omega (arith, a.1, b.1), b.2)

pub returns-then-next_is : goal.returns-then-next_is
unfolding count_at
returns-then-next_is c = let n = sym c.next_is.ensures ∙ c.if-next_is.true in let a = c.in_ok-at.ensures.read in let m = sym c.next_is-then-next_is.ensures ∙ c.if-next_is-2.false in let k =
    sym c.next_in.ensures ∙ c.if-next_in.false in let b = c.in_ok-ty.ensures in let d = c.in_ok-number.ensures in let e = c.in_ok-at-6.ensures in let f = c.in_ok-count.ensures in
    (rw n (rw a.0 (rw m (rw k (rw b.0 (rw d.0 (rw e.0 (rw f refl))))))), omega (arith, a.1, b.1, d.1, e.1), e.2)
