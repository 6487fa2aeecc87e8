use Rattle.std.proofs.Common.{◌≡◌, ℕ, suc, ◌∷◌, [], List, length, ap, sym, ◌∙◌, subst}
use Rattle.pg_slice_back.specs.declared.counts.Held.{Held}
use Rattle.pg_slice_back.specs.Stacks.{IsStack}
use Rattle.pg_slice_back.proofs.ThreadRegisterCounts.{long_push, stack_more, stack_push}
use Rattle.pg_slice_back.proofs.counts.push.Goals as goal

pub returns-clause-stack : goal.returns-clause-stack
returns-clause-stack c = λ ls q.
    let old = c.args.held.now.items in
    let x : Held = record { count = c.args.count; under = c.args.under } in
    let e = c.in_ok-push.ensures.items in
    let l : length c.as_slice.result.now ≡ length c.push.new.self.items = ap (λ (xs : List Held). length xs) c.as_slice.ensures.value in
    let m : length c.push.new.self.items ≡ suc (length old) = long_push old c.push.new.self.items x e in
    subst (λ (h : ℕ). IsStack c.push.new.self.items h (c.args.count ∷ ls)) (sym (l ∙ m))
    (subst (λ (xs : List Held). IsStack xs (suc (length old)) (c.args.count ∷ ls)) (sym e) (stack_push old x ls q))

pub returns-clause-kept : goal.returns-clause-kept
returns-clause-kept c = λ h ls q.
    subst (λ (xs : List Held). IsStack xs h ls) (sym c.in_ok-push.ensures.items) (stack_more c.args.held.now.items (record { count = c.args.count; under = c.args.under } ∷ []) h ls q)
