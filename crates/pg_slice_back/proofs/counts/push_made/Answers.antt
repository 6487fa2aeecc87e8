use Rattle.std.proofs.Common.{ℕ, ◌-◌, ◌≤◌, [], Option, length, refl, sym, subst}
use Rattle.std.specs.Prelude.{slice_index_or}
use Rattle.pg_slice_back.specs.Lens.{lens_some}
use Rattle.pg_slice_back.specs.Stacks.{IsStack}
use Rattle.pg_slice_back.proofs.ThreadRegisterCounts.{made_stack}
use Rattle.pg_slice_back.proofs.counts.push_made.Goals as goal

pub returns-in_ok-push-in-Some-clause-made : goal.returns-in_ok-push-in-Some-clause-made
returns-in_ok-push-in-Some-clause-made c =
    let held = c.push.new.held.items in
    let old = c.args.tops.now.items in
    let new = c.push-in-Some.new.self.items in
    subst (λ (o : Option ℕ). (u : ℕ) → length old ≤ u → IsStack held (slice_index_or new u 0) (slice_index_or (lens_some o) (u - length old) [])) (sym c.in-Some.is)
    (made_stack held old new c.in_ok-top-in-Some.top c.in-Some.count c.in_ok-push-in-Some.ensures.items (c.in_ok-top-in-Some.ensures.stack [] refl))
