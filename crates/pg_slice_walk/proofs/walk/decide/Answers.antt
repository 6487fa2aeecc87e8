use Rattle.std.proofs.Common.{◌≡◌, ℕ, true, refl, subst, inl, inr, ◌⊎◌}
use Rattle.pg_slice_back.specs.declared.registers.Counts.{Counts}
use Rattle.pg_slice_rules.specs.declared.decision.Decision.{Decision}
use Rattle.pg_slice_rules.specs.declared.decision.Decision.TheVariants.{Pinned}
use Rattle.pg_slice_rules.specs.Known.{Taken, has}
use Rattle.pg_slice_rules.specs.Closed.{AreWithin}
use Rattle.pg_slice_walk.specs.Sets.{SetsAt}
use Rattle.pg_slice_back.proofs.NeedsBackOverSteps.{less_then}
use Rattle.pg_slice_walk.proofs.RegionSettings.{asks_none, asks_some, less_itself, passes_by, sets_less}
use Rattle.pg_slice_walk.proofs.walk.decide.Goals as goal

pub returns-then-is_pinned-clause-less : goal.returns-then-is_pinned-clause-less
returns-then-is_pinned-clause-less c = less_itself c.args.demanded.now

pub returns-then-sets_any-clause-owed : goal.returns-then-sets_any-clause-owed
returns-then-sets_any-clause-owed c = λ e f k within. λ x h.
    let t = c.args.thread.0 in
    let b = c.args.b in
    let r = c.args.walk.now.reference.now in
    let s = asks_some r b t c.depth-depth.result c.counts_at-own.result.present c.leave_missing.new.demanded c.sets_any.result c.if-sets_any.true c.depth-depth.ensures.depth c.sets_any.ensures.some in
    let a = sets_less r b t c.counts_at-own.result.present c.args.demanded.now c.leave_missing.new.demanded c.leave_missing.ensures.less s in
    by_take e x b within (c.take.ensures.only x h) (f k.0 k.1 (subst (λ (z : Counts). SetsAt r b t z.present c.args.demanded.now) (c.counts_at-own.ensures k.0 k.1) a))
  where
    by_take : {d : Taken} (e : Taken) (x : Decision) (b : ℕ) → AreWithin d e → (has d x ≡ true) ⊎ (Pinned b ≡ x) → e.pinned b ≡ true → has e x ≡ true
    by_take e x b w (inl q) p = w x q
    by_take e x b w (inr q) p = subst (λ (z : Decision). has e z ≡ true) q p

pub returns-clause-less : goal.returns-clause-less
returns-clause-less c = less_then c.args.demanded.now c.leave_missing.new.demanded c.clear_above.new.self c.leave_missing.ensures.less
    (record { registers = λ u j i v a. (c.clear_above.ensures.registers u j i v a).0; bytes = c.clear_above.ensures.bytes })

pub returns-clause-passes : goal.returns-clause-passes
returns-clause-passes c = λ q. passes_by c.args.walk.now.reference.now c.args.b c.args.thread.0 c.depth-depth.result c.leave_missing.new.demanded c.clear_above.new.self c.depth-depth.ensures.depth
    (record { registers = λ u j i v a. (c.clear_above.ensures.registers u j i v a).0; bytes = c.clear_above.ensures.bytes })
    (λ j i v a g. (c.clear_above.ensures.registers c.args.thread.0 j i v a).1 refl g)
    (asks_none c.args.walk.now.reference.now c.args.b c.args.thread.0 c.depth-depth.result c.counts_at-own.result.present c.leave_missing.new.demanded c.sets_any.result c.if-sets_any.false
    c.depth-depth.ensures.depth c.leave_missing.ensures.there c.sets_any.ensures.none)
