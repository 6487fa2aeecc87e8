use Rattle.std.proofs.Common.{◌≡◌, ◌⊎◌, ◌<◌, ◌≤◌, ◌+◌, ◌-◌, ◌*◌, ◌^◌, ℕ, zero, suc, inl, inr, ap, subst, sym, ◌∙◌, arith}
use Rattle.std.proofs.Math.Nat.{pow-succ'}
use Rattle.pg_slice_conflicts.proofs.tree.tree_over.Goals as goal

-- one level more: twice the leaves, of which half were too few
next_level : (leaves levels count : ℕ) → 1 ≤ levels → 2 * leaves ≡ 2 ^ levels → leaves < count
    → (2 * (leaves * 2) ≡ 2 ^ (levels + 1)) × ((levels + 1 ≡ 1) ⊎ (2 ^ (levels + 1 - 2) < count))
next_level leaves zero count l e h = absurd (omega (arith, l))
next_level leaves (suc n) count l e h =
    let a : suc n + 1 ≡ suc (suc n) = omega arith in
    let b : suc n + 1 - 2 ≡ n = omega arith in
    let p = pow-succ' 2 (suc n) in
    let q = pow-succ' 2 n in (
      (let t : 2 * (leaves * 2) ≡ 2 ^ suc (suc n) = omega (arith, e, p, q) in t ∙ ap (λ (k : ℕ). 2 ^ k) (sym a)),
      inr (subst (λ (k : ℕ). 2 ^ k < count) (sym b) (omega (arith, e, q, h))),
    )

pub loop-levels-preserved : goal.loop-levels-preserved
loop-levels-preserved c =
    let levels = c.loop-levels.auto.levels in
    next_level c.loop-levels.leaves c.loop-levels.levels c.args.count (omega (arith, levels)) c.loop-levels.invariant.0 (omega (arith, c.if-count-leaves.false))

-- at the last level that was tried
too_many : (levels count : ℕ) → levels ≡ 40 → (levels ≡ 1) ⊎ (2 ^ (levels - 2) < count) → 274877906944 < count
too_many levels count e (inl k) = absurd (omega (arith, e, k))
too_many levels count e (inr k) = subst (λ (n : ℕ). 2 ^ (n - 2) < count) e k

pub returns-clause-many : goal.returns-clause-many
returns-clause-many c =
    let levels = c.loop-levels.auto.levels in
    let end = c.loop-levels.auto.levels-end in
    too_many c.loop-levels.levels c.args.count (omega (arith, levels, end, c.loop-levels-test.false)) c.loop-levels.invariant.1
