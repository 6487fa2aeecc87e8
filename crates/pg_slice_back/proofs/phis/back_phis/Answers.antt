use Rattle.std.proofs.Common.{ℕ, ◌≡◌, ◌+◌, ◌-◌, List, suc, length, drop, arith, subst, sym}
use Rattle.pg_law_demands.specs.Back.{is_target}
use Rattle.pg_slice_back.specs.declared.moves.Wanted.{Wanted}
use Rattle.pg_slice_back.specs.Edges.{phis_set}
use Rattle.pg_slice_back.specs.Leaves.{Without, none}
use Rattle.pg_slice_back.specs.Wanted.{AreWanted}
use Rattle.pg_slice_back.proofs.LiveAccesses.{target_is}
use Rattle.pg_slice_back.proofs.EnteredPhis.{not_removed, set_more, this_last, without_both}
use Rattle.pg_slice_back.proofs.NeedsBackOverSteps.{without_met}
use Rattle.pg_slice_back.proofs.phis.back_phis.Goals as goal

pub loop-j-preserved : goal.loop-j-preserved
loop-j-preserved c =
    let t = c.args.at.thread.0 in
    let k = c.args.at.depth in
    let xs = c.args.phis.now in
    let j = c.loop-j.j in
    let l = c.loop-j-test.true in
    let x = c.phi_at.result.now in
    let old = c.args.demanded.now in
    let mid = c.loop-j.demanded in
    let new = c.take_phi.new.demanded in
    let v = c.loop-j.invariant in
    let e = c.in_ok-take_phi.ensures in
    let p : ℕ = length xs - (j + 1) in
    let q : length xs - j ≡ suc p = omega (arith, l, c.loop-j.auto.j-end) in
    let before : Without t k (phis_set (drop (suc p) xs)) none old mid = subst (λ (i : ℕ). Without t k (phis_set (drop i xs)) none old mid) q v.0 in (
      without_both t k (phis_set (drop (suc p) xs)) (is_target x.result) (phis_set (drop p xs)) none old mid new (λ i. set_more p xs x i c.phi_at.ensures) before e.without,
      λ s f. e.wanted s (λ i w is g a.
          let b = before.registers t k i w a in
          f i w x g (this_last p xs x i c.phi_at.ensures (target_is x.result i is) (not_removed t k (phis_set (drop (suc p) xs)) i b.1)) b.0) (v.1 s f),
    )

pub returns : goal.returns
returns c = λ after before l f m.
    let t = c.args.at.thread.0 in
    let k = c.args.at.depth in
    let xs = c.args.phis.now in
    let v = c.loop-j.invariant in
    let z : length xs - c.loop-j.j ≡ 0 = omega (arith, c.loop-j-test.false) in
    let w = subst (λ (i : ℕ). Without t k (phis_set (drop i xs)) none c.args.demanded.now c.loop-j.demanded) z v.0 in
    c.in_ok-put_wanted.ensures before (without_met t k (phis_set xs) none after before c.args.demanded.now c.loop-j.demanded l w m)
    (subst (λ (ys : List Wanted). AreWanted before t k ys) (sym c.as_slice.ensures.value) (v.1 before (λ i u x g h a. f i u x g h (m.registers t k i u a))))
