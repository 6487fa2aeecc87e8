use Rattle.std.proofs.Common.{◌≡◌, ◌≤◌, ◌+◌, ℕ, List, length, sym, ap, ◌∙◌, subst, arith}
use Rattle.std.specs.Prelude.{slice_index_or}
use Rattle.std.proofs.lemmas.List.{length-set}
use Rattle.pg_slice_walk.specs.Chains.{AreHeld}
use Rattle.pg_slice_walk.proofs.OpenExtents.{hold_is, older_next, tops_next}
use Rattle.pg_slice_walk.proofs.holders.hold.Goals as goal

before_is : (tops shown : List ℕ) (t before : ℕ) → shown ≡ tops → before ≡ slice_index_or shown t 0 → before ≡ slice_index_or tops t 0
before_is tops shown t before s b = b ∙ ap (λ (xs : List ℕ). slice_index_or xs t 0) s

pub returns-clause-tops : goal.returns-clause-tops
returns-clause-tops c = ap (λ (xs : List ℕ). length xs) c.set_top.ensures ∙ length-set c.args.tops.now.items c.args.thread c.left_open-left.result

pub returns-clause-older : goal.returns-clause-older
returns-clause-older c =
    let b = before_is c.args.tops.now.items c.as_slice.result.now c.args.thread c.holder_at-before.result c.as_slice.ensures.value c.holder_at-before.ensures in
    let h = c.requires.begun c.args.thread in
    older_next c.args.holders.now.items c.push.new.self.items c.holder_at-before.result c.args.number c.in_ok-push.ensures.items c.requires.long (omega (arith, b, h)) c.requires.older

pub returns-clause-begun : goal.returns-clause-begun
returns-clause-begun c =
    let b = before_is c.args.tops.now.items c.as_slice.result.now c.args.thread c.holder_at-before.result c.as_slice.ensures.value c.holder_at-before.ensures in
    let h = c.requires.begun c.args.thread in
    let i = c.begun-inner.ensures.older (omega (arith, b, h)) in
    let l = c.left_open-left.ensures.older in
    λ u. subst (λ (xs : List ℕ). slice_index_or xs u 0 ≤ c.args.number + 1) (sym c.set_top.ensures)
    (tops_next c.args.tops.now.items c.args.thread c.left_open-left.result c.args.number c.requires.begun (omega (arith, i, l)) u)

pub returns-clause-held : goal.returns-clause-held
returns-clause-held c = λ R m marks keeps q e a.
    let b = before_is c.args.tops.now.items c.as_slice.result.now c.args.thread c.holder_at-before.result c.as_slice.ensures.value c.holder_at-before.ensures in
    subst (λ (xs : List ℕ). AreHeld R c.args.reference.now (c.args.number + 1) c.push.new.self.items xs) (sym c.set_top.ensures)
    (hold_is R c.args.reference.now c.args.number m c.args.holders.now.items c.args.tops.now.items c.args.thread c.holder_at-before.result c.begun-inner.result c.depth.result c.left_open-left.result
    c.edge.result c.push.new.self.items
    c.as_slice-2.result.now b c.in_ok-push.ensures.items c.as_slice-2.ensures.value marks keeps q e c.requires.thread c.requires.long c.depth.ensures.depth c.edge.ensures.edge
    c.begun-inner.ensures.first
    c.left_open-left.ensures.left a)
