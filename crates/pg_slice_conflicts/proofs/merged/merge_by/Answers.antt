use Rattle.std.proofs.Common.{◌+◌, ◌∷◌, [], ◌++◌, take, length, sym, subst}
use Rattle.std.specs.Prelude.{nat_lt}
use Rattle.pg_slice_conflicts.specs.Merged.{IsMerged}
use Rattle.pg_slice_conflicts.proofs.MergedLists.{merged_more, merged_none}
use Rattle.pg_law_threads.proofs.ListPlaces.{take_get}
use Rattle.pg_slice_conflicts.proofs.merged.merge_by.Goals as goal

pub loop-i-init : goal.loop-i-init
loop-i-init c =
    subst (λ l. IsMerged [] l c.in_ok-numbers.numbers.items) (sym c.new-kept.ensures.items) (subst (IsMerged [] []) (sym c.in_ok-numbers.ensures.items) merged_none)

pub loop-i-preserved : goal.loop-i-preserved
loop-i-preserved c =
    let footprints = c.args.footprints.now in
    let i = c.loop-i.i in
    let kept = c.loop-i.kept.items in
    let numbers = c.loop-i.numbers.items in
    let more = c.number_of.new.kept.items in
    let k = c.in_ok-number.number in
    let x = c.footprint_at-footprint.result in
    subst (IsMerged (take (i + 1) footprints) more) (sym c.in_ok-push.ensures.items)
    (subst (λ l. IsMerged l more (numbers ++ k ∷ [])) (sym (take_get footprints i x c.footprint_at-footprint.ensures))
    (merged_more (take i footprints) kept more numbers k x (nat_lt k (length kept)) c.loop-i.invariant c.in_ok-number.ensures.number c.in_ok-number.ensures.kept))
