use Rattle.std.proofs.Common.{◌<◌, length, map, sym, ap, ◌∙◌, subst, All}
use Rattle.pg_slice_conflicts.specs.Meets.{InOrder, is_met}
use Rattle.pg_slice_conflicts.specs.Merged.{StandAt}
use Rattle.pg_slice_conflicts.proofs.MergedLists.{all_met, kept_in_order, numbers_within}
use Rattle.pg_slice_conflicts.proofs.fast.conflicts.Goals as goal

pub conflicts_of_all-requires : goal.conflicts_of_all-requires
conflicts_of_all-requires c =
    let m = c.in_ok-merged.merged in
    subst InOrder (sym c.as_slice.ensures.value) (kept_in_order c.args.footprints.now m.kept.items m.numbers.items c.in_ok-merged.ensures c.requires)

pub answers_at-requires : goal.answers_at-requires
answers_at-requires c =
    let m = c.in_ok-merged.merged in
    let answers = c.as_slice-2.result.now in
    subst (All (λ k. k < length answers)) (sym c.as_slice-3.ensures.value)
    (numbers_within c.args.footprints.now m.kept.items m.numbers.items answers c.in_ok-merged.ensures
    (c.as_slice-2.ensures.value ∙ c.in_ok-met.ensures ∙ ap (λ l. map (is_met l) l) c.as_slice.ensures.value))

pub returns : goal.returns
returns c =
    let m = c.in_ok-merged.merged in
    let answers = c.as_slice-2.result.now in
    let spread = c.in_ok-answers.answers.items in
    all_met c.args.footprints.now m.kept.items m.numbers.items answers spread c.in_ok-merged.ensures
    (c.as_slice-2.ensures.value ∙ c.in_ok-met.ensures ∙ ap (λ l. map (is_met l) l) c.as_slice.ensures.value)
    (subst (λ l. StandAt answers l spread) c.as_slice-3.ensures.value c.in_ok-answers.ensures)
