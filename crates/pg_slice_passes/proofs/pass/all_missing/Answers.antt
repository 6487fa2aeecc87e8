use Rattle.std.proofs.Common.{◌++◌, List, length, map, sym, ap, ◌∙◌, subst}
use Rattle.std.specs.List.{AllByRecursion}
use Rattle.pg_slice_conflicts.specs.declared.footprint.Footprint.{Footprint}
use Rattle.pg_slice_conflicts.specs.Meets.{InOrder, is_met}
use Rattle.pg_slice_decisions.specs.Steps.{taken_by}
use Rattle.pg_slice_rules.specs.declared.decision.Decision.{Decision}
use Rattle.pg_slice_passes.specs.declared.rows.Row.{Row}
use Rattle.pg_slice_passes.specs.Rows.{IsWithin, asks_of_rows}
use Rattle.pg_slice_passes.proofs.RowsOfFootprints.{asked_by_kept, marks_length}
use Rattle.pg_slice_passes.proofs.pass.all_missing.Goals as goal

pub conflicts-requires : goal.conflicts-requires
conflicts-requires c = subst InOrder (sym c.as_slice-kept.ensures.value) c.requires.order

pub ask_met-requires-clause-rows : goal.ask_met-requires-clause-rows
ask_met-requires-clause-rows c =
    subst (λ (ks : List Footprint). AllByRecursion (IsWithin (length ks)) c.as_slice-rows.result.now) (sym c.as_slice-kept.ensures.value)
    (subst (AllByRecursion (IsWithin (length c.args.footprints.now.kept.items))) (sym c.as_slice-rows.ensures.value) c.requires.rows.within)

pub ask_met-requires-clause-marks : goal.ask_met-requires-clause-marks
ask_met-requires-clause-marks c = marks_length c.as_slice-kept.result.now c.as_slice-marks.result.now (c.as_slice-marks.ensures.value ∙ c.in_ok-met.ensures)

pub returns : goal.returns
returns c =
    let d = taken_by c.args.d.now in
    let p = c.args.footprints.now in
    let ks = c.as_slice-kept.result.now in
    let ms = c.as_slice-marks.result.now in
    let old = c.args.missing.items in
    let marks = c.as_slice-marks.ensures.value ∙ c.in_ok-met.ensures ∙ ap (λ (l : List Footprint). map (is_met l) l) c.as_slice-kept.ensures.value in
    c.in_ok-ask_met.ensures
    ∙ ap (λ (l : List Footprint). old ++ asks_of_rows d l ms c.as_slice-rows.result.now) c.as_slice-kept.ensures.value
    ∙ ap (λ (l : List Row). old ++ asks_of_rows d p.kept.items ms l) c.as_slice-rows.ensures.value
    ∙ ap (λ (l : List Decision). old ++ l) (asked_by_kept d p ms c.requires.rows marks)
