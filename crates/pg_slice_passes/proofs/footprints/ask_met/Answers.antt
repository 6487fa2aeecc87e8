use Rattle.std.proofs.Common.{◌++◌, List, Bool, arith, sym, ap, ◌∙◌}
use Rattle.pg_slice_conflicts.specs.declared.footprint.Footprint.{Footprint}
use Rattle.pg_slice_decisions.specs.Steps.{taken_by}
use Rattle.pg_slice_passes.specs.Rows.{asks_of_one, asks_of_rows, in_row}
use Rattle.pg_slice_passes.proofs.RowsOfFootprints.{all_rows_done, one_row_more, row_within}
use Rattle.pg_slice_passes.proofs.footprints.ask_met.Goals as goal

pub footprints_of-footprints-requires : goal.footprints_of-footprints-requires
footprints_of-footprints-requires c = row_within c.args.kept.now c.args.rows.now c.loop-i.i c.row_at-row.result c.requires.rows c.row_at-row.ensures

pub marks_of-met-requires : goal.marks_of-met-requires
marks_of-met-requires c =
    let h = row_within c.args.kept.now c.args.rows.now c.loop-i.i c.row_at-row.result c.requires.rows c.row_at-row.ensures in
    let m = c.requires.marks in
    omega (arith, h, m)

pub ask_row-requires : goal.ask_row-requires
ask_row-requires c = c.marks_of-met.ensures.count ∙ sym c.footprints_of-footprints.ensures.count

pub loop-i-preserved : goal.loop-i-preserved
loop-i-preserved c =
    let d = taken_by c.args.d.now in
    let ks = c.args.kept.now in
    let ms = c.args.marks.now in
    let r = c.row_at-row.result in
    one_row_more d ks ms c.args.rows.now c.loop-i.i r c.loop-i.missing.items c.ask_row.new.missing.items (c.args.missing.now.items ++ asks_of_rows d ks ms c.args.rows.now) c.row_at-row.ensures
    (c.in_ok-ask_row.ensures ∙ ap (λ (l : List Footprint). c.loop-i.missing.items ++ asks_of_one d r.owner l c.marks_of-met.result.now) c.footprints_of-footprints.ensures.footprints
    ∙ ap (λ (l : List Bool). c.loop-i.missing.items ++ asks_of_one d r.owner (in_row ks r) l) c.marks_of-met.ensures.marks) c.loop-i.invariant

pub returns : goal.returns
returns c =
    let d = taken_by c.args.d.now in
    all_rows_done d c.args.kept.now c.args.marks.now c.args.rows.now c.loop-i.i c.loop-i.missing.items
    (c.args.missing.now.items ++ asks_of_rows d c.args.kept.now c.args.marks.now c.args.rows.now) (omega (arith, c.loop-i-test.false)) c.loop-i.invariant
