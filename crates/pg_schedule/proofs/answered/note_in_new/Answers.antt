use Rattle.std.proofs.Common.{◌/◌, Some, ap, sym, refl, ◌∙◌}
use Rattle.std.specs.Prelude.{nat_eq, if◌then◌else◌}
use Rattle.std.proofs.lemmas.Bool.{eq-eqb}
use Rattle.indexmap.specs.IndexMap.{get}
use Rattle.pg_schedule.specs.Cells.{cell_in, nth_cell}
use Rattle.pg_schedule.proofs.ByteBlocks.{no_best_cells, no_nth, noted_in_table}
use Rattle.pg_schedule.proofs.answered.note_in_new.Goals as goal

pub note-requires-clause-best : goal.note-requires-clause-best
note-requires-clause-best c = rw c.no_cells-cells.ensures (λ i lt. no_best_cells i)

pub returns : goal.returns
returns c =
    let y = c.args.touch.now in
    let t = c.args.table.now in
    let k = y.start / 8 in
    let w = c.note.new.cells in
    noted_in_table t c.put.new.self y (nth_cell c.no_cells-cells.result) (nth_cell w) c.requires.within
    (λ i. ap (λ o. cell_in o i) c.requires.none ∙ sym (ap (λ l. nth_cell l i) c.no_cells-cells.ensures ∙ no_nth i))
    (λ i. ap (λ o. cell_in o i) (c.in_ok-put.ensures k ∙ ap (λ v. if v then Some w else get nat_eq t.blocks k) (eq-eqb k k refl)))
    (λ q h. c.in_ok-put.ensures q ∙ ap (λ v. if v then Some w else get nat_eq t.blocks q) h)
    c.requires.best c.note.ensures
