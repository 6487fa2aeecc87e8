use Rattle.std.proofs.Common.{◌≡◌, ◌/◌, Some, ap, sym, refl}
use Rattle.std.specs.Prelude.{nat_eq}
use Rattle.indexmap.specs.IndexMap.{get}
use Rattle.pg_schedule.specs.Cells.{cell_in, nth_cell}
use Rattle.pg_schedule.proofs.ByteBlocks.{best_in_block, noted_in_table}
use Rattle.pg_schedule.proofs.answered.note_in_block.Goals as goal

pub note-requires-clause-best : goal.note-requires-clause-best
note-requires-clause-best c =
    let t = c.args.table.now in
    let k = c.args.touch.now.start / 8 in
    let cells = c.in-Some.cells.now in
    let g : get nat_eq t.blocks k ≡ Some cells = sym c.in-Some.ensures.value in
    λ i lt. rw (sym (ap (λ o. cell_in o i) g)) (best_in_block (λ q. cell_in (get nat_eq t.blocks q)) k c.requires.best i lt)

pub returns-in-Some : goal.returns-in-Some
returns-in-Some c =
    let t = c.args.table.now in
    let g = sym c.in-Some.ensures.value in
    let w = c.note.new.cells in
    let up = (c.get_mut.follows.holds w).3 (rw g refl) in
    noted_in_table t (record { blocks = c.get_mut.follows.lender w }) c.args.touch.now (nth_cell c.in-Some.cells.now) (nth_cell w) c.requires.within
    (λ i. ap (λ o. cell_in o i) g) (λ i. ap (λ o. cell_in o i) up.1) up.2 c.requires.best c.note.ensures
