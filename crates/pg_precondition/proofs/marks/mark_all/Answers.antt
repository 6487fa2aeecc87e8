use Rattle.std.proofs.Common.{◌≡◌, ◌+◌, ◌-◌, ◌<◌, length, arith, ap, ◌∙◌, subst}
use Rattle.std.specs.Prelude.{slice_get}
use Rattle.pg_precondition.specs.Nodes.{AreNodes}
use Rattle.pg_precondition.specs.Marks.{AreMarks, Marked, is_set, names_if}
use Rattle.pg_precondition.proofs.NumberedLists.{get_some}
use Rattle.pg_precondition.proofs.NeededMarks.{marks_more}
use Rattle.pg_precondition.proofs.KeptNumbers.{node_at}
use Rattle.pg_precondition.proofs.marks.mark_all.Goals as goal

pub loop-k-preserved : goal.loop-k-preserved
loop-k-preserved c =
    let C = c.args.c.now in
    let nodes = c.nodes-nodes.ensures in
    let n = c.len-count.ensures.count ∙ ap length nodes in
    let k = c.loop-k.k in
    let i = c.len-count.result - 1 - k in
    let below : k < c.len-count.result = omega arith in
    let g = get_some C.nodes i (omega (arith, below, n)) in
    let is = node_at C.nodes i g.it (subst AreNodes nodes c.len-count.ensures.nodes) g.is in
    let e : length C.nodes - k ≡ i + 1 = omega (arith, below, n) in
    let d : i ≡ length C.nodes - (k + 1) = omega (arith, below, n) in
    subst (AreMarks C c.mark_from.new.marks) d
    (marks_more C c.loop-k.marks c.mark_from.new.marks i g.it g.is is (subst (AreMarks C c.loop-k.marks) e c.loop-k.invariant)
    (subst (λ ns. Marked c.loop-k.marks c.mark_from.new.marks (names_if (is_set c.loop-k.marks i) (slice_get ns i))) nodes c.mark_from.ensures)
    c.mark_from.auto.marks)
