use Rattle.std.proofs.Common.{length, map, ap, ◌∙◌, subst, false}
use Rattle.std.proofs.lemmas.List.{length-replicate}
use Rattle.pg_precondition.specs.Marks.{Marked, node_of}
use Rattle.pg_precondition.proofs.NeededMarks.{marks_begin}
use Rattle.pg_precondition.proofs.marks.mark_needed.Goals as goal

pub mark_all-requires : goal.mark_all-requires
mark_all-requires c =
    marks_begin c.args.c.now c.args.marks.now c.mark_checks.new.marks c.requires (c.mark_checks.auto.marks ∙ ap length c.requires ∙ length-replicate (length c.args.c.now.nodes) false)
    (subst (λ ks. Marked c.args.marks.now c.mark_checks.new.marks (map node_of ks)) c.checks.ensures.checks c.mark_checks.ensures)
