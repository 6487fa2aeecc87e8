use Rattle.std.proofs.Common.{[], ap, ◌∙◌}
use Rattle.pg_slice_conflicts.specs.Joined.{or_each}
use Rattle.pg_slice_conflicts.specs.Passes.{answers_in, before_by}
use Rattle.pg_slice_conflicts.proofs.Joining.{four_joined}
use Rattle.pg_slice_conflicts.proofs.fast.mark_along.Goals as goal

pub returns : goal.returns
returns c =
    let zs = c.args.placed.now in
    four_joined c.args.backward zs c.args.marks.now c.mark_pass.new.marks c.mark_pass-2.new.marks c.mark_pass-3.new.marks c.mark_pass-4.new.marks c.requires.marks
    (c.in_ok-mark_pass.ensures ∙ ap (λ p. or_each c.args.marks.now (before_by (answers_in p) [] zs)) c.pass_of.ensures)
    (c.in_ok-mark_pass-2.ensures ∙ ap (λ p. or_each c.mark_pass.new.marks (before_by (answers_in p) [] zs)) c.pass_of-2.ensures)
    (c.in_ok-mark_pass-3.ensures ∙ ap (λ p. or_each c.mark_pass-2.new.marks (before_by (answers_in p) [] zs)) c.pass_of-3.ensures)
    (c.in_ok-mark_pass-4.ensures ∙ ap (λ p. or_each c.mark_pass-3.new.marks (before_by (answers_in p) [] zs)) c.pass_of-4.ensures)
