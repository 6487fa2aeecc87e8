use Rattle.std.proofs.Common.{[], length, sym, ap, ◌∙◌, subst, All}
use Rattle.std.proofs.lemmas.List.{length-map}
use Rattle.std.proofs.lemmas.List.Elements.{All-map}
use Rattle.pg_slice_conflicts.specs.Joined.{or_each}
use Rattle.pg_slice_conflicts.specs.Passes.{answers, before_by, touch_of}
use Rattle.pg_slice_conflicts.specs.Tables.{IsWithin}
use Rattle.pg_slice_conflicts.proofs.Joining.{before_length, before_map}
use Rattle.pg_slice_conflicts.proofs.fast.mark_pass.Goals as goal

pub answered_before-requires-clause-within : goal.answered_before-requires-clause-within
answered_before-requires-clause-within c =
    subst (All (IsWithin c.args.tree)) (sym (c.as_slice.ensures.value ∙ c.in_ok-touches.ensures)) (All-map (IsWithin c.args.tree) (touch_of c.args.pass) c.args.placed.now c.requires.within)

pub join-requires : goal.join-requires
join-requires c =
    c.requires.marks
    ∙ sym (ap length (c.as_slice-2.ensures.value ∙ c.in_ok-answered.ensures) ∙ before_length answers [] c.as_slice.result.now
    ∙ ap length (c.as_slice.ensures.value ∙ c.in_ok-touches.ensures) ∙ length-map c.args.placed.now (touch_of c.args.pass))

pub returns : goal.returns
returns c =
    c.join.ensures
    ∙ ap (or_each c.args.marks.now) (c.as_slice-2.ensures.value ∙ c.in_ok-answered.ensures ∙ ap (before_by answers []) (c.as_slice.ensures.value ∙ c.in_ok-touches.ensures)
    ∙ before_map answers (touch_of c.args.pass) [] c.args.placed.now)
