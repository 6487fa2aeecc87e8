use Rattle.std.proofs.Common.{[], length, drop, true, false, sym, ap, ◌∙◌, subst}
use Rattle.std.specs.Prelude.{reverse, Contains}
use Rattle.std.proofs.lemmas.List.{length-reverse, take_at}
use Rattle.pg_slice_conflicts.specs.Joined.{or_each}
use Rattle.pg_slice_conflicts.specs.Passes.{answers_along, before_by}
use Rattle.pg_slice_conflicts.proofs.AnsweredByPasses.{all_answered}
use Rattle.pg_slice_conflicts.proofs.Joining.{before_length}
use Rattle.pg_slice_conflicts.proofs.fast.conflicts_of_all.Goals as goal

pub place_all-requires-clause-all : goal.place_all-requires-clause-all
place_all-requires-clause-all c = λ b h. subst (λ xs. Contains xs b) (sym c.as_slice.ensures.value) (c.in_ok-bytes.ensures.all b h)

pub join-requires : goal.join-requires
join-requires c =
    let zs = c.in_ok-placed.placed.items in
    ap length (c.as_mut_slice.ensures.value ∙ c.in_ok-met.ensures ∙ ap (before_by (answers_along false) []) c.as_slice-2.ensures.value) ∙ before_length (answers_along false) [] zs
    ∙ sym (ap length (c.as_slice-4.ensures.value ∙ c.reverse-2.ensures.items) ∙ length-reverse c.in_ok-behind.behind.items ∙ ap length c.in_ok-behind.ensures
    ∙ before_length (answers_along true) [] c.as_slice-3.result.now
    ∙ ap length (c.as_slice-3.ensures.value ∙ c.reverse.ensures.items) ∙ length-reverse zs)

pub returns : goal.returns
returns c =
    let zs = c.in_ok-placed.placed.items in
    take_at c.join.new.marks (drop (length c.join.new.marks) c.in_ok-met.met.items) c.in_ok-met.met.len (c.join.auto.marks ∙ c.as_mut_slice.ensures.len)
    ∙ c.join.ensures
    ∙ ap (λ l. or_each l c.as_slice-4.result.now) (c.as_mut_slice.ensures.value ∙ c.in_ok-met.ensures ∙ ap (before_by (answers_along false) []) c.as_slice-2.ensures.value)
    ∙ ap (or_each (before_by (answers_along false) [] zs))
    (c.as_slice-4.ensures.value ∙ c.reverse-2.ensures.items ∙ ap reverse
    (c.in_ok-behind.ensures ∙ ap (before_by (answers_along true) []) (c.as_slice-3.ensures.value ∙ c.reverse.ensures.items)))
    ∙ all_answered c.as_slice.result.now c.args.footprints.now zs c.in_ok-placed.ensures.placed c.in_ok-placed.ensures.footprints c.requires
