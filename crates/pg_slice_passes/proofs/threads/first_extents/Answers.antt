use Rattle.std.proofs.Common.{◌∷◌, [], ◌++◌, List, ap, sym, ◌∙◌, subst}
use Rattle.pg_slice_decisions.specs.declared.open.OpenExtents.{OpenExtents}
use Rattle.pg_slice_passes.specs.State.{EachOpen}
use Rattle.pg_slice_passes.proofs.threads.first_extents.Goals as goal

pub returns : goal.returns
returns c pinned =
    let items = c.in_ok-push.ensures.items ∙ ap (λ (l : List OpenExtents). l ++ c.new.result ∷ []) c.new-extents.ensures.items in
    subst (λ (l : List OpenExtents). EachOpen pinned ([] ∷ []) l) (sym items) (c.new.ensures pinned, tt)
