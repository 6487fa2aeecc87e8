use Rattle.std.proofs.Common.{◌<◌, length, sym, ap, ◌∙◌, subst}
use Rattle.std.specs.Prelude.{IfSome, slice_get, slice_index}
use Rattle.pg_precondition.specs.declared.check.Check.{Check}
use Rattle.pg_precondition.specs.Kept.{kept}
use Rattle.pg_precondition.proofs.KeptAreNeeded.{checks_fit}
use Rattle.pg_precondition.proofs.pruned.with_marks.Goals as goal

pub with_checks-requires-clause-places : goal.with_checks-requires-clause-places
with_checks-requires-clause-places c =
    let f = slice_index c.args.places.now in
    let M = c.args.marks.now in
    let C = c.args.c.now in
    λ i. subst (λ ks. IfSome (slice_get ks i) (λ (k : Check). f k.node < length c.in_ok-nodes.nodes)) (sym c.checks.ensures.checks)
    (subst (λ ns. IfSome (slice_get C.checks i) (λ (k : Check). f k.node < length ns)) (sym (c.in_ok-nodes.ensures ∙ ap (kept f M) c.nodes.ensures))
    (checks_fit C M f c.requires.marks c.requires.places.each i))
