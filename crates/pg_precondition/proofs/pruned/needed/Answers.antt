use Rattle.std.proofs.Common.{length, sym, ap, ◌∙◌, subst}
use Rattle.std.specs.Prelude.{slice_index}
use Rattle.std.proofs.lemmas.List.{length-map}
use Rattle.pg_precondition.specs.Nodes.{AreNodes}
use Rattle.pg_precondition.specs.Values.{is_admitted}
use Rattle.pg_precondition.specs.Marks.{AreMarks, ArePlaces}
use Rattle.pg_precondition.specs.Names.{AreNeeded, IsNeededPart}
use Rattle.pg_precondition.specs.Kept.{renamed_check}
use Rattle.pg_precondition.proofs.KeptNumbers.{checks_same}
use Rattle.pg_precondition.proofs.KeptAreNeeded.{all_needed, each_marked}
use Rattle.pg_precondition.proofs.pruned.needed.Goals as goal

pub returns : goal.returns
returns c =
    let C = c.args.c.now in
    let M = c.as_slice-2.result.now in
    let P = c.as_slice-3.result.now in
    let m = subst (λ l. AreMarks C l 0) (sym c.as_slice-2.ensures.value) c.in_ok-marks.ensures in
    let p = subst (ArePlaces M) (sym c.as_slice-3.ensures.value)
    (subst (λ l. ArePlaces l c.in_ok-places.places.items) (c.as_slice.ensures.value ∙ sym c.as_slice-2.ensures.value) c.in_ok-places.ensures) in
    let are = subst AreNodes c.nodes.ensures c.len-count.ensures.nodes in
    record {
      admits = λ input. ap (is_admitted input) c.in_ok-r.ensures
          ∙ checks_same input (slice_index P) M C.nodes m.as_many are m.closed p.each C.checks (each_marked C M (slice_index P) m p.each);
      needed = subst AreNeeded (sym c.in_ok-r.ensures) (all_needed C M (slice_index P) m p.each);
      checks = ap (λ r. length r.checks) c.in_ok-r.ensures ∙ length-map C.checks (renamed_check (slice_index P));
    }
