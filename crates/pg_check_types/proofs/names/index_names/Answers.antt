use Rattle.std.proofs.Common.{ℕ, List, [], get_or, sym, ap, ◌∙◌, refl, Bor}
use Rattle.std.specs.Str.{bytes_eq}
use Rattle.pg_check_types.specs.NameIndex.{noted}
use Rattle.pg_check_types.proofs.NameIndexes.{places_more}
use Rattle.pg_check_types.proofs.names.index_names.Goals as goal

pub loop-place-preserved : goal.loop-place-preserved
loop-place-preserved c = λ text.
    let d : Bor (List ℕ) = record { ref_ptr = (0, 0); now = [] } in
    let name = get_or c.args.names.now c.loop-place.place d in
    c.in_ok-note_place.ensures text
    ∙ ap (λ a. noted a (bytes_eq name.now text) c.loop-place.place) (c.loop-place.invariant text)
    ∙ sym (places_more c.args.names.now c.loop-place.place name d text c.loop-place-test.true refl)
