use Rattle.std.proofs.Common.{ap, ◌∙◌}
use Rattle.pg_check_types.specs.NameIndex.{first_place, texts_of}
use Rattle.pg_check_rules.specs.Starts.{names_behind}
use Rattle.pg_check_bodies.proofs.LabelPlaces.{label_place}
use Rattle.pg_check_bodies.proofs.name_index.index_references.Goals as goal

pub returns : goal.returns
returns c = λ text.
    c.in_ok-places.ensures text
    ∙ ap (λ ts. first_place (texts_of ts) text) c.as_slice.ensures.value
    ∙ ap (λ ts. first_place ts text) c.in_ok-all.ensures
    ∙ label_place (names_behind c.args.names.now) text
