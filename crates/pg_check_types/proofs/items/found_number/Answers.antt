use Rattle.std.proofs.Common.{refl, sym, ap, ◌∙◌}
use Rattle.std.proofs.lemmas.Option.{slice_get_read}
use Rattle.pg_check_types.specs.Table.{types_of}
use Rattle.pg_check_types.specs.NameIndex.{known_place}
use Rattle.pg_check_types.specs.Known.{denoted, item_number}
use Rattle.pg_check_types.specs.Items.{named_by}
use Rattle.pg_check_types.proofs.Resolutions.{if_ok}
use Rattle.pg_check_types.proofs.ItemNumbers.{stuck_by, open_by, both_ok, found_if}
use Rattle.pg_check_types.proofs.items.found_number.Goals as goal

pub returns-clause-none : goal.returns-clause-none
returns-clause-none c =
    let before = types_of c.args.table.now in
    let number = item_number c.args.places.now c.args.items.now in
    if_ok c.type_number.result
    (λ o h e. stuck_by c.args.types.now before (types_of c.type_number.new.table) number c.args.items.now c.args.place c.index-types-place.result c.type_number.ensures.grows c.requires.found.within
    (slice_get_read c.args.types.now _ c.args.place c.index-types-place.result refl c.requires.place c.index-types-place.is)
    (sym h ∙ ap (λ x. denoted (types_of c.type_number.new.table) x) e))
    (c.type_number.ensures.value (named_by before number) (λ text. refl))

pub returns-clause-found : goal.returns-clause-found
returns-clause-found c =
    let before = types_of c.args.table.now in
    let number = item_number c.args.places.now c.args.items.now in
    let is_open = open_by c.args.types.now c.args.items.now c.args.place c.index-types-place.result c.place_of_name.result c.requires.place c.requires.lengths c.index-types-place.is
    (sym c.is_some.ensures ∙ c.if-is_some.false) (c.place_of_name.ensures ∙ ap (λ t. known_place c.args.places.now t) c.as_slice.ensures
    ∙ c.requires.places c.index-types-place.result.name.text) (sym c.ne.ensures ∙ c.if-ne.false) in
    both_ok c.type_number.result
    (λ o h w. found_if c.args.types.now before (types_of c.type_number.new.table) number c.args.items.now c.args.place c.index-types-place.result c.requires.found is_open o w h)
    (c.type_number.ensures.value (named_by before number) (λ text. refl))
    c.type_number.ensures.within
