use Rattle.std.proofs.Common.{[], length, map, slice_get, refl, sym, ap, ◌∙◌, append-nil}
use Rattle.pg_read_ast.specs.Views.{val_of, const_of, typed_const_of}
use Rattle.pg_check_types.specs.Known.{denoted}
use Rattle.pg_check_types.specs.NumberedTypes.{items_of, named_types, table_of}
use Rattle.pg_check_types.proofs.Resolutions.{denoted_more, within_more, grows_again}
use Rattle.pg_check_rules.specs.Earliest.{earliest}
use Rattle.pg_check_rules.proofs.ConstantViews.{val_view}
use Rattle.pg_check_rules.proofs.Parts.{no_place}
use Rattle.pg_check_rules.proofs.Rows.{row_step, numbered_step}
use Rattle.pg_check_rules.specs.Fields.{field_type}
use Rattle.pg_check_heads.specs.ConstantParts.{part_row, field_row}
use Rattle.pg_check_heads.proofs.PartPlaces.{bytes_view, val_place, bytes_place, array_places, struct_places, part_place}
use Rattle.pg_check_heads.proofs.wrong_constants.+wrong.Goals as goal

pub wrong_numbered-returns-in-Val-clause-place : goal.wrong_numbered-returns-in-Val-clause-place
wrong_numbered-returns-in-Val-clause-place t c =
    val_place (named_types c.args.types.now) (denoted (table_of c.args.types.now) c.args.number) (const_of c.args.value.now) (val_of c.in-Val.field-0)
    (ap const_of c.in-Val.is ∙ val_view c.in-Val.field-0)

pub wrong_numbered-returns-in-Bytes-clause-place : goal.wrong_numbered-returns-in-Bytes-clause-place
wrong_numbered-returns-in-Bytes-clause-place t c =
    bytes_place (named_types c.args.types.now) (denoted (table_of c.args.types.now) c.args.number) (const_of c.args.value.now) c.in-Bytes.literal c.wrong_bytes.result
    (ap const_of c.in-Bytes.is ∙ bytes_view c.in-Bytes.literal) c.wrong_bytes.ensures

pub wrong_numbered-returns-in_ok-inner-in-Array-clause-place : goal.wrong_numbered-returns-in_ok-inner-in-Array-clause-place
wrong_numbered-returns-in_ok-inner-in-Array-clause-place t c =
    let table = table_of c.args.types.now in
    array_places (named_types c.args.types.now) (denoted table c.args.number) (denoted table c.element_number-element.result) c.args.value.now c.in-Array.span c.in-Array.parts
    c.as_slice-parts.result.now (length c.as_slice-parts.result.now) c.wrong_array-own.result c.in_ok-inner-in-Array.inner c.earlier.result
    c.in-Array.is c.as_slice-parts.ensures.value refl c.element_number-element.ensures.element c.wrong_array-own.ensures c.in_ok-inner-in-Array.ensures.place c.earlier.ensures

pub wrong_numbered-returns-in_ok-inner-in-Struct-clause-place : goal.wrong_numbered-returns-in_ok-inner-in-Struct-clause-place
wrong_numbered-returns-in_ok-inner-in-Struct-clause-place t c =
    let table = table_of c.args.types.now in
    struct_places (named_types c.args.types.now) table c.as_slice-in-Struct.result.now (denoted table c.args.number) c.args.value.now c.in-Struct.span c.in-Struct.parts
    c.as_slice-parts-in-Struct.result.now (length c.as_slice-parts-in-Struct.result.now) c.wrong_struct-own.result c.in_ok-inner-in-Struct.inner c.earlier-in-Struct.result
    c.in-Struct.is c.as_slice-parts-in-Struct.ensures.value refl
    (ap (λ xs. map (field_type table) xs) c.as_slice-in-Struct.ensures.value ∙ c.in_ok-fields-in-Struct.ensures.types)
    c.wrong_struct-own.ensures c.in_ok-inner-in-Struct.ensures.place c.earlier-in-Struct.ensures

pub wrong_typed-returns-clause-place : goal.wrong_typed-returns-clause-place
wrong_typed-returns-clause-place t c =
    let start = table_of c.args.types.now in
    let table = table_of c.number.new.self in
    let e = c.args.expected in
    part_place (named_types c.args.types.now) (named_types c.number.new.self) (denoted table e) (denoted start e) (denoted table c.in_ok-number.number) c.args.part.now
    c.wrong_part-own.result c.in_ok-inner.inner c.earlier.result
    c.wrong_part-own.ensures (denoted_more start table e c.in_ok-number.ensures.grows c.requires) c.in_ok-number.ensures.value
    c.in_ok-inner.ensures.place (ap (λ xs. items_of xs) c.in_ok-number.ensures.items) c.earlier.ensures

pub wrong_elements-loop-part-init : goal.wrong_elements-loop-part-init
wrong_elements-loop-part-init t c = record { found = no_place; within = c.requires; items = refl; grows = ([], sym (append-nil (table_of c.args.types.now))) }

pub wrong_elements-loop-part-preserved : goal.wrong_elements-loop-part-preserved
wrong_elements-loop-part-preserved t c =
    let types = named_types c.args.types.now in
    let start = table_of c.args.types.now in
    let table = table_of c.loop-part.types in
    let e = c.args.element in
    let p = typed_const_of c.part-item.result in
    let own =
    c.in_ok-own.ensures.place ∙ ap (λ xs. earliest (part_row (items_of xs) (denoted table e) p)) c.loop-part.invariant.items
    ∙ ap (λ u. earliest (part_row types u p)) (denoted_more start table e c.loop-part.invariant.grows c.requires)
    in
    record {
      found =
          row_step (part_row types (denoted start e)) typed_const_of c.args.parts.now c.loop-part.part-index c.part-item.result c.part-item.result c.loop-part.found c.in_ok-own.own
          c.earlier-found.result
          c.loop-part-test.true c.part-item.is c.loop-part.invariant.found own c.earlier-found.ensures;
      within = within_more table _ e c.in_ok-own.ensures.grows c.loop-part.invariant.within;
      items = c.in_ok-own.ensures.items ∙ c.loop-part.invariant.items;
      grows = grows_again start table _ c.loop-part.invariant.grows c.in_ok-own.ensures.grows;
    }

pub wrong_fields-loop-place-init : goal.wrong_fields-loop-place-init
wrong_fields-loop-place-init t c = record { found = no_place; within = c.requires; items = refl; grows = ([], sym (append-nil (table_of c.args.types.now))) }

pub wrong_fields-loop-place-preserved : goal.wrong_fields-loop-place-preserved
wrong_fields-loop-place-preserved t c =
    let types = named_types c.args.types.now in
    let start = table_of c.args.types.now in
    let table = table_of c.loop-place.types in
    let fields = c.args.fields.now in
    let k = c.loop-place.place in
    let p = typed_const_of c.index-parts-place.result in
    let own =
    c.in_ok-own.ensures.place ∙ ap (λ xs. earliest (part_row (items_of xs) (denoted table c.field_in-field.result) p)) c.loop-place.invariant.items
    ∙ ap (λ o. earliest (part_row types (denoted table o) p)) c.field_in-field.ensures.number
    ∙ ap (λ u. earliest (part_row types u p)) (denoted_more start table (slice_get fields k) c.loop-place.invariant.grows (c.requires k))
    in
    record {
      found =
          numbered_step (field_row types start fields) typed_const_of c.args.parts.now k c.index-parts-place.result c.index-parts-place.result c.loop-place.found c.in_ok-own.own c.earlier-found.result
          c.loop-place-test.true c.index-parts-place.is c.loop-place.invariant.found own c.earlier-found.ensures;
      within = λ j. within_more table _ (slice_get fields j) c.in_ok-own.ensures.grows (c.loop-place.invariant.within j);
      items = c.in_ok-own.ensures.items ∙ c.loop-place.invariant.items;
      grows = grows_again start table _ c.loop-place.invariant.grows c.in_ok-own.ensures.grows;
    }
