use Rattle.std.proofs.Common.{◌+◌, ◌++◌, map, drop, ap, ◌∙◌, arith, rules}
use Rattle.pg_read_ast.specs.declared.values.ConstNode.TheViews.{the_lemmas}
use Rattle.pg_read_ast.specs.Syntax.{consts}
use Rattle.pg_read_ast.specs.Views.{typed_const_of, tree_of}
use Rattle.pg_read_ast.proofs.Pieces.{on_ok}
use Rattle.pg_check_types.specs.Layout.{field_list}
use Rattle.pg_check_types.specs.Table.{type_at}
use Rattle.pg_check_types.specs.NumberedTypes.{table_of}
use Rattle.pg_check_rules.specs.Constants.{element_bytes}
use Rattle.pg_check_constants.proofs.ConstantBytes.{array_is, no_array, struct_is, element_step, elements_end, field_step, parts_end, fields_end}
use Rattle.pg_check_constants.proofs.ConstantSizes.{value_fits, elements_fit, fields_fit, parts_next, end_first, padding_fits, end_step, field_there}
use Rattle.pg_check_types.proofs.Alignments.{end_behind}
use Rattle.pg_check_constants.proofs.Sizes.{own_size, element_there}
use Rattle.pg_check_constants.proofs.initialisers.+bytes.Goals as goal

pub add_const-add_value-requires-clause-size : goal.add_const-add_value-requires-clause-size
add_const-add_value-requires-clause-size t c = own_size (type_at (table_of c.args.known.now) c.args.number) c.requires.ty

pub add_const-add_value-requires-clause-fits : goal.add_const-add_value-requires-clause-fits
add_const-add_value-requires-clause-fits t c = value_fits (tree_of c.args.globals.now.symbols.tree.now).types c.args.value.now c.in-Val.value c.in-Val.is c.requires.fits

pub add_const-size_of-size-requires-clause-fits : goal.add_const-size_of-size-requires-clause-fits
add_const-size_of-size-requires-clause-fits t c = own_size (type_at (table_of c.args.known.now) c.args.number) c.requires.ty

pub add_const-add_elements-requires : goal.add_const-add_elements-requires
add_const-add_elements-requires t c =
    let m = tree_of c.args.globals.now.symbols.tree.now in
    let table = table_of c.args.known.now in (
      search (rules, the_lemmas),
      (
        c.in-Some.ensures.within,
        (
          element_there table (type_at table c.args.number) c.in-Some.element c.in-Some.ensures.within c.in-Some.ensures.element c.requires.ty,
          elements_fit m.types c.args.value.now c.in-Array.field-0 c.in-Array.parts c.as_slice-in-Some.result.now c.in-Array.is c.as_slice-in-Some.ensures.value c.requires.fits,
        ),
      ),
    )

pub add_const-add_fields-requires : goal.add_const-add_fields-requires
add_const-add_fields-requires t c =
    let m = tree_of c.args.globals.now.symbols.tree.now in (
      search (rules, the_lemmas),
      (
        c.requires.within,
        (
          c.requires.ty,
          fields_fit m.types c.args.value.now c.in-Struct.field-0 c.in-Struct.parts c.as_slice-in-Struct.result.now c.in-Struct.is c.as_slice-in-Struct.ensures.value c.requires.fits,
        ),
      ),
    )

pub add_elements-add_part-requires : goal.add_elements-add_part-requires
add_elements-add_part-requires t c =
    let m = tree_of c.args.globals.now.symbols.tree.now in (
      search (rules, the_lemmas),
      (
        c.requires.within,
        (
          c.requires.ty,
          (parts_next m.types c.args.parts.now c.loop-part.part-index c.part-item.result _ c.loop-part-test.true c.part-item.is c.loop-part.invariant.fits).0,
        ),
      ),
    )

pub add_fields-loop-place-init : goal.add_fields-loop-place-init
add_fields-loop-place-init t c = record {
  bytes = search rules;
  fits = c.requires.fits;
  ended = end_first (type_at (table_of c.args.known.now) c.args.number) c.requires.ty;
}

pub add_fields-add_padding-requires-clause-at : goal.add_fields-add_padding-requires-clause-at
add_fields-add_padding-requires-clause-at t c =
    let ts = field_list (type_at (table_of c.args.known.now) c.args.number) in
    omega (arith, end_behind c.loop-place.at (drop c.loop-place.place ts), c.loop-place.invariant.ended)

pub add_fields-add_padding-requires-clause-fits : goal.add_fields-add_padding-requires-clause-fits
add_fields-add_padding-requires-clause-fits t c =
    let table = table_of c.args.known.now in
    let ts = field_list (type_at table c.args.number) in
    padding_fits c.loop-place.at c.loop-place.place ts (type_at table c.in-Some.field) (drop (c.loop-place.place + 1) ts) c.in-Some.ensures.field.rest c.loop-place.invariant.ended

pub add_fields-add_part-requires : goal.add_fields-add_part-requires
add_fields-add_part-requires t c =
    let m = tree_of c.args.globals.now.symbols.tree.now in
    let table = table_of c.args.known.now in
    let ts = field_list (type_at table c.args.number) in (
      search (rules, the_lemmas),
      (
        c.in-Some.ensures.within,
        (
          field_there (type_at table c.args.number) (type_at table c.in-Some.field) c.loop-place.place (drop (c.loop-place.place + 1) ts) c.requires.ty c.in-Some.ensures.field.rest,
          (parts_next m.types c.args.parts.now c.loop-place.place c.index-parts-place.result _ c.loop-place-test.true c.index-parts-place.is c.loop-place.invariant.fits).0,
        ),
      ),
    )

pub add_const-returns-in-Some : goal.add_const-returns-in-Some
add_const-returns-in-Some t c = record {
  bytes =
      let m = tree_of c.args.globals.now.symbols.tree.now in
      let table = table_of c.args.known.now in
      let u = type_at table c.args.number in
      on_ok c.add_elements.result _ _
      (λ h. h ∙ ap (λ bs. c.args.bytes.now.items ++ bs) (array_is m u c.args.value.now c.in-Array.field-0 c.in-Array.parts c.as_slice-in-Some.result.now table c.in-Some.element
      c.in-Array.is c.as_slice-in-Some.ensures.value c.in-Some.ensures.within c.in-Some.ensures.element))
      c.add_elements.ensures.bytes;
}

pub add_const-returns-in-None : goal.add_const-returns-in-None
add_const-returns-in-None t c = record {
  bytes =
      let m = tree_of c.args.globals.now.symbols.tree.now in
      let u = type_at (table_of c.args.known.now) c.args.number in
      no_array m u c.args.value.now c.in-Array.field-0 c.in-Array.parts c.args.bytes.now.items c.in-Array.is c.in-None.ensures.element;
}

pub add_const-returns-in_ok-add_fields-in-Struct : goal.add_const-returns-in_ok-add_fields-in-Struct
add_const-returns-in_ok-add_fields-in-Struct t c = record {
  bytes =
      let m = tree_of c.args.globals.now.symbols.tree.now in
      let u = type_at (table_of c.args.known.now) c.args.number in
      on_ok c.fill.result _ _
      (λ h. h ∙ struct_is m u c.args.value.now c.in-Struct.field-0 c.in-Struct.parts c.as_slice-in-Struct.result.now c.args.bytes.now.items c.add_fields.new.bytes.items c.size_of-size.result
      c.len-start.result
      c.in-Struct.is c.as_slice-in-Struct.ensures.value c.size_of-size.ensures.size (c.len-start.ensures ∙ c.args.bytes.now.ok.0) c.in_ok-add_fields-in-Struct.ensures.bytes)
      c.fill.ensures;
}

pub add_elements-loop-part-preserved : goal.add_elements-loop-part-preserved
add_elements-loop-part-preserved t c =
    let m = tree_of c.args.globals.now.symbols.tree.now in
    let u = type_at (table_of c.args.known.now) c.args.element in
    record {
      bytes =
          ap (λ xs. xs ++ element_bytes m u (consts (map typed_const_of (drop (c.loop-part.part-index + 1) c.args.parts.now)))) c.in_ok-add_part.ensures.bytes
          ∙ element_step m u c.loop-part.bytes.items c.args.parts.now c.loop-part.part-index c.part-item.result _ c.loop-part-test.true c.part-item.is
          ∙ c.loop-part.invariant.bytes;
      fits = (parts_next m.types c.args.parts.now c.loop-part.part-index c.part-item.result _ c.loop-part-test.true c.part-item.is c.loop-part.invariant.fits).1;
    }

pub add_elements-returns : goal.add_elements-returns
add_elements-returns t c = record {
  bytes =
      let m = tree_of c.args.globals.now.symbols.tree.now in
      let u = type_at (table_of c.args.known.now) c.args.element in
      elements_end m u c.loop-part.bytes.items c.args.parts.now c.loop-part.part-index c.loop-part-test.false ∙ c.loop-part.invariant.bytes;
}

pub add_fields-returns-in-None : goal.add_fields-returns-in-None
add_fields-returns-in-None t c = record {
  bytes =
      let m = tree_of c.args.globals.now.symbols.tree.now in
      let ts = field_list (type_at (table_of c.args.known.now) c.args.number) in
      fields_end m c.loop-place.at c.loop-place.bytes.items ts c.args.parts.now c.loop-place.place (c.field_at.ensures.none c.in-None.is)
      ∙ c.loop-place.invariant.bytes;
}

pub add_fields-loop-place-preserved : goal.add_fields-loop-place-preserved
add_fields-loop-place-preserved t c =
    let m = tree_of c.args.globals.now.symbols.tree.now in
    let table = table_of c.args.known.now in
    let ts = field_list (type_at table c.args.number) in
    record {
      bytes =
          field_step m c.loop-place.at c.in_ok-at-in-Some.at (type_at table c.in-Some.field) c.loop-place.bytes.items c.add_padding.new.bytes.items c.add_part.new.bytes.items ts
          c.args.parts.now c.loop-place.place c.index-parts-place.result _
          c.loop-place-test.true c.index-parts-place.is c.in-Some.ensures.field.rest c.in_ok-at-in-Some.ensures.end c.in_ok-at-in-Some.ensures.bytes c.in_ok-add_part-in-Some.ensures.bytes
          ∙ c.loop-place.invariant.bytes;
      fits = (parts_next m.types c.args.parts.now c.loop-place.place c.index-parts-place.result _ c.loop-place-test.true c.index-parts-place.is c.loop-place.invariant.fits).1;
      ended = end_step c.loop-place.at c.in_ok-at-in-Some.at c.loop-place.place ts (type_at table c.in-Some.field)
          (drop (c.loop-place.place + 1) ts) c.in-Some.ensures.field.rest c.in_ok-at-in-Some.ensures.end c.loop-place.invariant.ended;
    }

pub add_fields-returns : goal.add_fields-returns
add_fields-returns t c = record {
  bytes =
      let m = tree_of c.args.globals.now.symbols.tree.now in
      let ts = field_list (type_at (table_of c.args.known.now) c.args.number) in
      parts_end m c.loop-place.at c.loop-place.bytes.items ts c.args.parts.now c.loop-place.place c.loop-place-test.false
      ∙ c.loop-place.invariant.bytes;
}
