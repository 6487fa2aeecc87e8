use Rattle.std.proofs.Common.{◌≡◌, length, map, refl, sym, ap, ◌∙◌, arith}
use Rattle.pg_read_ast.specs.Numbers.{numbered}
use Rattle.pg_read_ast.specs.Views.{define_of, tree_of}
use Rattle.pg_check_types.specs.NumberedTypes.{items_of, named_types}
use Rattle.pg_check_rules.specs.Names.{registers_of, labels_of}
use Rattle.pg_check_program.specs.LineRows.{name_in}
use Rattle.pg_check_program.proofs.NamePlaces.{register_names}
use Rattle.pg_check_program.proofs.OwnScopes.{map_count, function_added}
use Rattle.pg_check_program.proofs.BoundedNumbers.{have_room, labels_few}
use Rattle.pg_check_program.proofs.function_rows.add_function.Goals as goal

pub invariant_of-scope-clause-register_room : goal.invariant_of-scope-clause-register_room
invariant_of-scope-clause-register_room c =
    let item = c.args.item.now in
    let own = c.in_ok-own.own in
    let types = (tree_of c.args.globals.now.symbols.tree.now).types in
    let all : c.as_slice-names.result.now ≡ map name_in (registers_of types (numbered types (define_of item))) =
    c.as_slice-names.ensures.value
    ∙ sym (register_names (named_types c.args.globals.now.types.now) own.registers.items own.types.items c.in_ok-own.ensures.lengths)
    ∙ ap (λ rs. map name_in rs) c.in_ok-own.ensures.registers
    ∙ ap (λ its. map name_in (registers_of (items_of its) (numbered (items_of its) (define_of item)))) c.args.globals.now.items in
    let few = ap (λ ns. length ns) all ∙ map_count name_in (registers_of types (numbered types (define_of item))) in
    have_room 0 c.in_ok-registers.registers c.as_slice-names.result.now c.in_ok-registers.ensures (omega (arith, few, c.requires.fits.registers))

pub invariant_of-scope-clause-label_room : goal.invariant_of-scope-clause-label_room
invariant_of-scope-clause-label_room c =
    let item = c.args.item.now in
    let types = (tree_of c.args.globals.now.symbols.tree.now).types in
    let few = ap (λ ns. length ns) (c.as_slice-label_names.ensures.value ∙ c.in_ok-own.ensures.labels ∙ ap (λ its. labels_of (numbered (items_of its) (define_of item))) c.args.globals.now.items) in
    have_room c.args.first c.in_ok-labels.labels c.as_slice-label_names.result.now c.in_ok-labels.ensures (omega (arith, few, labels_few types (define_of item), c.requires.room))

pub returns : goal.returns
returns c = record {
  instrs =
      let item = c.args.item.now in
      let own = c.in_ok-own.own in
      function_added _ item c.as_slice-names.result.now c.as_slice-label_names.result.now c.as_slice-names.result.now _ c.as_slice-blocks.result.now _ _
      c.in_ok-registers.ensures c.in_ok-labels.ensures
      (c.as_slice-names.ensures.value
      ∙ sym (register_names (named_types c.args.globals.now.types.now) own.registers.items own.types.items c.in_ok-own.ensures.lengths)
      ∙ ap (λ rs. map name_in rs) c.in_ok-own.ensures.registers
      ∙ ap (λ its. map name_in (registers_of (items_of its) (numbered (items_of its) (define_of item)))) c.args.globals.now.items)
      (c.as_slice-label_names.ensures.value ∙ c.in_ok-own.ensures.labels ∙ ap (λ its. labels_of (numbered (items_of its) (define_of item))) c.args.globals.now.items)
      refl
      (ap (λ ps. length ps) c.as_slice-params.ensures.value)
      c.as_slice-blocks.ensures.value
      c.in_ok-add_block_lines.ensures.instrs;
}
