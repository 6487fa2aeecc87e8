use Rattle.std.proofs.Common.{◌∙◌, drop, length, map, sym, ap, subst}
use Rattle.std.proofs.lemmas.List.{length-replicate}
use Rattle.pg_read_ast.specs.Views.{type_item_of}
use Rattle.pg_check_types.specs.Resolved.{type_within}
use Rattle.pg_check_types.specs.Table.{types_of}
use Rattle.pg_check_types.specs.Known.{item_number, Names}
use Rattle.pg_check_types.proofs.ItemNames.{none_found, names_found, written_back}
use Rattle.pg_check_types.proofs.items.item_numbers.Goals as goal

pub find_all_items-requires-clause-found : goal.find_all_items-requires-clause-found
find_all_items-requires-clause-found c =
    none_found c.args.types.now (types_of c.args.table.now) c.args.places.now c.as_mut_slice.result.now (length c.args.types.now) (c.as_mut_slice.ensures.value ∙ c.in_ok-items.ensures)

pub returns-clause-names : goal.returns-clause-names
returns-clause-names c =
    let numbers = c.find_all_items.new.items in
    let begun = ap (λ xs. length xs) (c.as_mut_slice.ensures.value ∙ c.in_ok-items.ensures) ∙ length-replicate _ _ in
    let whole = written_back numbers (drop (length numbers) c.in_ok-items.items.items) c.in_ok-items.items.len (sym c.as_mut_slice.ensures.len ∙ sym c.find_all_items.auto.items) in
    subst (λ xs. Names (types_of c.find_all_items.new.table) (item_number c.args.places.now xs) (type_within (length c.args.types.now) (map type_item_of c.args.types.now))) (sym whole)
    (names_found c.args.types.now (types_of c.find_all_items.new.table) c.args.places.now numbers c.requires
    (c.find_all_items.auto.items ∙ begun) c.in_ok-find_all_items.ensures.found c.in_ok-find_all_items.ensures.stuck)
