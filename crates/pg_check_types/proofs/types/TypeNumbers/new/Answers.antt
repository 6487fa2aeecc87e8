use Rattle.std.proofs.Common.{length, map, sym, subst}
use Rattle.std.proofs.lemmas.List.{length-map}
use Rattle.pg_read_ast.specs.Views.{type_item_of}
use Rattle.pg_check_types.specs.Resolved.{type_within}
use Rattle.pg_check_types.specs.Table.{types_of}
use Rattle.pg_check_types.specs.Known.{AreWithin, Names, item_number}
use Rattle.pg_check_types.proofs.types.TypeNumbers.new.Goals as goal

pub invariant_of-result : goal.invariant_of-result
invariant_of-result c =
    let number = item_number c.in_ok-places.places c.in_ok-numbers.numbers.items in
    let items = c.args.items.now in
    let same = sym c.in_ok-shapes.ensures.types in
    record {
      known = c.in_ok-places.ensures;
      table = c.in_ok-shapes.ensures.table;
      within = subst (λ es. AreWithin (types_of es) number) same c.in_ok-numbers.ensures.within;
      names =
          subst (λ es. Names (types_of es) number (type_within (length (map type_item_of items)) (map type_item_of items))) same
          (subst (λ n. Names (types_of c.item_numbers.new.table) number (type_within n (map type_item_of items))) (sym (length-map items type_item_of)) c.in_ok-numbers.ensures.names);
    }
