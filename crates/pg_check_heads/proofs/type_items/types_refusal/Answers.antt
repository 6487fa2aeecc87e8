use Rattle.std.proofs.Common.{◌≡◌, ℕ, List, IfOk, map, ap, subst, ◌∙◌}
use Rattle.pg_read_ast.specs.declared.nodes.TypeItem.{TypeItem}
use Rattle.pg_read_ast.specs.Syntax.{NamedType}
use Rattle.pg_read_ast.specs.Views.{type_item_of}
use Rattle.pg_check_types.specs.NameIndex.{first_place}
use Rattle.pg_check_types.specs.Items.{item_texts}
use Rattle.pg_check_rules.specs.Earliest.{IsFirstIn}
use Rattle.pg_check_rules.specs.Conditions.{all_of, item_refused}
use Rattle.pg_check_rules.proofs.Parts.{map_twice}
use Rattle.pg_check_heads.specs.Circles.{place_of}
use Rattle.pg_check_heads.proofs.type_items.types_refusal.Goals as goal

-- where the first item of a name stands
first_item : (items : List TypeItem) (text : List ℕ) → first_place (item_texts items) text ≡ place_of (map type_item_of items) text
first_item items text = ap (λ ts. first_place ts text) (map_twice (λ (i : NamedType). i.name.text) type_item_of items)

pub item_ranks-requires : goal.item_ranks-requires
item_ranks-requires c = λ text. c.in_ok-places.ensures text ∙ first_item c.as_slice-items.result.now text

pub items_refusal-requires-clause-known : goal.items_refusal-requires-clause-known
items_refusal-requires-clause-known c = λ text. c.in_ok-places.ensures text ∙ first_item c.as_slice-items.result.now text

pub returns : goal.returns
returns c = record {
  first =
      subst (λ xs. IfOk c.items_refusal.result (λ o. IsFirstIn (all_of (item_refused (map type_item_of xs)) (map type_item_of xs)) o)) c.as_slice-items.ensures.value c.items_refusal.ensures.first;
}
