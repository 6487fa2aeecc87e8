use Rattle.std.proofs.Common.{map, take, refl}
use Rattle.pg_read_ast.specs.Views.{type_item_of}
use Rattle.pg_check_rules.specs.Earliest.{IsFirstIn}
use Rattle.pg_check_rules.specs.Conditions.{all_of, item_refused}
use Rattle.pg_check_rules.proofs.Rows.{row_whole}
use Rattle.pg_check_rules.proofs.FirstRefusals.{part_step}
use Rattle.pg_check_heads.proofs.NextPlaces.{got}
use Rattle.pg_check_heads.proofs.type_items.items_refusal.Goals as goal

pub loop-place-init : goal.loop-place-init
loop-place-init c = record { none = λ kind. refl }

pub item_refusal-requires-clause-at : goal.item_refusal-requires-clause-at
item_refusal-requires-clause-at c = got type_item_of c.args.items.now c.loop-place.place c.index-items-place.result _ c.loop-place-test.true c.index-items-place.is

pub item_refusal-requires-clause-items : goal.item_refusal-requires-clause-items
item_refusal-requires-clause-items c = c.requires.items

pub loop-place-preserved : goal.loop-place-preserved
loop-place-preserved c =
    let part = item_refused (map type_item_of c.args.items.now) in
    part_step part type_item_of c.args.items.now c.loop-place.place c.index-items-place.result c.in_ok-found.found c.loop-place-test.true c.index-items-place.is
    (c.in_ok-found.ensures.first (all_of part (map type_item_of (take c.loop-place.place c.args.items.now))) c.loop-place.invariant)

pub returns : goal.returns
returns c = record {
  first =
      row_whole (λ xs. IsFirstIn (all_of (item_refused (map type_item_of c.args.items.now)) (map type_item_of xs)) c.loop-place.found) c.args.items.now c.loop-place.place c.loop-place-test.false
      c.loop-place.invariant;
}
