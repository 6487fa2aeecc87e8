use Rattle.std.proofs.Common.{◌≡◌, drop}
use Rattle.serde_json.specs.View.{items_view}
use Rattle.pg_book.specs.Values.{all_as, as_id}
use Rattle.pg_book.proofs.Each.{behind}
use Rattle.pg_book.proofs.values.ids_of.Given as goal

abbrev pub invariant-loop-item : goal.invariant-loop-item
invariant-loop-item l = behind l.ids.items (all_as as_id (items_view (drop l.item-index l.items))) ≡ all_as as_id (items_view l.items)
