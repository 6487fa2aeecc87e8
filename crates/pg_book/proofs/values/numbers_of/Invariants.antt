use Rattle.std.proofs.Common.{◌≡◌, drop}
use Rattle.serde_json.specs.View.{items_view}
use Rattle.pg_book.specs.Values.{all_as, as_signed}
use Rattle.pg_book.proofs.Each.{behind}
use Rattle.pg_book.proofs.values.numbers_of.Given as goal

abbrev pub invariant-loop-item : goal.invariant-loop-item
invariant-loop-item l = behind l.numbers.items (all_as as_signed (items_view (drop l.item-index l.items))) ≡ all_as as_signed (items_view l.items)
