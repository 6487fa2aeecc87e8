use Rattle.std.proofs.Common.{◌≡◌, drop, map}
use Rattle.serde_json.specs.View.{items_view}
use Rattle.pg_book.specs.Parts.{parts_of}
use Rattle.pg_book.specs.Values.{all_as, as_entry, first_other}
use Rattle.pg_book.proofs.Each.{behind}
use Rattle.pg_book.proofs.read.entries_of.Given as goal

abbrev pub invariant-loop-place : goal.invariant-loop-place
invariant-loop-place l = record {
  read : behind (map parts_of l.entries.items) (all_as as_entry (items_view (drop l.place l.items))) ≡ all_as as_entry (items_view l.items);
  fault : first_other l.place (items_view (drop l.place l.items)) ≡ first_other 0 (items_view l.items);
}
