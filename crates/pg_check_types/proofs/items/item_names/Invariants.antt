use Rattle.std.proofs.Common.{◌≡◌, take}
use Rattle.pg_check_types.specs.NameIndex.{texts_of}
use Rattle.pg_check_types.specs.Items.{item_texts}
use Rattle.pg_check_types.proofs.items.item_names.Given as goal

abbrev pub invariant-loop-item : goal.invariant-loop-item
invariant-loop-item l = texts_of l.names.items ≡ item_texts (take l.item-index l.types)
