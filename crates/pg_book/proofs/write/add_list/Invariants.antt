use Rattle.std.proofs.Common.{◌≡◌, ◌++◌, ◌∷◌, drop, false}
use Rattle.std.specs.Prelude.{nat_lt}
use Rattle.serde_json.specs.Written.{items_text}
use Rattle.pg_book.specs.Texts.{each}
use Rattle.pg_book.proofs.write.add_list.Given as goal

abbrev pub invariant-loop-place : goal.invariant-loop-place
invariant-loop-place g l = l.text.items ++ items_text (nat_lt 0 l.place) (each g.T.Written.value (drop l.place l.items)) ≡ l.fn.text.items ++ 91 ∷ items_text false (each g.T.Written.value l.items)
