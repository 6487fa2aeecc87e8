use Rattle.std.proofs.Common.{◌≡◌, List, [], ◌∷◌, map, rules, refl, ap}
use Rattle.serde_json.specs.Data.{Data, item}
use Rattle.pg_book.specs.Parts.{parts_of}
use Rattle.pg_book.specs.Texts.{each, entry_value}
use Rattle.pg_book.proofs.write.add_entries.Goals as goal

each-map : {A B : Type 0} (f : B → Data) (g : A → B) (xs : List A) → each f (map g xs) ≡ each (λ x. f (g x)) xs
each-map f g [] = refl
each-map f g (x ∷ xs) = ap (item (f (g x))) (each-map f g xs)

pub returns : goal.returns
returns c = rw (each-map entry_value parts_of c.args.entries.now) (search rules)
