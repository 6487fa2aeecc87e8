-- A list in brackets, of which the first was read and pushed before the others.
use Rattle.std.proofs.Common.{◌≡◌, List, [], ◌∷◌, ◌++◌, map, Bool, true, false, refl, ap, subst, ◌∙◌, if◌then◌else◌}
use Rattle.pg_read_grammar.specs.declared.token.Token.{Token}
use Rattle.pg_read_grammar.specs.declared.class.Class.{Class}
use Rattle.pg_read_grammar.specs.declared.class.Class.TheVariants.{Comma}
use Rattle.pg_read_grammar.specs.Classes.{is}
use Rattle.pg_read_grammar.specs.Reading.{Read, Good, Bad, ◌>>=◌, onto, all_of, comes, take_one}
use Rattle.pg_read_grammar.specs.Reader.{behind_comma, listed_at}
use Rattle.pg_read_grammar.proofs.Loops.{chosen}

first_of : {A : Type 0} (a : A) (x : Read (List A)) (all : List A) (rest : List Token) → onto (a ∷ []) x ≡ Good all rest → (x >>= λ more. Good (a ∷ more)) ≡ Good all rest
first_of a (Good more after) all rest e = e
first_of a (Bad fault after) all rest e = e

pub listed : {X A : Type 0} (v : X → A) (close : Class) (r : List Token → Read A) (x : X) (none front all : List X) (b : Bool) (t : Token) (ts one more rest : List Token)
    → none ≡ [] → front ≡ (if b then none ++ x ∷ [] else none) → b ≡ true → comes (is close) ts ≡ false → r ts ≡ Good (v x) one
    → onto (map v front) (all_of (is Comma) (behind_comma r) one) ≡ Good (map v all) more → take_one (is close) more ≡ Good t rest
    → listed_at close r ts ≡ Good (map v all) rest
listed v close r x none front all b t ts one more rest n p h k f m g =
    let z : front ≡ x ∷ [] = chosen b (none ++ x ∷ []) none front p h ∙ ap (λ xs. xs ++ x ∷ []) n in
    let q = first_of (v x) (all_of (is Comma) (behind_comma r) one) (map v all) more (subst (λ xs. onto (map v xs) (all_of (is Comma) (behind_comma r) one) ≡ Good (map v all) more) z m) in
    rw (k, f) (rw q (rw g refl))
