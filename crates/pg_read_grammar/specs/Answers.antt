-- What a reader of whole lists has to answer.
use Rattle.std.specs.Prelude.{◌≡◌, List, [], ◌∷◌, ◌++◌, None}
use Rattle.pg_read_grammar.specs.declared.token.Token.{Token}
use Rattle.pg_read_grammar.specs.Language.{Gram}
use Rattle.pg_read_grammar.specs.Reading.{Read, Good, Bad}
use Rattle.pg_read_grammar.specs.Verdict.{IsRead, Refused}

-- a whole list is read as the value, and as no other, or its first refused token stands at a place
abbrev pub Answers : {A : Type 0} → Gram A → List Token → Read A → Type 0
Answers {A} g ts (Good a rest) = (rest ≡ []) × IsRead g ts a × ((b : A) → IsRead g ts b → a ≡ b)
Answers {A} g ts (Bad fault rest) = (front : List Token) × (ts ≡ front ++ rest) × Refused g fault front rest

-- the end is wanted after the value
abbrev pub ended : {A : Type 0} → Read A → Read A
ended (Good a []) = Good a []
ended (Good a (t ∷ rest)) = Bad None (t ∷ rest)
ended (Bad fault rest) = Bad fault rest
