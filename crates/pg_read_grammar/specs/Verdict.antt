-- Which list of tokens is read whole, and where one that isn't is refused.
use Rattle.std.specs.Prelude.{◌≡◌, List, [], ◌∷◌, ◌++◌, Option, Some, None, ◌↔◌}
use Rattle.pg_read_grammar.specs.declared.token.Token.{Token}
use Rattle.pg_read_grammar.specs.declared.token.Fault.{Fault}
use Rattle.pg_read_grammar.specs.Language.{Gram}

-- the whole list is read as this value
abbrev pub IsRead : {A : Type 0} → Gram A → List Token → A → Type 0
IsRead {A} g ts a = g None (λ b us. (b ≡ a) × (us ≡ [])) ts

-- the last token of the list has this fault
abbrev pub IsMarked : {A : Type 0} → Gram A → Fault → List Token → Type 0
IsMarked {A} g f ts = g (Some f) (λ b us. ⊥) ts

-- the list after these tokens is cut there, or goes on with the same token
abbrev pub Cut : List Token → List Token → Type 0
Cut [] us = us ≡ []
Cut (t ∷ rest) us = (more : List Token) × (us ≡ t ∷ more)

-- The tokens of front begin a list of the grammar, and with the next one, or with none left, they don't. The fault is
-- that of the refused token, and there is none where no token is left.
pub record Refused {A : Type 0} (g : Gram A) (fault : Option Fault) (front rest : List Token) : Type 0 where
  pub alive : (us : List Token) × (a : A) × IsRead g (front ++ us) a
  pub dead : (us : List Token) (a : A) → Cut rest us → IsRead g (front ++ us) a → ⊥
  pub cause : (f : Fault) (t : Token) (us : List Token) → rest ≡ t ∷ us → IsMarked g f (front ++ t ∷ []) ↔ (fault ≡ Some f)
  pub at_end : rest ≡ [] → fault ≡ None
