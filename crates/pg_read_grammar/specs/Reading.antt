-- Reading a list of tokens from the left.
use Rattle.std.specs.Prelude.{ℕ, zero, suc, List, [], ◌∷◌, ◌++◌, Option, Some, None, Bool, false, if◌then◌else◌, length}
use Rattle.pg_read_grammar.specs.declared.token.Token.{Token}
use Rattle.pg_read_grammar.specs.declared.class.Class.{Class}
use Rattle.pg_read_grammar.specs.declared.token.Fault.{Fault}

-- a value and the tokens after it, or the tokens from the refused one on
pub data Read (A : Type 0) : Type 0 where
  Good : A → List Token → Read A
  Bad : Option Fault → List Token → Read A

infixl 10 ◌>>=◌
abbrev pub ◌>>=◌ : {A B : Type 0} → Read A → (A → List Token → Read B) → Read B
(Good a rest) >>= f = f a rest
(Bad fault rest) >>= f = Bad fault rest

-- a token of these classes
abbrev pub take_one : (Class → Bool) → List Token → Read Token
take_one test [] = Bad None []
take_one test (t ∷ ts) = if test t.class then Good t ts else Bad None (t ∷ ts)

-- a token of these classes comes
abbrev pub comes : (Class → Bool) → List Token → Bool
comes test [] = false
comes test (t ∷ ts) = test t.class

-- the first where a token of these classes comes, else the second
abbrev pub choose : {A : Type 0} → (Class → Bool) → (List Token → Read A) → (List Token → Read A) → List Token → Read A
choose test r s ts = if comes test ts then r ts else s ts

-- a token of these classes is refused with this fault
abbrev pub unless : {A : Type 0} → Fault → (Class → Bool) → (List Token → Read A) → List Token → Read A
unless fault test r ts = if comes test ts then Bad (Some fault) ts else r ts

-- as many as come, at most this number
unfoldable pub repeat : {A : Type 0} → (Class → Bool) → (List Token → Read A) → ℕ → List Token → Read (List A)
repeat test r zero ts = Good [] ts
repeat test r (suc n) ts =
    if comes test ts then (r ts >>= λ a rest. repeat test r n rest >>= λ more after. Good (a ∷ more) after)
    else Good [] ts

abbrev pub all_of : {A : Type 0} → (Class → Bool) → (List Token → Read A) → List Token → Read (List A)
all_of test r ts = repeat test r (length ts) ts

-- a list that was read, with what was read before it in front
abbrev pub onto : {A : Type 0} → List A → Read (List A) → Read (List A)
onto front (Good more rest) = Good (front ++ more) rest
onto front (Bad fault rest) = Bad fault rest

-- from state to state: an item where one begins in the state, else what the state ends with; at most this many items
unfoldable pub run : {S B : Type 0} → (S → Class → Bool) → (S → List Token → Read S) → (S → List Token → Read B) → ℕ → S → List Token → Read B
run test r tail zero s ts = tail s ts
run test r tail (suc n) s ts = if comes (test s) ts then (r s ts >>= λ next rest. run test r tail n next rest) else tail s ts
