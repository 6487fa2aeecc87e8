-- Languages of token lists with a value, each given by what may follow.
use Rattle.std.specs.Prelude.{◌≡◌, ℕ, zero, suc, ◌⊎◌, List, [], ◌∷◌, Option, Some, IsTrue, Bool}
use Rattle.pg_read_grammar.specs.declared.token.Token.{Token}
use Rattle.pg_read_grammar.specs.declared.class.Class.{Class}
use Rattle.pg_read_grammar.specs.declared.token.Fault.{Fault}

abbrev pub Lang : Type 1
Lang = List Token → Type 0

-- A piece of a grammar: the lists that begin with it, and go on with a list of K at the value that it has.
-- At a fault, the lists whose last token has this fault there.
abbrev pub Gram : Type 0 → Type 1
Gram A = Option Fault → (A → Lang) → Lang

-- no token
abbrev pub give : {A : Type 0} → A → Gram A
give a m K ts = K a ts

-- one token of these classes
abbrev pub one : (Class → Bool) → Gram Token
one test m K ts = (t : Token) × (us : List Token) × (ts ≡ t ∷ us) × IsTrue (test t.class) × K t us

infixl 10 ◌>>=◌
abbrev pub ◌>>=◌ : {A B : Type 0} → Gram A → (A → Gram B) → Gram B
(g >>= f) m K ts = g m (λ a. f a m K) ts

infixl 8 ◌or◌
abbrev pub ◌or◌ : {A : Type 0} → Gram A → Gram A → Gram A
(g or h) m K ts = g m K ts ⊎ h m K ts

-- a token that is refused here with a fault of its own
abbrev pub refused : {A : Type 0} → Fault → (Class → Bool) → Gram A
refused f test m K ts = (m ≡ Some f) × (t : Token) × (ts ≡ t ∷ []) × IsTrue (test t.class)

abbrev pub times : {A : Type 0} → Gram A → ℕ → Gram (List A)
times g zero = give []
times g (suc n) = do
  a ← g
  more ← times g n
  give (a ∷ more)

-- any number of these
abbrev pub many : {A : Type 0} → Gram A → Gram (List A)
many g m K ts = (n : ℕ) × times g n m K ts
