-- What a function says of a token that it takes where one of some classes comes.
use Rattle.std.specs.Prelude.{◌≡◌, ◌+◌, ◌≤◌, ℕ, List, Option, Some, None, Bool, true, false, length, drop}
use Rattle.pg_read_grammar.specs.declared.token.Token.{Token}
use Rattle.pg_read_grammar.specs.declared.class.Class.{Class}
use Rattle.pg_read_grammar.specs.Reading.{Good, comes, take_one}

abbrev pub Tries : {X : Type 0} → List Token → ℕ → (Class → Bool) → (X → Token) → (X → ℕ) → Option X → Type 0
Tries ts at test value to None = comes test (drop at ts) ≡ false
Tries ts at test value to (Some x) = (comes test (drop at ts) ≡ true) × (take_one test (drop at ts) ≡ Good (value x) (drop (to x) ts)) × (to x ≡ at + 1) × (to x ≤ length ts)
