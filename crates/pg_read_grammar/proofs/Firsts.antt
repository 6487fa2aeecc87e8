-- Which token a list begins with.
use Rattle.std.proofs.Common.{◌≡◌, ℕ, zero, suc, List, [], ◌∷◌, Option, inl, inr, ◌⊎◌, Bool, true, IsTrue, sym, subst}
use Rattle.pg_read_grammar.specs.declared.token.Token.{Token}
use Rattle.pg_read_grammar.specs.declared.class.Class.{Class}
use Rattle.pg_read_grammar.specs.declared.token.Fault.{Fault}
use Rattle.pg_read_grammar.specs.Language.{Lang, Gram}
use Rattle.pg_read_grammar.specs.Reading.{Read, comes}
use Rattle.pg_read_grammar.proofs.ClassTests.{apart, apart_is}
use Rattle.pg_read_grammar.proofs.Pieces.{Item, not_first}
use Rattle.pg_read_grammar.proofs.Linear.{Linear}

-- a token that stands first, comes
pub first_comes : (test : Class → Bool) (t : Token) (us vs : List Token) → us ≡ t ∷ vs → IsTrue (test t.class) → comes test us ≡ true
first_comes test t us vs e i = subst (λ xs. comes test xs ≡ true) (sym e) i

pub comes_first : (test : Class → Bool) (t : Token) (us vs : List Token) → us ≡ t ∷ vs → comes test us ≡ true → IsTrue (test t.class)
comes_first test t us vs e h = subst (λ xs. comes test xs ≡ true) e h

pub item_comes : {A : Type 0} {r : List Token → Read A} {g : Gram A} {fi av : Class → Bool} → Item r g fi av → (m : Option Fault) (K : A → Lang) (us : List Token) → g m K us
    → comes fi us ≡ true
item_comes {A} {r} {g} {fi} {av} e m K [] j = (e.piece.empty m K j).0
item_comes {A} {r} {g} {fi} {av} e m K (t ∷ us) j = not_first r g fi av e.piece m K t us j

pub not_both : (p q : Class → Bool) → apart p q ≡ true → (us : List Token) → comes p us ≡ true → comes q us ≡ true → ⊥
not_both p q x [] h k = absurd cc
not_both p q x (t ∷ us) h k = apart_is p q x t.class h k

-- one or the other behind a piece
abbrev which : {A : Type 0} → (A → Lang) → (A → Lang) → ℕ → A → Lang
which X Y zero = X
which X Y (suc n) = Y

pub either_behind : {A : Type 0} {g : Gram A} → Linear g → (m : Option Fault) (X Y : A → Lang) (us : List Token) → g m (λ a vs. X a vs ⊎ Y a vs) us → g m X us ⊎ g m Y us
either_behind {A} {g} e m X Y us j = by (e.pick m (which X Y) us (e.mono m (λ a vs. X a vs ⊎ Y a vs) (λ a vs. (n : ℕ) × which X Y n a vs) side us j))
  where
    side : (a : A) (vs : List Token) → X a vs ⊎ Y a vs → (n : ℕ) × which X Y n a vs
    side a vs (inl x) = (0, x)
    side a vs (inr y) = (1, y)

    by : (n : ℕ) × g m (which X Y n) us → g m X us ⊎ g m Y us
    by (zero, j) = inl j
    by (suc n, j) = inr j
