-- Languages that depend on what may follow a list at a time: what holds of each that follows holds behind the piece.
-- What follows are the list's last tokens.
use Rattle.std.proofs.Common.{◌≡◌, ℕ, zero, suc, List, [], ◌∷◌, ◌++◌, Option, inl, inr, Bool, refl, sym, ap, ◌∙◌, append_assoc}
use Rattle.pg_read_grammar.specs.declared.token.Token.{Token}
use Rattle.pg_read_grammar.specs.declared.class.Class.{Class}
use Rattle.pg_read_grammar.specs.declared.token.Fault.{Fault}
use Rattle.pg_read_grammar.specs.Language.{Lang, Gram, give, one, refused, ◌or◌, times, many}
use Rattle.pg_read_grammar.specs.Language.{◌>>=◌ as ◌then◌}

-- the list ends with these tokens
abbrev pub EndsWith : List Token → List Token → Type 0
EndsWith us vs = (front : List Token) × (us ≡ front ++ vs)

-- more may follow; a choice behind the piece may be made before it; and what follows is the list's end
pub record Linear {A : Type 0} (g : Gram A) : Type 1 where
  pub mono : (m : Option Fault) (K L : A → Lang) → ((a : A) (us : List Token) → K a us → L a us) → (us : List Token) → g m K us → g m L us
  pub pick : (m : Option Fault) (K : ℕ → A → Lang) (us : List Token) → g m (λ a us. (n : ℕ) × K n a us) us → (n : ℕ) × g m (K n) us
  pub later : (m : Option Fault) (K : A → Lang) (us : List Token) → g m K us → g m (λ a vs. EndsWith us vs × K a vs) us

pub linear_give : {A : Type 0} (a : A) → Linear (give a)
linear_give {A} a = record { mono = λ m K L f us j. f a us j; pick = λ m K us j. j; later = λ m K us j. (([], refl), j) }

pub linear_one : (test : Class → Bool) → Linear (one test)
linear_one test = record {
  mono = λ m K L f us j. (j.0, j.1, j.2, j.3, f j.0 j.1 j.4);
  pick = λ m K us j. (j.4.0, (j.0, j.1, j.2, j.3, j.4.1));
  later = λ m K us j. (j.0, j.1, j.2, j.3, ((j.0 ∷ [], j.2), j.4));
}

pub linear_refused : {A : Type 0} (f : Fault) (test : Class → Bool) → Linear {A = A} (refused f test)
linear_refused {A} f test = record { mono = λ m K L h us j. j; pick = λ m K us j. (0, j); later = λ m K us j. j }

-- the end of an end
end_of_end : (us vs ws : List Token) → EndsWith us vs → EndsWith vs ws → EndsWith us ws
end_of_end us vs ws a b = (a.0 ++ b.0, a.1 ∙ ap (λ xs. a.0 ++ xs) b.1 ∙ sym (append_assoc a.0 b.0 ws))

pub linear_then : {A B : Type 0} {g : Gram A} {h : A → Gram B} → Linear g → ((a : A) → Linear (h a)) → Linear (g then h)
linear_then {A} {B} {g} {h} e k = record {
  mono = λ m K L f us j. e.mono m (λ a. h a m K) (λ a. h a m L) (λ a vs i. (k a).mono m K L f vs i) us j;
  pick = λ m K us j. e.pick m (λ n a. h a m (K n)) us (e.mono m (λ a. h a m (λ b vs. (n : ℕ) × K n b vs)) (λ a vs. (n : ℕ) × h a m (K n) vs) (λ a vs i. (k a).pick m K vs i) us j);
  later = λ m K us j. e.mono m (λ a vs. EndsWith us vs × h a m K vs) (λ a. h a m (λ b ws. EndsWith us ws × K b ws))
      (λ a vs i. (k a).mono m (λ b ws. EndsWith vs ws × K b ws) (λ b ws. EndsWith us ws × K b ws) (λ b ws q. (end_of_end us vs ws i.0 q.0, q.1)) vs ((k a).later m K vs i.1)) us
      (e.later m (λ a. h a m K) us j);
}

pub linear_or : {A : Type 0} {g h : Gram A} → Linear g → Linear h → Linear (g or h)
linear_or {A} {g} {h} e k = record { mono = mono; pick = pick; later = later }
  where
    mono : (m : Option Fault) (K L : A → Lang) → ((a : A) (us : List Token) → K a us → L a us) → (us : List Token) → (g or h) m K us → (g or h) m L us
    mono m K L f us (inl j) = inl (e.mono m K L f us j)
    mono m K L f us (inr j) = inr (k.mono m K L f us j)

    pick : (m : Option Fault) (K : ℕ → A → Lang) (us : List Token) → (g or h) m (λ a us. (n : ℕ) × K n a us) us → (n : ℕ) × (g or h) m (K n) us
    pick m K us (inl j) = let q = e.pick m K us j in (q.0, inl q.1)
    pick m K us (inr j) = let q = k.pick m K us j in (q.0, inr q.1)

    later : (m : Option Fault) (K : A → Lang) (us : List Token) → (g or h) m K us → (g or h) m (λ a vs. EndsWith us vs × K a vs) us
    later m K us (inl j) = inl (e.later m K us j)
    later m K us (inr j) = inr (k.later m K us j)

pub linear_times : {A : Type 0} {g : Gram A} → Linear g → (n : ℕ) → Linear (times g n)
linear_times {A} {g} e zero = linear_give []
linear_times {A} {g} e (suc n) = linear_then e (λ a. linear_then (linear_times e n) (λ more. linear_give (a ∷ more)))

pub linear_many : {A : Type 0} {g : Gram A} → Linear g → Linear (many g)
linear_many {A} {g} e = record {
  mono = λ m K L f us j. (j.0, (linear_times e j.0).mono m K L f us j.1);
  pick = λ m K us j. let q = (linear_times e j.0).pick m K us j.1 in (q.0, (j.0, q.1));
  later = λ m K us j. (j.0, (linear_times e j.0).later m K us j.1);
}
