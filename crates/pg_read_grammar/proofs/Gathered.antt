-- Any number of a piece, of which each value is added to what was gathered before it.
use Rattle.std.proofs.Common.{◌≡◌, ℕ, zero, suc, List, [], ◌∷◌, ◌++◌, Option, sym, ◌∙◌, append_assoc, append-nil}
use Rattle.pg_read_grammar.specs.declared.token.Token.{Token}
use Rattle.pg_read_grammar.specs.declared.token.Fault.{Fault}
use Rattle.pg_read_grammar.specs.Language.{Lang, Gram, give, times, many}
use Rattle.pg_read_grammar.specs.Language.{◌>>=◌ as ◌then◌}
use Rattle.pg_read_grammar.proofs.Linear.{Linear}

-- each of a list added from the left
abbrev pub added : {A B : Type 0} → (B → A → B) → B → List A → B
added push b [] = b
added push b (a ∷ as1) = added push (push b a) as1

abbrev pub gather : {A B : Type 0} → (B → A → B) → Gram A → ℕ → B → Gram B
gather push g zero b = give b
gather push g (suc n) b = g then λ a. gather push g n (push b a)

abbrev pub gathered : {A B : Type 0} → (B → A → B) → Gram A → B → Gram B
gathered push g b m K us = (n : ℕ) × gather push g n b m K us

-- one more in front
pub gathered_more : {A B : Type 0} (push : B → A → B) {g : Gram A} → Linear g → (b : B) (m : Option Fault) (K : B → Lang) (us : List Token)
    → g m (λ a. gathered push g (push b a) m K) us → gathered push g b m K us
gathered_more push {g} e b m K us j = let q = e.pick m (λ n a. gather push g n (push b a) m K) us j in (suc q.0, q.1)

-- the same lists as those of many, with all values added
from_times : {A B : Type 0} (push : B → A → B) {g : Gram A} → Linear g → (n : ℕ) (b : B) (m : Option Fault) (K : B → Lang) (us : List Token)
    → times g n m (λ all. K (added push b all)) us → gather push g n b m K us
from_times push e zero b m K us j = j
from_times push {g} e (suc n) b m K us j = e.mono m (λ a. times g n m (λ more. K (added push (push b a) more))) (λ a. gather push g n (push b a) m K)
    (λ a vs i. from_times push e n (push b a) m K vs i) us j

to_times : {A B : Type 0} (push : B → A → B) {g : Gram A} → Linear g → (n : ℕ) (b : B) (m : Option Fault) (K : B → Lang) (us : List Token) → gather push g n b m K us
    → times g n m (λ all. K (added push b all)) us
to_times push e zero b m K us j = j
to_times push {g} e (suc n) b m K us j = e.mono m (λ a. gather push g n (push b a) m K) (λ a. times g n m (λ more. K (added push (push b a) more)))
    (λ a vs i. to_times push e n (push b a) m K vs i) us j

pub from_many : {A B : Type 0} (push : B → A → B) {g : Gram A} → Linear g → (b : B) (m : Option Fault) (K : B → Lang) (us : List Token) → many g m (λ all. K (added push b all)) us
    → gathered push g b m K us
from_many push e b m K us j = (j.0, from_times push e j.0 b m K us j.1)

pub to_many : {A B : Type 0} (push : B → A → B) {g : Gram A} → Linear g → (b : B) (m : Option Fault) (K : B → Lang) (us : List Token) → gathered push g b m K us
    → many g m (λ all. K (added push b all)) us
to_many push e b m K us j = (j.0, to_times push e j.0 b m K us j.1)

-- what holds behind all of them holds before, where one of them keeps it
pub star : {A : Type 0} {g : Gram A} → Linear g → (m : Option Fault) (L : Lang) → ((us : List Token) → g m (λ a. L) us → L us) → (us : List Token) → many g m (λ all. L) us → L us
star {A} {g} e m L keeps us j = by j.0 us j.1
  where
    by : (n : ℕ) (us : List Token) → times g n m (λ all. L) us → L us
    by zero us j = j
    by (suc n) us j = keeps us (e.mono m (λ a. times g n m (λ more. L)) (λ a. L) (λ a vs i. by n vs i) us j)

-- one more, with nothing kept
pub many_more : {A : Type 0} {g : Gram A} → Linear g → (m : Option Fault) (L : Lang) (us : List Token) → g m (λ a. many g m (λ all. L)) us → many g m (λ all. L) us
many_more {A} {g} e m L us j = let q = e.pick m (λ n a. times g n m (λ all. L)) us j in (suc q.0, q.1)

abbrev pub snoc : {A : Type 0} → List A → A → List A
snoc all a = all ++ a ∷ []

added_snoc : {A : Type 0} (front all : List A) → added snoc front all ≡ front ++ all
added_snoc front [] = sym (append-nil front)
added_snoc front (a ∷ all) = added_snoc (front ++ a ∷ []) all ∙ append_assoc front (a ∷ []) all

pub added_nothing : {A : Type 0} (all : List A) → added snoc [] all ≡ all
added_nothing all = added_snoc [] all
