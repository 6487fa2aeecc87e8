-- In a module the names of a function stand in the order of the text.
use Rattle.std.proofs.Common.{◌≡◌, ℕ, zero, suc, ◌+◌, ◌-◌, ◌≤◌, List, [], ◌∷◌, ◌++◌, map, Option, Bool, true, refl, subst, arith, inl, inr, nat_lt}
use Rattle.std.specs.List.{flat_map}
use Rattle.std.specs.Prelude.{Result, Ok, Err}
use Rattle.std.proofs.lemmas.Bool.{lt-ltb, and_from}
use Rattle.pg_read_lex.specs.declared.token.Token as lexed
use Rattle.pg_read_lex.specs.declared.token.LexFault.{LexFault}
use Rattle.pg_read_lex.specs.declared.token.Piece.{Piece}
use Rattle.pg_read_lex.specs.declared.token.Piece.TheVariants.{Gap, Whole, Bad, Open}
use Rattle.pg_read_lex.specs.Tokens.{piece_of, ahead, placed, tokens_from, tokens}
use Rattle.pg_read_grammar.specs.declared.token.Token.{Token}
use Rattle.pg_read_grammar.specs.declared.class.Class.{Class}
use Rattle.pg_read_grammar.specs.declared.token.Fault.{Fault}
use Rattle.pg_read_grammar.specs.Language.{Lang, Gram, give, one, refused, ◌or◌, times, many}
use Rattle.pg_read_grammar.specs.Language.{◌>>=◌ as ◌then◌}
use Rattle.pg_read_grammar.specs.Words.{seen, classified}
use Rattle.pg_read_grammar.specs.NameOrder.{ascend}
use Rattle.pg_read_ast.specs.declared.names.Name.{Name}
use Rattle.pg_read_grammar.proofs.Linear.{Linear, EndsWith, linear_times}

-- ---- tokens in the order of the text

-- tokens that start at this place or later, each behind the start of the one before it
abbrev pub From : ℕ → List Token → Type 0
From at [] = Unit {0}
From at (t ∷ ts) = (at ≤ t.span.start) × From (t.span.start + 1) ts

pub from_less : (low at : ℕ) (ts : List Token) → low ≤ at → From at ts → From low ts
from_less low at [] l h = tt
from_less low at (t ∷ ts) l h = (omega (arith, l, h.0), h.1)

pub from_end : (front : List Token) (at : ℕ) (vs : List Token) → From at (front ++ vs) → (to : ℕ) × (at ≤ to) × From to vs
from_end [] at vs h = (at, omega arith, h)
from_end (t ∷ ts) at vs h = let r = from_end ts (t.span.start + 1) vs h.1 in (r.0, omega (arith, h.0, r.1), r.2)

-- ---- names between two places

abbrev pub Within : ℕ → List Name → ℕ → Type 0
Within at [] to = at ≤ to
Within at (n ∷ ns) to = (at ≤ n.span.start) × Within (n.span.start + 1) ns to

pub within_both : (at : ℕ) (xs : List Name) (middle : ℕ) (ys : List Name) (to : ℕ) → Within at xs middle → Within middle ys to → Within at (xs ++ ys) to
within_both at [] middle [] to h g = omega (arith, h, g)
within_both at [] middle (y ∷ ys) to h g = (omega (arith, h, g.0), g.1)
within_both at (x ∷ xs) middle ys to h g = (h.0, within_both (x.span.start + 1) xs middle ys to h.1 g)

pub within_more : (low at : ℕ) (xs : List Name) (to : ℕ) → low ≤ at → Within at xs to → Within low xs to
within_more low at [] to l h = omega (arith, l, h)
within_more low at (x ∷ xs) to l h = (omega (arith, l, h.0), h.1)

pub within_on : (at : ℕ) (xs : List Name) (to end : ℕ) → to ≤ end → Within at xs to → Within at xs end
within_on at [] to end l h = omega (arith, l, h)
within_on at (x ∷ xs) to end l h = (h.0, within_on (x.span.start + 1) xs to end l h.1)

pub within_order : (at : ℕ) (xs : List Name) (to : ℕ) → Within at xs to → at ≤ to
within_order at [] to h = h
within_order at (x ∷ xs) to h = omega (arith, h.0, within_order (x.span.start + 1) xs to h.1)

pub within_ascends : (at : ℕ) (xs : List Name) (to : ℕ) → Within (at + 1) xs to → ascend at xs ≡ true
within_ascends at [] to h = refl
within_ascends at (x ∷ xs) to h = and_from (nat_lt at x.span.start) (ascend x.span.start xs) (lt-ltb at x.span.start (omega (arith, h.0))) (within_ascends x.span.start xs to h.1)

-- ---- pieces, read from a place on

-- read from a place on, a piece has a value of which R holds at the place behind it
pub record Places {A : Type 0} (at : ℕ) (g : Gram A) (R : ℕ → A → Type 0) : Type 1 where
  pub place : (m : Option Fault) (K : A → Lang) (us : List Token) → From at us → g m K us → g m (λ a vs. (to : ℕ) × R to a × From to vs × K a vs) us

pub places_any : {A : Type 0} {g : Gram A} (at : ℕ) → Linear g → Places at g (λ to a. at ≤ to)
places_any {A} {g} at e = record { place = place }
  where
    place : (m : Option Fault) (K : A → Lang) (us : List Token) → From at us → g m K us → g m (λ a vs. (to : ℕ) × (at ≤ to) × From to vs × K a vs) us
    place m K us f j = e.mono m (λ a vs. EndsWith us vs × K a vs) (λ a vs. (to : ℕ) × (at ≤ to) × From to vs × K a vs)
        (λ a vs i. let r = from_end i.0.0 at vs (subst (From at) i.0.1 f) in (r.0, r.1, r.2, i.1)) us (e.later m K us j)

pub places_weaken : {A : Type 0} {Q R : ℕ → A → Type 0} {at : ℕ} {g : Gram A} → Linear g → Places at g Q → ((to : ℕ) (a : A) → Q to a → R to a) → Places at g R
places_weaken {A} {Q} {R} {at} {g} e q k = record {
  place = λ m K us f j. e.mono m (λ a vs. (to : ℕ) × Q to a × From to vs × K a vs) (λ a vs. (to : ℕ) × R to a × From to vs × K a vs) (λ a vs i. (i.0, k i.0 a i.1, i.2, i.3)) us
      (q.place m K us f j);
}

pub places_give : {A : Type 0} {R : ℕ → A → Type 0} (at : ℕ) (a : A) → R at a → Places at (give a) R
places_give {A} {R} at a r = record { place = λ m K us f j. (at, r, f, j) }

-- a token, and the place behind its start
pub places_one : (at : ℕ) (test : Class → Bool) → Places at (one test) (λ to t. (at ≤ t.span.start) × (to ≡ t.span.start + 1))
places_one at test = record { place = λ m K us f j. let g = subst (From at) j.2 f in (j.0, j.1, j.2, j.3, (j.0.span.start + 1, (g.0, refl), g.1, j.4)) }

pub places_refused : {A : Type 0} {R : ℕ → A → Type 0} (at : ℕ) (f : Fault) (test : Class → Bool) → Places {A = A} at (refused f test) R
places_refused {A} {R} at f test = record { place = λ m K us h j. j }

pub places_or : {A : Type 0} {R : ℕ → A → Type 0} {at : ℕ} {g h : Gram A} → Places at g R → Places at h R → Places at (g or h) R
places_or {A} {R} {at} {g} {h} e k = record { place = place }
  where
    place : (m : Option Fault) (K : A → Lang) (us : List Token) → From at us → (g or h) m K us → (g or h) m (λ a vs. (to : ℕ) × R to a × From to vs × K a vs) us
    place m K us f (inl j) = inl (e.place m K us f j)
    place m K us f (inr j) = inr (k.place m K us f j)

pub places_then : {A B : Type 0} {Q : ℕ → A → Type 0} {R : ℕ → B → Type 0} {at : ℕ} {g : Gram A} {h : A → Gram B} → Linear g → Places at g Q
    → ((a : A) (to : ℕ) → Q to a → Places to (h a) R) → Places at (g then h) R
places_then {A} {B} {Q} {R} {at} {g} {h} e q k = record {
  place = λ m K us f j. e.mono m (λ a vs. (to : ℕ) × Q to a × From to vs × h a m K vs) (λ a. h a m (λ b vs. (to : ℕ) × R to b × From to vs × K b vs))
      (λ a vs i. (k a i.0 i.1).place m K vs i.2 i.3) us (q.place m (λ a. h a m K) us f j);
}

pub places_times : {A : Type 0} {g : Gram A} (names : A → List Name) → Linear g → ((at : ℕ) → Places at g (λ to a. Within at (names a) to)) → (n at : ℕ)
    → Places at (times g n) (λ to all. Within at (flat_map names all) to)
places_times {A} {g} names e k zero at = places_give at [] (let z : at ≤ at = omega arith in z)
places_times {A} {g} names e k (suc n) at =
    places_then e (k at) (λ a to w. places_then (linear_times e n) (places_times names e k n to)
    (λ more end v. places_give end (a ∷ more) (within_both at (names a) to (flat_map names more) end w v)))

pub places_many : {A : Type 0} {g : Gram A} (names : A → List Name) → Linear g → ((at : ℕ) → Places at g (λ to a. Within at (names a) to)) → (at : ℕ)
    → Places at (many g) (λ to all. Within at (flat_map names all) to)
places_many {A} {g} names e k at = record { place = λ m K us f j. (j.0, (places_times names e k j.0 at).place m K us f j.1) }

-- ---- the tokens of a text

placed_from : (at : ℕ) (p : Piece) (later : ℕ → Result (List lexed.Token) LexFault) (ts : List lexed.Token) (text : List ℕ)
    → ((n : ℕ) (us : List lexed.Token) → later n ≡ Ok us → From (at + 1) (map (seen text) us)) → placed at p later ≡ Ok ts → From at (map (seen text) ts)
placed_from at (Gap n) later ts text h e = from_less at (at + 1) (map (seen text) ts) (omega arith) (h n ts e)
placed_from at (Whole kind n) later ts text h e = by (later n) refl e
  where
    t : lexed.Token
    t = record { kind = kind; span = record { start = at; end = at + n } }

    by : (r : Result (List lexed.Token) LexFault) → later n ≡ r → ahead t r ≡ Ok ts → From at (map (seen text) ts)
    by (Err fault) f g = absurd cc
    by (Ok us) f g =
        let same : t ∷ us ≡ ts = cc in
        subst (λ (xs : List lexed.Token). From at (map (seen text) xs)) same (let z : at ≤ at = omega arith in z, h n us f)
placed_from at Bad later ts text h e = absurd cc
placed_from at (Open n) later ts text h e = absurd cc

tokens_from_place : (bs : List ℕ) (skip at : ℕ) (ts : List lexed.Token) (text : List ℕ) → tokens_from skip at bs ≡ Ok ts → From at (map (seen text) ts)
unfolding tokens_from
tokens_from_place [] skip at ts text e = let same : [] ≡ ts = cc in subst (λ (xs : List lexed.Token). From at (map (seen text) xs)) same tt
tokens_from_place (b ∷ bs) (suc skip) at ts text e = from_less at (at + 1) (map (seen text) ts) (omega arith) (tokens_from_place bs skip (at + 1) ts text e)
tokens_from_place (b ∷ bs) zero at ts text e = placed_from at (piece_of (b ∷ bs)) (λ n. tokens_from (n - 1) (at + 1) bs) ts text (λ n us f. tokens_from_place bs (n - 1) (at + 1) us text f) e

pub tokens_ordered : (text : List ℕ) (ts : List lexed.Token) → tokens text ≡ Ok ts → From 0 (classified text ts)
tokens_ordered text ts e = tokens_from_place text 0 0 ts text e
