-- What a reading function is to a piece of a grammar.
use Rattle.std.proofs.Common.{◌≡◌, ◌≤◌, List, [], ◌∷◌, ◌++◌, length, Option, Some, None, refl, sym, ap, arith, inl, inr, ◌⊎◌, Bool, true, false, IsTrue, length-append}
use Rattle.pg_read_grammar.specs.declared.token.Token.{Token}
use Rattle.pg_read_grammar.specs.declared.class.Class.{Class}
use Rattle.pg_read_grammar.specs.declared.token.Fault.{Fault}
use Rattle.pg_read_grammar.specs.declared.token.Fault.TheVariants.{Unsupported}
use Rattle.pg_read_grammar.specs.Classes.{none}
use Rattle.pg_read_grammar.specs.Language.{Lang, Gram}
use Rattle.pg_read_grammar.specs.Reading.{Read, Good, Bad}
use Rattle.pg_read_grammar.proofs.ClassTests.{within, within_is}

-- a token of a class
abbrev pub some_token : Class → Token
some_token c = record { class = c; text = []; span = record { start = 0; end = 0 } }

-- both lists are at their end, or begin with the same token
abbrev pub Same : List Token → List Token → Type 0
Same [] [] = Unit {0}
Same [] (u ∷ us) = ⊥
Same (t ∷ ts) [] = ⊥
Same (t ∷ ts) (u ∷ us) = t ≡ u

-- at a fault a list that isn't empty
abbrev pub Full : Option Fault → List Token → Type 0
Full None us = Unit {0}
Full (Some f) us = us ≡ [] → ⊥

-- the last token, refused as not supported
abbrev pub Marked : Option Fault → List Token → Type 0
Marked m us = (m ≡ Some Unsupported) × (us ≡ [])

-- no list of K begins with such a token, but where it is refused
abbrev pub Avoids : {A : Type 0} → (Class → Bool) → Option Fault → (A → Lang) → Type 0
Avoids {A} av m K = (a : A) (t : Token) (us : List Token) → IsTrue (av t.class) → K a (t ∷ us) → Marked m us

abbrev pub Alive : {A : Type 0} → (A → Lang) → Type 0
Alive {A} K = (a : A) → (us : List Token) × K a us

abbrev pub Blamed : Option Fault → Option Fault → Type 0
Blamed None fault = ⊥
Blamed (Some f) fault = fault ≡ Some f

-- front was read as a, and the rest decides
pub record Goes {A : Type 0} (g : Gram A) (av : Class → Bool) (a : A) (front rest : List Token) : Type 1 where
  pub sound : (m : Option Fault) (K : A → Lang) (us : List Token) → K a us → g m K (front ++ us)
  pub back : (m : Option Fault) (K : A → Lang) (us : List Token) → Avoids av m K → Same us rest → Full m us → g m K (front ++ us) → K a us

-- front was read, and what comes then is refused
pub record Stops {A : Type 0} (g : Gram A) (av : Class → Bool) (fault : Option Fault) (front rest : List Token) : Type 1 where
  pub alive : (K : A → Lang) → Alive K → (us : List Token) × g None K (front ++ us)
  pub dead : (m : Option Fault) (K : A → Lang) (us : List Token) → Avoids av m K → Same us rest → Full m us → g m K (front ++ us) → Blamed m fault
  pub marked : (f : Fault) (K : A → Lang) → fault ≡ Some f → (t : Token) × (us : List Token) × (rest ≡ t ∷ us) × g (Some f) K (front ++ t ∷ [])

pub data Met {A : Type 0} (g : Gram A) (av : Class → Bool) (ts : List Token) : Read A → Type 1 where
  Went : (a : A) (front rest : List Token) → ts ≡ front ++ rest → Goes g av a front rest → Met g av ts (Good a rest)
  Stopped : (fault : Option Fault) (front rest : List Token) → ts ≡ front ++ rest → Stops g av fault front rest → Met g av ts (Bad fault rest)

-- r reads g. A list of g begins with a token of fi, or with one refused of ma, or, if nu, with what follows. What follows never begins in av.
pub record Piece {A : Type 0} (r : List Token → Read A) (g : Gram A) (fi ma : Class → Bool) (nu : Bool) (av : Class → Bool) : Type 1 where
  pub meets : (ts : List Token) → Met g av ts (r ts)
  pub some : (K : A → Lang) → Alive K → (us : List Token) × g None K us
  pub begins : (m : Option Fault) (K : A → Lang) (t : Token) (us : List Token) → g m K (t ∷ us)
      → IsTrue (fi t.class) ⊎ ((IsTrue (ma t.class) × Marked m us) ⊎ (IsTrue nu × ((a : A) × K a (t ∷ us))))
  pub empty : (m : Option Fault) (K : A → Lang) → g m K [] → IsTrue nu × ((a : A) × K a [])

pub same_front : (front us rest : List Token) → Same us rest → Same (front ++ us) (front ++ rest)
same_front [] us rest s = s
same_front (t ∷ front) us rest s = refl

pub full_front : (front : List Token) (m : Option Fault) (us : List Token) → Full m us → Full m (front ++ us)
full_front front None us h = tt
full_front [] (Some f) us h = h
full_front (t ∷ front) (Some f) us h = λ e. let n : t ∷ (front ++ us) ≡ [] = e in absurd cc

-- a list that isn't empty isn't marked
pub not_marked : (m : Option Fault) (us : List Token) → Full m us → Marked m us → ⊥
not_marked None us h k = let e : None ≡ Some Unsupported = k.0 in absurd cc
not_marked (Some f) us h k = h k.1

pub marked_blamed : (m : Option Fault) (us : List Token) → Marked m us → Blamed m (Some Unsupported)
marked_blamed None us k = absurd (let e : None ≡ Some Unsupported = k.0 in cc)
marked_blamed (Some f) us k = sym k.0

abbrev pub rest_of : {A : Type 0} → Read A → List Token
rest_of (Good a rest) = rest
rest_of (Bad fault rest) = rest

-- at such a token the reading gets on
pub record Gets {A : Type 0} (fi : Class → Bool) (r : List Token → Read A) : Type 0 where
  pub on : (t : Token) (ts : List Token) → IsTrue (fi t.class) → length (rest_of (r (t ∷ ts))) ≤ length ts

pub shorter : {A : Type 0} (g : Gram A) (av : Class → Bool) (ts : List Token) (x : Read A) → Met g av ts x → length (rest_of x) ≤ length ts
shorter g av ts _ (Went a front rest split o) = rw split (omega (arith, length-append front rest))
shorter g av ts _ (Stopped fault front rest split o) = rw split (omega (arith, length-append front rest))

pub too_long : (t : Token) (ts rest : List Token) → t ∷ ts ≡ rest → length rest ≤ length ts → ⊥
too_long t ts rest e h = let n : length (t ∷ ts) ≡ length rest = ap length e in absurd (omega (arith, n, h))

pub avoids_less : {A : Type 0} (av aw : Class → Bool) (m : Option Fault) (K : A → Lang) → within av aw ≡ true → Avoids aw m K → Avoids av m K
avoids_less av aw m K w avoids a t us i j = avoids a t us (within_is av aw w t.class i) j

pub not_first : {A : Type 0} (r : List Token → Read A) (g : Gram A) (fi av : Class → Bool) → Piece r g fi none false av → (m : Option Fault) (K : A → Lang) (t : Token) (us : List Token)
    → g m K (t ∷ us) → IsTrue (fi t.class)
not_first {A} r g fi av e m K t us j = pick (e.begins m K t us j)
  where
    pick : IsTrue (fi t.class) ⊎ ((IsTrue (none t.class) × Marked m us) ⊎ (IsTrue false × ((a : A) × K a (t ∷ us)))) → IsTrue (fi t.class)
    pick (inl i) = i
    pick (inr (inl i)) = absurd (let z : false ≡ true = i.0 in cc)
    pick (inr (inr i)) = absurd (let z : false ≡ true = i.0 in cc)

-- a piece that gets on at each of its first tokens, for lists of it
pub record Item {A : Type 0} (r : List Token → Read A) (g : Gram A) (fi : Class → Bool) (av : Class → Bool) : Type 1 where
  pub piece : Piece r g fi none false av
  pub gets : Gets fi r
