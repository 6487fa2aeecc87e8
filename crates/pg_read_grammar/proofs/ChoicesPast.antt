-- A choice whose second side is read only where the first doesn't begin.
use Rattle.std.proofs.Common.{◌≡◌, ◌≤◌, List, [], ◌∷◌, ◌++◌, length, Option, None, refl, sym, subst, inl, inr, ◌⊎◌, Bool, true, false, IsTrue, if◌then◌else◌}
use Rattle.pg_read_grammar.specs.declared.token.Token.{Token}
use Rattle.pg_read_grammar.specs.declared.class.Class.{Class}
use Rattle.pg_read_grammar.specs.declared.token.Fault.{Fault}
use Rattle.pg_read_grammar.specs.Classes.{◌∪◌, none}
use Rattle.pg_read_grammar.specs.Language.{Lang, Gram, ◌or◌}
use Rattle.pg_read_grammar.specs.Reading.{Read, comes, choose}
use Rattle.pg_read_grammar.proofs.ClassTests.{within, in_left, in_right}
use Rattle.pg_read_grammar.proofs.Pieces.{Piece, Item, Gets, Met, Went, Stopped, Stops, Avoids, Alive, Same, Full, Marked, Blamed, same_front, avoids_less, too_long, rest_of, not_first}
use Rattle.pg_read_grammar.proofs.Rules.{gets_choose, within_self}

-- a piece that doesn't begin with such a token
abbrev pub past : {A : Type 0} → (Class → Bool) → Gram A → Gram A
past test g m K ts = (comes test ts ≡ false) × g m K ts

-- behind the same front comes the same token
same_comes : (test : Class → Bool) (front us rest : List Token) → Same us rest → comes test (front ++ rest) ≡ false → comes test (front ++ us) ≡ false
same_comes test (t ∷ front) us rest same h = h
same_comes test [] [] rest same h = refl
same_comes test [] (u ∷ us) [] same h = absurd same
same_comes test [] (u ∷ us) (t ∷ rest) same h = subst (λ v. test v.class ≡ false) (sym same) h

pub past_piece : {A : Type 0} (r : List Token → Read A) (g : Gram A) (fi av : Class → Bool) (s : List Token → Read A) (h : Gram A) (fj mb aw ax : Class → Bool)
    → Piece r g fi none false av → Gets fi r → Piece s h fj mb false aw → within av ax ≡ true → within aw ax ≡ true
    → Piece (choose fi r s) (g or past fi h) (fi ∪ fj) mb false ax
past_piece {A} r g fi av s h fj mb aw ax e gets k wi wj = record {
  meets = meets;
  some = λ K alive. let q = e.some K alive in (q.0, inl q.1);
  begins = begins;
  empty = empty;
}
  where
    begins : (m : Option Fault) (K : A → Lang) (t : Token) (us : List Token) → (g or past fi h) m K (t ∷ us)
        → IsTrue ((fi ∪ fj) t.class) ⊎ ((IsTrue (mb t.class) × Marked m us) ⊎ (IsTrue false × ((a : A) × K a (t ∷ us))))
    begins m K t us (inl j) = inl (in_left (fi t.class) (fj t.class) (not_first r g fi av e m K t us j))
    begins m K t us (inr j) = pick (k.begins m K t us j.1)
      where
        pick : IsTrue (fj t.class) ⊎ ((IsTrue (mb t.class) × Marked m us) ⊎ (IsTrue false × ((a : A) × K a (t ∷ us))))
            → IsTrue ((fi ∪ fj) t.class) ⊎ ((IsTrue (mb t.class) × Marked m us) ⊎ (IsTrue false × ((a : A) × K a (t ∷ us))))
        pick (inl b) = inl (in_right (fi t.class) (fj t.class) b)
        pick (inr b) = inr b

    empty : (m : Option Fault) (K : A → Lang) → (g or past fi h) m K [] → IsTrue false × ((a : A) × K a [])
    empty m K (inl j) = e.empty m K j
    empty m K (inr j) = k.empty m K j.1

    -- where the first begins, the second doesn't
    other : (m : Option Fault) (K : A → Lang) (t : Token) (us : List Token) → IsTrue (fi t.class) → past fi h m K (t ∷ us) → ⊥
    other m K t us i j = let n : fi t.class ≡ false = j.0 in let y : fi t.class ≡ true = i in absurd cc

    first : (t u : Token) (ts us : List Token) → t ∷ ts ≡ u ∷ us → IsTrue (fi t.class) → IsTrue (fi u.class)
    first t u ts us w i = let p : t ≡ u = cc in subst (λ v. IsTrue (fi v.class)) p i

    left_side : (t : Token) (ts : List Token) (x : Read A) → IsTrue (fi t.class) → length (rest_of x) ≤ length ts → Met g av (t ∷ ts) x → Met (g or past fi h) ax (t ∷ ts) x
    left_side t ts _ i l (Went a [] rest split o) = absurd (too_long t ts rest split l)
    left_side t ts _ i l (Stopped fault [] rest split o) = absurd (too_long t ts rest split l)
    left_side t ts _ i l (Went a (u ∷ front) rest split o) = Went a (u ∷ front) rest split (record {
      sound = λ m K us j. inl (o.sound m K us j);
      back = back;
    })
      where
        back : (m : Option Fault) (K : A → Lang) (us : List Token) → Avoids ax m K → Same us rest → Full m us → (g or past fi h) m K (u ∷ front ++ us) → K a us
        back m K us avoids same full (inl j) = o.back m K us (avoids_less av ax m K wi avoids) same full j
        back m K us avoids same full (inr j) = absurd (other m K u (front ++ us) (first t u ts (front ++ rest) split i) j)
    left_side t ts _ i l (Stopped fault (u ∷ front) rest split o) = Stopped fault (u ∷ front) rest split (record {
      alive = λ K alive. let q = o.alive K alive in (q.0, inl q.1);
      dead = dead;
      marked = λ f K w. let q = o.marked f K w in (q.0, q.1, q.2, inl q.3);
    })
      where
        dead : (m : Option Fault) (K : A → Lang) (us : List Token) → Avoids ax m K → Same us rest → Full m us → (g or past fi h) m K (u ∷ front ++ us) → Blamed m fault
        dead m K us avoids same full (inl j) = o.dead m K us (avoids_less av ax m K wi avoids) same full j
        dead m K us avoids same full (inr j) = absurd (other m K u (front ++ us) (first t u ts (front ++ rest) split i) j)

    -- the first side has no list that begins as this one does
    never : (ts us : List Token) → comes fi ts ≡ false → Same us ts → (m : Option Fault) (K : A → Lang) → g m K us → ⊥
    never ts [] n same m K j = let z : false ≡ true = (e.empty m K j).0 in absurd cc
    never [] (u ∷ us) n same m K j = same
    never (t ∷ ts) (u ∷ us) n same m K j = let p : fi u.class ≡ true = not_first r g fi av e m K u us j in let q : fi u.class ≡ false =
        subst (λ v. fi v.class ≡ false) (sym same) n in absurd cc

    right_side : (ts : List Token) (x : Read A) → comes fi ts ≡ false → Met h aw ts x → Met (g or past fi h) ax ts x
    right_side ts _ n (Went a [] rest split o) = absurd (let z : false ≡ true = (k.empty None (λ b us. Unit {0}) (o.sound None (λ b us. Unit {0}) [] tt)).0 in cc)
    right_side ts _ n (Went a (u ∷ front) rest split o) = Went a (u ∷ front) rest split (record {
      sound = λ m K us j. inr (subst (λ xs. comes fi xs ≡ false) split n, o.sound m K us j);
      back = back;
    })
      where
        back : (m : Option Fault) (K : A → Lang) (us : List Token) → Avoids ax m K → Same us rest → Full m us → (g or past fi h) m K (u ∷ front ++ us) → K a us
        back m K us avoids same full (inl j) = absurd (never ts (u ∷ front ++ us) n (rw split refl) m K j)
        back m K us avoids same full (inr j) = o.back m K us (avoids_less aw ax m K wj avoids) same full j.1
    right_side ts _ n (Stopped fault front rest split o) = Stopped fault front rest split (record {
      alive = alive front split o;
      dead = dead;
      marked = λ f K w. let q = o.marked f K w in (q.0, q.1, q.2, inr (same_comes fi front (q.0 ∷ []) rest (rw q.2 refl) (subst (λ xs. comes fi xs ≡ false) split n), q.3));
    })
      where
        alive : (front : List Token) → ts ≡ front ++ rest → Stops h aw fault front rest → (K : A → Lang) → Alive K → (us : List Token) × (g or past fi h) None K (front ++ us)
        alive [] split o K al = let q = e.some K al in (q.0, inl q.1)
        alive (u ∷ front) split o K al = let q = o.alive K al in (q.0, inr (subst (λ xs. comes fi xs ≡ false) split n, q.1))

        dead : (m : Option Fault) (K : A → Lang) (us : List Token) → Avoids ax m K → Same us rest → Full m us → (g or past fi h) m K (front ++ us) → Blamed m fault
        dead m K us avoids same full (inl j) = absurd (never ts (front ++ us) n (subst (Same (front ++ us)) (sym split) (same_front front us rest same)) m K j)
        dead m K us avoids same full (inr j) = o.dead m K us (avoids_less aw ax m K wj avoids) same full j.1

    by_test : (t : Token) (ts : List Token) (b : Bool) → fi t.class ≡ b → Met (g or past fi h) ax (t ∷ ts) (if b then r (t ∷ ts) else s (t ∷ ts))
    by_test t ts true i = left_side t ts (r (t ∷ ts)) i (gets.on t ts i) (e.meets (t ∷ ts))
    by_test t ts false n = right_side (t ∷ ts) (s (t ∷ ts)) n (k.meets (t ∷ ts))

    meets : (ts : List Token) → Met (g or past fi h) ax ts (choose fi r s ts)
    meets [] = right_side [] (s []) refl (k.meets [])
    meets (t ∷ ts) = by_test t ts (fi t.class) refl

-- the same for items
pub item_past : {A : Type 0} {r : List Token → Read A} {g : Gram A} {fi av : Class → Bool} {s : List Token → Read A} {h : Gram A} {fj : Class → Bool}
    → Item r g fi av → Item s h fj av → Item (choose fi r s) (g or past fi h) (fi ∪ fj) av
item_past {A} {r} {g} {fi} {av} {s} {h} {fj} e k = record {
  piece = past_piece r g fi av s h fj none av av e.piece e.gets k.piece (within_self av) (within_self av);
  gets = gets_choose e.gets k.gets;
}
