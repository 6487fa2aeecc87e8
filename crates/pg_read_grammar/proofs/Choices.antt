-- A choice by the next token.
use Rattle.std.proofs.Common.{◌≡◌, ◌≤◌, List, [], ◌∷◌, ◌++◌, length, Option, refl, sym, subst, inl, inr, ◌⊎◌, Bool, true, false, IsTrue, if◌then◌else◌}
use Rattle.pg_read_grammar.specs.declared.token.Token.{Token}
use Rattle.pg_read_grammar.specs.declared.class.Class.{Class}
use Rattle.pg_read_grammar.specs.declared.token.Fault.{Fault}
use Rattle.pg_read_grammar.specs.Classes.{◌∪◌, none}
use Rattle.pg_read_grammar.specs.Language.{Lang, Gram, ◌or◌}
use Rattle.pg_read_grammar.specs.Language.{◌>>=◌ as ◌then◌}
use Rattle.pg_read_grammar.specs.Reading.{Read, ◌>>=◌, take_one, choose}
use Rattle.pg_read_grammar.proofs.ClassTests.{apart, within, apart_is, within_is, in_left, in_right}
use Rattle.pg_read_grammar.proofs.Pieces.{Same, Full, Marked, Avoids, Blamed, Met, Piece, same_front, full_front, not_marked, rest_of, Gets, shorter, too_long, avoids_less, Went, Stopped}

pub gets_one : {A : Type 0} (test : Class → Bool) (f : Token → List Token → Read A) (h : Token → Gram A) (fj mb : Class → Bool) (nv : Bool) (aw : Class → Bool)
    → ((a : Token) → Piece (f a) (h a) fj mb nv aw) → Gets test (λ ts. take_one test ts >>= f)
gets_one test f h fj mb nv aw k = record { on = λ t ts i. rw i (shorter (h t) aw ts (f t ts) ((k t).meets ts)) }

pub choose_piece : {A : Type 0} (r : List Token → Read A) (g : Gram A) (fi av : Class → Bool) (s : List Token → Read A) (h : Gram A) (fj mb : Class → Bool) (nv : Bool) (aw ax : Class → Bool)
    → Piece r g fi none false av → Gets fi r → Piece s h fj mb nv aw → apart fi fj ≡ true → within av ax ≡ true → within aw ax ≡ true → (if nv then within fi ax else true) ≡ true
    → Piece (choose fi r s) (g or h) (fi ∪ fj) mb nv ax
choose_piece {A} r g fi av s h fj mb nv aw ax e gets k ap1 wi wj wk = record {
  meets = meets;
  some = λ K alive. let q = e.some K alive in (q.0, inl q.1);
  begins = begins;
  empty = empty;
}
  where
    begins_left : (m : Option Fault) (K : A → Lang) (t : Token) (us : List Token)
        → IsTrue (fi t.class) ⊎ ((IsTrue (none t.class) × Marked m us) ⊎ (IsTrue false × ((a : A) × K a (t ∷ us)))) → IsTrue (fi t.class)
    begins_left m K t us (inl i) = i
    begins_left m K t us (inr (inl i)) = absurd (let z : false ≡ true = i.0 in cc)
    begins_left m K t us (inr (inr i)) = absurd (let z : false ≡ true = i.0 in cc)

    begins : (m : Option Fault) (K : A → Lang) (t : Token) (us : List Token) → (g or h) m K (t ∷ us)
        → IsTrue ((fi ∪ fj) t.class) ⊎ ((IsTrue (mb t.class) × Marked m us) ⊎ (IsTrue nv × ((a : A) × K a (t ∷ us))))
    begins m K t us (inl j) = inl (in_left (fi t.class) (fj t.class) (begins_left m K t us (e.begins m K t us j)))
    begins m K t us (inr j) = pick (k.begins m K t us j)
      where
        pick : IsTrue (fj t.class) ⊎ ((IsTrue (mb t.class) × Marked m us) ⊎ (IsTrue nv × ((a : A) × K a (t ∷ us))))
            → IsTrue ((fi ∪ fj) t.class) ⊎ ((IsTrue (mb t.class) × Marked m us) ⊎ (IsTrue nv × ((a : A) × K a (t ∷ us))))
        pick (inl b) = inl (in_right (fi t.class) (fj t.class) b)
        pick (inr b) = inr b

    empty : (m : Option Fault) (K : A → Lang) → (g or h) m K [] → IsTrue nv × ((a : A) × K a [])
    empty m K (inl j) = absurd (let z : false ≡ true = (e.empty m K j).0 in cc)
    empty m K (inr j) = k.empty m K j

    -- where the first is read, nothing is of the second
    other : (m : Option Fault) (K : A → Lang) (t : Token) (us : List Token) → IsTrue (fi t.class) → Avoids ax m K → Full m us → h m K (t ∷ us) → ⊥
    other m K t us i avoids full j = pick (k.begins m K t us j)
      where
        clear : (v : Bool) → (if v then within fi ax else true) ≡ true → IsTrue v → IsTrue (ax t.class)
        clear true w v = within_is fi ax w t.class i
        clear false w v = absurd cc

        pick : IsTrue (fj t.class) ⊎ ((IsTrue (mb t.class) × Marked m us) ⊎ (IsTrue nv × ((a : A) × K a (t ∷ us)))) → ⊥
        pick (inl b) = apart_is fi fj ap1 t.class i b
        pick (inr (inl b)) = not_marked m us full b.1
        pick (inr (inr b)) = not_marked m us full (avoids b.1.0 t us (clear nv wk b.0) b.1.1)

    left_side : (t : Token) (ts : List Token) (x : Read A) → IsTrue (fi t.class) → length (rest_of x) ≤ length ts → Met g av (t ∷ ts) x → Met (g or h) ax (t ∷ ts) x
    left_side t ts _ i l (Went a [] rest split o) = absurd (too_long t ts rest split l)
    left_side t ts _ i l (Stopped fault [] rest split o) = absurd (too_long t ts rest split l)
    left_side t ts _ i l (Went a (u ∷ front) rest split o) = Went a (u ∷ front) rest split (record {
      sound = λ m K us j. inl (o.sound m K us j);
      back = λ m K us avoids same full j. back m K us avoids same full j;
    })
      where
        back : (m : Option Fault) (K : A → Lang) (us : List Token) → Avoids ax m K → Same us rest → Full m us → (g or h) m K (u ∷ front ++ us) → K a us
        back m K us avoids same full (inl j) = o.back m K us (avoids_less av ax m K wi avoids) same full j
        back m K us avoids same full (inr j) = absurd (other m K u (front ++ us) (let p : t ≡ u = cc in subst (λ v. IsTrue (fi v.class)) p i) avoids (full_front front m us full) j)
    left_side t ts _ i l (Stopped fault (u ∷ front) rest split o) = Stopped fault (u ∷ front) rest split (record {
      alive = λ K alive. let q = o.alive K alive in (q.0, inl q.1);
      dead = λ m K us avoids same full j. dead m K us avoids same full j;
      marked = λ f K w. let q = o.marked f K w in (q.0, q.1, q.2, inl q.3);
    })
      where
        dead : (m : Option Fault) (K : A → Lang) (us : List Token) → Avoids ax m K → Same us rest → Full m us → (g or h) m K (u ∷ front ++ us) → Blamed m fault
        dead m K us avoids same full (inl j) = o.dead m K us (avoids_less av ax m K wi avoids) same full j
        dead m K us avoids same full (inr j) = absurd (other m K u (front ++ us) (let p : t ≡ u = cc in subst (λ v. IsTrue (fi v.class)) p i) avoids (full_front front m us full) j)

    right_side : (ts : List Token) (x : Read A) → ((m : Option Fault) (K : A → Lang) (us : List Token) → Same us ts → g m K us → ⊥) → Met h aw ts x → Met (g or h) ax ts x
    right_side ts _ never (Went a front rest split o) = Went a front rest split (record {
      sound = λ m K us j. inr (o.sound m K us j);
      back = λ m K us avoids same full j. back m K us avoids same full j;
    })
      where
        back : (m : Option Fault) (K : A → Lang) (us : List Token) → Avoids ax m K → Same us rest → Full m us → (g or h) m K (front ++ us) → K a us
        back m K us avoids same full (inl j) = absurd (never m K (front ++ us) (subst (Same (front ++ us)) (sym split) (same_front front us rest same)) j)
        back m K us avoids same full (inr j) = o.back m K us (avoids_less aw ax m K wj avoids) same full j
    right_side ts _ never (Stopped fault front rest split o) = Stopped fault front rest split (record {
      alive = λ K alive. let q = o.alive K alive in (q.0, inr q.1);
      dead = λ m K us avoids same full j. dead m K us avoids same full j;
      marked = λ f K w. let q = o.marked f K w in (q.0, q.1, q.2, inr q.3);
    })
      where
        dead : (m : Option Fault) (K : A → Lang) (us : List Token) → Avoids ax m K → Same us rest → Full m us → (g or h) m K (front ++ us) → Blamed m fault
        dead m K us avoids same full (inl j) = absurd (never m K (front ++ us) (subst (Same (front ++ us)) (sym split) (same_front front us rest same)) j)
        dead m K us avoids same full (inr j) = o.dead m K us (avoids_less aw ax m K wj avoids) same full j

    at_end : (m : Option Fault) (K : A → Lang) (us : List Token) → Same us [] → g m K us → ⊥
    at_end m K [] same j = absurd (let z : false ≡ true = (e.empty m K j).0 in cc)
    at_end m K (t ∷ us) same j = same

    not_first : (t : Token) (ts : List Token) → fi t.class ≡ false → (m : Option Fault) (K : A → Lang) (us : List Token) → Same us (t ∷ ts) → g m K us → ⊥
    not_first t ts n m K [] same j = same
    not_first t ts n m K (u ∷ us) same j = let p : fi u.class ≡ true = begins_left m K u us (e.begins m K u us j) in let q : fi u.class ≡ false =
        subst (λ v. fi v.class ≡ false) (sym same) n in absurd cc

    by_test : (t : Token) (ts : List Token) (b : Bool) → fi t.class ≡ b → Met (g or h) ax (t ∷ ts) (if b then r (t ∷ ts) else s (t ∷ ts))
    by_test t ts true i = left_side t ts (r (t ∷ ts)) i (gets.on t ts i) (e.meets (t ∷ ts))
    by_test t ts false n = right_side (t ∷ ts) (s (t ∷ ts)) (not_first t ts n) (k.meets (t ∷ ts))

    meets : (ts : List Token) → Met (g or h) ax ts (choose fi r s ts)
    meets [] = right_side [] (s []) at_end (k.meets [])
    meets (t ∷ ts) = by_test t ts (fi t.class) refl
