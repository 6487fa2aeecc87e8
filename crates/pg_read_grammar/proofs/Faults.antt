-- A token that is refused with a fault of its own.
use Rattle.std.proofs.Common.{◌≡◌, List, [], ◌∷◌, ◌++◌, Option, Some, None, refl, sym, subst, ◌∙◌, inl, inr, ◌⊎◌, Bool, true, false, IsTrue, if◌then◌else◌}
use Rattle.pg_read_grammar.specs.declared.token.Token.{Token}
use Rattle.pg_read_grammar.specs.declared.class.Class.{Class}
use Rattle.pg_read_grammar.specs.declared.token.Fault.{Fault}
use Rattle.pg_read_grammar.specs.declared.token.Fault.TheVariants.{Unsupported, TooDeep}
use Rattle.pg_read_grammar.specs.Classes.{◌∪◌}
use Rattle.pg_read_grammar.specs.Language.{Lang, Gram, refused, ◌or◌}
use Rattle.pg_read_grammar.specs.Language.{◌>>=◌ as ◌then◌}
use Rattle.pg_read_grammar.specs.Reading.{Read, Bad, unless}
use Rattle.pg_read_grammar.proofs.ClassTests.{apart, within, apart_is, within_is, in_left, in_right}
use Rattle.pg_read_grammar.proofs.Pieces.{Same, Full, Marked, Avoids, Blamed, Stops, Met, Piece, same_front, marked_blamed, avoids_less, Went, Stopped}

-- a piece goes on as it does where no such token stands, and else it stops there with this flaw
faulted : {A : Type 0} (flaw : Fault) (test : Class → Bool) (r : List Token → Read A) (g : Gram A) (av aw : Class → Bool) → within av aw ≡ true → ((ts : List Token) → Met g av ts (r ts))
    → ((t : Token) (ts : List Token) → IsTrue (test t.class) → Stops (g or refused flaw test) aw (Some flaw) [] (t ∷ ts)) → (ts : List Token)
    → Met (g or refused flaw test) aw ts (unless flaw test r ts)
faulted {A} flaw test r g av aw wi met stops ts = meets ts
  where
    over : (ts : List Token) (x : Read A) → ((m : Option Fault) (us : List Token) → Same us ts → (t : Token) → us ≡ t ∷ [] → IsTrue (test t.class) → ⊥) → Met g av ts x
        → Met (g or refused flaw test) aw ts x
    over ts _ never (Went a front rest split o) = Went a front rest split (record {
      sound = λ m K us j. inl (o.sound m K us j);
      back = λ m K us avoids same full j. back m K us avoids same full j;
    })
      where
        back : (m : Option Fault) (K : A → Lang) (us : List Token) → Avoids aw m K → Same us rest → Full m us → (g or refused flaw test) m K (front ++ us) → K a us
        back m K us avoids same full (inl j) = o.back m K us (avoids_less av aw m K wi avoids) same full j
        back m K us avoids same full (inr j) = absurd (never m (front ++ us) (subst (Same (front ++ us)) (sym split) (same_front front us rest same)) j.1 j.2 j.3)
    over ts _ never (Stopped fault front rest split o) = Stopped fault front rest split (record {
      alive = λ K alive. let q = o.alive K alive in (q.0, inl q.1);
      dead = λ m K us avoids same full j. dead m K us avoids same full j;
      marked = λ f K w. let q = o.marked f K w in (q.0, q.1, q.2, inl q.3);
    })
      where
        dead : (m : Option Fault) (K : A → Lang) (us : List Token) → Avoids aw m K → Same us rest → Full m us → (g or refused flaw test) m K (front ++ us) → Blamed m fault
        dead m K us avoids same full (inl j) = o.dead m K us (avoids_less av aw m K wi avoids) same full j
        dead m K us avoids same full (inr j) = absurd (never m (front ++ us) (subst (Same (front ++ us)) (sym split) (same_front front us rest same)) j.1 j.2 j.3)

    by_test : (t : Token) (ts : List Token) (b : Bool) → test t.class ≡ b → Met (g or refused flaw test) aw (t ∷ ts) (if b then Bad (Some flaw) (t ∷ ts) else r (t ∷ ts))
    by_test t ts true i = Stopped (Some flaw) [] (t ∷ ts) refl (stops t ts i)
    by_test t ts false n = over (t ∷ ts) (r (t ∷ ts)) never (met (t ∷ ts))
      where
        never : (m : Option Fault) (us : List Token) → Same us (t ∷ ts) → (u : Token) → us ≡ u ∷ [] → IsTrue (test u.class) → ⊥
        never m [] same u w i = absurd cc
        never m (v ∷ us) same u w i = let p : v ≡ u = cc in let q : t ≡ u = sym same ∙ p in let z : test u.class ≡ false = subst (λ x. test x.class ≡ false) q n in absurd cc

    meets : (ts : List Token) → Met (g or refused flaw test) aw ts (unless flaw test r ts)
    meets [] = over [] (r []) (λ n us same t w i. at_end us same t w) (met [])
      where
        at_end : (us : List Token) → Same us [] → (t : Token) → us ≡ t ∷ [] → ⊥
        at_end [] same t w = absurd cc
        at_end (v ∷ us) same t w = same
    meets (t ∷ ts) = by_test t ts (test t.class) refl

-- the piece, where such a token isn't supported
pub unless_piece : {A : Type 0} (test : Class → Bool) (r : List Token → Read A) (g : Gram A) (fi ma : Class → Bool) (nu : Bool) (av aw : Class → Bool)
    → Piece r g fi ma nu av → apart test fi ≡ true → within av aw ≡ true → (if nu then within test aw else true) ≡ true
    → Piece (unless Unsupported test r) (g or refused Unsupported test) fi (ma ∪ test) nu aw
unless_piece {A} test r g fi ma nu av aw e ap1 wi wk = record {
  meets = faulted Unsupported test r g av aw wi e.meets stops;
  some = λ K alive. let q = e.some K alive in (q.0, inl q.1);
  begins = begins;
  empty = empty;
}
  where
    begins : (m : Option Fault) (K : A → Lang) (t : Token) (us : List Token) → (g or refused Unsupported test) m K (t ∷ us)
        → IsTrue (fi t.class) ⊎ ((IsTrue ((ma ∪ test) t.class) × Marked m us) ⊎ (IsTrue nu × ((a : A) × K a (t ∷ us))))
    begins m K t us (inl j) = pick (e.begins m K t us j)
      where
        pick : IsTrue (fi t.class) ⊎ ((IsTrue (ma t.class) × Marked m us) ⊎ (IsTrue nu × ((a : A) × K a (t ∷ us))))
            → IsTrue (fi t.class) ⊎ ((IsTrue ((ma ∪ test) t.class) × Marked m us) ⊎ (IsTrue nu × ((a : A) × K a (t ∷ us))))
        pick (inl b) = inl b
        pick (inr (inl b)) = inr (inl (in_left (ma t.class) (test t.class) b.0, b.1))
        pick (inr (inr b)) = inr (inr b)
    begins m K t us (inr j) = let p : t ≡ j.1 = cc in let q : us ≡ [] = cc in inr (inl (in_right (ma t.class) (test t.class) (subst (λ v. IsTrue (test v.class)) (sym p) j.3), (j.0, q)))

    empty : (m : Option Fault) (K : A → Lang) → (g or refused Unsupported test) m K [] → IsTrue nu × ((a : A) × K a [])
    empty m K (inl j) = e.empty m K j
    empty m K (inr j) = absurd (let z : [] ≡ j.1 ∷ [] = j.2 in cc)

    clear : (v : Bool) → (if v then within test aw else true) ≡ true → (c : Class) → IsTrue v → IsTrue (test c) → IsTrue (aw c)
    clear true w c v i = within_is test aw w c i
    clear false w c v i = absurd cc

    stops : (t : Token) (ts : List Token) → IsTrue (test t.class) → Stops (g or refused Unsupported test) aw (Some Unsupported) [] (t ∷ ts)
    stops t ts i = record {
      alive = λ K alive. let q = e.some K alive in (q.0, inl q.1);
      dead = dead;
      marked = λ f K w. (t, ts, refl, inr (sym w, t, refl, i));
    }
      where
        dead : (m : Option Fault) (K : A → Lang) (us : List Token) → Avoids aw m K → Same us (t ∷ ts) → Full m us → (g or refused Unsupported test) m K us → Blamed m (Some Unsupported)
        dead m K [] avoids same full j = absurd same
        dead m K (u ∷ us) avoids same full (inr j) = marked_blamed m [] (j.0, refl)
        dead m K (u ∷ us) avoids same full (inl j) = pick (e.begins m K u us j)
          where
            there : IsTrue (test u.class)
            there = subst (λ v. IsTrue (test v.class)) (sym same) i

            pick : IsTrue (fi u.class) ⊎ ((IsTrue (ma u.class) × Marked m us) ⊎ (IsTrue nu × ((a : A) × K a (u ∷ us)))) → Blamed m (Some Unsupported)
            pick (inl b) = absurd (apart_is test fi ap1 u.class there b)
            pick (inr (inl b)) = marked_blamed m us b.1
            pick (inr (inr b)) = marked_blamed m us (avoids b.1.0 u us (clear nu wk u.class b.0 there) b.1.1)

deep_blamed : (m : Option Fault) → m ≡ Some TooDeep → Blamed m (Some TooDeep)
deep_blamed None e = absurd (let z : None ≡ Some TooDeep = e in cc)
deep_blamed (Some f) e = sym e

-- the piece, where such a token is too deep
pub deep_piece : {A : Type 0} (test : Class → Bool) (r : List Token → Read A) (g : Gram A) (fi ma : Class → Bool) (av aw : Class → Bool)
    → Piece r g fi ma false av → apart test fi ≡ true → apart test ma ≡ true → within av aw ≡ true
    → Piece (unless TooDeep test r) (g or refused TooDeep test) (fi ∪ test) ma false aw
deep_piece {A} test r g fi ma av aw e ap1 ap2 wi = record {
  meets = faulted TooDeep test r g av aw wi e.meets stops;
  some = λ K alive. let q = e.some K alive in (q.0, inl q.1);
  begins = begins;
  empty = empty;
}
  where
    begins : (m : Option Fault) (K : A → Lang) (t : Token) (us : List Token) → (g or refused TooDeep test) m K (t ∷ us)
        → IsTrue ((fi ∪ test) t.class) ⊎ ((IsTrue (ma t.class) × Marked m us) ⊎ (IsTrue false × ((a : A) × K a (t ∷ us))))
    begins m K t us (inl j) = pick (e.begins m K t us j)
      where
        pick : IsTrue (fi t.class) ⊎ ((IsTrue (ma t.class) × Marked m us) ⊎ (IsTrue false × ((a : A) × K a (t ∷ us))))
            → IsTrue ((fi ∪ test) t.class) ⊎ ((IsTrue (ma t.class) × Marked m us) ⊎ (IsTrue false × ((a : A) × K a (t ∷ us))))
        pick (inl b) = inl (in_left (fi t.class) (test t.class) b)
        pick (inr (inl b)) = inr (inl b)
        pick (inr (inr b)) = inr (inr b)
    begins m K t us (inr j) = let p : t ≡ j.1 = cc in let q : us ≡ [] = cc in inl (in_right (fi t.class) (test t.class) (subst (λ v. IsTrue (test v.class)) (sym p) j.3))

    empty : (m : Option Fault) (K : A → Lang) → (g or refused TooDeep test) m K [] → IsTrue false × ((a : A) × K a [])
    empty m K (inl j) = e.empty m K j
    empty m K (inr j) = absurd (let z : [] ≡ j.1 ∷ [] = j.2 in cc)

    stops : (t : Token) (ts : List Token) → IsTrue (test t.class) → Stops (g or refused TooDeep test) aw (Some TooDeep) [] (t ∷ ts)
    stops t ts i = record {
      alive = λ K alive. let q = e.some K alive in (q.0, inl q.1);
      dead = dead;
      marked = λ f K w. (t, ts, refl, inr (sym w, t, refl, i));
    }
      where
        dead : (m : Option Fault) (K : A → Lang) (us : List Token) → Avoids aw m K → Same us (t ∷ ts) → Full m us → (g or refused TooDeep test) m K us → Blamed m (Some TooDeep)
        dead m K [] avoids same full j = absurd same
        dead m K (u ∷ us) avoids same full (inr j) = deep_blamed m j.0
        dead m K (u ∷ us) avoids same full (inl j) = pick (e.begins m K u us j)
          where
            there : IsTrue (test u.class)
            there = subst (λ v. IsTrue (test v.class)) (sym same) i

            pick : IsTrue (fi u.class) ⊎ ((IsTrue (ma u.class) × Marked m us) ⊎ (IsTrue false × ((a : A) × K a (u ∷ us)))) → Blamed m (Some TooDeep)
            pick (inl b) = absurd (apart_is test fi ap1 u.class there b)
            pick (inr (inl b)) = absurd (apart_is test ma ap2 u.class there b.0)
            pick (inr (inr b)) = absurd (let z : false ≡ true = b.0 in cc)
