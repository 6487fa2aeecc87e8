-- No token, one token, and a piece behind another.
use Rattle.std.proofs.Common.{◌≡◌, List, [], ◌∷◌, ◌++◌, Option, Some, None, refl, sym, ap, subst, ◌∙◌, inl, inr, ◌⊎◌, Bool, true, false, IsTrue}
use Rattle.std.proofs.Common.{if◌then◌else◌, append_assoc, ◌&&◌}
use Rattle.pg_read_grammar.specs.declared.token.Token.{Token}
use Rattle.pg_read_grammar.specs.declared.class.Class.{Class}
use Rattle.pg_read_grammar.specs.declared.token.Fault.{Fault}
use Rattle.pg_read_grammar.specs.Classes.{◌∪◌, none}
use Rattle.pg_read_grammar.specs.Language.{Lang, Gram, give, one}
use Rattle.pg_read_grammar.specs.Language.{◌>>=◌ as ◌then◌}
use Rattle.pg_read_grammar.specs.Reading.{Read, Good, Bad, ◌>>=◌, take_one}
use Rattle.pg_read_grammar.proofs.ClassTests.{apart, within, apart_is, within_is, in_left, in_right}
use Rattle.pg_read_grammar.proofs.Pieces.{Same, Marked, Avoids, Alive, Goes, Stops, Met, Piece, same_front, full_front, Went, Stopped}

-- what may follow the first piece never begins with what it takes itself
abbrev pub Fits : {A B : Type 0} → (Class → Bool) → (A → Gram B) → (Class → Bool) → Type 1
Fits {A} {B} av h aw = (m : Option Fault) (K : B → Lang) → Avoids aw m K → Avoids av m (λ a. h a m K)

then_meets : {A B : Type 0} (r : List Token → Read A) (g : Gram A) (av : Class → Bool) (f : A → List Token → Read B) (h : A → Gram B) (aw : Class → Bool)
    → ((ts : List Token) → Met g av ts (r ts)) → ((a : A) (ts : List Token) → Met (h a) aw ts (f a ts)) → ((a : A) (K : B → Lang) → Alive K → (us : List Token) × h a None K us)
    → Fits av h aw → (ts : List Token) → Met (g then h) aw ts (r ts >>= f)
then_meets {A} {B} r g av f h aw e k some fits ts = first (r ts) (e ts)
  where
    second : (a : A) (front rest : List Token) → ts ≡ front ++ rest → Goes g av a front rest → (x : Read B) → Met (h a) aw rest x → Met (g then h) aw ts x
    second a front rest split o _ (Went b front' rest' split' p) = Went b (front ++ front') rest' (split ∙ ap (λ xs. front ++ xs) split' ∙ sym (append_assoc front front' rest')) (record {
      sound = λ m K us j. rw (append_assoc front front' us) (o.sound m (λ a. h a m K) (front' ++ us) (p.sound m K us j));
      back = λ m K us avoids same full j. p.back m K us avoids same full
          (o.back m (λ a. h a m K) (front' ++ us) (fits m K avoids) (subst (Same (front' ++ us)) (sym split') (same_front front' us rest' same)) (full_front front' m us full)
          (subst (g m (λ a. h a m K)) (append_assoc front front' us) j));
    })
    second a front rest split o _ (Stopped fault front' rest' split' p) =
        Stopped fault (front ++ front') rest' (split ∙ ap (λ xs. front ++ xs) split' ∙ sym (append_assoc front front' rest')) (record {
          alive = λ K alive. let q = p.alive K alive in (q.0, subst (g None (λ a. h a None K)) (sym (append_assoc front front' q.0)) (o.sound None (λ a. h a None K) (front' ++ q.0) q.1));
          dead = λ m K us avoids same full j. p.dead m K us avoids same full
              (o.back m (λ a. h a m K) (front' ++ us) (fits m K avoids) (subst (Same (front' ++ us)) (sym split') (same_front front' us rest' same)) (full_front front' m us full)
              (subst (g m (λ a. h a m K)) (append_assoc front front' us) j));
          marked = λ m K t. let q = p.marked m K t in (
            q.0,
            q.1,
            q.2,
            subst (g (Some m) (λ a. h a (Some m) K)) (sym (append_assoc front front' (q.0 ∷ []))) (o.sound (Some m) (λ a. h a (Some m) K) (front' ++ q.0 ∷ []) q.3),
          );
        })

    first : (x : Read A) → Met g av ts x → Met (g then h) aw ts (x >>= f)
    first _ (Went a front rest split o) = second a front rest split o (f a rest) (k a rest)
    first _ (Stopped fault front rest split o) = Stopped fault front rest split (record {
      alive = λ K alive. o.alive (λ a. h a None K) (λ a. some a K alive);
      dead = λ m K us avoids same full j. o.dead m (λ a. h a m K) us (fits m K avoids) same full j;
      marked = λ m K t. o.marked m (λ a. h a (Some m) K) t;
    })

pub then_piece : {A B : Type 0} (r : List Token → Read A) (g : Gram A) (fi ma : Class → Bool) (nu : Bool) (av : Class → Bool) (f : A → List Token → Read B) (h : A → Gram B)
    (fj mb : Class → Bool) (nv : Bool) (aw : Class → Bool)
    → Piece r g fi ma nu av → ((a : A) → Piece (f a) (h a) fj mb nv aw) → apart av fj ≡ true → (if nv then within av aw else true) ≡ true
    → Piece (λ ts. r ts >>= f) (g then h) (fi ∪ (λ c. nu && fj c)) (ma ∪ (λ c. nu && mb c)) (nu && nv) aw
then_piece {A} {B} r g fi ma nu av f h fj mb nv aw e k ap1 wi = record {
  meets = then_meets r g av f h aw e.meets (λ a. (k a).meets) (λ a. (k a).some) fits;
  some = λ K alive. e.some (λ a. h a None K) (λ a. (k a).some K alive);
  begins = λ m K t us j. begin m K t us (e.begins m (λ a. h a m K) t us j);
  empty = λ m K j. let q = e.empty m (λ a. h a m K) j in let p = (k q.1.0).empty m K q.1.1 in (both nu nv q.0 p.0, p.1);
}
  where
    both : (a b : Bool) → IsTrue a → IsTrue b → IsTrue (a && b)
    both true b h k = k
    both false b h k = absurd cc

    begin : (m : Option Fault) (K : B → Lang) (t : Token) (us : List Token) → IsTrue (fi t.class) ⊎ ((IsTrue (ma t.class) × Marked m us) ⊎ (IsTrue nu × ((a : A) × h a m K (t ∷ us))))
        → IsTrue ((fi ∪ (λ c. nu && fj c)) t.class) ⊎ ((IsTrue ((ma ∪ (λ c. nu && mb c)) t.class) × Marked m us) ⊎ (IsTrue (nu && nv) × ((b : B) × K b (t ∷ us))))
    begin m K t us (inl a) = inl (in_left (fi t.class) (nu && fj t.class) a)
    begin m K t us (inr (inl a)) = inr (inl (in_left (ma t.class) (nu && mb t.class) a.0, a.1))
    begin m K t us (inr (inr a)) = begin2 ((k a.1.0).begins m K t us a.1.1)
      where
        begin2 : IsTrue (fj t.class) ⊎ ((IsTrue (mb t.class) × Marked m us) ⊎ (IsTrue nv × ((b : B) × K b (t ∷ us))))
            → IsTrue ((fi ∪ (λ c. nu && fj c)) t.class) ⊎ ((IsTrue ((ma ∪ (λ c. nu && mb c)) t.class) × Marked m us) ⊎ (IsTrue (nu && nv) × ((b : B) × K b (t ∷ us))))
        begin2 (inl b) = inl (in_right (fi t.class) (nu && fj t.class) (both nu (fj t.class) a.0 b))
        begin2 (inr (inl b)) = inr (inl (in_right (ma t.class) (nu && mb t.class) (both nu (mb t.class) a.0 b.0), b.1))
        begin2 (inr (inr b)) = inr (inr (both nu nv a.0 b.0, b.1))

    follow : (v : Bool) → (if v then within av aw else true) ≡ true → (c : Class) → IsTrue v → IsTrue (av c) → IsTrue (aw c)
    follow true w c v i = within_is av aw w c i
    follow false w c v i = absurd cc

    fits : Fits av h aw
    fits m K avoids a t us i j = pick ((k a).begins m K t us j)
      where
        pick : IsTrue (fj t.class) ⊎ ((IsTrue (mb t.class) × Marked m us) ⊎ (IsTrue nv × ((b : B) × K b (t ∷ us)))) → Marked m us
        pick (inl b) = absurd (apart_is av fj ap1 t.class i b)
        pick (inr (inl b)) = b.1
        pick (inr (inr b)) = avoids b.1.0 t us (follow nv wi t.class b.0 i) b.1.1

pub give_piece : {A : Type 0} (av : Class → Bool) (a : A) → Piece (λ ts. Good a ts) (give a) none none true av
give_piece {A} av a = record {
  meets = λ ts. Went a [] ts refl (record { sound = λ m K us j. j; back = λ m K us avoids same full j. j });
  some = λ K alive. alive a;
  begins = λ m K t us j. inr (inr (refl, (a, j)));
  empty = λ m K j. (refl, (a, j));
}

pub one_piece : (av : Class → Bool) (test : Class → Bool) (t : Token) → IsTrue (test t.class) → Piece (take_one test) (one test) test none false av
one_piece av test w there = record {
  meets = meets;
  some = λ K alive. let q = alive w in (w ∷ q.0, (w, q.0, refl, there, q.1));
  begins = λ m K t us j. inl (let e : t ≡ j.0 = cc in subst (λ u. IsTrue (test u.class)) (sym e) j.3);
  empty = λ m K j. let e : [] ≡ j.0 ∷ j.1 = j.2 in absurd cc;
}
  where
    stops : (ts : List Token) → ((t : Token) (us : List Token) → Same (t ∷ us) ts → IsTrue (test t.class) → ⊥) → Stops (one test) av None [] ts
    stops ts never = record {
      alive = λ K alive. let q = alive w in (w ∷ q.0, (w, q.0, refl, there, q.1));
      dead = λ m K us avoids same full j. absurd (never j.0 j.1 (subst (λ xs. Same xs ts) j.2 same) j.3);
      marked = λ f K e. absurd cc;
    }

    by_test : (t : Token) (ts : List Token) (b : Bool) → test t.class ≡ b → Met (one test) av (t ∷ ts) (if b then Good t ts else Bad None (t ∷ ts))
    by_test t ts true e = Went t (t ∷ []) ts refl (record {
      sound = λ m K us j. (t, us, refl, e, j);
      back = λ m K us avoids same full j. let p : t ≡ j.0 = cc in let q : us ≡ j.1 = cc in subst (λ xs. K t xs) (sym q) (subst (λ u. K u j.1) (sym p) j.4);
    })
    by_test t ts false e = Stopped None [] (t ∷ ts) refl (stops (t ∷ ts) (λ u us same i. let p : test u.class ≡ false = subst (λ v. test v.class ≡ false) (sym same) e in absurd cc))

    meets : (ts : List Token) → Met (one test) av ts (take_one test ts)
    meets [] = Stopped None [] [] refl (stops [] (λ t us same i. same))
    meets (t ∷ ts) = by_test t ts (test t.class) refl
