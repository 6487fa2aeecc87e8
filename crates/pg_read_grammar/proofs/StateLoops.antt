-- A piece that goes from state to state, an item at a time, and ends by what its last state says.
use Rattle.std.proofs.Common.{◌≡◌, ℕ, zero, suc, ◌≤◌, List, [], ◌∷◌, ◌++◌, length, Option, Some, None, refl, sym, ap, subst, ◌∙◌, arith, inl, inr, ◌⊎◌}
use Rattle.std.proofs.Common.{Bool, true, false, IsTrue, if◌then◌else◌, append_assoc}
use Rattle.pg_read_grammar.specs.declared.token.Token.{Token}
use Rattle.pg_read_grammar.specs.declared.class.Class.{Class}
use Rattle.pg_read_grammar.specs.declared.token.Fault.{Fault}
use Rattle.pg_read_grammar.specs.Classes.{◌∪◌, none}
use Rattle.pg_read_grammar.specs.Language.{Lang, Gram}
use Rattle.pg_read_grammar.specs.Language.{◌>>=◌ as ◌then◌}
use Rattle.pg_read_grammar.specs.Reading.{Read, ◌>>=◌, run}
use Rattle.pg_read_grammar.proofs.ClassTests.{apart, within, apart_is, within_is, in_left, in_right}
use Rattle.pg_read_grammar.proofs.Pieces.{Piece, Gets, Met, Went, Stopped, Goes, Avoids, Same, Full, Marked, Blamed, same_front, full_front, not_marked, too_long, rest_of, not_first}

-- this many items, each of which leads from a state to the next, and then the tail
abbrev pub loop : {S B : Type 0} → (S → Gram S) → (S → Gram B) → ℕ → S → Gram B
loop g tail zero s = tail s
loop g tail (suc n) s = g s then loop g tail n

abbrev pub loops : {S B : Type 0} → (S → Gram S) → (S → Gram B) → S → Gram B
loops g tail s m K ts = (n : ℕ) × loop g tail n s m K ts

-- what the items and tails are, state by state: nothing begins with what may not stand behind an item
pub record States {S B : Type 0} (r : S → List Token → Read S) (g : S → Gram S) (fi : S → Class → Bool) (ai : Class → Bool) (end : S → List Token → Read B) (tail : S → Gram B)
    (fj mb : S → Class → Bool) (nv : S → Bool) (aw : Class → Bool) : Type 1 where
  pub items : (s : S) → Piece (r s) (g s) (fi s) none false ai
  pub gets : (s : S) → Gets (fi s) (r s)
  pub tails : (s : S) → Piece (end s) (tail s) (fj s) (mb s) (nv s) aw
  pub clear : (s : S) → apart (fi s) (fj s) ≡ true
  pub ends : (s : S) → (if nv s then within (fi s) aw else true) ≡ true
  pub items_behind : (s : S) → apart ai (fi s) ≡ true
  pub tails_behind : (s : S) → apart ai (fj s) ≡ true
  pub ends_behind : (s : S) → (if nv s then within ai aw else true) ≡ true

pub loop_meets : {S B : Type 0} (r : S → List Token → Read S) (g : S → Gram S) (fi : S → Class → Bool) (ai : Class → Bool) (end : S → List Token → Read B) (tail : S → Gram B)
    (fj mb : S → Class → Bool) (nv : S → Bool) (aw : Class → Bool)
    → States r g fi ai end tail fj mb nv aw → (n : ℕ) (s : S) (ts : List Token) → length ts ≤ n → Met (loops g tail s) aw ts (run fi r end n s ts)
unfolding run
loop_meets {S} {B} r g fi ai end tail fj mb nv aw e n s ts l = meets n s ts l
  where
    -- where an item begins, no tail does
    never_tail : (s : S) (m : Option Fault) (K : B → Lang) (t : Token) (us : List Token) → IsTrue (fi s t.class) → Avoids aw m K → Full m us → tail s m K (t ∷ us) → ⊥
    never_tail s m K t us i avoids full j = pick ((e.tails s).begins m K t us j)
      where
        over : (v : Bool) → (if v then within (fi s) aw else true) ≡ true → IsTrue v → IsTrue (aw t.class)
        over true w v = within_is (fi s) aw w t.class i
        over false w v = absurd cc

        pick : IsTrue (fj s t.class) ⊎ ((IsTrue (mb s t.class) × Marked m us) ⊎ (IsTrue (nv s) × ((b : B) × K b (t ∷ us)))) → ⊥
        pick (inl b) = apart_is (fi s) (fj s) (e.clear s) t.class i b
        pick (inr (inl b)) = not_marked m us full b.1
        pick (inr (inr b)) = not_marked m us full (avoids b.1.0 t us (over (nv s) (e.ends s) b.0) b.1.1)

    -- what follows an item
    avoid : (n : ℕ) (m : Option Fault) (K : B → Lang) → Avoids aw m K → Avoids ai m (λ s'. loop g tail n s' m K)
    avoid zero m K avoids s' t us i j = pick ((e.tails s').begins m K t us j)
      where
        over : (v : Bool) → (if v then within ai aw else true) ≡ true → IsTrue v → IsTrue (aw t.class)
        over true w v = within_is ai aw w t.class i
        over false w v = absurd cc

        pick : IsTrue (fj s' t.class) ⊎ ((IsTrue (mb s' t.class) × Marked m us) ⊎ (IsTrue (nv s') × ((b : B) × K b (t ∷ us)))) → Marked m us
        pick (inl b) = absurd (apart_is ai (fj s') (e.tails_behind s') t.class i b)
        pick (inr (inl b)) = b.1
        pick (inr (inr b)) = avoids b.1.0 t us (over (nv s') (e.ends_behind s') b.0) b.1.1
    avoid (suc n) m K avoids s' t us i j = absurd (apart_is ai (fi s') (e.items_behind s') t.class i (not_first (r s') (g s') (fi s') ai (e.items s') m (λ s''. loop g tail n s'' m K) t us j))

    -- the tail, where no item begins
    only_tail : (s : S) (ts : List Token) → ((m : Option Fault) (K : S → Lang) (us : List Token) → Same us ts → g s m K us → ⊥) → (x : Read B) → Met (tail s) aw ts x
        → Met (loops g tail s) aw ts x
    only_tail s ts never _ (Went b front rest split o) = Went b front rest split (record {
      sound = λ m K us j. (0, o.sound m K us j);
      back = back;
    })
      where
        back : (m : Option Fault) (K : B → Lang) (us : List Token) → Avoids aw m K → Same us rest → Full m us → loops g tail s m K (front ++ us) → K b us
        back m K us avoids same full (zero, j) = o.back m K us avoids same full j
        back m K us avoids same full (suc n, j) = absurd (never m (λ s'. loop g tail n s' m K) (front ++ us) (subst (Same (front ++ us)) (sym split) (same_front front us rest same)) j)
    only_tail s ts never _ (Stopped fault front rest split o) = Stopped fault front rest split (record {
      alive = λ K alive. let q = o.alive K alive in (q.0, (0, q.1));
      dead = dead;
      marked = λ f K w. let q = o.marked f K w in (q.0, q.1, q.2, (0, q.3));
    })
      where
        dead : (m : Option Fault) (K : B → Lang) (us : List Token) → Avoids aw m K → Same us rest → Full m us → loops g tail s m K (front ++ us) → Blamed m fault
        dead m K us avoids same full (zero, j) = o.dead m K us avoids same full j
        dead m K us avoids same full (suc n, j) = absurd (never m (λ s'. loop g tail n s' m K) (front ++ us) (subst (Same (front ++ us)) (sym split) (same_front front us rest same)) j)

    at_end : (s : S) (m : Option Fault) (K : S → Lang) (us : List Token) → Same us [] → g s m K us → ⊥
    at_end s m K [] same j = absurd (let z : false ≡ true = ((e.items s).empty m K j).0 in cc)
    at_end s m K (t ∷ us) same j = same

    not_here : (s : S) (t : Token) (ts : List Token) → fi s t.class ≡ false → (m : Option Fault) (K : S → Lang) (us : List Token) → Same us (t ∷ ts) → g s m K us → ⊥
    not_here s t ts n m K [] same j = same
    not_here s t ts n m K (u ∷ us) same j = let p : fi s u.class ≡ true = not_first (r s) (g s) (fi s) ai (e.items s) m K u us j in let q : fi s u.class ≡ false =
        subst (λ v. fi s v.class ≡ false) (sym same) n in absurd cc

    -- after one item
    more : (s : S) (t : Token) (ts : List Token) (next : S) (front rest : List Token) → t ∷ ts ≡ t ∷ front ++ rest → IsTrue (fi s t.class) → Goes (g s) ai next (t ∷ front) rest
        → (y : Read B) → Met (loops g tail next) aw rest y → Met (loops g tail s) aw (t ∷ ts) y
    more s t ts next front rest split i o _ (Went b front' rest' split' p) =
        Went b (t ∷ front ++ front') rest' (split ∙ ap (λ xs. t ∷ front ++ xs) split' ∙ ap (λ xs. t ∷ xs) (sym (append_assoc front front' rest'))) (record {
          sound = λ m K us j. let q = p.sound m K us j in (
            suc q.0,
            subst (λ xs. g s m (λ s'. loop g tail q.0 s' m K) (t ∷ xs)) (sym (append_assoc front front' us)) (o.sound m (λ s'. loop g tail q.0 s' m K) (front' ++ us) q.1),
          );
          back = back;
        })
      where
        back : (m : Option Fault) (K : B → Lang) (us : List Token) → Avoids aw m K → Same us rest' → Full m us → loops g tail s m K (t ∷ (front ++ front') ++ us) → K b us
        back m K us avoids same full (zero, j) = absurd (never_tail s m K t ((front ++ front') ++ us) i avoids (full_front (front ++ front') m us full) j)
        back m K us avoids same full (suc n, j) = p.back m K us avoids same full (
          n,
          o.back m (λ s'. loop g tail n s' m K) (front' ++ us) (avoid n m K avoids) (subst (Same (front' ++ us)) (sym split') (same_front front' us rest' same))
              (full_front front' m us full) (subst (λ xs. g s m (λ s'. loop g tail n s' m K) (t ∷ xs)) (append_assoc front front' us) j),
        )
    more s t ts next front rest split i o _ (Stopped fault front' rest' split' p) =
        Stopped fault (t ∷ front ++ front') rest' (split ∙ ap (λ xs. t ∷ front ++ xs) split' ∙ ap (λ xs. t ∷ xs) (sym (append_assoc front front' rest'))) (record {
          alive = λ K alive. let q = p.alive K alive in (
            q.0,
            (
              suc q.1.0,
              subst (λ xs. g s None (λ s'. loop g tail q.1.0 s' None K) (t ∷ xs)) (sym (append_assoc front front' q.0))
                  (o.sound None (λ s'. loop g tail q.1.0 s' None K) (front' ++ q.0) q.1.1),
            ),
          );
          dead = dead;
          marked = λ m K w. let q = p.marked m K w in (
            q.0,
            q.1,
            q.2,
            (
              suc q.3.0,
              subst (λ xs. g s (Some m) (λ s'. loop g tail q.3.0 s' (Some m) K) (t ∷ xs)) (sym (append_assoc front front' (q.0 ∷ [])))
                  (o.sound (Some m) (λ s'. loop g tail q.3.0 s' (Some m) K) (front' ++ q.0 ∷ []) q.3.1),
            ),
          );
        })
      where
        dead : (m : Option Fault) (K : B → Lang) (us : List Token) → Avoids aw m K → Same us rest' → Full m us → loops g tail s m K (t ∷ (front ++ front') ++ us) → Blamed m fault
        dead m K us avoids same full (zero, j) = absurd (never_tail s m K t ((front ++ front') ++ us) i avoids (full_front (front ++ front') m us full) j)
        dead m K us avoids same full (suc n, j) = p.dead m K us avoids same full (
          n,
          o.back m (λ s'. loop g tail n s' m K) (front' ++ us) (avoid n m K avoids) (subst (Same (front' ++ us)) (sym split') (same_front front' us rest' same))
              (full_front front' m us full) (subst (λ xs. g s m (λ s'. loop g tail n s' m K) (t ∷ xs)) (append_assoc front front' us) j),
        )

    step : (n : ℕ) → ((s : S) (ts : List Token) → length ts ≤ n → Met (loops g tail s) aw ts (run fi r end n s ts)) → (s : S) (t : Token) (ts : List Token) → length ts ≤ n
        → IsTrue (fi s t.class) → (x : Read S) → length (rest_of x) ≤ length ts → Met (g s) ai (t ∷ ts) x
        → Met (loops g tail s) aw (t ∷ ts) (x >>= λ next rest. run fi r end n next rest)
    step n rec s t ts l i _ k (Went next [] rest split o) = absurd (too_long t ts rest split k)
    step n rec s t ts l i _ k (Stopped fault [] rest split o) = absurd (too_long t ts rest split k)
    step n rec s t ts l i _ k (Went next (u ∷ front) rest split o) =
        let p : t ≡ u = cc in
        let w : t ∷ ts ≡ t ∷ front ++ rest = subst (λ v. t ∷ ts ≡ v ∷ front ++ rest) (sym p) split in
        more s t ts next front rest w i (subst (λ v. Goes (g s) ai next (v ∷ front) rest) (sym p) o) (run fi r end n next rest) (rec next rest (omega (arith, k, l)))
    step n rec s t ts l i _ k (Stopped fault (u ∷ front) rest split o) = Stopped fault (u ∷ front) rest split (record {
      alive = λ K alive. let q = o.alive (λ s'. loop g tail 0 s' None K) (λ s'. (e.tails s').some K alive) in (q.0, (1, q.1));
      dead = dead;
      marked = λ f K w. let q = o.marked f (λ s'. loop g tail 0 s' (Some f) K) w in (q.0, q.1, q.2, (1, q.3));
    })
      where
        first : IsTrue (fi s u.class)
        first = let p : t ≡ u = cc in subst (λ v. IsTrue (fi s v.class)) p i

        dead : (m : Option Fault) (K : B → Lang) (us : List Token) → Avoids aw m K → Same us rest → Full m us → loops g tail s m K (u ∷ front ++ us) → Blamed m fault
        dead m K us avoids same full (zero, j) = absurd (never_tail s m K u (front ++ us) first avoids (full_front front m us full) j)
        dead m K us avoids same full (suc k, j) = o.dead m (λ s'. loop g tail k s' m K) us (avoid k m K avoids) same full j

    by_test : (n : ℕ) → ((s : S) (ts : List Token) → length ts ≤ n → Met (loops g tail s) aw ts (run fi r end n s ts)) → (s : S) (t : Token) (ts : List Token) → length ts ≤ n
        → (b : Bool) → fi s t.class ≡ b
        → Met (loops g tail s) aw (t ∷ ts) (if b then (r s (t ∷ ts) >>= λ next rest. run fi r end n next rest) else end s (t ∷ ts))
    by_test n rec s t ts l true i = step n rec s t ts l i (r s (t ∷ ts)) ((e.gets s).on t ts i) ((e.items s).meets (t ∷ ts))
    by_test n rec s t ts l false k = only_tail s (t ∷ ts) (not_here s t ts k) (end s (t ∷ ts)) ((e.tails s).meets (t ∷ ts))

    meets : (n : ℕ) (s : S) (ts : List Token) → length ts ≤ n → Met (loops g tail s) aw ts (run fi r end n s ts)
    meets zero s [] l = only_tail s [] (at_end s) (end s []) ((e.tails s).meets [])
    meets zero s (t ∷ ts) l = absurd (omega (arith, l))
    meets (suc n) s [] l = only_tail s [] (at_end s) (end s []) ((e.tails s).meets [])
    meets (suc n) s (t ∷ ts) l = by_test n (meets n) s t ts (omega (arith, l)) (fi s t.class) refl

-- the states' language as a piece
pub loop_piece : {S B : Type 0} (r : S → List Token → Read S) (g : S → Gram S) (fi : S → Class → Bool) (ai : Class → Bool) (end : S → List Token → Read B) (tail : S → Gram B)
    (fj mb : S → Class → Bool) (nv : S → Bool) (aw : Class → Bool)
    → States r g fi ai end tail fj mb nv aw → (s : S) → Piece (λ ts. run fi r end (length ts) s ts) (loops g tail s) (fi s ∪ fj s) (mb s) (nv s) aw
loop_piece {S} {B} r g fi ai end tail fj mb nv aw e s = record {
  meets = λ ts. loop_meets r g fi ai end tail fj mb nv aw e (length ts) s ts (omega arith);
  some = λ K alive. let q = (e.tails s).some K alive in (q.0, (0, q.1));
  begins = begins;
  empty = empty;
}
  where
    begins : (m : Option Fault) (K : B → Lang) (t : Token) (us : List Token) → loops g tail s m K (t ∷ us)
        → IsTrue ((fi s ∪ fj s) t.class) ⊎ ((IsTrue (mb s t.class) × Marked m us) ⊎ (IsTrue (nv s) × ((b : B) × K b (t ∷ us))))
    begins m K t us (zero, j) = pick ((e.tails s).begins m K t us j)
      where
        pick : IsTrue (fj s t.class) ⊎ ((IsTrue (mb s t.class) × Marked m us) ⊎ (IsTrue (nv s) × ((b : B) × K b (t ∷ us))))
            → IsTrue ((fi s ∪ fj s) t.class) ⊎ ((IsTrue (mb s t.class) × Marked m us) ⊎ (IsTrue (nv s) × ((b : B) × K b (t ∷ us))))
        pick (inl b) = inl (in_right (fi s t.class) (fj s t.class) b)
        pick (inr b) = inr b
    begins m K t us (suc n, j) = inl (in_left (fi s t.class) (fj s t.class) (not_first (r s) (g s) (fi s) ai (e.items s) m (λ s'. loop g tail n s' m K) t us j))

    empty : (m : Option Fault) (K : B → Lang) → loops g tail s m K [] → IsTrue (nv s) × ((b : B) × K b [])
    empty m K (zero, j) = (e.tails s).empty m K j
    empty m K (suc n, j) = absurd (let z : false ≡ true = ((e.items s).empty m (λ s'. loop g tail n s' m K) j).0 in cc)
