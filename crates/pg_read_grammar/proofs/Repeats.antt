-- Any number of a piece.
use Rattle.std.proofs.Common.{◌≡◌, ℕ, zero, suc, ◌≤◌, List, [], ◌∷◌, ◌++◌, length, Option, Some, None, refl, sym, ap, subst, ◌∙◌, arith, inl, inr, ◌⊎◌}
use Rattle.std.proofs.Common.{Bool, true, false, IsTrue, if◌then◌else◌, append_assoc}
use Rattle.pg_read_grammar.specs.declared.token.Token.{Token}
use Rattle.pg_read_grammar.specs.declared.class.Class.{Class}
use Rattle.pg_read_grammar.specs.declared.token.Fault.{Fault}
use Rattle.pg_read_grammar.specs.Classes.{none}
use Rattle.pg_read_grammar.specs.Language.{Lang, Gram, times, many}
use Rattle.pg_read_grammar.specs.Language.{◌>>=◌ as ◌then◌}
use Rattle.pg_read_grammar.specs.Reading.{Read, Good, ◌>>=◌, repeat, all_of}
use Rattle.pg_read_grammar.proofs.ClassTests.{apart, within, apart_is, within_is}
use Rattle.pg_read_grammar.proofs.Pieces.{Same, Full, Marked, Avoids, Blamed, Goes, Met, Piece, same_front, full_front, not_marked, rest_of, Gets, too_long, not_first, Went, Stopped}

pub many_piece : {A : Type 0} (r : List Token → Read A) (g : Gram A) (fi av aw : Class → Bool)
    → Piece r g fi none false av → Gets fi r → apart av fi ≡ true → within av aw ≡ true → within fi aw ≡ true
    → Piece (all_of fi r) (many g) fi none true aw
unfolding repeat
many_piece {A} r g fi av aw e gets ap1 wi wk = record {
  meets = λ ts. meets (length ts) ts (omega arith);
  some = λ K alive. let q = alive [] in (q.0, (0, q.1));
  begins = begins;
  empty = empty;
}
  where
    begins : (m : Option Fault) (K : List A → Lang) (t : Token) (us : List Token) → many g m K (t ∷ us)
        → IsTrue (fi t.class) ⊎ ((IsTrue (none t.class) × Marked m us) ⊎ (IsTrue true × ((a : List A) × K a (t ∷ us))))
    begins m K t us (zero, j) = inr (inr (refl, ([], j)))
    begins m K t us (suc n, j) = inl (not_first r g fi av e m (λ a. times g n m (λ more. K (a ∷ more))) t us j)

    empty : (m : Option Fault) (K : List A → Lang) → many g m K [] → IsTrue true × ((a : List A) × K a [])
    empty m K (zero, j) = (refl, ([], j))
    empty m K (suc n, j) = absurd (let z : false ≡ true = (e.empty m (λ a. times g n m (λ more. K (a ∷ more))) j).0 in cc)

    avoids_more : (m : Option Fault) (K : List A → Lang) (n : ℕ) → Avoids aw m K → Avoids av m (λ a. times g n m (λ more. K (a ∷ more)))
    avoids_more m K zero avoids a t us i j = avoids (a ∷ []) t us (within_is av aw wi t.class i) j
    avoids_more m K (suc n) avoids a t us i j = absurd (apart_is av fi ap1 t.class i (not_first r g fi av e m (λ b. times g n m (λ more. K (a ∷ b ∷ more))) t us j))

    stop : (ts : List Token) → ((m : Option Fault) (K : A → Lang) (us : List Token) → Same us ts → g m K us → ⊥) → Met (many g) aw ts (Good [] ts)
    stop ts never = Went [] [] ts refl (record { sound = λ m K us j. (0, j); back = back })
      where
        back : (m : Option Fault) (K : List A → Lang) (us : List Token) → Avoids aw m K → Same us ts → Full m us → many g m K us → K [] us
        back m K us avoids same full (zero, j) = j
        back m K us avoids same full (suc n, j) = absurd (never m (λ a. times g n m (λ more. K (a ∷ more))) us same j)

    stop_end : Met (many g) aw [] (Good [] [])
    stop_end = stop [] never
      where
        never : (m : Option Fault) (K : A → Lang) (us : List Token) → Same us [] → g m K us → ⊥
        never m K [] same j = absurd (let z : false ≡ true = (e.empty m K j).0 in cc)
        never m K (t ∷ us) same j = same

    stop_here : (t : Token) (ts : List Token) → fi t.class ≡ false → Met (many g) aw (t ∷ ts) (Good [] (t ∷ ts))
    stop_here t ts n = stop (t ∷ ts) never
      where
        never : (m : Option Fault) (K : A → Lang) (us : List Token) → Same us (t ∷ ts) → g m K us → ⊥
        never m K [] same j = same
        never m K (u ∷ us) same j = let p : fi u.class ≡ true = not_first r g fi av e m K u us j in let q : fi u.class ≡ false = subst (λ v. fi v.class ≡ false) (sym same) n in absurd cc

    -- after one item
    more : (t : Token) (ts : List Token) (a : A) (front rest : List Token) → t ∷ ts ≡ t ∷ front ++ rest → IsTrue (fi t.class) → Goes g av a (t ∷ front) rest → (y : Read (List A))
        → Met (many g) aw rest y
        → Met (many g) aw (t ∷ ts) (y >>= λ bs after. Good (a ∷ bs) after)
    more t ts a front rest split i o _ (Went bs front' rest' split' p) =
        Went (a ∷ bs) (t ∷ front ++ front') rest' (split ∙ ap (λ xs. t ∷ front ++ xs) split' ∙ ap (λ xs. t ∷ xs) (sym (append_assoc front front' rest'))) (record {
          sound = λ m K us j. let q = p.sound m (λ cs. K (a ∷ cs)) us j in (
            suc q.0,
            subst (λ xs. g m (λ b. times g q.0 m (λ cs. K (b ∷ cs))) (t ∷ xs)) (sym (append_assoc front front' us))
                (o.sound m (λ b. times g q.0 m (λ cs. K (b ∷ cs))) (front' ++ us) q.1),
          );
          back = back;
        })
      where
        back : (m : Option Fault) (K : List A → Lang) (us : List Token) → Avoids aw m K → Same us rest' → Full m us → many g m K (t ∷ (front ++ front') ++ us) → K (a ∷ bs) us
        back m K us avoids same full (
          zero,
          j,
        ) = absurd (not_marked m ((front ++ front') ++ us) (full_front (front ++ front') m us full) (avoids [] t ((front ++ front') ++ us) (within_is fi aw wk t.class i) j))
        back m K us avoids same full (suc n, j) = p.back m (λ cs. K (a ∷ cs)) us (λ bs. avoids (a ∷ bs)) same full (
          n,
          o.back m (λ b. times g n m (λ cs. K (b ∷ cs))) (front' ++ us) (avoids_more m K n avoids) (subst (Same (front' ++ us)) (sym split') (same_front front' us rest' same))
              (full_front front' m us full) (subst (λ xs. g m (λ b. times g n m (λ cs. K (b ∷ cs))) (t ∷ xs)) (append_assoc front front' us) j),
        )
    more t ts a front rest split i o _ (Stopped fault front' rest' split' p) =
        Stopped fault (t ∷ front ++ front') rest' (split ∙ ap (λ xs. t ∷ front ++ xs) split' ∙ ap (λ xs. t ∷ xs) (sym (append_assoc front front' rest'))) (record {
          alive = λ K alive. let q = p.alive (λ cs. K (a ∷ cs)) (λ bs. alive (a ∷ bs)) in (
            q.0,
            (
              suc q.1.0,
              subst (λ xs. g None (λ b. times g q.1.0 None (λ cs. K (b ∷ cs))) (t ∷ xs)) (sym (append_assoc front front' q.0))
                  (o.sound None (λ b. times g q.1.0 None (λ cs. K (b ∷ cs))) (front' ++ q.0) q.1.1),
            ),
          );
          dead = dead;
          marked = λ m K w. let q = p.marked m (λ cs. K (a ∷ cs)) w in (
            q.0,
            q.1,
            q.2,
            (
              suc q.3.0,
              subst (λ xs. g (Some m) (λ b. times g q.3.0 (Some m) (λ cs. K (b ∷ cs))) (t ∷ xs)) (sym (append_assoc front front' (q.0 ∷ [])))
                  (o.sound (Some m) (λ b. times g q.3.0 (Some m) (λ cs. K (b ∷ cs))) (front' ++ q.0 ∷ []) q.3.1),
            ),
          );
        })
      where
        dead : (m : Option Fault) (K : List A → Lang) (us : List Token) → Avoids aw m K → Same us rest' → Full m us → many g m K (t ∷ (front ++ front') ++ us) → Blamed m fault
        dead m K us avoids same full (
          zero,
          j,
        ) = absurd (not_marked m ((front ++ front') ++ us) (full_front (front ++ front') m us full) (avoids [] t ((front ++ front') ++ us) (within_is fi aw wk t.class i) j))
        dead m K us avoids same full (suc n, j) = p.dead m (λ cs. K (a ∷ cs)) us (λ bs. avoids (a ∷ bs)) same full (
          n,
          o.back m (λ b. times g n m (λ cs. K (b ∷ cs))) (front' ++ us) (avoids_more m K n avoids) (subst (Same (front' ++ us)) (sym split') (same_front front' us rest' same))
              (full_front front' m us full) (subst (λ xs. g m (λ b. times g n m (λ cs. K (b ∷ cs))) (t ∷ xs)) (append_assoc front front' us) j),
        )

    mutual_step : (n : ℕ) → ((ts : List Token) → length ts ≤ n → Met (many g) aw ts (repeat fi r n ts)) → (t : Token) (ts : List Token) → length ts ≤ n → IsTrue (fi t.class)
        → (x : Read A) → length (rest_of x) ≤ length ts → Met g av (t ∷ ts) x
        → Met (many g) aw (t ∷ ts) (x >>= λ a rest. repeat fi r n rest >>= λ bs after. Good (a ∷ bs) after)
    mutual_step n rec t ts l i _ s (Went a [] rest split o) = absurd (too_long t ts rest split s)
    mutual_step n rec t ts l i _ s (Stopped fault [] rest split o) = absurd (too_long t ts rest split s)
    mutual_step n rec t ts l i _ s (Went a (u ∷ front) rest split o) =
        let p : t ≡ u = cc in
        let w : t ∷ ts ≡ t ∷ front ++ rest = subst (λ v. t ∷ ts ≡ v ∷ front ++ rest) (sym p) split in
        more t ts a front rest w i (subst (λ v. Goes g av a (v ∷ front) rest) (sym p) o) (repeat fi r n rest) (rec rest (omega (arith, s, l)))
    mutual_step n rec t ts l i _ s (Stopped fault (u ∷ front) rest split o) = Stopped fault (u ∷ front) rest split (record {
      alive = λ K alive. let q = o.alive (λ a. K (a ∷ [])) (λ a. alive (a ∷ [])) in (q.0, (1, q.1));
      dead = dead;
      marked = λ f K w. let q = o.marked f (λ a. K (a ∷ [])) w in (q.0, q.1, q.2, (1, q.3));
    })
      where
        first : IsTrue (fi u.class)
        first = let p : t ≡ u = cc in subst (λ v. IsTrue (fi v.class)) p i

        dead : (m : Option Fault) (K : List A → Lang) (us : List Token) → Avoids aw m K → Same us rest → Full m us → many g m K (u ∷ front ++ us) → Blamed m fault
        dead m K us avoids same full (zero, j) = absurd (not_marked m (front ++ us) (full_front front m us full) (avoids [] u (front ++ us) (within_is fi aw wk u.class first) j))
        dead m K us avoids same full (suc k, j) = o.dead m (λ b. times g k m (λ cs. K (b ∷ cs))) us (avoids_more m K k avoids) same full j

    by_test : (n : ℕ) → ((ts : List Token) → length ts ≤ n → Met (many g) aw ts (repeat fi r n ts)) → (t : Token) (ts : List Token) → length ts ≤ n → (b : Bool) → fi t.class ≡ b
        → Met (many g) aw (t ∷ ts) (if b then (r (t ∷ ts) >>= λ a rest. repeat fi r n rest >>= λ bs after. Good (a ∷ bs) after) else Good [] (t ∷ ts))
    by_test n rec t ts l true i = mutual_step n rec t ts l i (r (t ∷ ts)) (gets.on t ts i) (e.meets (t ∷ ts))
    by_test n rec t ts l false k = stop_here t ts k

    meets : (n : ℕ) (ts : List Token) → length ts ≤ n → Met (many g) aw ts (repeat fi r n ts)
    meets zero [] l = stop_end
    meets zero (t ∷ ts) l = absurd (omega (arith, l))
    meets (suc n) [] l = stop_end
    meets (suc n) (t ∷ ts) l = by_test n (meets n) t ts (omega (arith, l)) (fi t.class) refl
