-- A piece read to the end of the list.
use Rattle.std.proofs.Common.{◌≡◌, List, [], ◌∷◌, ◌++◌, Option, Some, None, Bool, refl, sym, subst, ◌∙◌}
use Rattle.pg_read_grammar.specs.declared.token.Token.{Token}
use Rattle.pg_read_grammar.specs.declared.class.Class.{Class}
use Rattle.pg_read_grammar.specs.declared.token.Fault.{Fault}
use Rattle.pg_read_grammar.specs.Language.{Lang, Gram}
use Rattle.pg_read_grammar.specs.Reading.{Read}
use Rattle.pg_read_grammar.specs.Verdict.{IsRead, IsMarked, Cut}
use Rattle.pg_read_grammar.specs.Answers.{Answers, ended}
use Rattle.pg_read_grammar.proofs.Pieces.{Piece, Met, Went, Stopped, Stops, Avoids, Same}

ends : {A : Type 0} (av : Class → Bool) (a : A) → Avoids av None (λ (b : A) (us : List Token). (b ≡ a) × (us ≡ []))
ends av a b t us i j = absurd (let z : t ∷ us ≡ [] = j.1 in cc)

nowhere : {A : Type 0} (av : Class → Bool) (f : Fault) → Avoids {A = A} av (Some f) (λ (b : A) (us : List Token). ⊥)
nowhere av f b t us i j = absurd j

same_self : (ts : List Token) → Same ts ts
same_self [] = tt
same_self (t ∷ ts) = refl

same_cut : (rest us : List Token) → Cut rest us → Same us rest
same_cut [] us e = rw e tt
same_cut (t ∷ rest) us e = rw e.1 refl

-- what follows a list of the grammar, where no token may follow it
pub has_end : {A : Type 0} {r : List Token → Read A} {g : Gram A} {fi ma : Class → Bool} {nu : Bool} {av : Class → Bool} → Piece r g fi ma nu av → (ts : List Token) (K : A → Lang)
    → ((a : A) (t : Token) (us : List Token) → K a (t ∷ us) → ⊥) → g None K ts → (a : A) × (us : List Token) × K a us
has_end {A} {r} {g} {fi} {ma} {nu} {av} e ts K never j = by (r ts) (e.meets ts)
  where
    by : (x : Read A) → Met g av ts x → (a : A) × (us : List Token) × K a us
    by _ (Went a front rest split o) = (a, rest, o.back None K rest (λ b t us i k. absurd (never b t us k)) (same_self rest) tt (subst (g None K) split j))
    by _ (Stopped fault front rest split o) = absurd (o.dead None K rest (λ b t us i k. absurd (never b t us k)) (same_self rest) tt (subst (g None K) split j))

-- a list of the grammar has a value
pub has_value : {A : Type 0} (r : List Token → Read A) (g : Gram A) (fi ma : Class → Bool) (nu : Bool) (av : Class → Bool) → Piece r g fi ma nu av → (ts : List Token)
    → g None (λ a us. us ≡ []) ts → (a : A) × IsRead g ts a
has_value {A} r g fi ma nu av e ts j = by (r ts) (e.meets ts)
  where
    avoids : Avoids av None (λ (b : A) (us : List Token). us ≡ [])
    avoids b t us i k = absurd (let z : t ∷ us ≡ [] = k in cc)

    by : (x : Read A) → Met g av ts x → (a : A) × IsRead g ts a
    by _ (Went a front rest split o) = let z : rest ≡ [] = o.back None (λ b us. us ≡ []) rest avoids (same_self rest) tt (subst (g None (λ b us. us ≡ [])) split j) in
        (a, subst (λ xs. IsRead g xs a) (sym split) (o.sound None (λ b us. (b ≡ a) × (us ≡ [])) rest (refl, z)))
    by _ (Stopped fault front rest split o) = absurd (o.dead None (λ b us. us ≡ []) rest avoids (same_self rest) tt (subst (g None (λ b us. us ≡ [])) split j))

-- a fault is that of a token
no_fault : {A : Type 0} {g : Gram A} {av : Class → Bool} (fault : Option Fault) (front rest : List Token) → Stops g av fault front rest → rest ≡ [] → fault ≡ None
no_fault None front rest o w = refl
no_fault {A} (Some f) front rest o w = let q = o.marked f (λ (b : A) us. ⊥) refl in absurd (let z : [] ≡ q.0 ∷ q.1 = sym w ∙ q.2 in cc)

pub whole : {A : Type 0} (r : List Token → Read A) (g : Gram A) (fi ma : Class → Bool) (nu : Bool) (av : Class → Bool) → Piece r g fi ma nu av → (ts : List Token)
    → Answers g ts (ended (r ts))
whole {A} r g fi ma nu av e ts = by (r ts) (e.meets ts)
  where
    by : (x : Read A) → Met g av ts x → Answers g ts (ended x)
    by _ (Went a front [] split o) = (
      refl,
      subst (λ xs. IsRead g xs a) (sym split) (o.sound None (λ b us. (b ≡ a) × (us ≡ [])) [] (refl, refl)),
      λ b j. (o.back None (λ c us. (c ≡ b) × (us ≡ [])) [] (ends av b) tt tt (subst (λ xs. IsRead g xs b) split j)).0,
    )
    by _ (Went a front (t ∷ rest) split o) = (
      front,
      split,
      record {
        alive = ([], a, o.sound None (λ b us. (b ≡ a) × (us ≡ [])) [] (refl, refl));
        dead = λ us b cut j. let w : us ≡ t ∷ cut.0 = cut.1 in let z : us ≡ [] =
            (o.back None (λ c us. (c ≡ b) × (us ≡ [])) us (ends av b) (same_cut (t ∷ rest) us cut) tt j).1 in absurd cc;
        cause = λ f u us w. (λ j. absurd (o.back (Some f) (λ c us. ⊥) (u ∷ []) (nowhere av f) (let z : u ≡ t = cc in z) (λ n. let z : u ∷ [] ≡ [] = n in absurd cc) j), λ z. absurd cc);
        at_end = λ w. refl;
      },
    )
    by _ (Stopped fault front rest split o) = (
      front,
      split,
      record {
        alive = let q = o.alive (λ b us. us ≡ []) (λ b. ([], refl)) in let v = has_value r g fi ma nu av e (front ++ q.0) q.1 in (q.0, v.0, v.1);
        dead = λ us b cut j. o.dead None (λ c us. (c ≡ b) × (us ≡ [])) us (ends av b) (same_cut rest us cut) tt j;
        cause = λ f u us w. (
          λ j. o.dead (Some f) (λ c us. ⊥) (u ∷ []) (nowhere av f) (rw w refl) (λ n. let z : u ∷ [] ≡ [] = n in absurd cc) j,
          λ z. let q = o.marked f (λ c us. ⊥) z in let p : u ≡ q.0 = cc in subst (λ v. IsMarked g f (front ++ v ∷ [])) (sym p) q.3,
        );
        at_end = no_fault fault front rest o;
      },
    )
