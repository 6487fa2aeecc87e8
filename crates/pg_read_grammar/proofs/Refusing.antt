-- Any number of a piece that may be refused at its first token, and then another piece: what is refused there is refused at the end of the list.
use Rattle.std.proofs.Common.{◌≡◌, ℕ, zero, suc, List, [], ◌∷◌, length, Option, Some, refl, sym, ap, subst, inl, inr, ◌⊎◌, Bool, true, false, IsTrue}
use Rattle.pg_read_grammar.specs.declared.token.Token.{Token}
use Rattle.pg_read_grammar.specs.declared.class.Class.{Class}
use Rattle.pg_read_grammar.specs.declared.token.Fault.{Fault}
use Rattle.pg_read_grammar.specs.declared.token.Fault.TheVariants.{Unsupported}
use Rattle.pg_read_grammar.specs.Classes.{none, ◌∪◌}
use Rattle.pg_read_grammar.specs.Language.{Lang, Gram, refused, times, many}
use Rattle.pg_read_grammar.specs.Language.{◌>>=◌ as ◌then◌}
use Rattle.pg_read_grammar.specs.Reading.{Read, ◌>>=◌, unless, all_of}
use Rattle.pg_read_grammar.proofs.ClassTests.{within, apart}
use Rattle.pg_read_grammar.proofs.Pieces.{Piece, Gets, Marked}
use Rattle.pg_read_grammar.proofs.Rules.{next, many_items, unless_it, alike}
use Rattle.pg_read_grammar.proofs.Linear.{Linear}
use Rattle.pg_read_grammar.proofs.FirstTokenLists.{only, only_item, repeat_only, read_as}

pub many_refusing : {A B : Type 0} {r : List Token → Read A} {g : Gram A} {fi ma av : Class → Bool} {f : List A → List Token → Read B} {h : List A → Gram B} {fj mb : Class → Bool}
    (aw : Class → Bool)
    → Piece r g fi ma false av → Gets fi r → Linear g → ((K : A → Lang) (t : Token) → IsTrue (ma t.class) → g (Some Unsupported) K (t ∷ []))
    → ((all : List A) → Piece (f all) (h all) fj mb false none) → apart av fi ≡ true → within av aw ≡ true → within fi aw ≡ true → apart aw fj ≡ true → apart ma fj ≡ true
    → Piece (λ ts. all_of fi r ts >>= λ all. unless Unsupported ma (f all)) (many g then h) (fi ∪ fj) (mb ∪ ma) false none
many_refusing {A} {B} {r} {g} {fi} {ma} {av} {f} {h} {fj} {mb} aw e gets lin exact k x y z v w =
    alike (many g then h) (λ m K us j. let q = to j.0 m (λ all. h all m K) us j.1 in q) (λ m K us j. from j.0 m (λ all. h all m K) us j.1)
    (read_as (λ ts. all_of fi r ts >>= λ all. unless Unsupported ma (f all)) (λ ts. ap (λ p. p >>= λ all. unless Unsupported ma (f all)) (repeat_only fi r (length ts) ts))
    (next (many_items aw (only_item e gets) x y z) (λ all. unless_it ma (k all) w refl) v refl))
  where
    refuse : (K : A → Lang) (m : Option Fault) (us : List Token) → refused Unsupported ma m (λ (b : B) vs. ⊥) us → g m K us
    refuse K m us j = subst (λ n. g n K us) (sym j.0) (subst (λ vs. g (Some Unsupported) K vs) (sym j.2) (exact K j.1 j.3))

    to : (n : ℕ) (m : Option Fault) (M : List A → Lang) (us : List Token) → times (only fi g) n m (λ all vs. M all vs ⊎ refused Unsupported ma m (λ (b : B) ws. ⊥) vs) us
        → (k : ℕ) × times g k m M us
    to zero m M us (inl j) = (0, j)
    to zero m M us (inr j) = (1, refuse (λ a. times g 0 m (λ more. M (a ∷ more))) m us j)
    to (suc n) m M us j = let q = lin.pick m (λ k a. times g k m (λ more. M (a ∷ more))) us
        (lin.mono m (λ a. times (only fi g) n m (λ more vs. M (a ∷ more) vs ⊎ refused Unsupported ma m (λ (b : B) ws. ⊥) vs))
        (λ a vs. (k : ℕ) × times g k m (λ more. M (a ∷ more)) vs) (λ a vs i. to n m (λ more. M (a ∷ more)) vs i) us j.1) in (suc q.0, q.1)

    split : (L : A → Lang) (m : Option Fault) (us : List Token) → g m L us → only fi g m L us ⊎ refused Unsupported ma m (λ (b : B) vs. ⊥) us
    split L m [] j = absurd (let z : false ≡ true = (e.empty m L j).0 in cc)
    split L m (t ∷ us) j = pick (e.begins m L t us j)
      where
        pick : IsTrue (fi t.class) ⊎ ((IsTrue (ma t.class) × Marked m us) ⊎ (IsTrue false × ((a : A) × L a (t ∷ us))))
            → only fi g m L (t ∷ us) ⊎ refused Unsupported ma m (λ (b : B) vs. ⊥) (t ∷ us)
        pick (inl i) = inl (i, j)
        pick (inr (inl i)) = inr (i.1.0, t, ap (λ vs. t ∷ vs) i.1.1, i.0)
        pick (inr (inr i)) = absurd (let z : false ≡ true = i.0 in cc)

    from : (n : ℕ) (m : Option Fault) (M : List A → Lang) (us : List Token) → times g n m M us
        → (k : ℕ) × times (only fi g) k m (λ all vs. M all vs ⊎ refused Unsupported ma m (λ (b : B) ws. ⊥) vs) us
    from zero m M us j = (0, inl j)
    from (suc n) m M us j = pick (λ a vs i. from n m (λ more. M (a ∷ more)) vs i) (split (λ a. times g n m (λ more. M (a ∷ more))) m us j)
      where
        pick : ((a : A) (vs : List Token) → times g n m (λ more. M (a ∷ more)) vs
            → (k : ℕ) × times (only fi g) k m (λ more ws. M (a ∷ more) ws ⊎ refused Unsupported ma m (λ (b : B) xs. ⊥) ws) vs)
            → only fi g m (λ a. times g n m (λ more. M (a ∷ more))) us ⊎ refused Unsupported ma m (λ (b : B) vs. ⊥) us
            → (k : ℕ) × times (only fi g) k m (λ all vs. M all vs ⊎ refused Unsupported ma m (λ (b : B) ws. ⊥) vs) us
        pick rec (inl q) = let w = lin.pick m (λ k a. times (only fi g) k m (λ more vs. M (a ∷ more) vs ⊎ refused Unsupported ma m (λ (b : B) ws. ⊥) vs)) us
            (lin.mono m (λ a. times g n m (λ more. M (a ∷ more)))
            (λ a vs. (k : ℕ) × times (only fi g) k m (λ more ws. M (a ∷ more) ws ⊎ refused Unsupported ma m (λ (b : B) xs. ⊥) ws) vs) rec us q.1) in
            (suc w.0, (q.0, w.1))
        pick rec (inr q) = (0, inr q)
