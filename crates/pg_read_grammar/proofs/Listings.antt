-- Items behind commas, where something else may stand behind the last comma.
use Rattle.std.proofs.Common.{◌≡◌, ℕ, zero, suc, List, [], ◌∷◌, ◌++◌, length, Option, Some, refl, sym, ap, subst, inl, inr, ◌⊎◌, Bool, true, false, not, IsTrue}
use Rattle.std.proofs.Common.{if◌then◌else◌}
use Rattle.pg_read_grammar.specs.declared.token.Token.{Token}
use Rattle.pg_read_grammar.specs.declared.class.Class.{Class}
use Rattle.pg_read_grammar.specs.declared.class.Class.TheVariants.{Comma}
use Rattle.pg_read_grammar.specs.declared.token.Fault.{Fault}
use Rattle.pg_read_grammar.specs.declared.token.Fault.TheVariants.{Unsupported}
use Rattle.pg_read_grammar.specs.Classes.{is, none}
use Rattle.pg_read_grammar.specs.Language.{Lang, Gram, give, one, refused, ◌>>=◌, ◌or◌, many}
use Rattle.pg_read_grammar.specs.Language.{◌>>=◌ as ◌then◌}
use Rattle.pg_read_grammar.specs.Reading.{Read, comes, run}
use Rattle.pg_read_grammar.specs.ReaderOps.{Listing, begins_by, begins_listing, listing_by, listing_at, listing_end_by, listing_end_at, more_at}
use Rattle.pg_read_grammar.proofs.ClassTests.{within, apart, apart_none, apart_from_none}
use Rattle.pg_read_grammar.proofs.Pieces.{Piece, Item, Gets, Marked}
use Rattle.pg_read_grammar.proofs.Rules.{next, give_it, recast, within_self, within_or_false, item_first, item_then, alike}
use Rattle.pg_read_grammar.proofs.StateLoops.{loop, loops, loop_piece}
use Rattle.pg_read_grammar.proofs.Linear.{Linear, linear_one, linear_then, linear_many}
use Rattle.pg_read_grammar.proofs.FirstTokenLists.{only, only_at, only_item, run_same, read_as}
use Rattle.pg_read_grammar.proofs.Gathered.{gather, gathered, snoc, added, added_nothing, to_many, from_many}

abbrev step_by : {A : Type 0} → Gram A → List A → Bool → Gram (Listing A)
step_by g all true = do
  a ← g
  give (record { items = all ++ a ∷ []; comma = false })
step_by g all false = do
  _ ← one (is Comma)
  give (record { items = all; comma = true })

abbrev step : {A : Type 0} → Gram A → Listing A → Gram (Listing A)
step g s = step_by g s.items s.comma

abbrev end_by : {A : Type 0} → Gram (Unit {0}) → List A → Bool → Gram (Listing A)
end_by h all true = do
  _ ← h
  give (record { items = all; comma = true })
end_by h all false = give (record { items = all; comma = false })

abbrev end_of : {A : Type 0} → Gram (Unit {0}) → Listing A → Gram (Listing A)
end_of h s = end_by h s.items s.comma

abbrev where_comma : (Class → Bool) → Bool → Class → Bool
where_comma p true = p
where_comma p false = none

step_item : {A : Type 0} {r : List Token → Read A} {g : Gram A} {fi : Class → Bool} → Item r g fi none → (all : List A) (b : Bool)
    → Item (listing_by r all b) (step_by g all b) (begins_by fi b) none
step_item e all true = item_then e (λ a. give_it) refl refl
step_item e all false = item_first (is Comma) Comma refl (λ c. give_it)

end_piece : {A : Type 0} {end : List Token → Read (Unit {0})} {h : Gram (Unit {0})} {fj mb aw : Class → Bool} → Piece end h fj mb false aw → (all : List A) (b : Bool)
    → Piece (listing_end_by end all b) (end_by h all b) (where_comma fj b) (where_comma mb b) (not b) aw
end_piece {A} {end} {h} {fj} {mb} {aw} e all true = recast fj mb (next {av = aw} e (λ u. give_it) (apart_none aw) (within_self aw)) (within_or_false fj none) (within_or_false mb none)
end_piece {A} {end} {h} {fj} {mb} {aw} e all false = give_it

abbrev nothing_yet : {A : Type 0} → Listing A
nothing_yet {A} = record { items = []; comma = false }

more_loop : {A : Type 0} {r : List Token → Read A} {g : Gram A} {fi : Class → Bool} {end : List Token → Read (Unit {0})} {h : Gram (Unit {0})} {fj mb aw : Class → Bool}
    → Item r g fi none → Piece end h fj mb false aw → apart fi fj ≡ true → within (is Comma) aw ≡ true
    → Piece (λ ts. run (begins_listing fi) (listing_at r) (listing_end_at end) (length ts) (nothing_yet {A = A}) ts) (loops (step g) (end_of h) (nothing_yet {A = A})) (is Comma) none true aw
more_loop {A} {r} {g} {fi} {end} {h} {fj} {mb} {aw} e k x y = recast (is Comma) none
    (loop_piece (listing_at r) (step g) (begins_listing fi) none (listing_end_at end) (end_of h) (λ s. where_comma fj s.comma) (λ s. where_comma mb s.comma) (λ s. not s.comma) aw
    (record {
      items = λ s. (step_item e s.items s.comma).piece;
      gets = λ s. (step_item e s.items s.comma).gets;
      tails = λ s. end_piece k s.items s.comma;
      clear = λ s. clear s.comma;
      ends = λ s. ends s.comma;
      items_behind = λ s. apart_from_none (begins_by fi s.comma);
      tails_behind = λ s. apart_from_none (where_comma fj s.comma);
      ends_behind = λ s. behind s.comma;
    }) nothing_yet) refl refl
  where
    clear : (b : Bool) → apart (begins_by fi b) (where_comma fj b) ≡ true
    clear true = x
    clear false = apart_none (is Comma)

    ends : (b : Bool) → (if not b then within (begins_by fi b) aw else true) ≡ true
    ends true = refl
    ends false = y

    behind : (b : Bool) → (if not b then within none aw else true) ≡ true
    behind true = refl
    behind false = refl

-- ---- the same lists, where items may be refused at their first token

-- an item behind a comma
abbrev pub comma_item : {A : Type 0} → Gram A → Gram A
comma_item g = do
  _ ← one (is Comma)
  g

-- nothing, or the other thing behind a comma
abbrev pub ending : {A : Type 0} → Gram (Unit {0}) → List A → Gram (Listing A)
ending h all = (do
  _ ← one (is Comma)
  _ ← h
  give (record { items = all; comma = true })) or give (record { items = all; comma = false })

abbrev followed : {A : Type 0} → Gram A → Gram (Unit {0}) → List A → Gram (Listing A)
followed g h all = do
  more ← gathered snoc (comma_item g) all
  ending h more

-- what is left behind the items so far, and behind a comma
abbrev left : {A : Type 0} → Gram A → Gram (Unit {0}) → List A → Bool → Gram (Listing A)
left g h all true m K us = g m (λ a. followed g h (all ++ a ∷ []) m K) us ⊎ h m (λ u. K (record { items = all; comma = true })) us
left g h all false m K us = followed g h all m K us

-- what is refused at the first token of an item is refused there by the loop's end
pub record Refusing {A : Type 0} (g : Gram A) (h h0 : Gram (Unit {0})) (fi ma : Class → Bool) : Type 1 where
  pub linear : Linear g
  pub begins : (m : Option Fault) (K : A → Lang) (t : Token) (us : List Token) → g m K (t ∷ us)
      → IsTrue (fi t.class) ⊎ ((IsTrue (ma t.class) × Marked m us) ⊎ (IsTrue false × ((a : A) × K a (t ∷ us))))
  pub empty : (m : Option Fault) (K : A → Lang) → g m K [] → IsTrue false × ((a : A) × K a [])
  pub exact : (K : A → Lang) (t : Token) → IsTrue (ma t.class) → g (Some Unsupported) K (t ∷ [])
  pub split : (m : Option Fault) (K : Unit {0} → Lang) (us : List Token) → h0 m K us → h m K us ⊎ refused Unsupported ma m K us
  pub whole : (m : Option Fault) (K : Unit {0} → Lang) (us : List Token) → h m K us → h0 m K us
  pub mark : (m : Option Fault) (K : Unit {0} → Lang) (us : List Token) → refused Unsupported ma m K us → h0 m K us

gathered_piece : {A : Type 0} {r : List Token → Read A} {g : Gram A} {fi ma : Class → Bool} {end : List Token → Read (Unit {0})} {h h0 : Gram (Unit {0})} {fj mb aw : Class → Bool}
    → Piece r g fi ma false none → Gets fi r → Piece end h0 fj mb false aw → Refusing g h h0 fi ma → apart fi fj ≡ true → within (is Comma) aw ≡ true
    → Piece (more_at fi r end) (followed g h []) (is Comma) none true aw
unfolding more_at
gathered_piece {A} {r} {g} {fi} {ma} {end} {h} {h0} {fj} {mb} {aw} e gets k p x y = alike (followed g h []) (λ m K us j. to j.0 [] false m K us j.1) (λ m K us j. from j.0 [] m K us j.1)
    (read_as (more_at fi r end) (λ ts. run_same (begins_listing fi) (listing_at (only_at fi r)) (listing_at r) (listing_end_at end) (λ s ts h. same s.items s.comma ts h)
    (length ts) nothing_yet ts) (more_loop (only_item e gets) k x y))
  where
    same : (all : List A) (b : Bool) (ts : List Token) → comes (begins_by fi b) ts ≡ true → listing_by (only_at fi r) all b ts ≡ listing_by r all b ts
    same all true ts h = rw h refl
    same all false ts h = refl

    refuse : (m : Option Fault) (K : A → Lang) (us : List Token) → refused Unsupported ma m (λ (u : Unit {0}) vs. ⊥) us → g m K us
    refuse m K us j = subst (λ n. g n K us) (sym j.0) (subst (λ vs. g (Some Unsupported) K vs) (sym j.2) (p.exact K j.1 j.3))

    end_left : (all : List A) (b : Bool) (m : Option Fault) (K : Listing A → Lang) (us : List Token) → end_by h0 all b m K us → left g h all b m K us
    end_left all true m K us j = pick (p.split m (λ u. K (record { items = all; comma = true })) us j)
      where
        pick : h m (λ u. K (record { items = all; comma = true })) us ⊎ refused Unsupported ma m (λ (u : Unit {0}). K (record { items = all; comma = true })) us → left g h all true m K us
        pick (inl i) = inr i
        pick (inr i) = inl (refuse m (λ a. followed g h (all ++ a ∷ []) m K) us i)
    end_left all false m K us j = (0, inr j)

    to : (n : ℕ) (all : List A) (b : Bool) (m : Option Fault) (K : Listing A → Lang) (us : List Token) → loop (step (only fi g)) (end_of h0) n (record { items = all; comma = b }) m K us
        → left g h all b m K us
    to zero all b m K us j = end_left all b m K us j
    to (suc n) all true m K us j = inl (p.linear.mono m (λ a. loop (step (only fi g)) (end_of h0) n (record { items = all ++ a ∷ []; comma = false }) m K)
        (λ a. followed g h (all ++ a ∷ []) m K) (λ a vs i. to n (all ++ a ∷ []) false m K vs i) us j.1)
    to (suc n) all false m K us (t, vs, e, i, j) = pick (to n all true m K vs j)
      where
        pick : left g h all true m K vs → left g h all false m K us
        pick (inl q) = let w = p.linear.pick m (λ k a. gather snoc (comma_item g) k (all ++ a ∷ []) m (λ more. ending h more m K)) vs q in (suc w.0, (t, vs, e, i, w.1))
        pick (inr q) = (0, inl (t, vs, e, i, q))

    -- an item, or its refusal at the end
    split : (L : A → Lang) (m : Option Fault) (us : List Token) → g m L us → only fi g m L us ⊎ refused Unsupported ma m (λ (u : Unit {0}) vs. ⊥) us
    split L m [] j = absurd (let z : false ≡ true = (p.empty m L j).0 in cc)
    split L m (t ∷ us) j = pick (p.begins m L t us j)
      where
        pick : IsTrue (fi t.class) ⊎ ((IsTrue (ma t.class) × Marked m us) ⊎ (IsTrue false × ((a : A) × L a (t ∷ us))))
            → only fi g m L (t ∷ us) ⊎ refused Unsupported ma m (λ (u : Unit {0}) vs. ⊥) (t ∷ us)
        pick (inl i) = inl (i, j)
        pick (inr (inl i)) = inr (i.1.0, t, ap (λ vs. t ∷ vs) i.1.1, i.0)
        pick (inr (inr i)) = absurd (let z : false ≡ true = i.0 in cc)

    from : (k : ℕ) (all : List A) (m : Option Fault) (K : Listing A → Lang) (us : List Token) → gather snoc (comma_item g) k all m (λ more. ending h more m K) us
        → loops (step (only fi g)) (end_of h0) (record { items = all; comma = false }) m K us
    from zero all m K us (inl (t, vs, e, i, j)) = (1, (t, vs, e, i, p.whole m (λ u. K (record { items = all; comma = true })) vs j))
    from zero all m K us (inr j) = (0, j)
    from (suc k) all m K us (t, vs, e, i, j) = pick (λ a ws z. from k (all ++ a ∷ []) m K ws z) (split (λ a. gather snoc (comma_item g) k (all ++ a ∷ []) m (λ more. ending h more m K)) m vs j)
      where
        pick : ((a : A) (ws : List Token) → gather snoc (comma_item g) k (all ++ a ∷ []) m (λ more. ending h more m K) ws
            → loops (step (only fi g)) (end_of h0) (record { items = all ++ a ∷ []; comma = false }) m K ws)
            → only fi g m (λ a. gather snoc (comma_item g) k (all ++ a ∷ []) m (λ more. ending h more m K)) vs ⊎ refused Unsupported ma m (λ (u : Unit {0}) vs. ⊥) vs
            → loops (step (only fi g)) (end_of h0) (record { items = all; comma = false }) m K us
        pick rec (inl q) = let w = p.linear.pick m (λ n a. loop (step (only fi g)) (end_of h0) n (record { items = all ++ a ∷ []; comma = false }) m K) vs
            (p.linear.mono m (λ a. gather snoc (comma_item g) k (all ++ a ∷ []) m (λ more. ending h more m K))
            (λ a. loops (step (only fi g)) (end_of h0) (record { items = all ++ a ∷ []; comma = false }) m K) rec vs q.1) in
            (suc (suc w.0), (t, vs, e, i, (q.0, w.1)))
        pick rec (inr q) = (1, (t, vs, e, i, p.mark m (λ u. K (record { items = all; comma = true })) vs q))

-- the same with a list of all items
pub followed_piece : {A : Type 0} {r : List Token → Read A} {g : Gram A} {fi ma : Class → Bool} {end : List Token → Read (Unit {0})} {h h0 : Gram (Unit {0})} {fj mb aw : Class → Bool}
    → Piece r g fi ma false none → Gets fi r → Piece end h0 fj mb false aw → Refusing g h h0 fi ma → apart fi fj ≡ true → within (is Comma) aw ≡ true
    → Piece (more_at fi r end) (many (comma_item g) then ending h) (is Comma) none true aw
followed_piece {A} {r} {g} {fi} {ma} {end} {h} {h0} {fj} {mb} {aw} e gets k p x y = alike (many (comma_item g) then ending h) to from (gathered_piece e gets k p x y)
  where
    items : Linear (comma_item g)
    items = linear_then (linear_one (is Comma)) (λ c. p.linear)

    to : (m : Option Fault) (K : Listing A → Lang) (us : List Token) → followed g h [] m K us → many (comma_item g) m (λ all. ending h all m K) us
    to m K us j = (linear_many items).mono m (λ all. ending h (added snoc [] all) m K) (λ all. ending h all m K) (λ all vs i. subst (λ xs. ending h xs m K vs) (added_nothing all) i) us
        (to_many snoc items [] m (λ more. ending h more m K) us j)

    from : (m : Option Fault) (K : Listing A → Lang) (us : List Token) → many (comma_item g) m (λ all. ending h all m K) us → followed g h [] m K us
    from m K us j = from_many snoc items [] m (λ more. ending h more m K) us
        ((linear_many items).mono m (λ all. ending h all m K) (λ all. ending h (added snoc [] all) m K) (λ all vs i. subst (λ xs. ending h xs m K vs) (sym (added_nothing all)) i) us j)
