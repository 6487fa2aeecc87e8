-- The first refusal of a module's phases: there is one or nothing is refused, and not both, and two have one kind and one place.
use Rattle.std.proofs.Common.{◌≡◌, ◌==◌, if◌then◌else◌, ℕ, zero, suc, ◌<◌, ◌≤◌, List, [], ◌∷◌, nat_lt, Bool, true, false, refl, sym, ap, ◌∙◌, subst}
use Rattle.std.proofs.Common.{arith, inl, inr, ◌⊎◌}
use Rattle.std.specs.Prelude.{Contains}
use Rattle.std.proofs.lemmas.Bool.Decides.{nat_tests}
use Rattle.pg_read_lex.specs.declared.token.Span.{Span}
use Rattle.pg_check.specs.pg_check_rules.declared.fault.CheckKind.{CheckKind}
use Rattle.pg_check.specs.pg_check_rules.declared.fault.CheckKind.TheVariants.{UnknownName, Doubled, WrongType, NoBlock, BadPhi, Unsupported, BadSignature, TooLarge, NoMain}
use Rattle.pg_check.specs.pg_check_rules.Conditions.{RefusedPlaces, rank, NoLater, IsEarliest, RefusesNothing, IsFirstOf, RefuseNothing}

-- ---- not both

refuses_none : (p : RefusedPlaces) (k : CheckKind) (s : Span) → RefusesNothing p → Contains (p k) s → ⊥
refuses_none p k s n c = by (subst (λ (xs : List Span). Contains xs s) (n.none k) c)
  where
    by : Contains [] s → ⊥
    by (i, l, e) = omega (arith, l)

pub none_first : (ps : List RefusedPlaces) (k : CheckKind) (s : Span) → RefuseNothing ps → IsFirstOf ps k s → ⊥
none_first [] k s n f = f
none_first (p ∷ ps) k s n (inl e) = refuses_none p k s n.0 e.refused
none_first (p ∷ ps) k s n (inr f) = none_first ps k s n.1 f.1

-- ---- one kind and one place

kind_at : ℕ → CheckKind
kind_at n =
    if n == 0 then UnknownName else if n == 1 then Doubled else if n == 2 then WrongType else if n == 3 then NoBlock else if n == 4 then BadPhi
    else if n == 5 then Unsupported else if n == 6 then BadSignature else if n == 7 then TooLarge else NoMain

kind_ranked : (k : CheckKind) → kind_at (rank k) ≡ k
unfolding kind_at
kind_ranked UnknownName = refl
kind_ranked Doubled = refl
kind_ranked WrongType = refl
kind_ranked NoBlock = refl
kind_ranked BadPhi = refl
kind_ranked Unsupported = refl
kind_ranked BadSignature = refl
kind_ranked TooLarge = refl
kind_ranked NoMain = refl

same_rank : (k j : CheckKind) → rank k ≡ rank j → k ≡ j
same_rank k j e = sym (kind_ranked k) ∙ ap kind_at e ∙ kind_ranked j

pub record AreSame (k : CheckKind) (s : Span) (j : CheckKind) (t : Span) : Type 0 where
  pub kinds : k ≡ j
  pub places : s.start ≡ t.start

no_later_both : (k : CheckKind) (s : Span) (j : CheckKind) (t : Span) → NoLater k s j t → NoLater j t k s → AreSame k s j t
no_later_both k s j t (inl a) (inl b) = absurd (omega (arith, a, b))
no_later_both k s j t (inl a) (inr b) = let e = b.0 in absurd (omega (arith, a, e))
no_later_both k s j t (inr a) (inl b) = let e = a.0 in absurd (omega (arith, b, e))
no_later_both k s j t (inr a) (inr b) = let u = a.1 in let v = b.1 in record { kinds = same_rank k j (omega (arith, u, v)); places = a.0 }

pub first_same : (ps : List RefusedPlaces) (k : CheckKind) (s : Span) (j : CheckKind) (t : Span) → IsFirstOf ps k s → IsFirstOf ps j t → AreSame k s j t
first_same [] k s j t f g = absurd f
first_same (p ∷ ps) k s j t (inl e) (inl d) = no_later_both k s j t (e.earliest j t d.refused) (d.earliest k s e.refused)
first_same (p ∷ ps) k s j t (inl e) (inr g) = absurd (refuses_none p k s g.0 e.refused)
first_same (p ∷ ps) k s j t (inr f) (inl d) = absurd (refuses_none p j t f.0 d.refused)
first_same (p ∷ ps) k s j t (inr f) (inr g) = first_same ps k s j t f.1 g.1

-- ---- one of the two

record IsLeast (ss : List Span) (s : Span) : Type 0 where
  is_in : Contains ss s
  least : (t : Span) → Contains ss t → s.start ≤ t.start

-- no place, or one that begins first
abbrev Least : List Span → Type 0
Least ss = (ss ≡ []) ⊎ ((s : Span) × IsLeast ss s)

in_cons : (s t : Span) (ss : List Span) → Contains (s ∷ ss) t → (s ≡ t) ⊎ Contains ss t
in_cons s t ss (zero, l, e) = inl e
in_cons s t ss (suc k, l, e) = inr (k, omega (arith, l), e)

least : (ss : List Span) → Least ss
least [] = inl refl
least (s ∷ ss) = inr (by (least ss))
  where
    first : Contains (s ∷ ss) s
    first = (zero, omega arith, refl)

    later : (t : Span) → Contains ss t → Contains (s ∷ ss) t
    later t (k, l, e) = (suc k, omega (arith, l), e)

    by : Least ss → (t : Span) × IsLeast (s ∷ ss) t
    by (inl none) = (s, record { is_in = first; least = λ t c. alone t (in_cons s t ss c) })
      where
        alone : (t : Span) → (s ≡ t) ⊎ Contains ss t → s.start ≤ t.start
        alone t (inl e) = subst (λ (x : Span). s.start ≤ x.start) e (omega arith)
        alone t (inr c) = absurd (empty (subst (λ (xs : List Span). Contains xs t) none c))
          where
            empty : Contains [] t → ⊥
            empty (k, l, e) = omega (arith, l)
    by (inr r) = pick (nat_lt r.0.start s.start) refl
      where
        pick : (b : Bool) → nat_lt r.0.start s.start ≡ b → (t : Span) × IsLeast (s ∷ ss) t
        pick true e = (r.0, record { is_in = later r.0 r.1.is_in; least = λ t c. either t (in_cons s t ss c) })
          where
            below : r.0.start < s.start
            below = grind (arith, nat_tests)

            either : (t : Span) → (s ≡ t) ⊎ Contains ss t → r.0.start ≤ t.start
            either t (inl q) = subst (λ (x : Span). r.0.start ≤ x.start) q (let h = below in omega (arith, h))
            either t (inr c) = r.1.least t c
        pick false e = (s, record { is_in = first; least = λ t c. either t (in_cons s t ss c) })
          where
            above : s.start ≤ r.0.start
            above = grind (arith, nat_tests)

            either : (t : Span) → (s ≡ t) ⊎ Contains ss t → s.start ≤ t.start
            either t (inl q) = subst (λ (x : Span). s.start ≤ x.start) q (omega arith)
            either t (inr c) = let h = above in let m = r.1.least t c in omega (arith, h, m)

-- among the kinds from a rank on, the earliest refusal of a part
record IsFirst (p : RefusedPlaces) (n : ℕ) (k : CheckKind) (s : Span) : Type 0 where
  refused : Contains (p k) s
  ranked : n ≤ rank k
  no_later : (j : CheckKind) (t : Span) → n ≤ rank j → Contains (p j) t → NoLater k s j t

abbrev First : RefusedPlaces → ℕ → Type 0
First p n = ((j : CheckKind) → n ≤ rank j → p j ≡ []) ⊎ ((k : CheckKind) × (s : Span) × IsFirst p n k s)

-- this kind, or one of a greater rank
kind_or_more : (k j : CheckKind) → rank k ≤ rank j → (k ≡ j) ⊎ (suc (rank k) ≤ rank j)
kind_or_more k j l = pick (nat_lt (rank k) (rank j)) refl
  where
    pick : (b : Bool) → nat_lt (rank k) (rank j) ≡ b → (k ≡ j) ⊎ (suc (rank k) ≤ rank j)
    pick true e = inr (grind (arith, nat_tests))
    pick false e = inl (same_rank k j (let h : rank j ≤ rank k = grind (arith, nat_tests) in omega (arith, l, h)))

module _ (p : RefusedPlaces) (k : CheckKind) where
  -- a place of this kind, where those of the kinds behind it don't begin before it
  from_place : (s : Span) → IsLeast (p k) s → ((j : CheckKind) (t : Span) → suc (rank k) ≤ rank j → Contains (p j) t → s.start ≤ t.start) → IsFirst p (rank k) k s
  from_place s l more = record { refused = l.is_in; ranked = omega arith; no_later = λ j t r c. either j t c r (kind_or_more k j r) }
    where
      order : (j : CheckKind) (t : Span) → s.start ≤ t.start → rank k ≤ rank j → NoLater k s j t
      order j t below r = pick (nat_lt s.start t.start) refl
        where
          pick : (b : Bool) → nat_lt s.start t.start ≡ b → NoLater k s j t
          pick true e = inl (grind (arith, nat_tests))
          pick false e = inr (let h : t.start ≤ s.start = grind (arith, nat_tests) in omega (arith, below, h), r)

      either : (j : CheckKind) (t : Span) → Contains (p j) t → rank k ≤ rank j → (k ≡ j) ⊎ (suc (rank k) ≤ rank j) → NoLater k s j t
      either j t c r (inl e) = order j t (l.least t (subst (λ (i : CheckKind). Contains (p i) t) (sym e) c)) r
      either j t c r (inr m) = order j t (more j t m c) r

  no_place : (t : Span) → p k ≡ [] → Contains (p k) t → ⊥
  no_place t none c = empty (subst (λ (xs : List Span). Contains xs t) none c)
    where
      empty : Contains [] t → ⊥
      empty (i, l, e) = omega (arith, l)

  -- the refusal of a kind behind this one, where this kind has no place, or only later ones
  from_later : (i : CheckKind) (s : Span) → IsFirst p (suc (rank k)) i s → ((t : Span) → Contains (p k) t → s.start < t.start) → IsFirst p (rank k) i s
  from_later i s f before = record { refused = f.refused; ranked = let h = f.ranked in omega (arith, h); no_later = λ j t r c. either j t c (kind_or_more k j r) }
    where
      either : (j : CheckKind) (t : Span) → Contains (p j) t → (k ≡ j) ⊎ (suc (rank k) ≤ rank j) → NoLater i s j t
      either j t c (inl e) = inl (before t (subst (λ (x : CheckKind). Contains (p x) t) (sym e) c))
      either j t c (inr m) = f.no_later j t m c

  step : First p (suc (rank k)) → First p (rank k)
  step first = by first (least (p k))
    where
      by : First p (suc (rank k)) → Least (p k) → First p (rank k)
      by (inl none) (inl empty) = inl (λ j r. either j (kind_or_more k j r))
        where
          either : (j : CheckKind) → (k ≡ j) ⊎ (suc (rank k) ≤ rank j) → p j ≡ []
          either j (inl e) = subst (λ (x : CheckKind). p x ≡ []) e empty
          either j (inr m) = none j m
      by (inl none) (inr l) = inr (k, l.0, from_place l.0 l.1 (λ j t m c. absurd (empty j t m c)))
        where
          gone : (t : Span) → Contains [] t → ⊥
          gone t (i, b, e) = omega (arith, b)

          empty : (j : CheckKind) (t : Span) → suc (rank k) ≤ rank j → Contains (p j) t → ⊥
          empty j t m c = gone t (subst (λ (xs : List Span). Contains xs t) (none j m) c)
      by (inr f) (inl empty) = inr (f.0, f.1, from_later f.0 f.1 f.2 (λ t c. absurd (no_place t empty c)))
      by (inr f) (inr l) = pick (nat_lt f.1.start l.0.start) refl
        where
          pick : (b : Bool) → nat_lt f.1.start l.0.start ≡ b → First p (rank k)
          pick true e = inr (f.0, f.1, from_later f.0 f.1 f.2 (λ t c. before t c))
            where
              before : (t : Span) → Contains (p k) t → f.1.start < t.start
              before t c = let h : f.1.start < l.0.start = grind (arith, nat_tests) in let m = l.1.least t c in omega (arith, h, m)
          pick false e = inr (k, l.0, from_place l.0 l.1 (λ j t m c. after j t (f.2.no_later j t m c)))
            where
              after : (j : CheckKind) (t : Span) → NoLater f.0 f.1 j t → l.0.start ≤ t.start
              after j t (inl a) = let h : l.0.start ≤ f.1.start = grind (arith, nat_tests) in omega (arith, h, a)
              after j t (inr a) = let h : l.0.start ≤ f.1.start = grind (arith, nat_tests) in let q = a.0 in omega (arith, h, q)

rank_small : (k : CheckKind) → rank k < 9
rank_small UnknownName = omega arith
rank_small Doubled = omega arith
rank_small WrongType = omega arith
rank_small NoBlock = omega arith
rank_small BadPhi = omega arith
rank_small Unsupported = omega arith
rank_small BadSignature = omega arith
rank_small TooLarge = omega arith
rank_small NoMain = omega arith

none_ranked : (p : RefusedPlaces) → First p 9
none_ranked p = inl (λ j r. absurd (let h = rank_small j in omega (arith, h, r)))

from_unsupported : (p : RefusedPlaces) → First p 5
from_unsupported p = step p Unsupported (step p BadSignature (step p TooLarge (step p NoMain (none_ranked p))))

from_unknown_name : (p : RefusedPlaces) → First p 0
from_unknown_name p = step p UnknownName (step p Doubled (step p WrongType (step p NoBlock (step p BadPhi (from_unsupported p)))))

of_part : (p : RefusedPlaces) → RefusesNothing p ⊎ ((k : CheckKind) × (s : Span) × IsEarliest p k s)
of_part p = by (from_unknown_name p)
  where
    by : First p 0 → RefusesNothing p ⊎ ((k : CheckKind) × (s : Span) × IsEarliest p k s)
    by (inl none) = inl (record { none = λ k. none k (omega arith) })
    by (inr f) = inr (f.0, f.1, record { refused = f.2.refused; earliest = λ j t c. f.2.no_later j t (omega arith) c })

pub none_or_first : (ps : List RefusedPlaces) → RefuseNothing ps ⊎ ((k : CheckKind) × (s : Span) × IsFirstOf ps k s)
none_or_first [] = inl tt
none_or_first (p ∷ ps) = by (of_part p) (none_or_first ps)
  where
    by : RefusesNothing p ⊎ ((k : CheckKind) × (s : Span) × IsEarliest p k s) → RefuseNothing ps ⊎ ((k : CheckKind) × (s : Span) × IsFirstOf ps k s)
        → RefuseNothing (p ∷ ps) ⊎ ((k : CheckKind) × (s : Span) × IsFirstOf (p ∷ ps) k s)
    by (inr e) rest = inr (e.0, e.1, inl e.2)
    by (inl none) (inl rest) = inl (none, rest)
    by (inl none) (inr f) = inr (f.0, f.1, inr (none, f.2))
