-- The first refusals of parts: of a kind, of two parts, and of one thing of a list after the other.
use Rattle.std.proofs.Common.{◌≡◌, ℕ, zero, suc, ◌+◌, ◌<◌, ◌≤◌, ◌==◌, nat_lt, Bool, true, false, cond, List, [], ◌∷◌, ◌++◌, length, map, take, get_or}
use Rattle.std.proofs.Common.{Option, Some, None, refl, sym, ap, subst, ◌∙◌, ◌⊎◌, inl, inr, arith, rules}
use Rattle.std.specs.Prelude.{Contains}
use Rattle.std.specs.List.{enumerate_from}
use Rattle.std.proofs.lemmas.Bool.Decides.{nat_tests}
use Rattle.std.proofs.lemmas.List.{append-nil}
use Rattle.std.proofs.lemmas.List.Elements.{Contains-append_left, Contains-append_right, Contains-append_cases}
use Rattle.pg_read_ast.specs.pg_read_lex.declared.token.Span.{Span}
use Rattle.pg_check_rules.specs.declared.fault.CheckKind.{CheckKind}
use Rattle.pg_check_rules.specs.declared.refusals.CheckRefusal.{CheckRefusal}
use Rattle.pg_check_rules.specs.Conditions.{RefusedPlaces, all_of, rank, NoLater, IsEarliest, RefusesNothing}
use Rattle.pg_check_rules.specs.Earliest.{earlier, earliest, only, joined, IsFirstIn, IsFirstAmong}
use Rattle.pg_check_rules.proofs.Rows.{row_last, numbered_last}

in_cons : {X : Type 0} (s t : X) (ss : List X) → Contains (s ∷ ss) t → (s ≡ t) ⊎ Contains ss t
in_cons s t ss (zero, l, e) = inl e
in_cons s t ss (suc k, l, e) = inr (k, omega (arith, l), e)

in_none : {X : Type 0} {P : Type 0} (t : X) → Contains [] t → P
in_none t (k, l, e) = absurd (omega (arith, l))

in_more : {X : Type 0} (s t : X) (ss : List X) → Contains ss t → Contains (s ∷ ss) t
in_more s t ss (k, l, e) = (suc k, omega (arith, l), e)

-- ---- places

record IsLeast (ss : List Span) (e : Span) : Type 0 where
  is_in : Contains ss e
  least : (s : Span) → Contains ss s → e.start ≤ s.start

earliest_none : (ss : List Span) → earliest ss ≡ None → ss ≡ []
unfolding earliest
earliest_none [] h = refl
earliest_none (s ∷ ss) h = by (earliest ss) h
  where
    by : (o : Option Span) → earlier (Some s) o ≡ None → s ∷ ss ≡ []
    by None h = cc
    by (Some x) h = pick (nat_lt x.start s.start) h
      where
        pick : (b : Bool) → cond b (Some x) (Some s) ≡ None → s ∷ ss ≡ []
        pick true h = cc
        pick false h = cc

earliest_is : (ss : List Span) (e : Span) → earliest ss ≡ Some e → IsLeast ss e
unfolding earliest
earliest_is [] e h = cc
earliest_is (s ∷ ss) e h = by (earliest ss) refl (earliest_is ss) h
  where
    first : Contains (s ∷ ss) s
    first = (zero, omega arith, refl)

    by : (o : Option Span) → earliest ss ≡ o → ((x : Span) → earliest ss ≡ Some x → IsLeast ss x) → earlier (Some s) o ≡ Some e → IsLeast (s ∷ ss) e
    by None n ih h =
        let n' = earliest_none ss n in
        let is : s ≡ e = cc in
        subst (λ x. IsLeast (s ∷ ss) x) is (record {
          is_in = first;
          least = λ t c. subst (λ xs. Contains (s ∷ xs) t → s.start ≤ t.start) (sym n') (λ d. alone t (in_cons s t [] d)) c;
        })
      where
        alone : (t : Span) → (s ≡ t) ⊎ Contains [] t → s.start ≤ t.start
        alone t (inl q) = subst (λ x. s.start ≤ x.start) q (omega arith)
        alone t (inr c) = in_none t c
    by (Some x) n ih h = pick (nat_lt x.start s.start) refl (ih x n) h
      where
        pick : (b : Bool) → nat_lt x.start s.start ≡ b → IsLeast ss x → cond b (Some x) (Some s) ≡ Some e → IsLeast (s ∷ ss) e
        pick true t l h =
            let is : x ≡ e = cc in
            let below : x.start < s.start = grind (arith, nat_tests) in
            subst (λ y. IsLeast (s ∷ ss) y) is (record { is_in = in_more s x ss l.is_in; least = λ y c. either y (in_cons s y ss c) below })
          where
            either : (y : Span) → (s ≡ y) ⊎ Contains ss y → x.start < s.start → x.start ≤ y.start
            either y (inl q) b = subst (λ z. x.start ≤ z.start) q (omega (arith, b))
            either y (inr c) b = l.least y c
        pick false t l h =
            let is : s ≡ e = cc in
            let below : s.start ≤ x.start = grind (arith, nat_tests) in
            subst (λ y. IsLeast (s ∷ ss) y) is (record { is_in = first; least = λ y c. either y (in_cons s y ss c) below })
          where
            either : (y : Span) → (s ≡ y) ⊎ Contains ss y → s.start ≤ x.start → s.start ≤ y.start
            either y (inl q) b = subst (λ z. s.start ≤ z.start) q (omega arith)
            either y (inr c) b = let m = l.least y c in omega (arith, b, m)

-- ---- the order

no_later : (k k' : CheckKind) (s s' : Span) → s.start ≤ s'.start → rank k ≤ rank k' → NoLater k s k' s'
no_later k k' s s' a b = search (rules, arith)

still_later : (a b c : CheckKind) (s t u : Span) → NoLater a s b t → NoLater b t c u → NoLater a s c u
still_later a b c s t u (inl x) (inl y) = inl (omega (arith, x, y))
still_later a b c s t u (inl x) (inr y) = let e = y.0 in inl (omega (arith, x, e))
still_later a b c s t u (inr x) (inl y) = let e = x.0 in inl (omega (arith, e, y))
still_later a b c s t u (inr x) (inr y) = let d = x.1 in let e = y.1 in inr (x.0 ∙ y.0, omega (arith, d, e))

-- ---- one kind

pub kind_first : (kind : CheckKind) (places : List Span) (span : Span) → earliest places ≡ Some span → IsEarliest (only kind places) kind span
kind_first kind places span h =
    let least = earliest_is places span h in
    let same : (rank kind == rank kind) ≡ true = grind (arith, nat_tests) in
    record {
      refused = subst (λ b. Contains (cond b places []) span) (sym same) least.is_in;
      earliest = λ k s c. by k s (rank kind == rank k) refl c;
    }
  where
    by : (k : CheckKind) (s : Span) (b : Bool) → (rank kind == rank k) ≡ b → Contains (cond b places []) s → NoLater kind span k s
    by k s true e c =
        let r : rank kind ≤ rank k = grind (arith, nat_tests) in
        no_later kind k span s ((earliest_is places span h).least s c) r
    by k s false e c = in_none s c

pub kind_none : (kind : CheckKind) (places : List Span) → earliest places ≡ None → RefusesNothing (only kind places)
kind_none kind places h = record { none = λ k. by (rank kind == rank k) (earliest_none places h) }
  where
    by : (b : Bool) → places ≡ [] → cond b places [] ≡ []
    by true e = e
    by false e = refl

-- ---- two parts

pub same_places : (p q : RefusedPlaces) (o : Option CheckRefusal) → ((kind : CheckKind) → p kind ≡ q kind) → IsFirstIn p o → IsFirstIn q o
same_places p q None e h = record { none = λ k. sym (e k) ∙ h.none k }
same_places p q (Some r) e h = record {
  refused = subst (λ ss. Contains ss r.span) (e r.kind) h.refused;
  earliest = λ k s c. h.earliest k s (subst (λ ss. Contains ss s) (sym (e k)) c);
}

pub front_none : (p q : RefusedPlaces) (o : Option CheckRefusal) → RefusesNothing p → IsFirstIn q o → IsFirstIn (joined p q) o
front_none p q o n h = same_places q (joined p q) o (λ k. ap (λ ss. ss ++ q k) (sym (n.none k))) h

pub back_none : (p q : RefusedPlaces) (o : Option CheckRefusal) → IsFirstIn p o → RefusesNothing q → IsFirstIn (joined p q) o
back_none p q o h n = same_places p (joined p q) o (λ k. sym (append-nil (p k)) ∙ ap (λ ss. p k ++ ss) (sym (n.none k))) h

pub front_first : (p q : RefusedPlaces) (r : CheckRefusal) → IsEarliest p r.kind r.span → ((k : CheckKind) (s : Span) → Contains (q k) s → NoLater r.kind r.span k s)
    → IsEarliest (joined p q) r.kind r.span
front_first p q r h l = record {
  refused = Contains-append_left (p r.kind) (q r.kind) r.span h.refused;
  earliest = λ k s c. by k s (Contains-append_cases (p k) (q k) s c);
}
  where
    by : (k : CheckKind) (s : Span) → Contains (p k) s ⊎ Contains (q k) s → NoLater r.kind r.span k s
    by k s (inl c) = h.earliest k s c
    by k s (inr c) = l k s c

pub one_first : (p q : RefusedPlaces) (one other : CheckRefusal) → IsEarliest p one.kind one.span → IsEarliest q other.kind other.span → NoLater one.kind one.span other.kind other.span
    → IsEarliest (joined p q) one.kind one.span
one_first p q one other f g l = front_first p q one f (λ k s c. still_later one.kind other.kind k one.span other.span s l (g.earliest k s c))

pub other_first : (p q : RefusedPlaces) (one other : CheckRefusal) → IsEarliest p one.kind one.span → IsEarliest q other.kind other.span → NoLater other.kind other.span one.kind one.span
    → IsEarliest (joined p q) other.kind other.span
other_first p q one other f g l = record {
  refused = Contains-append_right (p other.kind) (q other.kind) other.span g.refused;
  earliest = λ k s c. by k s (Contains-append_cases (p k) (q k) s c);
}
  where
    by : (k : CheckKind) (s : Span) → Contains (p k) s ⊎ Contains (q k) s → NoLater other.kind other.span k s
    by k s (inl c) = still_later other.kind one.kind k other.span one.span s l (f.earliest k s c)
    by k s (inr c) = g.earliest k s c

-- ---- lists

-- one thing more
pub part_step : {X Y : Type 0} (f : Y → RefusedPlaces) (g : X → Y) (xs : List X) (i : ℕ) (x : X) (o : Option CheckRefusal) → i < length xs → x ≡ get_or xs i x
    → IsFirstIn (joined (all_of f (map g (take i xs))) (f (g x))) o → IsFirstIn (all_of f (map g (take (i + 1) xs))) o
part_step f g xs i x o l e h =
    same_places (joined (all_of f (map g (take i xs))) (f (g x))) (all_of f (map g (take (i + 1) xs))) o (λ k. sym (row_last (λ y. f y k) g xs i x x l e)) h

-- the same, where each thing has its number
pub numbered_part_step : {X Y : Type 0} (f : ℕ × Y → RefusedPlaces) (g : X → Y) (xs : List X) (i : ℕ) (x : X) (o : Option CheckRefusal) → i < length xs → x ≡ get_or xs i x
    → IsFirstIn (joined (all_of f (enumerate_from 0 (map g (take i xs)))) (f (i, g x))) o → IsFirstIn (all_of f (enumerate_from 0 (map g (take (i + 1) xs)))) o
numbered_part_step f g xs i x o l e h =
    let s : 0 + i ≡ i = omega arith in
    let front = all_of f (enumerate_from 0 (map g (take i xs))) in
    same_places (joined front (f (i, g x))) (all_of f (enumerate_from 0 (map g (take (i + 1) xs)))) o
    (λ k. ap (λ n. front k ++ f (n, g x) k) (sym s) ∙ sym (numbered_last (λ y. f y k) g 0 xs i x x l e)) h

-- ---- parts one after the other

pub first_here : (p : RefusedPlaces) (ps : List RefusedPlaces) (o : Option CheckRefusal) (r : CheckRefusal) → o ≡ Some r → IsFirstIn p o → IsFirstAmong (p ∷ ps) (Some r)
first_here p ps o r e h = inl (subst (λ x. IsFirstIn p x) e h)

pub nothing_here : (p : RefusedPlaces) (o : Option CheckRefusal) → o ≡ None → IsFirstIn p o → RefusesNothing p
nothing_here p o e h = subst (λ x. IsFirstIn p x) e h

pub first_behind : (p : RefusedPlaces) (ps : List RefusedPlaces) (o : Option CheckRefusal) → RefusesNothing p → IsFirstAmong ps o → IsFirstAmong (p ∷ ps) o
first_behind p ps None n h = (n, h)
first_behind p ps (Some r) n h = inr (n, h)
