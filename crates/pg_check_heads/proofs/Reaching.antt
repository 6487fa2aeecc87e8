-- Which places are reached from a place in a graph, seen front by front.
use Rattle.std.proofs.Common.{◌≡◌, ℕ, zero, suc, ◌+◌, ◌-◌, ◌<◌, ◌≤◌, Bool, true, false, List, [], ◌∷◌, ◌++◌, length, get_or, refl, sym, ap, ◌∙◌}
use Rattle.std.proofs.Common.{arith, inl, inr, cond, take}
use Rattle.std.specs.Prelude.{◌==◌, ◌||◌, ◌&&◌, not, nat_lt, ◌⊎◌}
use Rattle.std.proofs.Common.{slice_set}
use Rattle.std.proofs.lemmas.List.{get_or-set_same, get_or-set_other, length-set}
use Rattle.std.specs.List.{list_any, flat_map}
use Rattle.std.proofs.lemmas.List.Folds.{list_any-append}
use Rattle.std.proofs.lemmas.Bool.Decides.{nat_tests}
use Rattle.pg_check_heads.specs.Circles.{arrives, has, is_seen, IsFront, Noted, is_new, noted_seen, noted_next}

-- one that passes a test
pub record Found (test : ℕ → Bool) (places : List ℕ) : Type 0 where
  pub place : ℕ
  pub among : has places place ≡ true
  pub passes : test place ≡ true

or_true : (a b : Bool) → b ≡ true → (a || b) ≡ true
or_true true b e = refl
or_true false b e = e

same_nat : (n : ℕ) → (n == n) ≡ true
same_nat n = grind (arith, nat_tests)

pub found : (test : ℕ → Bool) (places : List ℕ) → list_any test places ≡ true → Found test places
found test [] e = absurd cc
found test (p ∷ ps) e = by (test p) refl e (found test ps)
  where
    by : (b : Bool) → test p ≡ b → (b || list_any test ps) ≡ true → (list_any test ps ≡ true → Found test ps) → Found test (p ∷ ps)
    by true h k more = record { place = p; among = ap (λ t. t || has ps p) (same_nat p); passes = h }
    by false h k more = let f = more k in record { place = f.place; among = or_true (p == f.place) (has ps f.place) f.among; passes = f.passes }

pub passes : (test : ℕ → Bool) (places : List ℕ) (p : ℕ) → has places p ≡ true → test p ≡ true → list_any test places ≡ true
passes test [] p h e = absurd cc
passes test (q ∷ qs) p h e = by (q == p) refl h (λ k. passes test qs p k e)
  where
    by : (b : Bool) → (q == p) ≡ b → (b || has qs p) ≡ true → (has qs p ≡ true → list_any test qs ≡ true) → (test q || list_any test qs) ≡ true
    by true s k more =
        let n : q ≡ p = grind (arith, nat_tests) in
        ap (λ t. t || list_any test qs) (ap test n ∙ e)
    by false s k more = or_true (test q) (list_any test qs) (more k)

any_weaker : (test other : ℕ → Bool) → ((p : ℕ) → test p ≡ true → other p ≡ true) → (places : List ℕ) → list_any test places ≡ true → list_any other places ≡ true
any_weaker test other h places e = let f = found test places e in passes other places f.place f.among (h f.place f.passes)

-- more edges don't lose what is reached
pub one_more : (edges : ℕ → List ℕ) (target n p : ℕ) → arrives n edges target p ≡ true → arrives (suc n) edges target p ≡ true
unfolding arrives
one_more edges target zero p e = ap (λ b. b || list_any (arrives zero edges target) (edges p)) e
one_more edges target (suc n) p e = by (p == target) refl e (λ k. any_weaker (arrives n edges target) (arrives (suc n) edges target) (one_more edges target n) (edges p) k)
  where
    by : (b : Bool) → (p == target) ≡ b → (b || list_any (arrives n edges target) (edges p)) ≡ true
        → (list_any (arrives n edges target) (edges p) ≡ true → list_any (arrives (suc n) edges target) (edges p) ≡ true)
        → (p == target || list_any (arrives (suc n) edges target) (edges p)) ≡ true
    by true h k more = ap (λ b. b || list_any (arrives (suc n) edges target) (edges p)) h
    by false h k more = or_true (p == target) (list_any (arrives (suc n) edges target) (edges p)) (more k)

-- what a place leads to, where it isn't the target
pub next_of : (edges : ℕ → List ℕ) (target n p : ℕ) → (p == target) ≡ false → arrives (suc n) edges target p ≡ true → Found (arrives n edges target) (edges p)
unfolding arrives
next_of edges target n p h e = found (arrives n edges target) (edges p) (ap (λ b. b || list_any (arrives n edges target) (edges p)) (sym h) ∙ e)

not_target : (seen : List Bool) (target v : ℕ) → is_seen seen target ≡ false → is_seen seen v ≡ true → (v == target) ≡ false
not_target seen target v a s = by (v == target) refl
  where
    by : (b : Bool) → (v == target) ≡ b → (v == target) ≡ false
    by false e = e
    by true e =
        let n : v ≡ target = grind (arith, nat_tests) in
        let t : true ≡ false = sym s ∙ ap (λ p. is_seen seen p) n ∙ a in
        absurd cc

-- what is reached from something that was seen is reached from the front
pub behind_front : (edges : ℕ → List ℕ) (target : ℕ) (seen : List Bool) (front : List ℕ) → IsFront edges target seen front
    → (n v : ℕ) → is_seen seen v ≡ true → arrives n edges target v ≡ true → Found (arrives n edges target) front
unfolding arrives
behind_front edges target seen front f zero v s e =
    let t : true ≡ false = sym e ∙ not_target seen target v f.away s in
    absurd cc
behind_front edges target seen front f (suc n) v s e =
    let next = next_of edges target n v (not_target seen target v f.away s) e in
    by next.place (f.closed v next.place s next.among) (λ h. behind_front edges target seen front f n next.place h next.passes)
  where
    by : (w : ℕ) → (has front v ≡ true) ⊎ (is_seen seen w ≡ true) → (is_seen seen w ≡ true → Found (arrives n edges target) front) → Found (arrives (suc n) edges target) front
    by w (inl h) more = record { place = v; among = h; passes = e }
    by w (inr h) more = let next = more h in record { place = next.place; among = next.among; passes = one_more edges target n next.place next.passes }

-- ---- one front after the other

pub in_flat : (edges : ℕ → List ℕ) (front : List ℕ) (f w : ℕ) → has front f ≡ true → has (edges f) w ≡ true → has (flat_map edges front) w ≡ true
in_flat edges [] f w h e = absurd cc
in_flat edges (g ∷ front) f w h e = by (g == f) refl h (λ k. in_flat edges front f w k e)
  where
    by : (b : Bool) → (g == f) ≡ b → (b || has front f) ≡ true → (has front f ≡ true → has (flat_map edges front) w ≡ true) → has (edges g ++ flat_map edges front) w ≡ true
    by true s k more =
        let n : g ≡ f = grind (arith, nat_tests) in
        list_any-append (λ q. q == w) (edges g) (flat_map edges front) ∙ ap (λ b. b || has (flat_map edges front) w) (ap (λ x. has (edges x) w) n ∙ e)
    by false s k more = list_any-append (λ q. q == w) (edges g) (flat_map edges front) ∙ or_true (has (edges g) w) (has (flat_map edges front) w) (more k)

-- the place of a front that leads to this one
pub record Leads (edges : ℕ → List ℕ) (front : List ℕ) (w : ℕ) : Type 0 where
  pub place : ℕ
  pub among : has front place ≡ true
  pub leads : has (edges place) w ≡ true

pub or_cases : (a b : Bool) → (a || b) ≡ true → (a ≡ true) ⊎ (b ≡ true)
or_cases true b e = inl refl
or_cases false b e = inr e

pub from_flat : (edges : ℕ → List ℕ) (front : List ℕ) (w : ℕ) → has (flat_map edges front) w ≡ true → Leads edges front w
from_flat edges [] w e = absurd cc
from_flat edges (g ∷ front) w e = by (or_cases (has (edges g) w) (has (flat_map edges front) w) (sym (list_any-append (λ q. q == w) (edges g) (flat_map edges front)) ∙ e))
    (from_flat edges front w)
  where
    by : (has (edges g) w ≡ true) ⊎ (has (flat_map edges front) w ≡ true) → (has (flat_map edges front) w ≡ true → Leads edges front w) → Leads edges (g ∷ front) w
    by (inl h) more = record { place = g; among = ap (λ t. t || has front g) (same_nat g); leads = h }
    by (inr h) more = let l = more h in record { place = l.place; among = or_true (g == l.place) (has front l.place) l.among; leads = l.leads }

-- the front behind a front
pub next_front : (edges : ℕ → List ℕ) (target : ℕ) (seen after : List Bool) (front next : List ℕ) → IsFront edges target seen front → has (flat_map edges front) target ≡ false
    → ((w : ℕ) → has (flat_map edges front) w ≡ true → w < length seen) → Noted (flat_map edges front) seen after next → IsFront edges target after next
next_front edges target seen after front next f a within n = record {
  closed = λ v w s e. by_closed v w e (n.new v s) (λ k. f.closed v w k e);
  among = n.among;
  away = by_away (is_seen after target) refl (n.new target);
}
  where
    by_step : (v w : ℕ) → has (edges v) w ≡ true → (has front v ≡ true) ⊎ (is_seen seen w ≡ true) → (has next v ≡ true) ⊎ (is_seen after w ≡ true)
    by_step v w e (inl h) = let i = in_flat edges front v w h e in inr (n.noted w i (within w i))
    by_step v w e (inr h) = inr (n.kept w h)

    by_closed : (v w : ℕ) → has (edges v) w ≡ true → (is_seen seen v ≡ true) ⊎ (has next v ≡ true)
        → (is_seen seen v ≡ true → (has front v ≡ true) ⊎ (is_seen seen w ≡ true)) → (has next v ≡ true) ⊎ (is_seen after w ≡ true)
    by_closed v w e (inl h) old = by_step v w e (old h)
    by_closed v w e (inr h) old = inl h

    by_either : (is_seen seen target ≡ true) ⊎ (has next target ≡ true) → true ≡ false
    by_either (inl h) = sym h ∙ f.away
    by_either (inr h) = sym (n.from target h) ∙ a

    by_away : (b : Bool) → is_seen after target ≡ b → (is_seen after target ≡ true → (is_seen seen target ≡ true) ⊎ (has next target ≡ true)) → is_seen after target ≡ false
    by_away false e h = e
    by_away true e h = e ∙ by_either (h e)

-- what is reached from a front is reached from the next one with an edge less
pub next_left : (edges : ℕ → List ℕ) (target : ℕ) (seen after : List Bool) (front next : List ℕ) → IsFront edges target seen front → has (flat_map edges front) target ≡ false
    → ((w : ℕ) → has (flat_map edges front) w ≡ true → w < length seen) → Noted (flat_map edges front) seen after next
    → (n : ℕ) → Found (arrives (suc n) edges target) front → Found (arrives n edges target) next
next_left edges target seen after front next f a within noted n x =
    let away = not_target seen target x.place f.away (f.among x.place x.among) in
    let w = next_of edges target n x.place away x.passes in
    let i = in_flat edges front x.place w.place x.among w.among in
    behind_front edges target after next (next_front edges target seen after front next f a within noted) n w.place (noted.noted w.place i (within w.place i)) w.passes

-- so many edges lead from the start to a front
abbrev pub Reached : (ℕ → List ℕ) → ℕ → ℕ → ℕ → List ℕ → Type 0
Reached edges target start r front = (j f : ℕ) → has front f ≡ true → arrives j edges target f ≡ true → arrives (r + j) edges target start ≡ true

through : (edges : ℕ → List ℕ) (target j f w : ℕ) → has (edges f) w ≡ true → arrives j edges target w ≡ true → arrives (suc j) edges target f ≡ true
unfolding arrives
through edges target j f w h e = or_true (f == target) (list_any (arrives j edges target) (edges f)) (passes (arrives j edges target) (edges f) w h e)

pub next_reached : (edges : ℕ → List ℕ) (target start r : ℕ) (front next : List ℕ) → ((v : ℕ) → has next v ≡ true → has (flat_map edges front) v ≡ true)
    → Reached edges target start r front → Reached edges target start (r + 1) next
next_reached edges target start r front next from reached j f h e =
    let l = from_flat edges front f (from f h) in
    let s : r + suc j ≡ r + 1 + j = omega arith in
    ap (λ k. arrives k edges target start) (sym s) ∙ reached (suc j) l.place l.among (through edges target j l.place f l.leads e)

pub many_more : (edges : ℕ → List ℕ) (target m n p : ℕ) → m ≤ n → arrives m edges target p ≡ true → arrives n edges target p ≡ true
many_more edges target m n p l e = by (n - m) n (omega (arith, l))
  where
    by : (k n : ℕ) → n ≡ k + m → arrives n edges target p ≡ true
    by zero n s =
        let i : n ≡ m = omega (arith, s) in
        ap (λ i. arrives i edges target p) i ∙ e
    by (suc k) n s =
        let i : n ≡ suc (k + m) = omega (arith, s) in
        ap (λ i. arrives i edges target p) i ∙ one_more edges target (k + m) p (by k (k + m) refl)

pub found_now : (edges : ℕ → List ℕ) (target start r n : ℕ) (front : List ℕ) → r < n → Reached edges target start r front → has (flat_map edges front) target ≡ true
    → arrives n edges target start ≡ true
unfolding arrives
found_now edges target start r n front l reached h =
    let f = from_flat edges front target h in
    many_more edges target (r + 1) n start (omega (arith, l)) (reached 1 f.place f.among (through edges target 0 f.place target f.leads (same_nat target)))

pub never_found : (edges : ℕ → List ℕ) (target start n : ℕ) → (arrives n edges target start ≡ true → ⊥) → false ≡ arrives n edges target start
never_found edges target start n h = by (arrives n edges target start) refl
  where
    by : (b : Bool) → arrives n edges target start ≡ b → false ≡ arrives n edges target start
    by false e = sym e
    by true e = absurd (h e)

-- ---- one place more is noted

pub noted_none : (seen : List Bool) → Noted [] seen seen []
noted_none seen = record {
  same = refl;
  kept = λ v e. e;
  new = λ v e. inl e;
  noted = λ v e. absurd cc;
  from = λ v e. absurd cc;
  among = λ v e. absurd cc;
}

has_push : (ps : List ℕ) (q p : ℕ) → has (ps ++ q ∷ []) p ≡ (has ps p || (q == p))
has_push ps q p = list_any-append (λ r. r == p) ps (q ∷ []) ∙ ap (λ b. has ps p || b) (by (q == p))
  where
    by : (b : Bool) → (b || false) ≡ b
    by true = refl
    by false = refl

or_left : (a b : Bool) → a ≡ true → (a || b) ≡ true
or_left a b e = ap (λ c. c || b) e

seen_set : (seen : List Bool) (q v : ℕ) → q < length seen → is_seen (slice_set seen q true) v ≡ (is_seen seen v || (q == v))
seen_set seen q v l = by (q == v) refl (is_seen seen v) refl
  where
    by : (b : Bool) → (q == v) ≡ b → (c : Bool) → is_seen seen v ≡ c → is_seen (slice_set seen q true) v ≡ (is_seen seen v || (q == v))
    by true e c f =
        let n : q ≡ v = grind (arith, nat_tests) in
        ap (λ p. is_seen (slice_set seen q true) p) (sym n) ∙ get_or-set_same seen q true false l ∙ sym (or_true (is_seen seen v) (q == v) e)
    by false e true f =
        let n : v ≡ q → ⊥ = λ s. grind (arith, nat_tests) in
        get_or-set_other seen q v true false n ∙ f ∙ sym (or_left (is_seen seen v) (q == v) f)
    by false e false f =
        let n : v ≡ q → ⊥ = λ s. grind (arith, nat_tests) in
        get_or-set_other seen q v true false n ∙ f ∙ sym (ap (λ b. b || (q == v)) f ∙ e)

-- one place more
pub note_step : (all : List ℕ) (seen now : List Bool) (next : List ℕ) (q : ℕ) → Noted all seen now next → Noted (all ++ q ∷ []) seen (noted_seen now q) (noted_next now next q)
note_step all seen now next q n = by (nat_lt q (length now)) refl (is_seen now q) refl
  where
    apart : (v : ℕ) → has (all ++ q ∷ []) v ≡ true → (has all v ≡ true) ⊎ ((q == v) ≡ true)
    apart v h = or_cases (has all v) (q == v) (sym (has_push all q v) ∙ h)

    same_as : (v : ℕ) → (q == v) ≡ true → q ≡ v
    same_as v e = grind (arith, nat_tests)

    stays : (seen' : List Bool) → seen' ≡ now → (next' : List ℕ) → next' ≡ next → ((v : ℕ) → (q == v) ≡ true → v < length seen → is_seen now v ≡ true)
        → Noted (all ++ q ∷ []) seen seen' next'
    stays seen' e next' f own = record {
      same = ap length e ∙ n.same;
      kept = λ v s. ap (λ x. is_seen x v) e ∙ n.kept v s;
      new = λ v s. by_new v (n.new v (sym (ap (λ x. is_seen x v) e) ∙ s));
      noted = λ v h l. ap (λ x. is_seen x v) e ∙ by_noted v l (apart v h);
      from = λ v h. has_push all q v ∙ or_left (has all v) (q == v) (n.from v (sym (ap (λ x. has x v) f) ∙ h));
      among = λ v h. ap (λ x. is_seen x v) e ∙ n.among v (sym (ap (λ x. has x v) f) ∙ h);
    }
      where
        by_new : (v : ℕ) → (is_seen seen v ≡ true) ⊎ (has next v ≡ true) → (is_seen seen v ≡ true) ⊎ (has next' v ≡ true)
        by_new v (inl s) = inl s
        by_new v (inr h) = inr (ap (λ x. has x v) f ∙ h)

        by_noted : (v : ℕ) → v < length seen → (has all v ≡ true) ⊎ ((q == v) ≡ true) → is_seen now v ≡ true
        by_noted v l (inl h) = n.noted v h l
        by_noted v l (inr h) = own v h l

    grows : q < length now → (seen' : List Bool) → seen' ≡ slice_set now q true → (next' : List ℕ) → next' ≡ next ++ q ∷ [] → length seen' ≡ length now
        → Noted (all ++ q ∷ []) seen seen' next'
    grows l seen' e next' f size = record {
      same = size ∙ n.same;
      kept = λ v s. is v ∙ or_left (is_seen now v) (q == v) (n.kept v s);
      new = λ v s. by_new v (or_cases (is_seen now v) (q == v) (sym (is v) ∙ s));
      noted = λ v h k. is v ∙ by_noted v k (apart v h);
      from = λ v h. has_push all q v ∙ by_from v (or_cases (has next v) (q == v) (sym (next_is v) ∙ h));
      among = λ v h. is v ∙ by_among v (or_cases (has next v) (q == v) (sym (next_is v) ∙ h));
    }
      where
        is : (v : ℕ) → is_seen seen' v ≡ (is_seen now v || (q == v))
        is v = ap (λ x. is_seen x v) e ∙ seen_set now q v l

        next_is : (v : ℕ) → has next' v ≡ (has next v || (q == v))
        next_is v = ap (λ x. has x v) f ∙ has_push next q v

        by_old : (v : ℕ) → (is_seen seen v ≡ true) ⊎ (has next v ≡ true) → (is_seen seen v ≡ true) ⊎ (has next' v ≡ true)
        by_old v (inl s) = inl s
        by_old v (inr h) = inr (next_is v ∙ or_left (has next v) (q == v) h)

        by_new : (v : ℕ) → (is_seen now v ≡ true) ⊎ ((q == v) ≡ true) → (is_seen seen v ≡ true) ⊎ (has next' v ≡ true)
        by_new v (inl s) = by_old v (n.new v s)
        by_new v (inr s) = inr (next_is v ∙ or_true (has next v) (q == v) s)

        by_noted : (v : ℕ) → v < length seen → (has all v ≡ true) ⊎ ((q == v) ≡ true) → (is_seen now v || (q == v)) ≡ true
        by_noted v k (inl h) = or_left (is_seen now v) (q == v) (n.noted v h k)
        by_noted v k (inr s) = or_true (is_seen now v) (q == v) s

        by_from : (v : ℕ) → (has next v ≡ true) ⊎ ((q == v) ≡ true) → (has all v || (q == v)) ≡ true
        by_from v (inl h) = or_left (has all v) (q == v) (n.from v h)
        by_from v (inr s) = or_true (has all v) (q == v) s

        by_among : (v : ℕ) → (has next v ≡ true) ⊎ ((q == v) ≡ true) → (is_seen now v || (q == v)) ≡ true
        by_among v (inl h) = or_left (is_seen now v) (q == v) (n.among v h)
        by_among v (inr s) = or_true (is_seen now v) (q == v) s

    by : (b : Bool) → nat_lt q (length now) ≡ b → (c : Bool) → is_seen now q ≡ c → Noted (all ++ q ∷ []) seen (noted_seen now q) (noted_next now next q)
    by false e c f =
        let t : is_new now q ≡ false = ap (λ b. b && not (is_seen now q)) e in
        let far : (v : ℕ) → (q == v) ≡ true → v < length seen → is_seen now v ≡ true =
        λ v s l. let m : q ≡ v = same_as v s in let k : length now ≡ length seen = n.same in absurd (grind (arith, nat_tests)) in
        stays (noted_seen now q) (ap (λ b. cond b (slice_set now q true) now) t) (noted_next now next q) (ap (λ b. cond b (next ++ q ∷ []) next) t) far
    by true e true f =
        let t : is_new now q ≡ false = ap (λ b. b && not (is_seen now q)) e ∙ ap not f in
        stays (noted_seen now q) (ap (λ b. cond b (slice_set now q true) now) t) (noted_next now next q) (ap (λ b. cond b (next ++ q ∷ []) next) t)
        (λ v s l. ap (λ p. is_seen now p) (sym (same_as v s)) ∙ f)
    by true e false f =
        let t : is_new now q ≡ true = ap (λ b. b && not (is_seen now q)) e ∙ ap not f in
        let l : q < length now = grind (arith, nat_tests) in
        let s : noted_seen now q ≡ slice_set now q true = ap (λ b. cond b (slice_set now q true) now) t in
        grows l (noted_seen now q) s (noted_next now next q) (ap (λ b. cond b (next ++ q ∷ []) next) t) (ap length s ∙ length-set now q true)

pub take_step : {X : Type 0} (xs : List X) (i : ℕ) (d x : X) → i < length xs → x ≡ get_or xs i d → take (i + 1) xs ≡ take i xs ++ x ∷ []
take_step [] i d x l e = absurd (omega (arith, l))
take_step (y ∷ xs) zero d x l e = ap (λ z. z ∷ []) (sym e)
take_step (y ∷ xs) (suc i) d x l e =
    let s : suc i + 1 ≡ suc (i + 1) = omega arith in
    ap (λ k. take k (y ∷ xs)) s ∙ ap (λ ys. y ∷ ys) (take_step xs i d x (omega (arith, l)) e)
