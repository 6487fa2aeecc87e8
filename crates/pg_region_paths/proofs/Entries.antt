-- The entries of registers, by the number of the block in which each was put.
use Rattle.std.proofs.Common.{◌≡◌, ◌≢◌, ℕ, zero, suc, ◌+◌, ◌<◌, ◌≤◌, ◌==◌, Bool, true, false, cond, List, [], ◌∷◌, length, replicate, Option, Some}
use Rattle.std.proofs.Common.{None, refl, sym, ap, ◌∙◌, subst, arith, inl, inr, ◌⊎◌}
use Rattle.std.specs.Prelude.{slice_get, slice_set}
use Rattle.std.proofs.lemmas.Bool.{cases_eq, eq-eqb, ne_eqb}
use Rattle.pg_region_paths.specs.declared.entry.Entry.{Entry}
use Rattle.pg_region_paths.specs.declared.path.Path.{Path}
use Rattle.pg_region_paths.specs.RootPaths.{root_at, entry_path, IsPast, ArePast}

pub past_none : (n : ℕ) (e : Entry) (t : ℕ) → e.turn ≤ t → ArePast (replicate n e) t
past_none n e t le = record { past = λ r. go n r }
  where
    go : (n r : ℕ) → IsPast t (slice_get (replicate n e) r)
    go zero r = tt
    go (suc n) zero = le
    go (suc n) (suc r) = go n r

past_more : (t : ℕ) (e : Option Entry) → IsPast t e → IsPast (t + 1) e
past_more t None h = tt
past_more t (Some e) h = omega (arith, h)

pub past_next : (es : List Entry) (t : ℕ) → ArePast es t → ArePast es (t + 1)
past_next es t h = record { past = λ r. past_more t (slice_get es r) (h.past r) }

-- no register was put yet since the next block was entered
entered_one : (is_set : ℕ → Bool) (t r : ℕ) (e : Option Entry) → IsPast t e → entry_path is_set (t + 1) e r ≡ root_at is_set r
entered_one is_set t r None h = refl
entered_one is_set t r (Some e) h = let n : e.turn ≢ t + 1 = omega (arith, h) in rw (ne_eqb e.turn (t + 1) n) refl

pub entered : (is_set : ℕ → Bool) (es : List Entry) (t r : ℕ) → ArePast es t → entry_path is_set (t + 1) (slice_get es r) r ≡ root_at is_set r
entered is_set es t r h = entered_one is_set t r (slice_get es r) (h.past r)

get_same : (es : List Entry) (r : ℕ) (e : Entry) → r < length es → slice_get (slice_set es r e) r ≡ Some e
get_same [] r e lt = absurd (omega arith)
get_same (x ∷ es) zero e lt = refl
get_same (x ∷ es) (suc r) e lt = get_same es r e (omega arith)

get_other : (es : List Entry) (r s : ℕ) (e : Entry) → r ≢ s → slice_get (slice_set es r e) s ≡ slice_get es s
get_other [] r s e ne = refl
get_other (x ∷ es) zero zero e ne = absurd (ne refl)
get_other (x ∷ es) zero (suc s) e ne = refl
get_other (x ∷ es) (suc r) zero e ne = refl
get_other (x ∷ es) (suc r) (suc s) e ne = get_other es r s e (λ q. ne (ap suc q))

get_set : (es : List Entry) (r s : ℕ) (e : Entry) → r < length es → slice_get (slice_set es r e) s ≡ cond (r == s) (Some e) (slice_get es s)
get_set es r s e lt = go (cases_eq r s)
  where
    go : (r ≡ s) ⊎ (r ≡ s → ⊥) → slice_get (slice_set es r e) s ≡ cond (r == s) (Some e) (slice_get es s)
    go (inl q) = rw (eq-eqb r s q) (subst (λ (z : ℕ). slice_get (slice_set es r e) z ≡ Some e) q (get_same es r e lt))
    go (inr ne) = rw (ne_eqb r s ne) (get_other es r s e ne)

past_of : (b : Bool) (t : ℕ) (e : Entry) (o : Option Entry) → e.turn ≤ t → IsPast t o → IsPast t (cond b (Some e) o)
past_of true t e o le h = le
past_of false t e o le h = h

pub past_set : (es : List Entry) (r t : ℕ) (e : Entry) → r < length es → e.turn ≤ t → ArePast es t → ArePast (slice_set es r e) t
past_set es r t e lt le h = record { past = λ s. rw (get_set es r s e lt) (past_of (r == s) t e (slice_get es s) le (h.past s)) }

put_one : (is_set : ℕ → Bool) (b : Bool) (t s : ℕ) (path : Option Path) (o : Option Entry)
    → entry_path is_set t (cond b (Some (record { turn = t; path = path })) o) s ≡ cond b path (entry_path is_set t o s)
put_one is_set true t s path o = rw (eq-eqb t t refl) refl
put_one is_set false t s path o = refl

pub put : (is_set : ℕ → Bool) (es : List Entry) (r t s : ℕ) (path : Option Path) → r < length es →
    entry_path is_set t (slice_get (slice_set es r (record { turn = t; path = path })) s) s ≡ cond (r == s) path (entry_path is_set t (slice_get es s) s)
put is_set es r t s path lt = rw (get_set es r s (record { turn = t; path = path }) lt) (put_one is_set (r == s) t s path (slice_get es s))
