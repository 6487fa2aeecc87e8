-- The parts of the turn that is due, laid over what the steps that are done leave.
use Rattle.std.proofs.Common.{◌≡◌, ℕ, suc, ◌+◌, ◌-◌, ◌<◌, ◌≤◌, ◌⊎◌, inl, inr, ◌==◌, ◌&&◌, Bool, true, false, Option, Some, None, refl, sym, ap, ◌∙◌, arith}
use Rattle.std.specs.Prelude.{nat_lt, is_some, slice_get, if◌then◌else◌}
use Rattle.std.proofs.lemmas.Bool.{cases_lt, cases_eq, eq-eqb, ne_eqb, lt-ltb, le-ltb}
use Rattle.std.proofs.lemmas.Bool.Decides.{nat_tests}
use Rattle.pg_law_course.specs.pg_num.declared.layout.TheConstants.{MEMORY_BYTES}
use Rattle.pg_law_course.specs.pg_run_memory.Bytes.{byte_of}
use Rattle.pg_law_course.specs.pg_law_threads.Effects.{or_old}
use Rattle.pg_law_course.specs.pg_law_threads.Intervals.{Timed}
use Rattle.pg_law_course.specs.pg_run_trace.declared.step.Access.{Access}
use Rattle.pg_law_course.specs.pg_run_trace.Races.{is_in}
use Rattle.pg_law_course.specs.pg_run_trace.Steps.{access_of, range_of}
use Rattle.pg_law_course.specs.pg_law_runs.Deeds.{Did}
use Rattle.pg_seats.specs.declared.run.Run.{Run}
use Rattle.pg_seats.specs.Plan.{own_of}
use Rattle.pg_seats.specs.Views.{bit, has_store, has_word, is_put, is_write, needs, part_at}
use Rattle.pg_seats.specs.Rule.{over, over_turn}
use Rattle.pg_seats.proofs.StepShapes.{IsShaped, written_by}

none_less : (n : ℕ) → nat_lt n 0 ≡ false
none_less n = grind (arith, nat_tests)

and_false : (b : Bool) → (b && false) ≡ false
and_false true = refl
and_false false = refl

-- ---- without parts

pub none_put : (d : Did) (b : ℕ) → is_put d 0 b ≡ false
none_put d b = ap (λ c. is_some (d.writes b) && c) (none_less (part_at d b)) ∙ and_false (is_some (d.writes b))

pub over_none : (o : Option (Timed Did)) (b v : ℕ) → over o 0 b v ≡ v
over_none None b v = refl
over_none (Some x) b v = rw (none_put x.did b) refl

pub turn_none : (run : Run) (done parts : ℕ → ℕ) (o : Option ℕ) (b v : ℕ) → ((t : ℕ) → o ≡ Some t → parts t ≡ 0) → over_turn run done parts o b v ≡ v
turn_none run done parts None b v h = refl
turn_none run done parts (Some t) b v h = ap (λ k. over (slice_get (own_of run t) (done t)) k b v) (h t refl) ∙ over_none (slice_get (own_of run t) (done t)) b v

-- the owner of the turn stands where it stood, with the same parts, or has none before and after
pub turn_same : (run : Run) (done done' parts parts' : ℕ → ℕ) (o : Option ℕ) (b v : ℕ)
    → ((t : ℕ) → o ≡ Some t → ((done t ≡ done' t) × (parts t ≡ parts' t)) ⊎ ((parts t ≡ 0) × (parts' t ≡ 0)))
    → over_turn run done parts o b v ≡ over_turn run done' parts' o b v
turn_same run done done' parts parts' None b v h = refl
turn_same run done done' parts parts' (Some t) b v h = go (h t refl)
  where
    go : ((done t ≡ done' t) × (parts t ≡ parts' t)) ⊎ ((parts t ≡ 0) × (parts' t ≡ 0)) → over (slice_get (own_of run t) (done t)) (parts t) b v ≡ over (slice_get (own_of run t) (done' t)) (parts' t) b v
    go (inl e) = ap (λ m. over (slice_get (own_of run t) m) (parts t) b v) e.0 ∙ ap (λ k. over (slice_get (own_of run t) (done' t)) k b v) e.1
    go (inr e) = ap (λ k. over (slice_get (own_of run t) (done t)) k b v) e.0 ∙ over_none (slice_get (own_of run t) (done t)) b v
        ∙ sym (ap (λ k. over (slice_get (own_of run t) (done' t)) k b v) e.1 ∙ over_none (slice_get (own_of run t) (done' t)) b v)

-- ---- a cell that no part writes

pub not_put : (d : Did) (parts b : ℕ) → is_some (d.writes b) ≡ false → is_put d parts b ≡ false
not_put d parts b h = ap (λ c. c && nat_lt (part_at d b) parts) h

pub over_still : (x : Timed Did) (parts b v : ℕ) → is_put x.did parts b ≡ false → over (Some x) parts b v ≡ v
over_still x parts b v h = rw h refl

-- ---- one part more

-- the part of this number writes the cell
abbrev pub is_part : Did → ℕ → ℕ → Bool
is_part d k b = is_some (d.writes b) && (part_at d b == k)

pub over_more : (x : Timed Did) (k b v : ℕ) → over (Some x) (suc k) b v ≡ (if is_part x.did k b then or_old (x.did.writes b) (over (Some x) k b v) else over (Some x) k b v)
over_more x k b v = go (x.did.writes b) refl (part_at x.did b) refl
  where
    go : (o : Option ℕ) → x.did.writes b ≡ o → (p : ℕ) → part_at x.did b ≡ p → over (Some x) (suc k) b v ≡ (if is_part x.did k b then or_old (x.did.writes b) (over (Some x) k b v) else over (Some x) k b v)
    go None e p q = rw e refl
    go (Some n) e p q = rw (e, q) (cases (cases_lt p k) (cases_eq p k))
      where
        cases : (p < k) ⊎ (k ≤ p) → (p ≡ k) ⊎ (p ≡ k → ⊥)
            → (if nat_lt p (suc k) then n else v) ≡ (if p == k then n else (if nat_lt p k then n else v))
        cases (inl l) (inl e) = absurd (omega arith)
        cases (inl l) (inr ne) = rw (lt-ltb p (suc k) (omega arith), ne_eqb p k ne, lt-ltb p k l) refl
        cases (inr l) (inl e) = rw (lt-ltb p (suc k) (omega arith), eq-eqb p k e) refl
        cases (inr l) (inr ne) = rw (le-ltb p (suc k) (omega arith), ne_eqb p k ne, le-ltb p k l) refl

-- ---- all parts

writes_some : (o : Option Access) (b : ℕ) → is_some (written_by o b) ≡ true → is_write o ≡ true
writes_some None b h = absurd cc
writes_some (Some a) b h = go a.writes refl
  where
    go : (w : Bool) → a.writes ≡ w → a.writes ≡ true
    go true e = e
    go false e =
        let z : written_by (Some a) b ≡ None = ap (λ w. if w && is_in (range_of a) b then Some (byte_of a.number (b - (range_of a).start)) else None) e in
        absurd (let k : false ≡ true = sym (ap is_some z) ∙ h in cc)

pub over_all : (x : Timed Did) → IsShaped x.did → (b v : ℕ) → over (Some x) (needs x.did) b v ≡ or_old (x.did.writes b) v
over_all x h b v = go (x.did.writes b) refl (cases_lt b MEMORY_BYTES)
  where
    go : (o : Option ℕ) → x.did.writes b ≡ o → (b < MEMORY_BYTES) ⊎ (MEMORY_BYTES ≤ b) → over (Some x) (needs x.did) b v ≡ or_old (x.did.writes b) v
    go None e c = rw e refl
    go (Some n) e (inl l) =
        let s : has_store x.did ≡ true = writes_some (access_of x.did.told) b (ap is_some (sym (h.writes b l) ∙ e)) in
        rw (e, lt-ltb b MEMORY_BYTES l, s) (ap (λ c. if c then n else v) (lt-ltb (bit (has_word x.did)) (bit (has_word x.did) + 1) (omega arith)))
    go (Some n) e (inr l) =
        let s : has_word x.did ≡ true = h.has_word b l (ap is_some e) in
        rw (e, le-ltb b MEMORY_BYTES l, s) (ap (λ c. if c then n else v) (lt-ltb 0 (1 + bit (has_store x.did)) (omega arith)))
