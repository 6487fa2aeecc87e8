-- Workers in a list, and the turns that they do.
use Rattle.std.proofs.Common.{◌≡◌, ℕ, zero, suc, ◌+◌, ◌-◌, ◌^◌, ◌<◌, ◌≤◌, ◌⊎◌, inl, inr, List, [], ◌∷◌, length, Bool, true, false, refl, sym, ◌∙◌, ap, subst, arith}
use Rattle.std.specs.Prelude.{◌==◌, min, slice_get, slice_index, slice_index_or, slice_set}
use Rattle.std.proofs.lemmas.Bool.{cases_lt, eq-eqb, eqb-true}
use Rattle.std.proofs.lemmas.List.{get_or-set_other, get_or-set_same, length-set}
use Rattle.std.proofs.lemmas.Option.{slice_get-get_or}
use Rattle.atomic_table.specs.Seated.{TableId}
use Rattle.pg_worker.proofs.of_pg_law_course.CoursePlaces.{get_length}
use Rattle.pg_worker.specs.pg_seats.declared.run.Run.{Run}
use Rattle.pg_worker.specs.declared.worker.Worker.{Worker}
use Rattle.pg_worker.specs.Standing.{IsAt}
use Rattle.pg_worker.proofs.Segments.{paused_later, went_more}
use Rattle.pg_crew.specs.Workers.{AreWorkers, HasGone, HaveGone, counted, done_by, turns_between, turns_of_first, turns_since}

-- ---- elements

-- one that is there is the same for each default
pub default_is : (xs : List Worker) (i : ℕ) (x y : Worker) → i < length xs → slice_index_or xs i x ≡ slice_index_or xs i y
default_is [] i x y lt = absurd (omega (arith, lt))
default_is (z ∷ zs) zero x y lt = refl
default_is (z ∷ zs) (suc i) x y lt = default_is zs i x y (omega (arith, lt))

-- an element is another one, and the others stay
module _ (xs : List Worker) (i : ℕ) (y : Worker) (lt : i < length xs) where
  pub set_each : (P : ℕ → Worker → Type 0) → ((t : ℕ) (d : Worker) → t < length xs → P t (slice_index_or xs t d)) → P i y
      → (t : ℕ) (d : Worker) → t < length xs → P t (slice_index_or (slice_set xs i y) t d)
  set_each P each here t d within = go (t == i) refl
    where
      go : (b : Bool) → (t == i) ≡ b → P t (slice_index_or (slice_set xs i y) t d)
      go true q =
          let same = eqb-true t i q in
          subst (λ (n : ℕ). P n (slice_index_or (slice_set xs i y) n d)) (sym same) (subst (P i) (sym (get_or-set_same xs i y d lt)) here)
      go false q = subst (P t) (sym (get_or-set_other xs i t y d (λ e. (let k : true ≡ false = sym (eq-eqb t i e) ∙ q in absurd cc)))) (each t d within)

-- ---- workers

-- there is one
pub some_worker : (r : Run) (table : TableId) (ws : List Worker) → AreWorkers r table ws → Worker
some_worker r table ws are = (get_length ws 0 are.main).0

-- they are workers again, where each is one of the same thread
pub are_again : (r : Run) (table : TableId) (a b : List Worker) → AreWorkers r table a → length b ≡ length a
    → ((t : ℕ) (d : Worker) → t < length a → IsAt r table 0 (slice_index_or b t d))
    → ((t : ℕ) (d : Worker) → t < length a → (slice_index_or b t d).thread ≡ (slice_index_or a t d).thread) → AreWorkers r table b
are_again r table a b are count at thread = record {
  enforced = are.enforced;
  main = (let m = are.main in omega (arith, m, count));
  few = (let f = are.few in omega (arith, f, count));
  thread = λ t d lt. (let l : t < length a = omega (arith, lt, count) in ap (λ u. u.0) (thread t d l) ∙ are.thread t d l);
  at = λ t d lt. at t d (omega (arith, lt, count));
  owners = λ g t e l. (let k = are.owners g t e l in omega (arith, k, count));
}

pub gone_again : (r : Run) (table : TableId) (a b : List Worker) → AreWorkers r table a → HaveGone r a b
    → ((t : ℕ) (d : Worker) → t < length a → IsAt r table 0 (slice_index_or b t d)) → AreWorkers r table b
gone_again r table a b are gone at = are_again r table a b are gone.count at (λ t d lt. (gone.each t d lt).went.thread)

-- behind one segment more
pub gone_more : (r : Run) (a b c : Worker) → HasGone r a b → HasGone r b c → HasGone r a c
gone_more r a b c h k = record { went = went_more a b c h.went k.went; why = k.why; paused = paused_later r k.why a b c h.went k.paused }

-- ---- one after another

-- of the workers a the first i have gone, and are among b now; the others are as they were
pub record Going (r : Run) (table : TableId) (a b : List Worker) (i : ℕ) : Type 0 where
  pub workers : AreWorkers r table b
  pub count : length b ≡ length a
  pub gone : (t : ℕ) (d : Worker) → t < i → HasGone r (slice_index_or a t d) (slice_index_or b t d)
  pub rest : (t : ℕ) (d : Worker) → i ≤ t → slice_index_or b t d ≡ slice_index_or a t d

pub going_none : (r : Run) (table : TableId) (a : List Worker) → AreWorkers r table a → Going r table a a 0
going_none r table a are = record { workers = are; count = refl; gone = λ t d lt. absurd (omega (arith, lt)); rest = λ t d l. refl }

pub going_all : (r : Run) (table : TableId) (a b : List Worker) (i : ℕ) → Going r table a b i → length b ≤ i → HaveGone r a b
going_all r table a b i h l = record { count = h.count; each = λ t d lt. h.gone t d (let c = h.count in omega (arith, lt, l, c)) }

module _ (r : Run) (table : TableId) (a b : List Worker) (i : ℕ) (h : Going r table a b i) (lt : i < length b) (w d : Worker) (at : IsAt r table 0 w)
    (went : HasGone r (slice_index_or b i d) w) where
  within : i < length a
  within = let c = h.count in omega (arith, c, lt)

  own : (e : Worker) → HasGone r (slice_index_or a i e) w
  own e = subst (λ (v : Worker). HasGone r v w) (default_is b i d e lt ∙ h.rest i e (omega arith)) went

  same_thread : (e : Worker) → w.thread ≡ (slice_index_or b i e).thread
  same_thread e = went.went.thread ∙ ap (λ (v : Worker). v.thread) (default_is b i d e lt)

  pub going_more : Going r table a (slice_set b i w) (i + 1)
  going_more = record {
    workers = are_again r table b (slice_set b i w) h.workers (length-set b i w) (set_each b i w lt (λ n v. IsAt r table 0 v) h.workers.at at)
        (λ t e l. set_each b i w lt (λ n v. v.thread ≡ (slice_index_or b n e).thread) (λ n c k. ap (λ (v : Worker). v.thread) (default_is b n c e k)) (same_thread e) t e l);
    count = length-set b i w ∙ h.count;
    gone = λ t e l. gone_at t e l (t == i) refl;
    rest = λ t e l. get_or-set_other b i t w e (λ q. (omega (arith, q, l))) ∙ h.rest t e (omega (arith, l));
  }
    where
      gone_at : (t : ℕ) (e : Worker) → t < i + 1 → (c : Bool) → (t == i) ≡ c → HasGone r (slice_index_or a t e) (slice_index_or (slice_set b i w) t e)
      gone_at t e l true q =
          let same = eqb-true t i q in
          subst (λ (n : ℕ). HasGone r (slice_index_or a n e) (slice_index_or (slice_set b i w) n e)) (sym same)
          (subst (λ (v : Worker). HasGone r (slice_index_or a i e) v) (sym (get_or-set_same b i w e lt)) (own e))
      gone_at t e l false q =
          let other : t ≡ i → ⊥ = λ k. (let x : true ≡ false = sym (eq-eqb t i k) ∙ q in absurd cc) in
          subst (λ (v : Worker). HasGone r (slice_index_or a t e) v) (sym (get_or-set_other b i t w e other)) (h.gone t e (below other))
        where
          below : (t ≡ i → ⊥) → t < i
          below ne = cases (cases_lt t i)
            where
              cases : (t < i) ⊎ (i ≤ t) → t < i
              cases (inl m) = m
              cases (inr m) = absurd (ne (omega (arith, l, m)))

-- ---- how many turns were done

pub done_of : (ws : List Worker) (t : ℕ) (d : Worker) → t < length ws → done_by (slice_get ws t) ≡ (slice_index_or ws t d).done
done_of ws t d lt = ap done_by (slice_get-get_or ws t d lt)

pub done_more : (r : Run) (a b : List Worker) → HaveGone r a b → (t : ℕ) → t < length a → done_by (slice_get a t) ≤ done_by (slice_get b t)
done_more r a b gone t lt =
    let d = get_length a t lt in
    let count = gone.count in
    let before = done_of a t d.0 lt in
    let now = done_of b t d.0 (omega (arith, lt, count)) in
    let more = (gone.each t d.0 lt).went.done in
    omega (arith, before, now, more)

pub since_is : (n : ℕ) (counts : List ℕ) (before now : List Worker) → ((t : ℕ) → t < n → slice_index counts t ≡ done_by (slice_get before t))
    → turns_since n counts now ≡ turns_of_first n before now
since_is zero counts before now e = refl
since_is (suc n) counts before now e =
    let more = since_is n counts before now (λ t l. e t (omega (arith, l))) in
    let here = e n (omega arith) in
    omega (arith, more, here)

-- what a round adds to a count
module _ (r : Run) (a b : List Worker) (gone : HaveGone r a b) (counts : List ℕ) (e : (t : ℕ) → t < length a → slice_index counts t ≡ done_by (slice_get a t)) where
  pub round_since : (t : ℕ) → t < length b → slice_index counts t ≤ done_by (slice_get b t)
  round_since t lt =
      let c = gone.count in
      let here = e t (omega (arith, lt, c)) in
      let more = done_more r a b gone t (omega (arith, lt, c)) in
      omega (arith, here, more)

  pub round_turns : (count : ℕ) → counted count (turns_since (length b) counts b) ≡ counted count (turns_between a b)
  round_turns count = ap (λ (n : ℕ). counted count (turns_since n counts b)) gone.count ∙ ap (counted count) (since_is (length a) counts a b e)

-- a count that stands still at its greatest value, behind more and more
pub counted_more : (c m n : ℕ) → counted (counted c m) n ≡ counted c (m + n)
counted_more c m n = go (cases_lt (c + m) (2 ^ 64 - 1))
  where
    go : (c + m < 2 ^ 64 - 1) ⊎ (2 ^ 64 - 1 ≤ c + m) → min (min (c + m) (2 ^ 64 - 1) + n) (2 ^ 64 - 1) ≡ min (c + (m + n)) (2 ^ 64 - 1)
    go (inl lt) = omega (arith, lt)
    go (inr le) = omega (arith, le)
