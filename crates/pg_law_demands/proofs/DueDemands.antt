-- What is due before each step.
use Rattle.std.proofs.Common.{◌≡◌, ℕ, zero, suc, ◌+◌, ◌<◌, ◌≤◌, true, List, [], ◌∷◌, length, take, Some, None, subst, arith}
use Rattle.std.specs.Prelude.{Contains, slice_get}
use Rattle.std.specs.List.{AllByRecursion}
use Rattle.pg_law_least.specs.pg_slice_rules.declared.decision.Decision.{Decision}
use Rattle.pg_law_least.specs.pg_slice_rules.Moments.{Moment}
use Rattle.pg_law_least.specs.pg_slice_rules.SymbolicValues.{Symbolic}
use Rattle.pg_law_least.specs.pg_slice_rules.Known.{Reference, SymbolicState, Seen, Taken, after_step, has, seen_from, start_of}
use Rattle.pg_law_least.specs.pg_slice_rules.Closed.{AreWithin, IsClosed}
use Rattle.pg_law_least.specs.Keeps.{ExtentsKeep, every, steps_of}
use Rattle.pg_region_paths.proofs.Elements.{here, there}
use Rattle.pg_law_least.proofs.KeptLikeness.{IsLink}
use Rattle.pg_law_least.proofs.LikeValues.{Likes, likes_link}
use Rattle.pg_law_least.proofs.AskedDecisions.{all_in}
use Rattle.pg_law_least.proofs.ClosedDecisions.{in_every}
use Rattle.pg_law_least.proofs.AlikeKnowledge.{start_like}
use Rattle.pg_law_least.proofs.AlikeAlongRuns.{step_like}
use Rattle.pg_law_demands.specs.Cells.{Demand, IsMet}
use Rattle.pg_law_demands.specs.Back.{Asked}
use Rattle.pg_law_demands.specs.Demands.{and_those, before_step, demanded}
use Rattle.pg_law_demands.specs.Along.{AreDue, known_at, known_from}
use Rattle.pg_law_demands.proofs.DemandsBack.{Asks}
use Rattle.pg_law_demands.proofs.StepBack.{IsRun}
use Rattle.pg_law_demands.proofs.WalkBack.{Closes, closes, demands_above, step_met, those_within}

all_where : {A : Type 0} (P : A → Type 0) (xs : List A) → ((x : A) → Contains xs x → P x) → AllByRecursion P xs
all_where P [] h = tt
all_where P (x ∷ xs) h = (h x (here x xs), all_where P xs (λ z c. h z (there x xs z c)))

module _ (R : Reference) (keeps : ExtentsKeep R) (d e : Taken) (within : AreWithin d e) (bound : ℕ) (L : Symbolic → Symbolic → Type 0) (link : IsLink e every bound L) where
  due_from : (i n : ℕ) (s u : SymbolicState) (ms : List Moment) → n + length ms ≤ bound → IsRun R keeps e bound L link s u →
      ((z : Seen) → Contains (seen_from R every n u ms) z → Contains (steps_of R) z) → ((z : Seen) → Contains (seen_from R e n s ms) z → Closes R e z) → (y : Seen) (a : Asked) →
      slice_get (seen_from R every n u ms) i ≡ Some y → Asks e (known_from R e n s (take (suc i) ms)) a → Asks e (known_from R e n s (take i ms)) (before_step R d y a)
  unfolding seen_from known_from
  due_from i n s u [] l like c k y a q h = let z : None ≡ Some y = q in absurd (cc)
  due_from zero n s u (m ∷ ms) l like c k y a q h =
      let in_run = c _ (here _ (seen_from R every (suc n) (after_step R every n m u) ms)) in
      let closed = k _ (here _ (seen_from R e (suc n) (after_step R e n m s) ms)) in
      subst (λ (y : Seen). Asks e s (before_step R d y a)) (one _ y q) (step_met R keeps d e within bound L link n m s u like in_run closed a h)
    where
      one : (x z : Seen) → Some x ≡ Some z → x ≡ z
      one x z q = cc
  due_from (suc i) n s u (m ∷ ms) l like c k y a q h =
      let below : n < bound = omega (arith, l) in
      let in_run = c _ (here _ (seen_from R every (suc n) (after_step R every n m u) ms)) in
      due_from i (suc n) (after_step R e n m s) (after_step R every n m u) ms (omega (arith, l)) (step_like R keeps e every bound L link n below m s u u like in_run)
      (λ z q. c z (there _ (seen_from R every (suc n) (after_step R every n m u) ms) z q))
      (λ z q. k z (there _ (seen_from R e (suc n) (after_step R e n m s) ms) z q)) y a q h

pub due_before : (R : Reference) → ExtentsKeep R → (d : Taken) (n : ℕ) (y : Seen) (a : Asked) → slice_get (steps_of R) n ≡ Some y → AreDue R d (suc n) a →
    AreDue R d n (before_step R d y a)
due_before R keeps d n y a q h e closed within =
    let link = likes_link e every (length R.moments) (λ x h. in_every x) in
    due_from R keeps d e within (length R.moments) (Likes every) link n 0 (start_of R.program) (start_of R.program) R.moments (omega arith)
    (start_like R keeps e every (length R.moments) (Likes every) link) (λ z c. c) (λ z c. closes R e closed z c) y a q (h e closed within)

pub some_due : (R : Reference) (d : Taken) (n : ℕ) (a b : Asked) → ((q : Demand) → Contains b.demands q → Contains a.demands q) →
    ((x : Decision) → Contains b.decisions x → Contains a.decisions x) → AreDue R d n a → AreDue R d n b
some_due R d n a b f g h e closed within =
    let k = h e closed within in (
      all_where (IsMet (known_at R e n)) b.demands (λ q c. all_in (IsMet (known_at R e n)) a.demands q k.0 (f q c)),
      all_where (λ (x : Decision). has e x ≡ true) b.decisions (λ x c. all_in (λ (x : Decision). has e x ≡ true) a.decisions x k.1 (g x c)),
    )

pub more_due : (R : Reference) (d : Taken) (n : ℕ) (a b : Asked) → AreDue R d n a → AreDue R (and_those d a.decisions) n b → AreDue R d n b
more_due R d n a b h k e closed within = k e closed (those_within d e a.decisions within (h e closed within).1)

pub demanded_within : (R : Reference) → ExtentsKeep R → (d e : Taken) → IsClosed R e → AreWithin d e → AreWithin (and_those d (demanded R d)) e
demanded_within R keeps d e closed within =
    those_within d e (demanded R d) within (all_where (λ (x : Decision). has e x ≡ true) (demanded R d) (λ x c. demands_above R keeps d e closed within x c))
