-- Steps that fall into ordered moves are ordered, and have the events of the moves.
use Rattle.std.proofs.Common.{◌≡◌, ℕ, ◌⊎◌, ◌||◌, ◌&&◌, ◌++◌, Bool, true, false, cond, List, [], ◌∷◌, map, refl, sym, ap, ◌∙◌, subst, inl, inr}
use Rattle.std.specs.Prelude.{filter, is_some}
use Rattle.std.specs.List.{AllByRecursion as AllOf}
use Rattle.std.proofs.lemmas.Bool.{and_from, and_parts, or_cases, or_left, or_right}
use Rattle.pg_law_threads.specs.Effects.{deeds}
use Rattle.pg_law_threads.specs.Intervals.{AreOrdered, IsOrdered, Timed, done_after, last_before, next_from, timed, times}
use Rattle.pg_law_threads.specs.Steps.{Conflict, EachPair}
use Rattle.pg_law_threads.proofs.DoneLists.{all_join, all_map}
use Rattle.pg_run_trace.specs.declared.step.Step.{Step}
use Rattle.pg_run_trace.specs.Races.{recorded}
use Rattle.pg_law_plan.specs.pg_law_runs.Answered.{Answered, answered, answers}
use Rattle.pg_law_plan.specs.Moves.{RunDeed}
use Rattle.pg_law_plan.proofs.SameReplies.{run_answer}
use Rattle.pg_law_admitted.specs.Falls.{BeginWithMove, FallInto, IsStepOf}

-- ---- conflicts

touch_up : (r w r' w' : Bool) → (r ≡ true → r' ≡ true) → (w ≡ true → w' ≡ true) → (r || w) ≡ true → (r' || w') ≡ true
touch_up r w r' w' f g h = go (or_cases r w h)
  where
    go : (r ≡ true) ⊎ (w ≡ true) → (r' || w') ≡ true
    go (inl k) = or_left r' w' (f k)
    go (inr k) = or_right r' w' (g k)

meet_up : (w r v q w' r' v' q' : Bool) → (w ≡ true → w' ≡ true) → (r ≡ true → r' ≡ true) → (v ≡ true → v' ≡ true) → (q ≡ true → q' ≡ true)
    → ((w && (q || v)) || ((r || w) && v)) ≡ true → ((w' && (q' || v')) || ((r' || w') && v')) ≡ true
meet_up w r v q w' r' v' q' fw fr fv fq h = go (or_cases (w && (q || v)) ((r || w) && v) h)
  where
    go : ((w && (q || v)) ≡ true) ⊎ (((r || w) && v) ≡ true) → ((w' && (q' || v')) || ((r' || w') && v')) ≡ true
    go (inl k) = let a = and_parts w (q || v) k in or_left (w' && (q' || v')) ((r' || w') && v') (and_from w' (q' || v') (fw a.0) (touch_up q v q' v' fq fv a.1))
    go (inr k) = let a = and_parts (r || w) v k in or_right (w' && (q' || v')) ((r' || w') && v') (and_from (r' || w') v' (touch_up r w r' w' fr fw a.0) (fv a.1))

-- a step of a move, with the move's interval
record IsIn (e : Timed RunDeed) (x : Timed Step) : Type 0 where
  steps : IsStepOf e.did x.did
  low : x.low ≡ e.low
  high : x.high ≡ e.high

conflict_up : (e f : Timed RunDeed) (x y : Timed Step) → IsIn e x → IsIn f y → Conflict recorded x.did y.did → Conflict deeds e.did f.did
conflict_up e f x y h k c = record {
  threads = λ q. c.threads (h.steps.thread ∙ q ∙ sym k.steps.thread);
  cell = c.cell;
  meet = meet_up (recorded.writes x.did c.cell) (recorded.reads x.did c.cell) (recorded.writes y.did c.cell) (recorded.reads y.did c.cell) (is_some (e.did.writes c.cell)) (e.did.reads c.cell)
      (is_some (f.did.writes c.cell)) (f.did.reads c.cell)
      (h.steps.writes c.cell) (h.steps.reads c.cell) (k.steps.writes c.cell) (k.steps.reads c.cell) c.meet;
}

abbrev MovesAt : Timed RunDeed → Timed RunDeed → Type 0
MovesAt e f = Conflict deeds e.did f.did → AreOrdered e f

abbrev StepsAt : Timed Step → Timed Step → Type 0
StepsAt x y = Conflict recorded x.did y.did → AreOrdered x y

ordered_in : (e f : Timed RunDeed) (x y : Timed Step) → IsIn e x → IsIn f y → MovesAt e f → StepsAt x y
ordered_in e f x y h k o c = rw (h.low, h.high, k.low, k.high) (o (conflict_up e f x y h k c))

-- ---- times

abbrev IsInOne : List (Timed RunDeed) → Timed Step → Type 0
IsInOne [] x = ⊥
IsInOne (e ∷ es) x = IsIn e x ⊎ IsInOne es x

apart_in : (e : Timed RunDeed) (es : List (Timed RunDeed)) (x y : Timed Step) → IsIn e x → AllOf (MovesAt e) es → IsInOne es y → StepsAt x y
apart_in e [] x y h a k = absurd k
apart_in e (f ∷ es) x y h a (inl k) = ordered_in e f x y h k a.0
apart_in e (f ∷ es) x y h a (inr k) = apart_in e es x y h a.1 k

pairs_join : {A : Type 0} (R : A → A → Type 0) (xs ys : List A) → EachPair R xs → EachPair R ys → AllOf (λ (x : A). AllOf (R x) ys) xs → EachPair R (xs ++ ys)
pairs_join R [] ys h k a = k
pairs_join R (x ∷ xs) ys h k a = (all_join (R x) xs ys h.0 a.0, pairs_join R xs ys h.1 k a.1)

-- steps of one move are of one thread
one_thread : (e : Timed RunDeed) (xs : List (Timed Step)) → AllOf (IsIn e) xs → EachPair StepsAt xs
one_thread e [] h = tt
one_thread e (x ∷ xs) h = (all_map (λ y k c. absurd (c.threads (h.0.steps.thread ∙ sym k.steps.thread))) xs h.1, one_thread e xs h.1)

module _ (T : List ℕ) where
  -- steps that are no events stand at one number of turns
  quiet_times : (k : ℕ) (xs ys : List Step) → AllOf (λ (x : Step). recorded.is_event x ≡ false) xs → times recorded T k (xs ++ ys) ≡ times recorded T k xs ++ times recorded T k ys
  quiet_times k [] ys h = refl
  quiet_times k (x ∷ xs) ys h =
      ap (λ (b : Bool). timed recorded T k x ∷ times recorded T (done_after b k) (xs ++ ys)) h.0
      ∙ ap (λ (l : List (Timed Step)). timed recorded T k x ∷ l) (quiet_times k xs ys h.1)
      ∙ ap (λ (b : Bool). timed recorded T k x ∷ (times recorded T (done_after b k) xs ++ times recorded T k ys)) (sym h.0)

  is_in : (k : ℕ) (e : RunDeed) (x : Step) → IsStepOf e x → recorded.is_event x ≡ deeds.is_event e → IsIn (timed deeds T k e) (timed recorded T k x)
  is_in k e x h v = record {
    steps = h;
    low = ap (λ (b : Bool). last_before x.thread.0 T (done_after b k)) v ∙ ap (λ (t : ℕ). last_before t T (done_after (deeds.is_event e) k)) h.thread;
    high = ap (λ (t : ℕ). next_from t T k) h.thread;
  }

  all_in : (k : ℕ) (e : RunDeed) (xs : List Step) → deeds.is_event e ≡ false → AllOf (IsStepOf e) xs → AllOf (λ (x : Step). recorded.is_event x ≡ false) xs
      → AllOf (IsIn (timed deeds T k e)) (times recorded T k xs)
  all_in k e [] v h q = tt
  all_in k e (x ∷ xs) v h q = (is_in k e x h.0 (q.0 ∙ sym v), subst (λ (b : Bool). AllOf (IsIn (timed deeds T k e)) (times recorded T (done_after b k) xs)) (sym q.0) (all_in k e xs v h.1 q.1))

  -- the steps of a move, and those behind it
  record Group (k : ℕ) (e : RunDeed) (xs rest : List Step) : Type 0 where
    own : List (Timed Step)
    parts : times recorded T k xs ≡ own ++ times recorded T (done_after (deeds.is_event e) k) rest
    inside : AllOf (IsIn (timed deeds T k e)) own

  group : (k : ℕ) (e : RunDeed) (xs : List Step) (b : BeginWithMove e xs) → Group k e xs b.rest
  group k e xs b = go (deeds.is_event e) refl
    where
      go : (v : Bool) → deeds.is_event e ≡ v → Group k e xs b.rest
      go true v = record {
        own = timed recorded T k b.first ∷ [];
        parts = ap (times recorded T k) (b.whole ∙ ap (λ (l : List Step). b.first ∷ (l ++ b.rest)) (b.single v))
            ∙ ap (λ (c : Bool). timed recorded T k b.first ∷ times recorded T (done_after c k) b.rest) b.event;
        inside = (is_in k e b.first b.steps.0 b.event, tt);
      }
      go false v = record {
        own = times recorded T k (b.first ∷ b.inner);
        parts = ap (times recorded T k) b.whole ∙ quiet_times k (b.first ∷ b.inner) b.rest (b.event ∙ v, b.plain)
            ∙ ap (λ (c : Bool). times recorded T k (b.first ∷ b.inner) ++ times recorded T (done_after c k) b.rest) (sym v);
        inside = all_in k e (b.first ∷ b.inner) v b.steps (b.event ∙ v, b.plain);
      }

  steps_in : (k : ℕ) (xs : List Step) (es : List RunDeed) → FallInto xs es → AllOf (IsInOne (times deeds T k es)) (times recorded T k xs)
  steps_in k xs [] h = subst (λ (l : List Step). AllOf (IsInOne []) (times recorded T k l)) (sym h) tt
  steps_in k xs (e ∷ es) h =
      let q = group k e xs h.0 in
      let j = done_after (deeds.is_event e) k in
      subst (AllOf (IsInOne (timed deeds T k e ∷ times deeds T j es))) (sym q.parts)
      (all_join (IsInOne (timed deeds T k e ∷ times deeds T j es)) q.own (times recorded T j h.0.rest) (all_map (λ x w. inl w) q.own q.inside)
      (all_map (λ x w. inr w) (times recorded T j h.0.rest) (steps_in j h.0.rest es h.1)))

  steps_ordered : (k : ℕ) (xs : List Step) (es : List RunDeed) → FallInto xs es → EachPair MovesAt (times deeds T k es) → EachPair StepsAt (times recorded T k xs)
  steps_ordered k xs [] h o = subst (λ (l : List Step). EachPair StepsAt (times recorded T k l)) (sym h) tt
  steps_ordered k xs (e ∷ es) h o =
      let q = group k e xs h.0 in
      let j = done_after (deeds.is_event e) k in
      let rest = times recorded T j h.0.rest in
      subst (EachPair StepsAt) (sym q.parts)
      (pairs_join StepsAt q.own rest (one_thread (timed deeds T k e) q.own q.inside) (steps_ordered j h.0.rest es h.1 o.1)
      (all_map (λ x w. all_map (λ y v. apart_in (timed deeds T k e) (times deeds T j es) x y w o.0 v) rest (steps_in j h.0.rest es h.1)) q.own q.inside))

  pub falls_ordered : (xs : List Step) (es : List RunDeed) → FallInto xs es → IsOrdered deeds T es → IsOrdered recorded T xs
  falls_ordered xs es h o = steps_ordered 0 xs es h o

-- ---- events

quiet_answers : (xs ys : List Step) → AllOf (λ (x : Step). recorded.is_event x ≡ false) xs → answers (xs ++ ys) ≡ answers ys
quiet_answers [] ys h = refl
quiet_answers (x ∷ xs) ys h = ap (λ (b : Bool). map answered (cond b (x ∷ filter recorded.is_event (xs ++ ys)) (filter recorded.is_event (xs ++ ys)))) h.0 ∙ quiet_answers xs ys h.1

pub falls_answers : (xs : List Step) (es : List RunDeed) → FallInto xs es → map run_answer (filter deeds.is_event es) ≡ answers xs
falls_answers xs [] h = sym (ap answers h)
falls_answers xs (e ∷ es) h = go (deeds.is_event e) refl (falls_answers h.0.rest es h.1)
  where
    go : (v : Bool) → deeds.is_event e ≡ v → map run_answer (filter deeds.is_event es) ≡ answers h.0.rest → map run_answer (filter deeds.is_event (e ∷ es)) ≡ answers xs
    go true v ih =
        ap (λ (b : Bool). map run_answer (cond b (e ∷ filter deeds.is_event es) (filter deeds.is_event es))) v
        ∙ ap (λ (x : Step). answered x ∷ map run_answer (filter deeds.is_event es)) h.0.told ∙ ap (λ (l : List Answered). answered h.0.first ∷ l) ih
        ∙ ap (λ (b : Bool). map answered (cond b (h.0.first ∷ filter recorded.is_event h.0.rest) (filter recorded.is_event h.0.rest))) (sym (h.0.event ∙ v))
        ∙ ap (λ (l : List Step). answers (h.0.first ∷ (l ++ h.0.rest))) (sym (h.0.single v)) ∙ sym (ap answers h.0.whole)
    go false v ih =
        ap (λ (b : Bool). map run_answer (cond b (e ∷ filter deeds.is_event es) (filter deeds.is_event es))) v ∙ ih
        ∙ sym (quiet_answers (h.0.first ∷ h.0.inner) h.0.rest (h.0.event ∙ v, h.0.plain)) ∙ sym (ap answers h.0.whole)
