-- The place of a shared step in the plan.
use Rattle.std.proofs.Common.{◌≡◌, ℕ, ℤ, zero, suc, ◌≤◌, ◌<◌, List, [], ◌∷◌, ◌++◌, length, Bool, true, false, cond, Option, Some, None, refl, sym, ◌∙◌, ap, subst, ◌⊎◌, inl, inr}
use Rattle.std.specs.Prelude.{◌==◌, ◌||◌, is_some, take, slice_get}
use Rattle.std.specs.List.{AllByRecursion as AllOf, filter}
use Rattle.std.proofs.lemmas.Bool.{cases_lt}
use Rattle.pg_num.specs.declared.layout.TheConstants.{MEMORY_BYTES}
use Rattle.pg_ir.specs.Program.{NumberedProgram}
use Rattle.pg_law_threads.specs.Effects as plans
use Rattle.pg_law_threads.specs.Effects.{deeds, effect, effects}
use Rattle.pg_law_threads.specs.Intervals.{done_after, timed, times, turns_done}
use Rattle.pg_law_threads.specs.Plans.{is_of_thread}
use Rattle.pg_law_threads.specs.Standing.{own}
use Rattle.pg_run_trace.specs.declared.schedule.Schedule.{Schedule}
use Rattle.pg_run_trace.specs.Races.{writes_in}
use Rattle.pg_run_trace.specs.Steps.{access_of}
use Rattle.pg_run.specs.State.{initial}
use Rattle.pg_law_runs.specs.pg_law_effects.PermittedSteps.{none_taken}
use Rattle.pg_law_runs.specs.Cuts.{CanRun}
use Rattle.pg_law_runs.specs.Deeds.{Did, Seen, owners_of}
use Rattle.pg_law_runs.proofs.ToldCells.{IsTold, each_told}
use Rattle.pg_law_order.specs.Good.{IsGoodRun, run_along}
use Rattle.pg_law_course.specs.Course.{before, cells_before, course, shared_in, turns_before}
use Rattle.pg_law_course.specs.Plan.{first_seen, guided_deeds, is_shared, own_plan, plan_of}
use Rattle.pg_law_course.proofs.CoursePlaces.{place, steps_of, take_all}
use Rattle.pg_law_course.proofs.GuidedPlan.{ordered_full}

-- ---- lists

kept_one : (f : Did → Bool) (c : Did) (ds : List Did) → f c ≡ true → filter f (c ∷ ds) ≡ c ∷ filter f ds
kept_one f c ds e = rw e refl

left_out : (f : Did → Bool) (c : Did) (ds : List Did) → f c ≡ false → filter f (c ∷ ds) ≡ filter f ds
left_out f c ds e = rw e refl

module _ (t : ℕ) (c : Did) where
  before_other : (m : ℕ) (ds : List Did) → (t == c.thread) ≡ false → before t m (c ∷ ds) ≡ c ∷ before t m ds
  before_other zero ds q = rw q refl
  before_other (suc m) ds q = rw q refl

  before_own : (m : ℕ) (ds : List Did) → (t == c.thread) ≡ true → before t (suc m) (c ∷ ds) ≡ c ∷ before t m ds
  before_own m ds q = rw q refl

  before_first : (ds : List Did) → (t == c.thread) ≡ true → before t 0 (c ∷ ds) ≡ []
  before_first ds q = rw q refl

module _ (f : Did → Bool) where
  pub own_filter : (t : ℕ) (ds : List Did) → steps_of t (filter f ds) ≡ filter f (steps_of t ds)
  own_filter t [] = refl
  own_filter t (c ∷ ds) = go (f c) refl (t == c.thread) refl (own_filter t ds)
    where
      go : (a : Bool) → f c ≡ a → (b : Bool) → (t == c.thread) ≡ b → steps_of t (filter f ds) ≡ filter f (steps_of t ds) → steps_of t (filter f (c ∷ ds)) ≡ filter f (steps_of t (c ∷ ds))
      go true e true q ih = ap (steps_of t) (kept_one f c ds e) ∙ kept_one (is_of_thread t) c (filter f ds) q ∙ ap (λ (l : List Did). c ∷ l) ih
          ∙ sym (kept_one f c (steps_of t ds) e) ∙ ap (filter f) (sym (kept_one (is_of_thread t) c ds q))
      go true e false q ih = ap (steps_of t) (kept_one f c ds e) ∙ left_out (is_of_thread t) c (filter f ds) q ∙ ih ∙ ap (filter f) (sym (left_out (is_of_thread t) c ds q))
      go false e true q ih = ap (steps_of t) (left_out f c ds e) ∙ ih ∙ sym (left_out f c (steps_of t ds) e) ∙ ap (filter f) (sym (kept_one (is_of_thread t) c ds q))
      go false e false q ih = ap (steps_of t) (left_out f c ds e) ∙ ih ∙ ap (filter f) (sym (left_out (is_of_thread t) c ds q))

  pub filter_get : (xs : List Did) (k : ℕ) (d : Did) → slice_get xs k ≡ Some d → f d ≡ true → slice_get (filter f xs) (length (filter f (take k xs))) ≡ Some d
  filter_get [] k d e h = absurd cc
  filter_get (x ∷ xs) zero d e h = let q : x ≡ d = cc in ap (λ (l : List Did). slice_get l 0) (kept_one f x xs (ap f q ∙ h)) ∙ ap (λ (y : Did). Some y) q
  filter_get (x ∷ xs) (suc k) d e h = go (f x) refl (filter_get xs k d e h)
    where
      go : (b : Bool) → f x ≡ b → slice_get (filter f xs) (length (filter f (take k xs))) ≡ Some d → slice_get (filter f (x ∷ xs)) (length (filter f (take (suc k) (x ∷ xs)))) ≡ Some d
      go true q ih = ap (λ (l : List Did). slice_get (filter f (x ∷ xs)) (length l)) (kept_one f x (take k xs) q)
          ∙ ap (λ (l : List Did). slice_get l (suc (length (filter f (take k xs))))) (kept_one f x xs q) ∙ ih
      go false q ih = ap (λ (l : List Did). slice_get (filter f (x ∷ xs)) (length l)) (left_out f x (take k xs) q)
          ∙ ap (λ (l : List Did). slice_get l (length (filter f (take k xs)))) (left_out f x xs q) ∙ ih

  abbrev Before : ℕ → ℕ → List Did → Type 0
  Before t k ds = before t (length (filter f (take k (steps_of t ds)))) (filter f ds) ≡ filter f (before t k ds)

  module _ (t : ℕ) (c : Did) (ds : List Did) where
    -- behind the step of another thread
    past : (t == c.thread) ≡ false → (k : ℕ) → (b : Bool) → f c ≡ b → Before t k ds → Before t k (c ∷ ds)
    past q k true v ih =
        ap (λ (l : List Did). before t (length (filter f (take k l))) (filter f (c ∷ ds))) (left_out (is_of_thread t) c ds q)
        ∙ ap (before t (length (filter f (take k (steps_of t ds))))) (kept_one f c ds v)
        ∙ before_other t c (length (filter f (take k (steps_of t ds)))) (filter f ds) q
        ∙ ap (λ (l : List Did). c ∷ l) ih
        ∙ sym (kept_one f c (before t k ds) v)
        ∙ ap (filter f) (sym (before_other t c k ds q))
    past q k false v ih =
        ap (λ (l : List Did). before t (length (filter f (take k l))) (filter f (c ∷ ds))) (left_out (is_of_thread t) c ds q)
        ∙ ap (before t (length (filter f (take k (steps_of t ds))))) (left_out f c ds v)
        ∙ ih
        ∙ sym (left_out f c (before t k ds) v)
        ∙ ap (filter f) (sym (before_other t c k ds q))

    -- behind one of its own
    own_past : (t == c.thread) ≡ true → (k : ℕ) → (b : Bool) → f c ≡ b → Before t k ds → Before t (suc k) (c ∷ ds)
    own_past q k true v ih =
        ap (λ (l : List Did). before t (length (filter f (take (suc k) l))) (filter f (c ∷ ds))) (kept_one (is_of_thread t) c ds q)
        ∙ ap (λ (l : List Did). before t (length l) (filter f (c ∷ ds))) (kept_one f c (take k (steps_of t ds)) v)
        ∙ ap (before t (suc (length (filter f (take k (steps_of t ds)))))) (kept_one f c ds v)
        ∙ before_own t c (length (filter f (take k (steps_of t ds)))) (filter f ds) q
        ∙ ap (λ (l : List Did). c ∷ l) ih
        ∙ sym (kept_one f c (before t k ds) v)
        ∙ ap (filter f) (sym (before_own t c k ds q))
    own_past q k false v ih =
        ap (λ (l : List Did). before t (length (filter f (take (suc k) l))) (filter f (c ∷ ds))) (kept_one (is_of_thread t) c ds q)
        ∙ ap (λ (l : List Did). before t (length l) (filter f (c ∷ ds))) (left_out f c (take k (steps_of t ds)) v)
        ∙ ap (before t (length (filter f (take k (steps_of t ds))))) (left_out f c ds v)
        ∙ ih
        ∙ sym (left_out f c (before t k ds) v)
        ∙ ap (filter f) (sym (before_own t c k ds q))

    own_now : (t == c.thread) ≡ true → f c ≡ true → Before t 0 (c ∷ ds)
    own_now q v = ap (before t 0) (kept_one f c ds v) ∙ before_first t c (filter f ds) q ∙ ap (filter f) (sym (before_first t c ds q))

  -- what is chosen of what stands before a chosen step
  pub before_filter : (t k : ℕ) (ds : List Did) (d : Did) → slice_get (steps_of t ds) k ≡ Some d → f d ≡ true → Before t k ds
  before_filter t k [] d e h = absurd cc
  before_filter t k (c ∷ ds) d e h = go (t == c.thread) refl k e (λ j. before_filter t j ds d)
    where
      go : (b : Bool) → (t == c.thread) ≡ b → (k : ℕ) → slice_get (steps_of t (c ∷ ds)) k ≡ Some d → ((j : ℕ) → slice_get (steps_of t ds) j ≡ Some d → f d ≡ true → Before t j ds)
          → Before t k (c ∷ ds)
      go true q zero e ih =
          let k : Path (Option Did) (Some c) (Some d) = ap (λ (b : Bool). slice_get (cond b (c ∷ steps_of t ds) (steps_of t ds)) 0) (sym q) ∙ e in
          let same : c ≡ d = cc in
          own_now t c ds q (ap f same ∙ h)
      go true q (suc k) e ih = own_past t c ds q k (f c) refl (ih k (ap (λ (b : Bool). slice_get (cond b (c ∷ steps_of t ds) (steps_of t ds)) (suc k)) (sym q) ∙ e) h)
      go false q k e ih = past t c ds q k (f c) refl (ih k (ap (λ (b : Bool). slice_get (cond b (c ∷ steps_of t ds) (steps_of t ds)) k) (sym q) ∙ e) h)

  -- where all events are chosen, as many turns are done
  pub turns_filter : ((d : Did) → deeds.is_event d ≡ true → f d ≡ true) → (g : ℕ) (ds : List Did) → turns_done deeds g (filter f ds) ≡ turns_done deeds g ds
  turns_filter h g [] = refl
  turns_filter h g (c ∷ ds) = go (f c) refl (deeds.is_event c) refl (turns_filter h (done_after (deeds.is_event c) g) ds)
    where
      go : (b : Bool) → f c ≡ b → (e : Bool) → deeds.is_event c ≡ e → turns_done deeds (done_after (deeds.is_event c) g) (filter f ds) ≡ turns_done deeds (done_after (deeds.is_event c) g) ds
          → turns_done deeds g (filter f (c ∷ ds)) ≡ turns_done deeds (done_after (deeds.is_event c) g) ds
      go true q e v ih = rw q ih
      go false q true v ih = absurd (let k : true ≡ false = sym (h c v) ∙ q in cc)
      go false q false v ih = rw q (ap (λ (b : Bool). turns_done deeds (done_after b g) (filter f ds)) (sym v) ∙ ih)

-- a thread's steps with their intervals
pub own_timed : (t : ℕ) (T : List ℕ) (g m : ℕ) (ds : List Did) (d : Did) → slice_get (steps_of t ds) m ≡ Some d
    → slice_get (own t (times deeds T g ds)) m ≡ Some (timed deeds T (turns_done deeds g (before t m ds)) d)
own_timed t T g m [] d e = absurd cc
own_timed t T g m (c ∷ ds) d e = go (t == c.thread) refl m e (λ j. own_timed t T (done_after (deeds.is_event c) g) j ds d)
  where
    go : (b : Bool) → (t == c.thread) ≡ b → (m : ℕ) → slice_get (steps_of t (c ∷ ds)) m ≡ Some d
        → ((j : ℕ) → slice_get (steps_of t ds) j ≡ Some d
        → slice_get (own t (times deeds T (done_after (deeds.is_event c) g) ds)) j ≡ Some (timed deeds T (turns_done deeds (done_after (deeds.is_event c) g) (before t j ds)) d))
        → slice_get (own t (times deeds T g (c ∷ ds))) m ≡ Some (timed deeds T (turns_done deeds g (before t m (c ∷ ds))) d)
    go true q zero e ih =
        let k : Path (Option Did) (Some c) (Some d) = ap (λ (b : Bool). slice_get (cond b (c ∷ steps_of t ds) (steps_of t ds)) 0) (sym q) ∙ e in
        let same : c ≡ d = cc in
        rw q (ap (λ (y : Did). Some (timed deeds T g y)) same)
    go true q (suc m) e ih = rw q (ih m (ap (λ (b : Bool). slice_get (cond b (c ∷ steps_of t ds) (steps_of t ds)) (suc m)) (sym q) ∙ e))
    go false q zero e ih = rw q (ih 0 (ap (λ (b : Bool). slice_get (cond b (c ∷ steps_of t ds) (steps_of t ds)) 0) (sym q) ∙ e))
    go false q (suc m) e ih = rw q (ih (suc m) (ap (λ (b : Bool). slice_get (cond b (c ∷ steps_of t ds) (steps_of t ds)) (suc m)) (sym q) ∙ e))

pub own_length : (t : ℕ) (T : List ℕ) (g : ℕ) (ds : List Did) → length (own t (times deeds T g ds)) ≡ length (steps_of t ds)
own_length t T g [] = refl
own_length t T g (c ∷ ds) = go (t == c.thread) refl (own_length t T (done_after (deeds.is_event c) g) ds)
  where
    go : (b : Bool) → (t == c.thread) ≡ b → length (own t (times deeds T (done_after (deeds.is_event c) g) ds)) ≡ length (steps_of t ds)
        → length (own t (times deeds T g (c ∷ ds))) ≡ length (steps_of t (c ∷ ds))
    go true q ih = rw q (ap suc ih)
    go false q ih = rw q ih

-- ---- cells

-- a step that isn't shared writes no cell
abbrev IsQuiet : Did → Type 0
IsQuiet d = is_shared d ≡ false → (c : ℕ) → is_some (d.writes c) ≡ false

not_event : (a b : Bool) → (a || b) ≡ false → a ≡ false
not_event true b e = absurd cc
not_event false b e = refl

not_access : (a b : Bool) → (a || b) ≡ false → b ≡ false
not_access true b e = absurd cc
not_access false b e = e

no_write : (o : Option Rattle.pg_run_trace.specs.declared.step.Access.Access) (c : ℕ) → is_some o ≡ false → writes_in o c ≡ false
no_write None c e = refl
no_write (Some a) c e = absurd cc

is_false : (b : Bool) → (b ≡ true → ⊥) → b ≡ false
is_false true h = absurd (h refl)
is_false false h = refl

quiet_by : (d : Did) → IsTold d.told d → IsQuiet d
quiet_by d h e c = go (cases_lt c MEMORY_BYTES)
  where
    event : deeds.is_event d ≡ false
    event = not_event (deeds.is_event d) (is_some (access_of d.told)) e

    go : (c < MEMORY_BYTES) ⊎ (MEMORY_BYTES ≤ c) → is_some (d.writes c) ≡ false
    go (inl l) = h.writes c l ∙ no_write (access_of d.told) c (not_access (deeds.is_event d) (is_some (access_of d.told)) e)
    go (inr l) = is_false (is_some (d.writes c)) (λ w. let k : true ≡ false = sym (h.word_written c l w) ∙ event in cc)

all_quiet : (ds : List Did) → AllOf (λ d. IsTold d.told d) ds → AllOf IsQuiet ds
all_quiet [] h = tt
all_quiet (d ∷ ds) h = (quiet_by d h.0, all_quiet ds h.1)

kept_cell : (o : Option ℕ) (n : ℕ) → is_some o ≡ false → plans.or_old o n ≡ n
kept_cell None n e = refl
kept_cell (Some m) n e = absurd cc

shared_cells : (s z : Seen) (ds : List Did) (c : ℕ) → AllOf IsQuiet ds → s.cells c ≡ z.cells c → (effects s (filter is_shared ds)).cells c ≡ (effects z ds).cells c
shared_cells s z [] c h e = e
shared_cells s z (d ∷ ds) c h e = go (is_shared d) refl (λ a b k. shared_cells a b ds c h.1 k)
  where
    go : (b : Bool) → is_shared d ≡ b → ((a b : Seen) → a.cells c ≡ b.cells c → (effects a (filter is_shared ds)).cells c ≡ (effects b ds).cells c)
        → (effects s (filter is_shared (d ∷ ds))).cells c ≡ (effects (effect z d) ds).cells c
    go true q more = ap (λ (l : List Did). (effects s l).cells c) (kept_one is_shared d ds q) ∙ more (effect s d) (effect z d) (ap (plans.or_old (d.writes c)) e)
    go false q more = ap (λ (l : List Did). (effects s l).cells c) (left_out is_shared d ds q) ∙ more s (effect z d) (e ∙ sym (kept_cell (d.writes c) (z.cells c) (h.0 q c)))

-- ---- the plan

shared_event : (d : Did) → deeds.is_event d ≡ true → is_shared d ≡ true
shared_event d e = rw e refl

all_front : (P : Did → Type 0) (xs ys : List Did) → AllOf P (xs ++ ys) → AllOf P xs
all_front P [] ys h = tt
all_front P (x ∷ xs) ys h = (h.0, all_front P xs ys h.1)

module _ (p : NumberedProgram) (input : List ℤ) (s : Schedule) (can : CanRun p input) (g : IsGoodRun p input s) where
  quiet : AllOf IsQuiet (guided_deeds p input s)
  unfolding guided_deeds
  quiet = all_quiet (guided_deeds p input s)
      (each_told s.gated p input (initial p) none_taken (run_along p input s).trace (run_along p input s).state (ordered_full p input s can g).permitted.run)

  module _ (t k : ℕ) (d : Did) (there : slice_get (course p input s t) k ≡ Some d) (chosen : is_shared d ≡ true) where
    pub before_plan : before t (shared_in p input s t k) (plan_of p input s) ≡ filter is_shared (before t k (guided_deeds p input s))
    unfolding plan_of
    before_plan = before_filter is_shared t k (guided_deeds p input s) d there chosen

    own_shared : slice_get (steps_of t (plan_of p input s)) (shared_in p input s t k) ≡ Some d
    unfolding plan_of
    own_shared = ap (λ (l : List Did). slice_get l (shared_in p input s t k)) (own_filter is_shared t (guided_deeds p input s)) ∙ filter_get is_shared (course p input s t) k d there chosen

    turns_same : turns_done deeds 0 (before t (shared_in p input s t k) (plan_of p input s)) ≡ turns_before p input s t k
    turns_same = ap (turns_done deeds 0) before_plan ∙ turns_filter is_shared shared_event 0 (before t k (guided_deeds p input s))

    pub shared_place : slice_get (own_plan p input s t) (shared_in p input s t k) ≡ Some (timed deeds (owners_of s.turns) (turns_before p input s t k) d)
    shared_place = own_timed t (owners_of s.turns) 0 (shared_in p input s t k) (plan_of p input s) d own_shared
        ∙ ap (λ (n : ℕ). Some (timed deeds (owners_of s.turns) n d)) turns_same

    pub same_cells : (c : ℕ) → (effects (first_seen p) (before t (shared_in p input s t k) (plan_of p input s))).cells c ≡ cells_before p input s t k c
    same_cells c = ap (λ (l : List Did). (effects (first_seen p) l).cells c) before_plan
        ∙ shared_cells (first_seen p) (first_seen p) (before t k (guided_deeds p input s)) c
        (all_front IsQuiet (before t k (guided_deeds p input s)) (d ∷ at.rest) (subst (AllOf IsQuiet) at.split quiet)) refl
      where
        at : Rattle.pg_law_course.proofs.CoursePlaces.Place t k (guided_deeds p input s) d
        at = place t k (guided_deeds p input s) d there

  -- a thread whose steps are all done has no shared step left
  pub shared_end : (t : ℕ) → length (own_plan p input s t) ≡ shared_in p input s t (length (course p input s t))
  unfolding plan_of
  shared_end t = own_length t (owners_of s.turns) 0 (plan_of p input s) ∙ ap (λ (l : List Did). length l) (own_filter is_shared t (guided_deeds p input s))
      ∙ ap (λ (l : List Did). length (filter is_shared l)) (sym (take_all (course p input s t)))

  pub plan_cells : (c : ℕ) → (effects (first_seen p) (plan_of p input s)).cells c ≡ (effects (first_seen p) (guided_deeds p input s)).cells c
  unfolding plan_of
  plan_cells c = shared_cells (first_seen p) (first_seen p) (guided_deeds p input s) c quiet refl
