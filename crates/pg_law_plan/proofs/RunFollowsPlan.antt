-- A run on an admitted input follows the plan of a reference run without instances.
use Rattle.std.proofs.Common.{◌≡◌, ℕ, ℤ, ◌<◌, ◌^◌, true, false, List, [], ◌∷◌, ◌++◌, length, map, refl, sym, ap, ◌∙◌, subst, inl}
use Rattle.std.specs.List.{AllByRecursion as AllOf}
use Rattle.pg_law_threads.specs.Effects.{deeds, effects}
use Rattle.pg_law_threads.specs.Intervals.{turns_done, times}
use Rattle.pg_law_threads.specs.Plans.{Alike, Fits, Moves, Obeys}
use Rattle.pg_law_threads.proofs.PlanLaw.{Stands, follows_plan}
use Rattle.pg_law_threads.proofs.DoneLists.{cons_head, cons_tail}
use Rattle.pg_run_trace.specs.declared.turn.Turn.{Turn}
use Rattle.pg_law_runs.specs.Deeds.{owners_of}
use Rattle.pg_slice_rules.specs.Closed.{IsClosed, admits}
use Rattle.pg_slice_rules.specs.Known.{Taken}
use Rattle.pg_slice_rules.specs.Moments.{thread_in}
use Rattle.pg_law_plan.specs.Fits.{PlanRemembers, StartsAreFresh}
use Rattle.pg_law_plan.specs.Likes.{IsCellLike, IsThreadLike, like}
use Rattle.pg_law_plan.specs.Lists.{Has}
use Rattle.pg_law_plan.specs.Moves.{IsMove, RunDeed, RunState, moved}
use Rattle.pg_law_plan.specs.Order.{IsOrderedRun}
use Rattle.pg_law_plan.specs.Units.{ExtentsArePlain, PlanDeed, PlanUnit, ReferenceRun, deed_of, is_instance, plan_of, plan_start, reads_cell, reference_of, turns_of, units_of}
use Rattle.pg_law_plan.proofs.ListMembers.{all_has, has_right}
use Rattle.pg_law_plan.proofs.UnitsArePlan.{is_plan}
use Rattle.pg_law_plan.proofs.UnitSteps.{fits_at, kind_at, none_left, turn_at_move}

-- a list of images, cut at a place
pub record Split {A B : Type 0} (f : A → B) (us : List A) (xs : List B) (p : B) : Type 0 where
  pub before : List A
  pub at : A
  pub after : List A
  pub is : us ≡ before ++ at ∷ after
  pub images : map f before ≡ xs
  pub image : f at ≡ p

pub split : {A B : Type 0} (f : A → B) (us : List A) (xs : List B) (p : B) (ys : List B) → map f us ≡ xs ++ p ∷ ys → Split f us xs p
split f [] [] p ys e = absurd cc
split f [] (x ∷ xs) p ys e = absurd cc
split f (u ∷ us) [] p ys e = record { before = []; at = u; after = us; is = refl; images = refl; image = cons_head e }
split f (u ∷ us) (x ∷ xs) p ys e =
    let k = split f us xs p ys (cons_tail e) in
    record { before = u ∷ k.before; at = k.at; after = k.after; is = ap (λ l. u ∷ l) k.is; images = ap (λ l. f u ∷ l) k.images ∙ ap (λ y. y ∷ xs) (cons_head e); image = k.image }

-- what holds of each move at a unit holds of it at the unit's deed in the plan
module _ (r : ReferenceRun) (d : Taken) (input : List ℤ) (Any : RunState → ℕ → RunDeed → Type 0) where
  pub kind_over :
      ((us : List PlanUnit) (u : PlanUnit) (vs : List PlanUnit) → units_of r d ≡ us ++ u ∷ vs → (s : RunState) (g : ℕ) (m : RunDeed) → Any s g m
      → m.thread ≡ thread_in u.seen.moment →
      IsThreadLike input ((effects (plan_start r) (map (deed_of d) us)).locals (thread_in u.seen.moment)) (s.locals (thread_in u.seen.moment))
      → deeds.is_event m ≡ deeds.is_event (deed_of d u)) →
      (xs : List PlanDeed) (p : PlanDeed) (ys : List PlanDeed) → plan_of r d ≡ xs ++ p ∷ ys → (s : RunState) (g : ℕ) (m : RunDeed) → Any s g m → m.thread ≡ p.thread →
      IsThreadLike input ((effects (plan_start r) xs).locals p.thread) (s.locals p.thread) → deeds.is_event m ≡ deeds.is_event p
  kind_over kind xs p ys e s g m moved mine l =
      let k = split (deed_of d) (units_of r d) xs p ys e in
      let l' = subst (λ (q : PlanDeed). IsThreadLike input ((effects (plan_start r) xs).locals q.thread) (s.locals q.thread)) (sym k.image) l in
      let l'' = subst (λ (z : List PlanDeed). IsThreadLike input ((effects (plan_start r) z).locals (thread_in k.at.seen.moment)) (s.locals (thread_in k.at.seen.moment))) (sym k.images) l' in
      kind k.before k.at k.after k.is s g m moved (mine ∙ ap (λ (q : PlanDeed). q.thread) (sym k.image)) l'' ∙ ap deeds.is_event k.image

  pub fits_over :
      ((us : List PlanUnit) (u : PlanUnit) (vs : List PlanUnit) → units_of r d ≡ us ++ u ∷ vs → (s : RunState) (g : ℕ) (m : RunDeed) → Any s g m
      → m.thread ≡ thread_in u.seen.moment →
      IsThreadLike input ((effects (plan_start r) (map (deed_of d) us)).locals (thread_in u.seen.moment)) (s.locals (thread_in u.seen.moment)) →
      ((c : ℕ) → reads_cell d u.seen c ≡ true → IsCellLike input ((effects (plan_start r) (map (deed_of d) us)).cells c) (s.cells c)) →
      (deeds.is_event (deed_of d u) ≡ true → (effects (plan_start r) (map (deed_of d) us)).objects ≡ s.objects) → Fits (like input) (deed_of d u) m) →
      (xs : List PlanDeed) (p : PlanDeed) (ys : List PlanDeed) → plan_of r d ≡ xs ++ p ∷ ys → (s : RunState) (g : ℕ) (m : RunDeed) → Any s g m → m.thread ≡ p.thread →
      IsThreadLike input ((effects (plan_start r) xs).locals p.thread) (s.locals p.thread) →
      ((c : ℕ) → p.reads c ≡ true → IsCellLike input ((effects (plan_start r) xs).cells c) (s.cells c))
      → (deeds.is_event p ≡ true → (effects (plan_start r) xs).objects ≡ s.objects) → Fits (like input) p m
  fits_over fits xs p ys e s g m moved mine l c ob =
      let k = split (deed_of d) (units_of r d) xs p ys e in
      let l' = subst (λ (q : PlanDeed). IsThreadLike input ((effects (plan_start r) xs).locals q.thread) (s.locals q.thread)) (sym k.image) l in
      let l'' = subst (λ (z : List PlanDeed). IsThreadLike input ((effects (plan_start r) z).locals (thread_in k.at.seen.moment)) (s.locals (thread_in k.at.seen.moment))) (sym k.images) l' in
      subst (λ (q : PlanDeed). Fits (like input) q m) k.image (fits k.before k.at k.after k.is s g m moved (mine ∙ ap (λ (q : PlanDeed). q.thread) (sym k.image)) l''
      (λ b h. subst (λ (z : List PlanDeed). IsCellLike input ((effects (plan_start r) z).cells b) (s.cells b)) (sym k.images) (c b (sym (ap (λ (q : PlanDeed). q.reads b) k.image) ∙ h)))
      (λ h. ap (λ (z : List PlanDeed). (effects (plan_start r) z).objects) k.images ∙ ob (sym (ap deeds.is_event k.image) ∙ h)))

module _ (r : ReferenceRun) (d : Taken) (input : List ℤ) (turns : List Turn) (o : IsOrderedRun r) (plain : ExtentsArePlain r d) (fresh : StartsAreFresh r d)
    (single : AllOf (λ (u : PlanUnit). is_instance d u.seen ≡ false) (units_of r d)) (remembers : PlanRemembers r d)
    (closed : IsClosed (reference_of r) d) (admitted : admits (reference_of r) d input ≡ true) (small : length input < 2 ^ 64) (same_turns : owners_of turns ≡ turns_of r) where
  abbrev Move : RunState → ℕ → RunDeed → Type 0
  Move = IsMove r.gated r.program input turns

  one : (us : List PlanUnit) (u : PlanUnit) (vs : List PlanUnit) → units_of r d ≡ us ++ u ∷ vs → is_instance d u.seen ≡ false
  one us u vs is = all_has (λ (v : PlanUnit). is_instance d v.seen ≡ false) (units_of r d) u single (subst (λ (l : List PlanUnit). Has l u) (sym is) (has_right us (u ∷ vs) u (inl refl)))

  -- ---- the run obeys

  pub obeys : Obeys (like input) (turns_of r) (plan_start r) (plan_of r d) (IsMove r.gated r.program input turns)
  obeys = record {
    turn = turn_at_move r d input turns o plain fresh remembers closed admitted small same_turns;
    kind = kind_over r d input Move (λ us u vs is s g m moved mine l. kind_at r d input turns o plain fresh remembers closed admitted small same_turns us u vs is (one us u vs is) s g m moved mine l);
    fits = fits_over r d input Move (λ us u vs is s g m moved mine l. fits_at r d input turns o plain fresh remembers closed admitted small same_turns us u vs is (one us u vs is) s g m moved mine l);
    no_more = λ s g m moved within l none ob. none_left r d input turns o plain fresh remembers closed admitted small same_turns s g m moved none;
  }

  pub stands_at_cuts : (s : RunState) → Alike (like input) (plan_start r) s → (ds : List RunDeed) → Moves (IsMove r.gated r.program input turns) s 0 ds →
      Stands (like input) (turns_of r) (plan_start r) (plan_of r d) (IsMove r.gated r.program input turns) (is_plan r d o closed plain) obeys (effects s ds) (turns_done deeds 0 ds) ds
      (times deeds (turns_of r) 0 ds)
  stands_at_cuts s a ds m = follows_plan (like input) (turns_of r) (plan_start r) (plan_of r d) (IsMove r.gated r.program input turns) (is_plan r d o closed plain) obeys s a ds m
