-- How the walks of a guided run end, and how many steps they take.
use Rattle.std.proofs.Common.{◌≡◌, ℕ, ℤ, zero, suc, ◌+◌, ◌<◌, ◌≤◌, List, [], ◌∷◌, ◌++◌, drop, Bool, true, false, Option, Some, None, Result, Ok, Err, refl}
use Rattle.std.proofs.Common.{sym, ◌∙◌, ap, subst, arith}
use Rattle.std.specs.Prelude.{◌==◌, ◌&&◌, ◌||◌, cond, slice_set, slice_index, if◌then◌else◌}
use Rattle.std.proofs.lemmas.List.Sums.{sum_by-cons}
use Rattle.pg_ir.specs.declared.ids.InstrId.{InstrId}
use Rattle.pg_ir.specs.declared.request.TrapName.{TrapName}
use Rattle.pg_ir.specs.Program.{NumberedProgram}
use Rattle.pg_run.specs.pg_run_objects.Sync as sync
use Rattle.pg_run.specs.pg_run_trace.declared.turn.Turn.{Turn}
use Rattle.pg_run.specs.pg_run_trace.declared.step.Step.{Step}
use Rattle.pg_run.specs.declared.guided_end.GuidedEnd.{GuidedEnd}
use Rattle.pg_run.specs.declared.guided_end.GuidedEnd.TheVariants as ends
use Rattle.pg_run.specs.State.{State, next_of, instr_of}
use Rattle.pg_run.specs.MachineStep.{Stepped, Did, Trapped, happening_of, is_ended, may_act, step, trap_of, turn_with}
use Rattle.pg_run.specs.Runs.{steps_of}
use Rattle.pg_run.specs.Guided.{GuidedRun, Walk, due, ended_at, guided, is_turn, on_due, on_event, on_step, spent, trap_or, walk}
use Rattle.pg_run.specs.FullGuided.{stops_early}
use Rattle.pg_run.proofs.OwnersMayStep.{due_does}
use Rattle.pg_run.proofs.GuidedRuns.{same_as_itself, same_number}
use Rattle.pg_law_effects.proofs.PermittedStepByStep.{steps_append}
use Rattle.pg_law_effects.proofs.ToldByStep.{thread_of}
use Rattle.std.proofs.lemmas.Bool.{ne_eqb}

-- ---- counts

is_same : (a b : ℕ) → a ≡ b → (a == b) ≡ true
is_same a b e = subst (λ (c : ℕ). (a == c) ≡ true) e (same_as_itself a)

pub one_more_step : (t : ℕ) (x : Step) (xs : List Step) → x.thread.0 ≡ t → steps_of t (x ∷ xs) ≡ 1 + steps_of t xs
one_more_step t x xs e = sum_by-cons (λ (y : Step). cond (y.thread.0 == t) 1 0) x xs ∙ ap (λ (b : Bool). cond b 1 0 + steps_of t xs) (is_same x.thread.0 t e)

pub other_step : (t : ℕ) (x : Step) (xs : List Step) → (x.thread.0 ≡ t → ⊥) → steps_of t (x ∷ xs) ≡ steps_of t xs
other_step t x xs h = sum_by-cons (λ (y : Step). cond (y.thread.0 == t) 1 0) x xs ∙ ap (λ (b : Bool). cond b 1 0 + steps_of t xs) (ne_eqb x.thread.0 t h)
    ∙ (let e : 0 + steps_of t xs ≡ steps_of t xs = omega arith in e)

pub index_set : (xs : List ℕ) (t n : ℕ) → n ≤ slice_index xs t → slice_index (slice_set xs t n) t ≡ n
index_set [] zero n h = let k : n ≤ 0 = h in omega (arith, k)
index_set [] (suc t) n h = let k : n ≤ 0 = h in omega (arith, k)
index_set (x ∷ xs) zero n h = refl
index_set (x ∷ xs) (suc t) n h = index_set xs t n h

pub index_other : (xs : List ℕ) (t i n : ℕ) → (i ≡ t → ⊥) → slice_index (slice_set xs t n) i ≡ slice_index xs i
index_other [] zero zero n h = refl
index_other [] zero (suc i) n h = refl
index_other [] (suc t) zero n h = refl
index_other [] (suc t) (suc i) n h = refl
index_other (x ∷ xs) zero zero n h = absurd (h refl)
index_other (x ∷ xs) zero (suc i) n h = refl
index_other (x ∷ xs) (suc t) zero n h = refl
index_other (x ∷ xs) (suc t) (suc i) n h = index_other xs t i n (λ e. h (ap suc e))

-- ---- how a walk stops

module _ (gated : List InstrId) (p : NumberedProgram) (input : List ℤ) where
  -- where the owner of turn u has n steps left in s, the end is this one for a reason
  abbrev pub HaltsBy : Turn → GuidedEnd → State → ℕ → Type 0
  HaltsBy u (ends.Trap name id) s n = (sync.over s.sync ≡ false) × (trap_of s u.thread.0 (next_of p s u.thread.0) ≡ Some name) × (id ≡ record { 0 = instr_of s u.thread.0 }) × (0 < n)
  HaltsBy u (ends.Budget t) s n = (t ≡ u.thread) × (sync.over s.sync ≡ false) × (is_ended (next_of p s u.thread.0) ≡ false) × (n ≡ 0)
  HaltsBy u (ends.Exit value) s n = ⊥
  HaltsBy u ends.Strayed s n = Unit {0}

  same_end : (e f : GuidedEnd) → Path (Result Bool GuidedEnd) (Err e) (Err f) → e ≡ f
  same_end e f h = cc

  as_end : (u : Turn) (s : State) (n : ℕ) (e f : GuidedEnd) → HaltsBy u e s n → Path (Result Bool GuidedEnd) (Err e) (Err f) → HaltsBy u f s n
  as_end u s n e f h k = subst (λ (g : GuidedEnd). HaltsBy u g s n) (same_end e f k) h

  strays_if : (u : Turn) (s : State) (n : ℕ) (c : Bool) (f : GuidedEnd) → Path (Result Bool GuidedEnd) (if c then Ok true else Err ends.Strayed) (Err f) → HaltsBy u f s n
  strays_if u s n true f h = absurd cc
  strays_if u s n false f h = as_end u s n ends.Strayed f tt h

  at_event : (u : Turn) (s : State) (n : ℕ) (is_ready : Bool) (o : Option Turn) (f : GuidedEnd) → on_event u is_ready o ≡ Err f → HaltsBy u f s n
  at_event u s n is_ready None f h = absurd cc
  at_event u s n is_ready (Some v) f h = strays_if u s n (is_turn v u && is_ready) f h

  by_test : (u : Turn) (s : State) (n : ℕ) (over ended : Bool) (trap : Option TrapName) (is_ready : Bool) (o : Option Turn) (f : GuidedEnd) → sync.over s.sync ≡ over
      → trap_of s u.thread.0 (next_of p s u.thread.0) ≡ trap →
      Path (Result Bool GuidedEnd) (if over || ended then Err ends.Strayed else trap_or s u.thread.0 trap (on_event u is_ready o)) (Err f) → HaltsBy u f s (suc n)
  by_test u s n true ended trap is_ready o f h k e = as_end u s (suc n) ends.Strayed f tt e
  by_test u s n false true trap is_ready o f h k e = as_end u s (suc n) ends.Strayed f tt e
  by_test u s n false false None is_ready o f h k e = at_event u s (suc n) is_ready o f e
  by_test u s n false false (Some name) is_ready o f h k e = as_end u s (suc n) (ends.Trap name (record { 0 = instr_of s u.thread.0 })) f (h, k, refl, omega arith) e

  due_halts : (u : Turn) (s : State) (n : ℕ) (f : GuidedEnd) → due gated p u s ≡ Err f → HaltsBy u f s (suc n)
  unfolding due
  due_halts u s n f e = by_test u s n (sync.over s.sync) (is_ended (next_of p s u.thread.0)) (trap_of s u.thread.0 (next_of p s u.thread.0)) (may_act s u.thread.0 (next_of p s u.thread.0))
      (turn_with s u.thread.0 (happening_of gated s u.thread.0 (next_of p s u.thread.0))) f refl refl e

  by_spent : (u : Turn) (s : State) (over ended : Bool) → sync.over s.sync ≡ over → is_ended (next_of p s u.thread.0) ≡ ended
      → HaltsBy u (if over || ended then ends.Strayed else ends.Budget u.thread) s 0
  by_spent u s true ended h k = tt
  by_spent u s false true h k = tt
  by_spent u s false false h k = (refl, h, k, refl)

  spent_halts : (u : Turn) (s : State) → HaltsBy u (spent p u s) s 0
  unfolding spent
  spent_halts u s = by_spent u s (sync.over s.sync) (is_ended (next_of p s u.thread.0)) refl refl

  -- ---- one walk

  pub record Walked (u : Turn) (n : ℕ) (w : Walk) : Type 0 where
    pub own : steps_of u.thread.0 w.trace + w.left ≡ n
    pub other : (t : ℕ) → (t ≡ u.thread.0 → ⊥) → steps_of t w.trace ≡ 0
    pub halts : (e : GuidedEnd) → w.end ≡ Some e → HaltsBy u e w.state w.left

  stops : (u : Turn) (s : State) (n : ℕ) (e : GuidedEnd) → HaltsBy u e s n → Walked u n (record { trace = []; state = s; left = n; end = Some e })
  stops u s n e h = record { own = omega arith; other = λ t k. refl; halts = λ f k. let same : e ≡ f = cc in subst (λ (g : GuidedEnd). HaltsBy u g s n) same h }

  stepped : (u : Turn) (s : State) (n : ℕ) (b : Bool) (o : Stepped) (more : State → Walk) → due gated p u s ≡ Ok b → step gated p input s u.thread.0 ≡ o
      → ((z : State) → Walked u n (more z)) → Walked u (suc n) (on_step s n b o more)
  stepped u s n b (Trapped name id) more d e h = let k = due_does gated p input u s b d in let q : Path Stepped (Trapped name id) (Did k.0 k.1) = sym e ∙ k.2 in absurd cc
  stepped u s n true (Did x z) more d e h =
      let i = thread_of gated p input s z u.thread.0 x e in
      record {
        own = let c = one_more_step u.thread.0 x [] i in omega (arith, c);
        other = λ t k. other_step t x [] (λ q. k (sym q ∙ i));
        halts = λ f k. absurd cc;
      }
  stepped u s n false (Did x z) more d e h =
      let i = thread_of gated p input s z u.thread.0 x e in
      record {
        own = let c = one_more_step u.thread.0 x (more z).trace i in let r = (h z).own in omega (arith, c, r);
        other = λ t k. other_step t x (more z).trace (λ q. k (sym q ∙ i)) ∙ (h z).other t k;
        halts = (h z).halts;
      }

  tested : (u : Turn) (s : State) (n : ℕ) (d : Result Bool GuidedEnd) → due gated p u s ≡ d → ((z : State) → Walked u n (walk n gated p input u z))
      → Walked u (suc n) (on_due s n d (λ b. on_step s n b (step gated p input s u.thread.0) (λ t. walk n gated p input u t)))
  tested u s n (Err f) e h = stops u s (suc n) f (due_halts u s n f e)
  tested u s n (Ok b) e h = stepped u s n b (step gated p input s u.thread.0) (λ t. walk n gated p input u t) e refl h

  pub walked : (u : Turn) (n : ℕ) (s : State) → Walked u n (walk n gated p input u s)
  unfolding walk
  walked u zero s = stops u s 0 (spent p u s) (spent_halts u s)
  walked u (suc n) s = tested u s n (due gated p u s) refl (walked u n)

  -- ---- the run

  -- the first of these turns wasn't done, for this reason
  abbrev pub HaltsAt : List Turn → GuidedEnd → State → List ℕ → Type 0
  HaltsAt [] e s left = stops_early e ≡ false
  HaltsAt (u ∷ us) e s left = HaltsBy u e s (slice_index left u.thread.0)

  -- a run along the turns us, of which it did some; lefts were left before
  pub record Guides (us : List Turn) (k : ℕ) (lefts : List ℕ) (r : GuidedRun) : Type 0 where
    pub done : ℕ
    pub turns : r.turns ≡ k + done
    pub counts : (t : ℕ) → slice_index r.left t + steps_of t r.trace ≡ slice_index lefts t
    pub halts : HaltsAt (drop done us) r.end r.state r.left

  counts_by : (u : Turn) (lefts : List ℕ) (w : Walk) (rest : List ℕ) (ys : List Step) (t : ℕ) → Walked u (slice_index lefts u.thread.0) w
      → slice_index rest t + steps_of t ys ≡ slice_index (slice_set lefts u.thread.0 w.left) t → slice_index rest t + steps_of t (w.trace ++ ys) ≡ slice_index lefts t
  counts_by u lefts w rest ys t h k = go (t == u.thread.0) refl
    where
      go : (b : Bool) → (t == u.thread.0) ≡ b → slice_index rest t + steps_of t (w.trace ++ ys) ≡ slice_index lefts t
      go true q =
          let e = same_number t u.thread.0 q in
          let a = steps_append t w.trace ys in
          let o : steps_of t w.trace + w.left ≡ slice_index lefts t = ap (λ (i : ℕ). steps_of i w.trace + w.left) e ∙ h.own ∙ ap (slice_index lefts) (sym e) in
          let l : slice_index (slice_set lefts u.thread.0 w.left) u.thread.0 ≡ w.left = index_set lefts u.thread.0 w.left (let o = h.own in omega (arith, o)) in
          let m : slice_index (slice_set lefts u.thread.0 w.left) t ≡ w.left = ap (slice_index (slice_set lefts u.thread.0 w.left)) e ∙ l in
          omega (arith, a, o, m, k)
      go false q =
          let n : (t ≡ u.thread.0 → ⊥) = λ e. absurd (let r = sym q ∙ is_same t u.thread.0 e in cc) in
          let a = steps_append t w.trace ys in
          let o = h.other t n in
          let l = index_other lefts u.thread.0 t w.left n in
          omega (arith, a, o, l, k)

  ended : (u : Turn) (us : List Turn) (k : ℕ) (lefts : List ℕ) (w : Walk) (e : Option GuidedEnd) (more : State → List ℕ → GuidedRun) → w.end ≡ e
      → Walked u (slice_index lefts u.thread.0) w → ((z : State) (rest : List ℕ) → Guides us (k + 1) rest (more z rest))
      → Guides (u ∷ us) k lefts (ended_at w (slice_set lefts u.thread.0 w.left) k e more)
  ended u us k lefts w (Some e) more q h g = record {
    done = 0;
    turns = omega arith;
    counts = λ t. ended_counts t;
    halts = subst (HaltsBy u e w.state) (sym (index_set lefts u.thread.0 w.left (let o = h.own in omega (arith, o)))) (h.halts e q);
  }
    where
      ended_counts : (t : ℕ) → slice_index (slice_set lefts u.thread.0 w.left) t + steps_of t w.trace ≡ slice_index lefts t
      ended_counts t =
          let c = counts_by u lefts w (slice_set lefts u.thread.0 w.left) [] t h (omega arith) in
          let a = steps_append t w.trace [] in
          omega (arith, c, a)
  ended u us k lefts w None more q h g =
      let r = g w.state (slice_set lefts u.thread.0 w.left) in
      record {
        done = suc r.done;
        turns = let e = r.turns in omega (arith, e);
        counts = λ t. counts_by u lefts w (more w.state (slice_set lefts u.thread.0 w.left)).left (more w.state (slice_set lefts u.thread.0 w.left)).trace t h (r.counts t);
        halts = r.halts;
      }

  no_early : (s : State) (b : Bool) → stops_early (if b then ends.Exit (Rattle.pg_run.specs.State.exit_value_of s) else ends.Strayed) ≡ false
  no_early s true = refl
  no_early s false = refl

  pub guides : (us : List Turn) (k : ℕ) (s : State) (lefts : List ℕ) → Guides us k lefts (guided gated p input us k s lefts)
  unfolding guided
  guides [] k s lefts = record { done = 0; turns = omega arith; counts = λ t. omega arith; halts = no_early s (sync.over s.sync) }
  guides (u ∷ us) k s lefts =
      let w = walk (slice_index lefts u.thread.0) gated p input u s in
      ended u us k lefts w w.end (λ t rest. guided gated p input us (k + 1) t rest) refl (walked u (slice_index lefts u.thread.0) s) (λ z rest. guides us (k + 1) z rest)
