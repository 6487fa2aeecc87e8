-- A walk to a turn goes on by one step, or stops; and so a guided run by one turn.
use Rattle.std.proofs.Common.{◌≡◌, ℕ, ℤ, zero, suc, ◌+◌, ◌-◌, ◌<◌, ◌≤◌, List, [], ◌∷◌, ◌++◌, length, drop, Bool, true, false, Option, Some, None}
use Rattle.std.proofs.Common.{Result, Ok, Err, refl, sym, ap, ◌∙◌, arith, append_assoc, append-nil}
use Rattle.std.specs.Prelude.{get_or, slice_set, slice_index, sum}
use Rattle.std.proofs.lemmas.List.{drop_more}
use Rattle.std.proofs.lemmas.List.Sums.{sum_by-cons}
use Rattle.pg_run_trace.specs.pg_ir.declared.ids.InstrId.{InstrId}
use Rattle.pg_run_trace.specs.pg_ir.declared.request.TrapName.{TrapName}
use Rattle.pg_run_trace.specs.pg_ir.Program.{NumberedProgram}
use Rattle.pg_run_trace.specs.declared.step.Step.{Step}
use Rattle.pg_run_trace.specs.declared.turn.Turn.{Turn}
use Rattle.pg_run.specs.declared.guided_end.GuidedEnd.{GuidedEnd}
use Rattle.pg_run.specs.declared.guided_end.GuidedEnd.TheVariants as ends
use Rattle.pg_run.specs.State.{State, initial}
use Rattle.pg_run.specs.MachineStep.{Stepped, Did, Trapped, step}
use Rattle.pg_run.specs.Guided.{GuidedRun, Walk, all_left, behind, due, end_after, guided, guided_of, here, on_due, on_step, on_walk, onto, spent, walk}
use Rattle.std.proofs.lemmas.Option.{same_Some}
use Rattle.pg_run.specs.Taken.{state_with, steps_with, trapped_in}
use Rattle.pg_run.specs.Walked.{EndsAs, untraced}

behind_behind : (a b : List Step) (w : Walk) → behind a (behind b w) ≡ behind (a ++ b) w
behind_behind a b w = ap (λ (ts : List Step). record w { trace = ts }) (sym (append_assoc a b w.trace))

behind_here : (a : List Step) (s : State) (n : ℕ) (e : Option GuidedEnd) → behind a (here s n e) ≡ record { trace = a; state = s; left = n; end = e }
behind_here a s n e = ap (λ (ts : List Step). record { trace = ts; state = s; left = n; end = e }) (append-nil a)

onto_onto : (a b : List Step) (r : GuidedRun) → onto a (onto b r) ≡ onto (a ++ b) r
onto_onto a b r = ap (λ (ts : List Step). record r { trace = ts }) (sym (append_assoc a b r.trace))

-- ---- one walk

module _ (gated : List InstrId) (p : NumberedProgram) (input : List ℤ) (u : Turn) where
  -- the walk from s with n - i steps left is what is left of w
  abbrev pub IsOn : ℕ → ℕ → State → Walk → List Step → Type 0
  IsOn n i s w ts = behind ts (walk (n - i) gated p input u s) ≡ w

  one_less : (n i : ℕ) → i < n → n - i ≡ suc (n - (i + 1))
  one_less n i h = omega arith

  at_suc : (n i : ℕ) (s : State) → i < n → walk (n - i) gated p input u s
      ≡ on_due s (n - (i + 1)) (due gated p u s) (λ b. on_step s (n - (i + 1)) b (step gated p input s u.thread.0) (λ t. walk (n - (i + 1)) gated p input u t))
  unfolding walk
  at_suc n i s h = rw (one_less n i h) refl

  at_due : (n i : ℕ) (s : State) (d : Result Bool GuidedEnd) → i < n → due gated p u s ≡ d
      → walk (n - i) gated p input u s ≡ on_due s (n - (i + 1)) d (λ b. on_step s (n - (i + 1)) b (step gated p input s u.thread.0) (λ t. walk (n - (i + 1)) gated p input u t))
  at_due n i s d h e = at_suc n i s h ∙ ap (λ (d : Result Bool GuidedEnd). on_due s (n - (i + 1)) d
      (λ b. on_step s (n - (i + 1)) b (step gated p input s u.thread.0) (λ t. walk (n - (i + 1)) gated p input u t))) e

  pub at_step : (n i : ℕ) (s : State) (b : Bool) (o : Stepped) → i < n → due gated p u s ≡ Ok b → step gated p input s u.thread.0 ≡ o
      → walk (n - i) gated p input u s ≡ on_step s (n - (i + 1)) b o (λ t. walk (n - (i + 1)) gated p input u t)
  at_step n i s b o h d e = at_due n i s (Ok b) h d ∙ ap (λ (o : Stepped). on_step s (n - (i + 1)) b o (λ t. walk (n - (i + 1)) gated p input u t)) e

  pub walk_start : (n : ℕ) (s : State) → IsOn n 0 s (walk n gated p input u s) []
  walk_start n s = let z : n - 0 ≡ n = omega arith in rw z refl

  pub walk_more : (n i : ℕ) (s t : State) (x : Step) (w : Walk) (ts : List Step) → i < n → due gated p u s ≡ Ok false → step gated p input s u.thread.0 ≡ Did x t → IsOn n i s w ts
      → IsOn n (i + 1) t w (ts ++ x ∷ [])
  walk_more n i s t x w ts h d e o =
      sym (behind_behind ts (x ∷ []) (walk (n - (i + 1)) gated p input u t)) ∙ ap (behind ts) (sym (at_step n i s false (Did x t) h d e)) ∙ o

  pub walk_turn : (n i : ℕ) (s t : State) (x : Step) (w : Walk) (ts : List Step) → i < n → due gated p u s ≡ Ok true → step gated p input s u.thread.0 ≡ Did x t → IsOn n i s w ts
      → w ≡ record { trace = ts ++ x ∷ []; state = t; left = n - i - 1; end = None }
  walk_turn n i s t x w ts h d e o =
      let k : n - (i + 1) ≡ n - i - 1 = omega arith in
      sym o ∙ ap (behind ts) (at_step n i s true (Did x t) h d e) ∙ ap (λ (m : ℕ). record { trace = ts ++ x ∷ []; state = t; left = m; end = None }) k

  pub walk_stop : (n i : ℕ) (s : State) (e : GuidedEnd) (w : Walk) (ts : List Step) → i < n → due gated p u s ≡ Err e → IsOn n i s w ts
      → w ≡ record { trace = ts; state = s; left = n - i; end = Some e }
  walk_stop n i s e w ts h d o =
      sym o ∙ ap (behind ts) (at_due n i s (Err e) h d) ∙ behind_here ts s (suc (n - (i + 1))) (Some e)
      ∙ ap (λ (m : ℕ). record { trace = ts; state = s; left = m; end = Some e }) (sym (one_less n i h))

  pub walk_trap : (n i : ℕ) (s : State) (b : Bool) (name : TrapName) (id : ℕ) (w : Walk) (ts : List Step) → i < n → due gated p u s ≡ Ok b
      → step gated p input s u.thread.0 ≡ Trapped name id → IsOn n i s w ts → w ≡ record { trace = ts; state = s; left = n - i; end = Some (ends.Trap name (record { 0 = id })) }
  walk_trap n i s b name id w ts h d e o =
      let q = Some (ends.Trap name (record { 0 = id })) in
      sym o ∙ ap (behind ts) (at_step n i s b (Trapped name id) h d e) ∙ trapped b ∙ ap (λ (m : ℕ). record { trace = ts; state = s; left = m; end = q }) (sym (one_less n i h))
    where
      trapped : (b : Bool) → behind ts (on_step s (n - (i + 1)) b (Trapped name id) (λ t. walk (n - (i + 1)) gated p input u t))
          ≡ record { trace = ts; state = s; left = suc (n - (i + 1)); end = Some (ends.Trap name (record { 0 = id })) }
      trapped b = behind_here ts s (suc (n - (i + 1))) (Some (ends.Trap name (record { 0 = id })))

  -- by what a step leaves

  pub walk_on : (n i : ℕ) (s : State) (o : Stepped) (w : Walk) (ts : List Step) → i < n → due gated p u s ≡ Ok false → step gated p input s u.thread.0 ≡ o → trapped_in o ≡ None
      → IsOn n i s w ts → IsOn n (i + 1) (state_with s o) w (steps_with ts o)
  walk_on n i s (Did x t) w ts h d e k o = walk_more n i s t x w ts h d e o
  walk_on n i s (Trapped name id) w ts h d e k o = absurd cc

  pub walk_done : (n i : ℕ) (s : State) (o : Stepped) (w : Walk) (ts : List Step) → i < n → due gated p u s ≡ Ok true → step gated p input s u.thread.0 ≡ o → trapped_in o ≡ None
      → IsOn n i s w ts → w ≡ record { trace = steps_with ts o; state = state_with s o; left = n - i - 1; end = None }
  walk_done n i s (Did x t) w ts h d e k o = walk_turn n i s t x w ts h d e o
  walk_done n i s (Trapped name id) w ts h d e k o = absurd cc

  pub walk_end : (n i : ℕ) (s : State) (b : Bool) (o : Stepped) (name : TrapName) (at : InstrId) (w : Walk) (ts : List Step) → i < n → due gated p u s ≡ Ok b
      → step gated p input s u.thread.0 ≡ o → trapped_in o ≡ Some (name, at) → IsOn n i s w ts
      → w ≡ record { trace = steps_with ts o; state = state_with s o; left = n - i; end = Some (ends.Trap name at) }
  walk_end n i s b (Did x t) name at w ts h d e k o = absurd cc
  walk_end n i s b (Trapped m id) name at w ts h d e k o =
      let same : Path (TrapName × InstrId) (m, record { 0 = id }) (name, at) = same_Some _ _ k in
      walk_trap n i s b m id w ts h d e o ∙ ap (λ (x : TrapName × InstrId). record { trace = ts; state = s; left = n - i; end = Some (ends.Trap x.0 x.1) }) same

  at_zero : (n i : ℕ) (s : State) → n ≤ i → walk (n - i) gated p input u s ≡ here s 0 (Some (spent p u s))
  unfolding walk
  at_zero n i s h = let z : n - i ≡ 0 = omega arith in rw z refl

  pub walk_spent : (n i : ℕ) (s : State) (w : Walk) (ts : List Step) → n ≤ i → IsOn n i s w ts → w ≡ record { trace = ts; state = s; left = 0; end = Some (spent p u s) }
  walk_spent n i s w ts h o = sym o ∙ ap (behind ts) (at_zero n i s h) ∙ behind_here ts s 0 (Some (spent p u s))

-- ---- the run

module _ (gated : List InstrId) (p : NumberedProgram) (input : List ℤ) (us : List Turn) where
  -- the guided run from turn k on is what is left of r
  abbrev pub IsAlong : ℕ → State → List ℕ → GuidedRun → List Step → Type 0
  IsAlong k s left r ts = onto ts (guided gated p input (drop k us) k s left) ≡ r

  at_turn : (k : ℕ) (u : Turn) (s : State) (left : List ℕ) → drop k us ≡ u ∷ drop (k + 1) us
      → guided gated p input (drop k us) k s left ≡ on_walk left k u.thread.0 (walk (slice_index left u.thread.0) gated p input u s)
      (λ t rest. guided gated p input (drop (k + 1) us) (k + 1) t rest)
  unfolding guided
  at_turn k u s left e = rw e refl

  pub at_walk : (k : ℕ) (u : Turn) (s : State) (left : List ℕ) (w : Walk) → drop k us ≡ u ∷ drop (k + 1) us → walk (slice_index left u.thread.0) gated p input u s ≡ w
      → guided gated p input (drop k us) k s left ≡ on_walk left k u.thread.0 w (λ t rest. guided gated p input (drop (k + 1) us) (k + 1) t rest)
  at_walk k u s left w e h = at_turn k u s left e ∙ ap (λ (w : Walk). on_walk left k u.thread.0 w (λ t rest. guided gated p input (drop (k + 1) us) (k + 1) t rest)) h

  pub run_start : (s : State) (left : List ℕ) → IsAlong 0 s left (guided gated p input us 0 s left) []
  run_start s left = refl

  pub run_more : (k : ℕ) (u : Turn) (s t : State) (left : List ℕ) (n : ℕ) (xs ts : List Step) (r : GuidedRun) → drop k us ≡ u ∷ drop (k + 1) us
      → walk (slice_index left u.thread.0) gated p input u s ≡ record { trace = xs; state = t; left = n; end = None } → IsAlong k s left r ts
      → IsAlong (k + 1) t (slice_set left u.thread.0 n) r (ts ++ xs)
  run_more k u s t left n xs ts r e h o =
      sym (onto_onto ts xs (guided gated p input (drop (k + 1) us) (k + 1) t (slice_set left u.thread.0 n)))
      ∙ ap (onto ts) (sym (at_walk k u s left (record { trace = xs; state = t; left = n; end = None }) e h)) ∙ o

  pub run_stop : (k : ℕ) (u : Turn) (s t : State) (left : List ℕ) (n : ℕ) (end : GuidedEnd) (xs ts : List Step) (r : GuidedRun) → drop k us ≡ u ∷ drop (k + 1) us
      → walk (slice_index left u.thread.0) gated p input u s ≡ record { trace = xs; state = t; left = n; end = Some end } → IsAlong k s left r ts
      → r ≡ record { trace = ts ++ xs; state = t; left = slice_set left u.thread.0 n; turns = k; end = end }
  run_stop k u s t left n end xs ts r e h o =
      sym o ∙ ap (onto ts) (at_walk k u s left (record { trace = xs; state = t; left = n; end = Some end }) e h)

  at_end : (k : ℕ) (s : State) (left : List ℕ) → drop k us ≡ [] → guided gated p input (drop k us) k s left ≡ record { trace = []; state = s; left = left; turns = k; end = end_after s }
  unfolding guided
  at_end k s left e = rw e refl

  pub run_over : (k : ℕ) (s : State) (left : List ℕ) (ts : List Step) (r : GuidedRun) → drop k us ≡ [] → IsAlong k s left r ts
      → r ≡ record { trace = ts; state = s; left = left; turns = k; end = end_after s }
  run_over k s left ts r e o =
      sym o ∙ ap (onto ts) (at_end k s left e) ∙ ap (λ (xs : List Step). record { trace = xs; state = s; left = left; turns = k; end = end_after s }) (append-nil ts)

  -- without the traces

  traced : (w : Walk) (t : State) (n : ℕ) (e : Option GuidedEnd) → untraced w ≡ here t n e → w ≡ record { trace = w.trace; state = t; left = n; end = e }
  traced w t n e h = ap (λ (v : Walk). record v { trace = w.trace }) h

  -- what the walk to turn k left, where n of its owner's steps are left
  abbrev pub Walks : ℕ → ℕ → Turn → State → List ℕ → State → ℕ → Option GuidedEnd → Type 0
  Walks k most d s left t n e = untraced (walk most gated p input (get_or us k d) s) ≡ here t n e

  walked : (k most : ℕ) (d : Turn) (s t : State) (left : List ℕ) (n : ℕ) (e f : Option GuidedEnd) → most ≡ slice_index left (get_or us k d).thread.0 → Walks k most d s left t n e
      → e ≡ f → walk (slice_index left (get_or us k d).thread.0) gated p input (get_or us k d) s
      ≡ record { trace = (walk most gated p input (get_or us k d) s).trace; state = t; left = n; end = f }
  walked k most d s t left n e f m h q =
      ap (λ (i : ℕ). walk i gated p input (get_or us k d) s) (sym m) ∙ traced (walk most gated p input (get_or us k d) s) t n e h
      ∙ ap (λ (x : Option GuidedEnd). record { trace = (walk most gated p input (get_or us k d) s).trace; state = t; left = n; end = x }) q

  pub goes_along : (k most : ℕ) (d : Turn) (s t : State) (left rest : List ℕ) (n : ℕ) (e : Option GuidedEnd) (r : GuidedRun) → k < length us
      → most ≡ slice_index left (get_or us k d).thread.0 → Walks k most d s left t n e → e ≡ None → rest ≡ slice_set left (get_or us k d).thread.0 n
      → (ts : List Step) × IsAlong k s left r ts → (ts : List Step) × IsAlong (k + 1) t rest r ts
  goes_along k most d s t left rest n e r l m h q z o =
      (o.0 ++ (walk most gated p input (get_or us k d) s).trace, rw z (run_more k (get_or us k d) s t left n _ o.0 r (drop_more us k d l) (walked k most d s t left n e None m h q) o.1))

  pub stops_along : (k most done : ℕ) (d : Turn) (s t : State) (left : List ℕ) (n : ℕ) (e : Option GuidedEnd) (end : GuidedEnd) (r : GuidedRun) → k < length us → done ≡ k
      → most ≡ slice_index left (get_or us k d).thread.0 → Walks k most d s left t n e → e ≡ Some end → (ts : List Step) × IsAlong k s left r ts → EndsAs r t done end
  stops_along k most done d s t left n e end r l j m h q o =
      let f = run_stop k (get_or us k d) s t left n end _ o.0 r (drop_more us k d l) (walked k most d s t left n e (Some end) m h q) o.1 in
      record { state_is = ap (λ (x : GuidedRun). x.state) f; turns_is = ap (λ (x : GuidedRun). x.turns) f ∙ sym j; end_is = ap (λ (x : GuidedRun). x.end) f }

  pub none_left : (xs : List Turn) (k : ℕ) → length xs ≤ k → drop k xs ≡ []
  none_left [] zero h = refl
  none_left [] (suc k) h = refl
  none_left (x ∷ xs) zero h = absurd (omega arith)
  none_left (x ∷ xs) (suc k) h = none_left xs k (omega arith)

  pub ends_along : (k done : ℕ) (s : State) (left : List ℕ) (e : GuidedEnd) (r : GuidedRun) → length us ≤ k → done ≡ k → e ≡ end_after s
      → (ts : List Step) × IsAlong k s left r ts → EndsAs r s done e
  ends_along k done s left e r l j q o =
      let f = run_over k s left o.0 r (none_left us k l) o.1 in
      record { state_is = ap (λ (x : GuidedRun). x.state) f; turns_is = ap (λ (x : GuidedRun). x.turns) f ∙ sym j; end_is = ap (λ (x : GuidedRun). x.end) f ∙ sym q }

  pub starts_along : (s : State) (left : List ℕ) → s ≡ initial p → left ≡ all_left → IsAlong 0 s left (guided_of p input us gated) []
  unfolding guided_of
  starts_along s left e h = rw (e, h) refl

-- ---- how many steps are left

pub sum_less : (xs : List ℕ) (t n : ℕ) → n < slice_index xs t → suc (sum (slice_set xs t n)) ≤ sum xs
sum_less [] zero n h = let k : n < 0 = h in absurd (omega arith)
sum_less [] (suc t) n h = let k : n < 0 = h in absurd (omega arith)
sum_less (x ∷ xs) zero n h =
    let k : n < x = h in
    let a : sum (slice_set (x ∷ xs) zero n) ≡ n + sum xs = sum_by-cons (λ (y : ℕ). y) n xs in
    let b : sum (x ∷ xs) ≡ x + sum xs = sum_by-cons (λ (y : ℕ). y) x xs in
    omega arith
sum_less (x ∷ xs) (suc t) n h =
    let k : suc (sum (slice_set xs t n)) ≤ sum xs = sum_less xs t n h in
    let a : sum (slice_set (x ∷ xs) (suc t) n) ≡ x + sum (slice_set xs t n) = sum_by-cons (λ (y : ℕ). y) x (slice_set xs t n) in
    let b : sum (x ∷ xs) ≡ x + sum xs = sum_by-cons (λ (y : ℕ). y) x xs in
    omega arith

pub sum_all : sum all_left ≡ 320000000
unfolding all_left
sum_all = refl
