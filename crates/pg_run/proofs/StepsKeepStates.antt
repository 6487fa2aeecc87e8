-- A step keeps the state one of the run's.
use Rattle.std.proofs.Common.{◌≡◌, ℕ, zero, suc, ◌+◌, ◌<◌, ◌^◌, List, [], ◌∷◌, ◌++◌, length, Bool, true, false, Some, arith, refl, sym, ◌∙◌, ap, subst, inr}
use Rattle.std.specs.Prelude.{slice_get, slice_set, ◌==◌}
use Rattle.std.specs.List.{All}
use Rattle.std.proofs.lemmas.Bool.Decides.{nat_tests}
use Rattle.std.proofs.lemmas.List.{length-append}
use Rattle.std.proofs.lemmas.List.Elements.{All-set, All-append}
use Rattle.std.proofs.lemmas.Option.{slice_get_within, get_or_from_slice_get}
use Rattle.pg_run_trace.specs.pg_num.declared.limits.TheConstants.{THREAD_LIMIT}
use Rattle.pg_run_trace.specs.pg_ir.Program.{NumberedProgram}
use Rattle.pg_run_trace.specs.pg_ir.WellFormed.{IsProgram, BeginsThread}
use Rattle.pg_run_thread.specs.declared.action.Action.{Action}
use Rattle.pg_run_thread.specs.LocalState.{LocalState, fresh}
use Rattle.pg_run_thread.specs.Step.{next, after}
use Rattle.pg_run_thread.specs.States.{IsOf, CanStep}
use Rattle.pg_run_thread.proofs.StepsKeepStates.{still_of, fresh_of}
use Rattle.pg_run.specs.Phases.{Fresh, Going, phase_of, phase_before, phase_after, stage_phase}
use Rattle.pg_run.specs.State.{State}
use Rattle.pg_run.specs.Machine.{IsMachine, StartsWhole, phase_in}
use Rattle.pg_run.proofs.Effects.{Moved, MadeOne}
use Rattle.pg_run.proofs.PhaseActions.{phase_before_next, phase_after_next, begun_after}
use Rattle.pg_run.proofs.Threads.{stage_at, set_own, set_other, set_length, last_own, last_other}

-- ---- one thread of a state

pub all_at : {X : Type 0} (P : X → Type 0) (xs : List X) (i : ℕ) (x : X) → slice_get xs i ≡ Some x → All P xs → P x
all_at P xs i x e h = subst P (get_or_from_slice_get xs i x x e) (h i x (slice_get_within xs i x e))

pub own_phase : (p : NumberedProgram) (s : State) (t : ℕ) (l : LocalState) → IsMachine p s → slice_get s.locals t ≡ Some l → CanStep (next p l)
    → stage_phase (stage_at s.sync.threads t) ≡ phase_before (next p l)
own_phase p s t l h e can = h.phases t ∙ ap (phase_in p) e ∙ phase_before_next p l can

-- the threads after the step of thread t
abbrev locals_then : NumberedProgram → List LocalState → ℕ → LocalState → ℕ → List LocalState
locals_then p ls t l a = slice_set ls t (after p l a)

then_own : (p : NumberedProgram) (ls : List LocalState) (t a : ℕ) (l : LocalState) (act : Action) → t < length ls → StartsWhole l → next p l ≡ act → CanStep (next p l)
    → phase_in p (slice_get (locals_then p ls t l a) t) ≡ phase_after act
then_own p ls t a l act h w e can = ap (phase_in p) (set_own ls t (after p l a) h) ∙ phase_after_next p l a w can ∙ ap phase_after e

then_of : (p : NumberedProgram) (ls : List LocalState) (t a : ℕ) (l : LocalState) → IsProgram p → IsOf p l → CanStep (next p l) → a < 2 ^ 64 → All (IsOf p) ls
    → All (IsOf p) (locals_then p ls t l a)
then_of p ls t a l program h can small k = All-set (IsOf p) ls t (after p l a) (still_of p l a program h can small) k

then_whole : (p : NumberedProgram) (ls : List LocalState) (t a : ℕ) (l : LocalState) → CanStep (next p l) → All StartsWhole ls → All StartsWhole (locals_then p ls t l a)
then_whole p ls t a l can k = All-set StartsWhole ls t (after p l a) (λ b. let c : (after p l a).begun ≡ true = begun_after p l a can in absurd cc) k

by_number : (P : ℕ → Type 0) (t u : ℕ) (b : Bool) → (u == t) ≡ b → P t → ((u ≡ t → ⊥) → P u) → P u
by_number P t u true e h k = let same : u ≡ t = grind (arith, nat_tests) in subst P (sym same) h
by_number P t u false e h k = k (λ q. grind (arith, nat_tests))

-- ---- a step that makes no thread

pub kept : (p : NumberedProgram) (s z : State) (t a : ℕ) (l : LocalState) (act : Action) → IsProgram p → IsMachine p s → slice_get s.locals t ≡ Some l → next p l ≡ act
    → CanStep act → a < 2 ^ 64 → z.locals ≡ s.locals → Moved t (phase_after act) s.sync.threads z.sync.threads z.sync.waiters → length z.words ≡ length s.words
    → IsMachine p (record z { locals = slice_set z.locals t (after p l a) })
kept p s z t a l act program h e n can small same m w =
    let go : CanStep (next p l) = subst CanStep (sym n) can in
    let below : t < length z.locals = rw same (slice_get_within s.locals t l e) in
    record {
      of = then_of p z.locals t a l program (all_at (IsOf p) s.locals t l e h.of) go small (rw same h.of);
      starts = then_whole p z.locals t a l go (rw same h.starts);
      phases = λ u. by_number (λ v. stage_phase (stage_at z.sync.threads v) ≡ phase_in p (slice_get (locals_then p z.locals t l a) v)) t u (u == t) refl
          (m.own ∙ sym (then_own p z.locals t a l act below (all_at StartsWhole s.locals t l e h.starts) n go))
          (λ d. m.others u d ∙ h.phases u ∙ ap (λ (ls : List LocalState). phase_in p (slice_get ls u)) (sym same) ∙ ap (phase_in p) (sym (set_other z.locals t u (after p l a) d)));
      waiters = m.waiters;
      words = w ∙ h.words ∙ ap length (sym same) ∙ sym (set_length z.locals t (after p l a));
      threads = m.count ∙ h.threads ∙ ap length (sym same) ∙ sym (set_length z.locals t (after p l a));
      few = omega (arith, h.few, ap length same, set_length z.locals t (after p l a));
    }

-- ---- a create

pub fresh_phase : (p : NumberedProgram) (n f : ℕ) → phase_of p (fresh p n f) ≡ Fresh
unfolding phase_of fresh
fresh_phase p n f = refl

pub fresh_whole : (p : NumberedProgram) (n f : ℕ) → StartsWhole (fresh p n f)
unfolding fresh
fresh_whole p n f e = refl

pub all_one : {X : Type 0} (P : X → Type 0) (x : X) → P x → All P (x ∷ [])
all_one P x h zero d l = h
all_one P x h (suc k) d l = absurd (omega arith)

pub kept_create : (p : NumberedProgram) (s z : State) (t a f : ℕ) (l : LocalState) (act : Action) → IsProgram p → IsMachine p s → slice_get s.locals t ≡ Some l → next p l ≡ act
    → CanStep act → a < 2 ^ 64 → phase_before act ≡ Going → phase_after act ≡ Going → BeginsThread (slice_get p.functions f) → length s.locals < THREAD_LIMIT
    → z.locals ≡ s.locals ++ fresh p (length s.locals) f ∷ [] → MadeOne s.sync.threads z.sync.threads z.sync.waiters → length z.words ≡ length s.words + 1
    → IsMachine p (record z { locals = slice_set z.locals t (after p l a) })
kept_create p s z t a f l act program h e n can small before then begins few same m w =
    let go : CanStep (next p l) = subst CanStep (sym n) can in
    let x = fresh p (length s.locals) f in
    let made : IsOf p x = fresh_of p (length s.locals) f program (inr begins) few in
    let inside : t < length s.locals = slice_get_within s.locals t l e in
    let longer : length z.locals ≡ length s.locals + 1 = ap length same ∙ length-append s.locals (x ∷ []) in
    let below : t < length z.locals = omega (arith, inside, longer) in
    let apart : (t ≡ length s.locals → ⊥) = λ q. absurd (omega (arith, inside, q)) in
    let last = ap (λ (ls : List LocalState). phase_in p (slice_get ls (length s.locals))) same ∙ ap (phase_in p) (last_own s.locals x) ∙ fresh_phase p (length s.locals) f in
    record {
      of = then_of p z.locals t a l program (all_at (IsOf p) s.locals t l e h.of) go small (rw same (All-append (IsOf p) s.locals (x ∷ []) h.of (all_one (IsOf p) x made)));
      starts = then_whole p z.locals t a l go (rw same (All-append StartsWhole s.locals (x ∷ []) h.starts (all_one StartsWhole x (fresh_whole p (length s.locals) f))));
      phases = λ u. by_number (λ v. stage_phase (stage_at z.sync.threads v) ≡ phase_in p (slice_get (locals_then p z.locals t l a) v)) t u (u == t) refl
          (m.others t (λ q. apart (q ∙ h.threads)) ∙ own_phase p s t l h e go ∙ ap phase_before n ∙ before
          ∙ sym (then_own p z.locals t a l act below (all_at StartsWhole s.locals t l e h.starts) n go ∙ then))
          (λ d. by_number (λ v. (v ≡ t → ⊥) → stage_phase (stage_at z.sync.threads v) ≡ phase_in p (slice_get (locals_then p z.locals t l a) v)) (length s.locals) u
          (u == length s.locals) refl
          (λ c. ap (λ (k : ℕ). stage_phase (stage_at z.sync.threads k)) (sym h.threads) ∙ m.new ∙ sym last ∙ ap (phase_in p) (sym (set_other z.locals t (length s.locals) (after p l a) c)))
          (λ b c. m.others u (λ q. b (q ∙ h.threads)) ∙ h.phases u ∙ ap (phase_in p) (sym (last_other s.locals x u b))
          ∙ ap (λ (ls : List LocalState). phase_in p (slice_get ls u)) (sym same) ∙ ap (phase_in p) (sym (set_other z.locals t u (after p l a) c)))
          d);
      waiters = m.waiters;
      words = w ∙ ap (λ (k : ℕ). k + 1) h.words ∙ sym longer ∙ sym (set_length z.locals t (after p l a));
      threads = m.count ∙ ap (λ (k : ℕ). k + 1) h.threads ∙ sym longer ∙ sym (set_length z.locals t (after p l a));
      few = omega (arith, few, longer, set_length z.locals t (after p l a));
    }
