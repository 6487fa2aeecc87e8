-- The reply of a turn stands in the schedule at the turn's number, and a thread goes on with it as with the answer.
use Rattle.std.proofs.Common.{◌≡◌, ℕ, ℤ, List, [], ◌∷◌, ◌++◌, length, Bool, true, false, Option, Some, None, refl, sym, ◌∙◌, ap, suc, append_assoc}
use Rattle.std.specs.Prelude.{slice_index}
use Rattle.std.specs.List.{cons_option}
use Rattle.std.proofs.lemmas.List.Elements.{filter_map-append}
use Rattle.pg_ir.specs.declared.request.Request.{Request}
use Rattle.pg_ir.specs.declared.request.Request.TheVariants as requests
use Rattle.pg_ir.specs.Program.{NumberedProgram}
use Rattle.pg_run_objects.specs.Sync as sync
use Rattle.pg_run_thread.specs.declared.action.Action.{Action}
use Rattle.pg_run_thread.specs.declared.action.Action.TheVariants as actions
use Rattle.pg_run_thread.specs.LocalState.{Frame, LocalState}
use Rattle.pg_run_thread.specs.Step.{after, frames_action, next}
use Rattle.pg_run_thread.specs.Told.{number_given}
use Rattle.pg_run_trace.specs.declared.step.Happening.{Happening}
use Rattle.pg_run_trace.specs.declared.step.Step.{Step}
use Rattle.pg_run_trace.specs.declared.step.StepKind.{StepKind}
use Rattle.pg_run_trace.specs.declared.step.StepKind.TheVariants as told
use Rattle.pg_run_trace.specs.Kinds.{kind_of}
use Rattle.pg_run_trace.specs.Races.{reply_in, reply_of}
use Rattle.pg_run_trace.specs.Steps.{events, happening_in}
use Rattle.pg_run.specs.MachineStep.{answer_of}
use Rattle.pg_run.specs.State.{State}
use Rattle.pg_law_runs.specs.Cuts.{IsFrontOf}
use Rattle.pg_law_order.specs.Good.{replies_of}
use Rattle.pg_law_order.proofs.RepliesOfSteps.{no_reply}
use Rattle.pg_law_runs.specs.pg_law_effects.Views.{cell_at}
use Rattle.pg_law_course.specs.Steps.{answer_by}
use Rattle.pg_law_course.proofs.ActionCells.{word_same}
use Rattle.pg_law_course.proofs.RepliesSuffice.{resumes}

-- ---- the schedule's reply

has_reply : (k : StepKind) (h : Happening) → happening_in k ≡ Some h → (n : ℕ) × (reply_in k ≡ Some n)
has_reply told.Other h e = absurd cc
has_reply (told.Branch c) h e = absurd cc
has_reply (told.Allocation m n) h e = absurd cc
has_reply (told.Event v) h e = (_, refl)
has_reply (told.Access a) h e = go a.event _ e
  where
    go : (b : Bool) (v : Happening) → Path (Option Happening) (Rattle.std.specs.Prelude.if◌then◌else◌ {A = Option Happening} b (Some v) None) (Some h)
        → (n : ℕ) × (Path (Option ℕ) (Rattle.std.specs.Prelude.if◌then◌else◌ {A = Option ℕ} b (Some 0) None) (Some n))
    go true v q = (0, refl)
    go false v q = absurd cc

replies_length : (xs : List Step) → length (replies_of xs) ≡ length (events xs)
replies_length [] = refl
replies_length (x ∷ xs) = go (happening_in x.kind) refl (replies_length xs)
  where
    go : (o : Option Happening) → happening_in x.kind ≡ o → length (replies_of xs) ≡ length (events xs) → length (replies_of (x ∷ xs)) ≡ length (events (x ∷ xs))
    go None e ih = rw (e, no_reply x.kind e) ih
    go (Some h) e ih = let r = has_reply x.kind h e in rw (e, r.1) (ap suc ih)

index_at : (ns : List ℕ) (n : ℕ) (ms : List ℕ) → slice_index (ns ++ n ∷ ms) (length ns) ≡ n
index_at [] n ms = refl
index_at (m ∷ ns) n ms = index_at ns n ms

pub reply_at : (xs : List Step) (x : Step) (ys : List Step) (replies : List ℕ) (n : ℕ) → IsFrontOf (replies_of (xs ++ x ∷ ys)) replies → reply_in x.kind ≡ Some n
    → slice_index replies (length (events xs)) ≡ n
reply_at xs x ys replies n f e =
    let split : replies_of (xs ++ x ∷ ys) ≡ replies_of xs ++ n ∷ replies_of ys = filter_map-append (λ (y : Step). reply_in y.kind) xs (x ∷ ys)
    ∙ ap (λ (o : Option ℕ). replies_of xs ++ cons_option o (replies_of ys)) e in
    let whole : replies_of xs ++ n ∷ (replies_of ys ++ f.0) ≡ replies = sym (append_assoc (replies_of xs) (n ∷ replies_of ys) f.0) ∙ ap (λ (l : List ℕ). l ++ f.0) (sym split) ∙ f.1 in
    ap (slice_index replies) (sym (replies_length xs)) ∙ ap (λ (l : List ℕ). slice_index l (length (replies_of xs))) (sym whole) ∙ index_at (replies_of xs) n (replies_of ys ++ f.0)

-- ---- the answer

is_start : Request → Bool
is_start requests.Start = true
is_start r = false

same_request : (r q : Request) → Path Action (actions.Event r) (actions.Event q) → r ≡ q
same_request r q e = cc

frames_begun : (p : NumberedProgram) (l : LocalState) (b : Bool) (fs : List Frame) (r : Request) → frames_action p l b fs ≡ actions.Event r → is_start r ≡ false → b ≡ true
unfolding is_start
frames_begun p l true fs r e n = refl
frames_begun p l false [] r e n = absurd cc
frames_begun p l false (f ∷ fs) r e n = absurd (let k : true ≡ false = ap is_start (same_request requests.Start r e) ∙ n in cc)

begun_by : (p : NumberedProgram) (l : LocalState) (r : Request) → next p l ≡ actions.Event r → is_start r ≡ false → l.begun ≡ true
unfolding next
begun_by p l r e n = frames_begun p l l.begun l.frames r e n

module _ (p : NumberedProgram) (input : List ℤ) (s : State) (t : ℕ) (l : LocalState) (cells : ℕ → ℕ) (same : (c : ℕ) → cells c ≡ cell_at s c) where
  abbrev answer : Request → ℕ
  answer r = answer_of s t (sync.done s.sync t r).1 r

  -- a thread goes on with the schedule's reply as with the answer to its request
  pub request_resumes : (r : Request) → next p l ≡ actions.Event r
      → after p l (answer_of s t (sync.done s.sync t r).1 r)
      ≡ after p l (answer_by input cells t (reply_of (kind_of r) (number_given p l (answer_of s t (sync.done s.sync t r).1 r))) (actions.Event r))
  unfolding sync.done is_start
  request_resumes requests.Start e = ap (after p l) (sym (word_same s cells same t))
  request_resumes (requests.Exit n is_return) e = refl
  request_resumes (requests.Wait c m) e = refl
  request_resumes (requests.Arrive o) e = refl
  request_resumes (requests.Out n b) e = refl
  request_resumes (requests.Putchar n) e = refl
  request_resumes r e = sym (resumes p l (answer r) (begun_by p l r e refl))
