-- Each decision that is blamed isn't taken, and is one of a step of the run.
use Rattle.std.proofs.Common.{◌≡◌, ℕ, ◌<◌, ℤ, false, List, [], ◌∷◌, Option, refl, sym, ap, ◌∙◌}
use Rattle.std.specs.List.{AllZip}
use Rattle.std.specs.Prelude.{slice_index_or}
use Rattle.std.proofs.lemmas.Bool.{true≢false}
use Rattle.pg_ir.specs.declared.instr.Op.{Op}
use Rattle.pg_slice_rules.specs.declared.decision.Decision.{Decision}
use Rattle.pg_slice_rules.specs.SymbolicValues.{OnInput, Symbolic, Known, Bounded, Unknown, applied, cut, from_all, moved, result_of, unset, valued}
use Rattle.pg_slice_rules.specs.Known.{Taken, has}
use Rattle.pg_slice_rules.specs.Rules.{moved_symbolic}
use Rattle.pg_law_least.specs.Laws.{step_in}
use Rattle.pg_law_least.proofs.KeptLikeness.{IsLink}

-- the decision isn't taken, and its step is one of so many
abbrev pub IsNew : Taken → ℕ → Decision → Type 0
IsNew d bound x = (has d x ≡ false) × (step_in x < bound)

abbrev pub BlamesNew : Taken → ℕ → Symbolic → Type 0
BlamesNew d bound (Known f g) = Unit {0}
BlamesNew d bound (Bounded f x) = IsNew d bound x
BlamesNew d bound (Unknown x) = IsNew d bound x

-- the same value, which blames such a decision
abbrev pub SameNew : Taken → ℕ → Symbolic → Symbolic → Type 0
SameNew d bound s t = (s ≡ t) × BlamesNew d bound s

module _ (d : Taken) (bound : ℕ) where
  all_new : (ss ts : List Symbolic) (F : (List ℤ → List (Option ℕ)) → OnInput) → AllZip (SameNew d bound) ss ts → BlamesNew d bound (from_all ss (λ gs. valued (F gs)))
  all_new [] [] F h = tt
  all_new [] (t ∷ ts) F h = absurd h
  all_new (s ∷ ss) [] F h = absurd h
  all_new (Known g k ∷ ss) (t ∷ ts) F h = all_new ss ts (λ gs. F (λ input. g input ∷ gs input)) h.1
  all_new (Bounded g x ∷ ss) (t ∷ ts) F h = h.0.1
  all_new (Unknown x ∷ ss) (t ∷ ts) F h = h.0.1

  same_list : (ss ts : List Symbolic) → AllZip (SameNew d bound) ss ts → ss ≡ ts
  same_list [] [] h = refl
  same_list [] (t ∷ ts) h = absurd h
  same_list (s ∷ ss) [] h = absurd h
  same_list (s ∷ ss) (t ∷ ts) h = let q : s ≡ t = h.0.0 in let r : ss ≡ ts = same_list ss ts h.1 in cc

  cut_new : (f : ℕ → ℕ) (s : Symbolic) → BlamesNew d bound s → BlamesNew d bound (cut f s)
  cut_new f (Known g k) h = tt
  cut_new f (Bounded g x) h = h
  cut_new f (Unknown x) h = h

  moved_new : (b s : Symbolic) → BlamesNew d bound s → BlamesNew d bound (moved b s)
  moved_new (Known f g) (Known u w) h = tt
  moved_new (Bounded f y) (Known u w) h = tt
  moved_new (Known f g) (Unknown x) h = h
  moved_new (Bounded f y) (Unknown x) h = h
  moved_new (Unknown y) (Unknown x) h = h
  moved_new b s h = h

  shift_new : (k : ℕ) (s : Symbolic) → BlamesNew d bound s → BlamesNew d bound (moved_symbolic k s)
  shift_new k (Known f g) h = tt
  shift_new k (Bounded f x) h = h
  shift_new k (Unknown x) h = h

  gep_new : (o : Op) (ss ts : List Symbolic) → AllZip (SameNew d bound) ss ts →
      SameNew d bound (moved (slice_index_or ss 0 unset) (result_of o ss)) (moved (slice_index_or ts 0 unset) (result_of o ts))
  gep_new o ss ts h = (
    ap (λ (zs : List Symbolic). moved (slice_index_or zs 0 unset) (result_of o zs)) (same_list ss ts h),
    moved_new (slice_index_or ss 0 unset) (result_of o ss) (all_new ss ts (λ gs input. applied o (gs input)) h),
  )

  pub new_link : IsLink d d bound (SameNew d bound)
  new_link = record {
    within = λ x h. h;
    known = λ f. (refl, tt);
    all = λ ss ts F h. (ap (λ (zs : List Symbolic). from_all zs (λ gs. valued (F gs))) (same_list ss ts h), all_new ss ts F h);
    cuts = λ f s t h. (ap (cut f) h.0, cut_new f s h.1);
    moves = λ o base indices q ss ts h. gep_new o ss ts h;
    shifts = λ k s t h. (ap (moved_symbolic k) h.0, shift_new k s h.1);
    both = λ x l q. (refl, (q, l));
    left = λ x q f t. absurd (true≢false (sym f ∙ q));
  }
