-- Steps as they were recorded, read as if the loads and stores of some instructions were events.
use Rattle.std.proofs.Common.{◌≡◌, ℕ, Bool, List, [], ◌∷◌, map, refl, sym, ap, ◌∙◌, subst, inl}
use Rattle.std.specs.Prelude.{is_some, ◌||◌, ◌&&◌, cond}
use Rattle.pg_ir.specs.declared.ids.InstrId.{InstrId}
use Rattle.pg_law_threads.specs.Steps.{View, Conflict}
use Rattle.pg_law_threads.specs.Intervals.{AreTurns, IsOrdered, done_after, owners}
use Rattle.pg_run_trace.specs.declared.step.Step.{Step}
use Rattle.pg_run_trace.specs.declared.step.StepKind.{StepKind}
use Rattle.pg_run_trace.specs.declared.step.StepKind.TheVariants as kinds
use Rattle.pg_run_trace.specs.Races.{is_one_of, kind_gated, reads_in, recorded, steps_by, with_gated, writes_in}
use Rattle.pg_run_trace.specs.Steps.{access_in, happening_in}
use Rattle.pg_law_runs.proofs.OrderedDeeds.{Paired, ordered_as}

abbrev pub gated_event : List InstrId → Step → Bool
gated_event gated x = is_some (happening_in (with_gated gated x).kind)

-- as if the loads and stores of these instructions, and no others, were events
abbrev pub as_gated : List InstrId → View Step
as_gated gated = steps_by (gated_event gated)

reads_gated : (b : Bool) (k : StepKind) (c : ℕ) → reads_in (access_in (kind_gated b k)) c ≡ reads_in (access_in k) c
reads_gated b (kinds.Access a) c = refl
reads_gated b (kinds.Event e) c = refl
reads_gated b (kinds.Branch n) c = refl
reads_gated b (kinds.Allocation m n) c = refl
reads_gated b kinds.Other c = refl

writes_gated : (b : Bool) (k : StepKind) (c : ℕ) → writes_in (access_in (kind_gated b k)) c ≡ writes_in (access_in k) c
writes_gated b (kinds.Access a) c = refl
writes_gated b (kinds.Event e) c = refl
writes_gated b (kinds.Branch n) c = refl
writes_gated b (kinds.Allocation m n) c = refl
writes_gated b kinds.Other c = refl

meets_same : (w r v q w' r' v' q' : Bool) → w ≡ w' → r ≡ r' → v ≡ v' → q ≡ q' → ((w && (q || v)) || ((r || w) && v)) ≡ ((w' && (q' || v')) || ((r' || w') && v'))
meets_same w r v q w' r' v' q' a b c d = rw (a, b, c, d) refl

module _ (gated : List InstrId) where
  abbrev IsGated : Step → Step → Type 0
  IsGated x y = with_gated gated x ≡ y

  paired : (xs : List Step) → Paired (as_gated gated) recorded IsGated xs (map (with_gated gated) xs)
  paired [] = tt
  paired (x ∷ xs) = (refl, paired xs)

  paired_back : (xs : List Step) → Paired recorded (as_gated gated) (λ y x. IsGated x y) (map (with_gated gated) xs) xs
  paired_back [] = tt
  paired_back (x ∷ xs) = (refl, paired_back xs)

  -- the same conflicts, with these gates or without
  meets : (x x' : Step) → Conflict recorded (with_gated gated x) (with_gated gated x') → Conflict (as_gated gated) x x'
  meets x x' c = record {
    threads = c.threads;
    cell = c.cell;
    meet = sym (meets_same _ _ _ _ _ _ _ _
        (writes_gated (is_one_of gated x.instr.0) x.kind c.cell) (reads_gated (is_one_of gated x.instr.0) x.kind c.cell)
        (writes_gated (is_one_of gated x'.instr.0) x'.kind c.cell) (reads_gated (is_one_of gated x'.instr.0) x'.kind c.cell)) ∙ c.meet;
  }

  meets_back : (x x' : Step) → Conflict (as_gated gated) x x' → Conflict recorded (with_gated gated x) (with_gated gated x')
  meets_back x x' c = record {
    threads = c.threads;
    cell = c.cell;
    meet = meets_same _ _ _ _ _ _ _ _
        (writes_gated (is_one_of gated x.instr.0) x.kind c.cell) (reads_gated (is_one_of gated x.instr.0) x.kind c.cell)
        (writes_gated (is_one_of gated x'.instr.0) x'.kind c.cell) (reads_gated (is_one_of gated x'.instr.0) x'.kind c.cell) ∙ c.meet;
  }

  pub turns_gated : (T : List ℕ) (k : ℕ) (xs : List Step) → AreTurns (as_gated gated) T k xs → AreTurns recorded T k (map (with_gated gated) xs)
  turns_gated T k [] h = tt
  turns_gated T k (x ∷ xs) h = (h.0, turns_gated T (done_after (gated_event gated x) k) xs h.1)

  pub owners_gated : (xs : List Step) → owners (as_gated gated) xs ≡ owners recorded (map (with_gated gated) xs)
  owners_gated [] = refl
  owners_gated (x ∷ xs) = ap (λ (l : List ℕ). cond (gated_event gated x) (x.thread.0 ∷ l) l) (owners_gated xs)

  -- a run with these gates is ordered exactly where its steps are, read so
  pub order_gated : (T : List ℕ) (xs : List Step) → AreTurns (as_gated gated) T 0 xs → IsOrdered (as_gated gated) T xs → IsOrdered recorded T (map (with_gated gated) xs)
  order_gated T xs t o = ordered_as (as_gated gated) recorded IsGated (λ x y e. ap (λ (z : Step). z.thread.0) e) (λ x y e. ap (λ (z : Step). is_some (happening_in z.kind)) e)
      (λ x x' y y' e f c. inl (meets x x' (subst (λ (z : Step). Conflict recorded (with_gated gated x) z) (sym f) (subst (λ (z : Step). Conflict recorded z y') (sym e) c)))) T xs
      (map (with_gated gated) xs) (paired xs) (turns_gated T 0 xs t) o

  pub order_read : (T : List ℕ) (xs : List Step) → AreTurns (as_gated gated) T 0 xs → IsOrdered recorded T (map (with_gated gated) xs) → IsOrdered (as_gated gated) T xs
  order_read T xs t o = ordered_as recorded (as_gated gated) (λ y x. IsGated x y) (λ y x e. ap (λ (z : Step). z.thread.0) (sym e))
      (λ y x e. ap (λ (z : Step). is_some (happening_in z.kind)) (sym e))
      (λ y y' x x' e f c. inl (subst (λ (z : Step). Conflict recorded y z) f (subst (λ (z : Step). Conflict recorded z (with_gated gated x')) e (meets_back x x' c)))) T
      (map (with_gated gated) xs) xs (paired_back xs) t o
