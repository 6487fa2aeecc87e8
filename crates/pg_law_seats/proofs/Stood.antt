-- A cut of rows, and what words hold there, found by computing.
use Rattle.std.proofs.Common.{◌≡◌, ℕ, ◌==◌, ◌≤◌, ◌&&◌, Bool, true, cond, List, [], ◌∷◌, Option, Some, None, refl, sym, ap, ◌∙◌, subst}
use Rattle.std.specs.Prelude.{nat_le, slice_get, slice_index, if◌then◌else◌}
use Rattle.std.specs.List.{AllByRecursion as AllOf}
use Rattle.std.proofs.lemmas.Bool.{and_parts, eqb-true, leb-true}
use Rattle.pg_law_threads.specs.Cuts.{IsWithin, Mark, count_done, kept, marked}
use Rattle.pg_law_threads.specs.Effects.{deeds, effect, effects, or_old}
use Rattle.pg_law_threads.specs.Intervals.{Timed, did_of, times, turns_done}
use Rattle.pg_law_threads.specs.Standing.{Stands, done_of, left_by, own}
use Rattle.pg_law_threads.proofs.CutCounts.{cut_marked, whole_marked}
use Rattle.pg_law_runs.specs.Deeds.{Did, Seen}
use Rattle.pg_words.specs.declared.layout.TheConstants.{TURN_WORD}
use Rattle.pg_seats.specs.declared.run.Run.{Run}
use Rattle.pg_seats.specs.Plan.{first_of, plan_of, turns_in}
use Rattle.pg_seats.specs.Rule.{cell_in, over, over_turn}
use Rattle.pg_law_seats.specs.Cuts.{StandsAt, parts_of}

-- ---- tests that compute

abbrev pub passes : {A : Type 0} → (A → Bool) → List A → Bool
passes f [] = true
passes f (x ∷ xs) = f x && passes f xs

all_of : {A : Type 0} (f : A → Bool) (P : A → Type 0) → ((x : A) → f x ≡ true → P x) → (xs : List A) → passes f xs ≡ true → AllOf P xs
all_of f P h [] e = tt
all_of f P h (x ∷ xs) e = (h x (and_parts (f x) (passes f xs) e).0, all_of f P h xs (and_parts (f x) (passes f xs) e).1)

abbrev pub is_within : ℕ → Mark (Timed Did) → Bool
is_within g m = if m.done then nat_le m.step.low g else nat_le g m.step.high

within : (g : ℕ) (m : Mark (Timed Did)) → is_within g m ≡ true → IsWithin g m
within g m e = record {
  if_done = λ d. leb-true m.step.low g (sym (ap (λ (b : Bool). cond b (nat_le m.step.low g) (nat_le g m.step.high)) d) ∙ e);
  if_open = λ d. leb-true g m.step.high (sym (ap (λ (b : Bool). cond b (nat_le m.step.low g) (nat_le g m.step.high)) d) ∙ e);
}

-- ---- cells where all are 0 at first

abbrev pub zeros : Seen → Seen
zeros z = record { locals = z.locals; cells = λ c. 0; objects = z.objects }

same_cells : (z y : Seen) → ((c : ℕ) → z.cells c ≡ y.cells c) → (ds : List Did) (c : ℕ) → (effects z ds).cells c ≡ (effects y ds).cells c
same_cells z y h [] c = h c
same_cells z y h (d ∷ ds) c = same_cells (effect z d) (effect y d) (λ b. ap (λ v. or_old (d.writes b) v) (h b)) ds c

-- ---- the cut

abbrev pub over_plan : List ℕ → List Did → (ℕ → ℕ) → (ℕ → ℕ) → Option ℕ → ℕ → ℕ → ℕ
over_plan owners plan done parts None b v = v
over_plan owners plan done parts (Some t) b v = over (slice_get (own t (times deeds owners 0 plan)) (done t)) (parts t) b v

over_same : (r : Run) (done parts : ℕ → ℕ) (o : Option ℕ) (b v : ℕ) → over_plan (turns_in r) (plan_of r) done parts o b v ≡ over_turn r done parts o b v
over_same r done parts None b v = refl
over_same r done parts (Some t) b v = refl

-- how many shared steps each thread has done
abbrev pub counts : ℕ → ℕ → ℕ → ℕ
counts main first t = if t == 0 then main else if t == 1 then first else 0

abbrev pub marks_at : List ℕ → List Did → ℕ → ℕ → List (Mark (Timed Did))
marks_at owners plan main first = marked deeds (counts main first) (times deeds owners 0 plan)

abbrev pub holds_at : List ℕ → List Did → Seen → List (Mark (Timed Did)) → ℕ → ℕ → ℕ → List ℕ → ℕ → Bool
holds_at owners plan z marks g t parts words b =
    cell_in words b == over_plan owners plan (count_done deeds marks) (parts_of t parts) (slice_get owners g) b ((effects z (did_of (kept marks))).cells b)

record CutAt (owners : List ℕ) (plan : List Did) (z : Seen) (g main first t parts : ℕ) (words cells : List ℕ) : Type 0 where
  pub bound : g ≤ turns_done deeds 0 plan
  pub stands : Stands owners plan g
  pub main_done : done_of stands 0 ≡ main
  pub first_done : done_of stands 1 ≡ first
  pub memory : AllOf (λ b. cell_in words b ≡ over_plan owners plan (done_of stands) (parts_of t parts) (slice_get owners g) b ((left_by z stands).cells b)) cells

cut_at : (owners : List ℕ) (plan : List Did) (z : Seen) (g main first t parts : ℕ) (words cells : List ℕ) → ((c : ℕ) → z.cells c ≡ 0) → nat_le g (turns_done deeds 0 plan) ≡ true
    → passes (is_within g) (marks_at owners plan main first) ≡ true
    → count_done deeds (marks_at owners plan main first) 0 ≡ main → count_done deeds (marks_at owners plan main first) 1 ≡ first
    → passes (holds_at owners plan (zeros z) (marks_at owners plan main first) g t parts words) cells ≡ true
    → CutAt owners plan z g main first t parts words cells
cut_at owners plan z g main first t parts words cells zero few below a b held =
    let xs = times deeds owners 0 plan in
    let marks = marks_at owners plan main first in record {
      bound = leb-true g (turns_done deeds 0 plan) few;
      stands = record {
        marks = marks;
        is_whole = whole_marked deeds (counts main first) xs;
        is_cut = cut_marked deeds (counts main first) xs;
        below = all_of (is_within g) (λ m. IsWithin g m) (λ m e. within g m e) marks below;
      };
      main_done = a;
      first_done = b;
      memory = all_of (holds_at owners plan (zeros z) marks g t parts words)
          (λ c. cell_in words c ≡ over_plan owners plan (count_done deeds marks) (parts_of t parts) (slice_get owners g) c ((effects z (did_of (kept marks))).cells c))
          (λ c e. eqb-true _ _ e ∙ ap (over_plan owners plan (count_done deeds marks) (parts_of t parts) (slice_get owners g) c) (same_cells (zeros z) z (λ i. sym (zero i)) (did_of (kept marks)) c)) cells held;
    }

stood : (r : Run) (g main first t parts : ℕ) (words cells : List ℕ) → slice_index words TURN_WORD ≡ g → CutAt (turns_in r) (plan_of r) (first_of r) g main first t parts words cells
    → StandsAt r g main first t parts words cells
stood r g main first t parts words cells clock k = record {
  clock = clock;
  bound = k.bound;
  stands = k.stands;
  main_done = k.main_done;
  first_done = k.first_done;
  memory = each cells k.memory;
}
  where
    each : (bs : List ℕ) → AllOf (λ b. cell_in words b ≡ over_plan (turns_in r) (plan_of r) (done_of k.stands) (parts_of t parts) (slice_get (turns_in r) g) b ((left_by (first_of r) k.stands).cells b)) bs
        → AllOf (λ b. cell_in words b ≡ over_turn r (done_of k.stands) (parts_of t parts) (slice_get (turns_in r) g) b ((left_by (first_of r) k.stands).cells b)) bs
    each [] h = tt
    each (b ∷ bs) h = (
      h.0 ∙ over_same r (done_of k.stands) (parts_of t parts) (slice_get (turns_in r) g) b ((left_by (first_of r) k.stands).cells b),
      each bs h.1,
    )

-- the words are as the rule wants them at a cut, where the tests pass on the rows
pub stands_at : (r : Run) (owners : List ℕ) (plan : List Did) (g main first t parts : ℕ) (words cells : List ℕ) → turns_in r ≡ owners → plan_of r ≡ plan
    → ((c : ℕ) → (first_of r).cells c ≡ 0) → slice_index words TURN_WORD ≡ g → nat_le g (turns_done deeds 0 plan) ≡ true
    → passes (is_within g) (marks_at owners plan main first) ≡ true
    → count_done deeds (marks_at owners plan main first) 0 ≡ main → count_done deeds (marks_at owners plan main first) 1 ≡ first
    → passes (holds_at owners plan (zeros (first_of r)) (marks_at owners plan main first) g t parts words) cells ≡ true
    → StandsAt r g main first t parts words cells
stands_at r owners plan g main first t parts words cells o p zero clock few below a b held =
    let k = cut_at owners plan (first_of r) g main first t parts words cells zero few below a b held in
    stood r g main first t parts words cells clock
    (subst (λ (T : List ℕ). CutAt T (plan_of r) (first_of r) g main first t parts words cells) (sym o)
    (subst (λ (ds : List Did). CutAt owners ds (first_of r) g main first t parts words cells) (sym p) k))
