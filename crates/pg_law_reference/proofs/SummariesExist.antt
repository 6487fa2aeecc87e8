-- The functions of each program have their summaries.
use Rattle.std.proofs.Common.{◌≡◌, ◌≢◌, ℕ, zero, suc, ◌+◌, ◌<◌, ◌≤◌, ◌==◌, ◌||◌, ◌↔◌, ◌⊎◌, Bool, true, false, cond, List, [], ◌∷◌}
use Rattle.std.proofs.Common.{length, Option, None, refl, sym, ap, subst, arith, inl, inr}
use Rattle.std.specs.Prelude.{Contains}
use Rattle.std.proofs.lemmas.Bool.{cases_eq, eq-eqb, eqb-true, ne_eqb, or_cases, or_left, or_right, true≢false}
use Rattle.pg_cfg.specs.Graphs.{IsReach, targets_of}
use Rattle.pg_ir.specs.Program.{NumberedProgram}
use Rattle.pg_ir.specs.WellFormed.{IsProgram}
use Rattle.pg_region_accesses.specs.Accesses.{RootedList}
use Rattle.pg_region_accesses.specs.Tables.{in_table}
use Rattle.pg_region_paths.proofs.Elements.{cases, here, none_in, there}
use Rattle.pg_region_summaries.specs.declared.reaches.Reach.{Reach}
use Rattle.pg_region_summaries.specs.Callees.{calls_of}
use Rattle.pg_region_summaries.specs.Creates.{is_started}
use Rattle.pg_region_summaries.specs.Reaches.{AreReaches, IsReachOf, NO_FUNCTION, reach_at}
use Rattle.pg_region_summaries.specs.Summaries.{AreSummaries, summary_by}
use Rattle.pg_region_summaries.specs.Work.{AreWorked, is_done, may_be_quiet}
use Rattle.pg_region_summaries.proofs.InstructionPlaces.{callee_small, edge_calls, graph_size}
use Rattle.pg_region_summaries.proofs.WorkOrder.{all_worked, none_worked, round_over, worked_more, worked_skip}
use Rattle.pg_law_reference.proofs.ReachedVertices.{reach, reach_few}
use Rattle.pg_law_reference.proofs.FunctionTables.{table, table_at}

-- ---- members of lists of numbers

has : List ℕ → ℕ → Bool
has [] x = false
has (y ∷ ys) x = (y == x) || has ys x

has_exact : (ys : List ℕ) (x : ℕ) → (has ys x ≡ true) ↔ Contains ys x
unfolding has
has_exact [] x = (λ e. absurd (true≢false (sym e)), λ c. absurd (none_in x c))
has_exact (y ∷ ys) x = (to (has_exact ys x).0, from (has_exact ys x).1)
  where
    to : (has ys x ≡ true → Contains ys x) → ((y == x) || has ys x) ≡ true → Contains (y ∷ ys) x
    to h e = go (or_cases (y == x) (has ys x) e)
      where
        go : ((y == x) ≡ true) ⊎ (has ys x ≡ true) → Contains (y ∷ ys) x
        go (inl q) = subst (λ (z : ℕ). Contains (y ∷ ys) z) (eqb-true y x q) (here y ys)
        go (inr q) = there y ys x (h q)

    from : (Contains ys x → has ys x ≡ true) → Contains (y ∷ ys) x → ((y == x) || has ys x) ≡ true
    from h c = go (cases y ys x c)
      where
        go : (y ≡ x) ⊎ Contains ys x → ((y == x) || has ys x) ≡ true
        go (inl e) = or_left (y == x) (has ys x) (eq-eqb y x e)
        go (inr d) = or_right (y == x) (has ys x) (h d)

-- ---- what is prepared

module _ (p : NumberedProgram) (program : IsProgram p) (gated : ℕ → Bool) where
  within : (a b : ℕ) → Contains (targets_of (calls_of p) a) b → b < length (calls_of p)
  within a b c = let s : b < length p.functions = callee_small p a b program (edge_calls p a b program (record { leads = c })) in omega (arith, s, graph_size p)

  reached : (f : ℕ) → (xs : List ℕ) × IsReach (calls_of p) f NO_FUNCTION xs
  reached f = reach (calls_of p) within f NO_FUNCTION

  reach_of : ℕ → Reach
  reach_of f = record { size = length (reached f).0; is_recursive = has (reached f).0 f }

  reach_is : (f : ℕ) → IsReachOf (calls_of p) f (reach_of f)
  unfolding reach_of
  reach_is f = record { reached = (reached f).0; reach = (reached f).1; size = refl; recursive = has_exact (reached f).0 f }

  pub reaches : List Reach
  reaches = table reach_of (length p.functions)

  reach_there : (f : ℕ) → f < length p.functions → reach_at reaches f ≡ reach_of f
  unfolding reaches
  reach_there f lt = table_at reach_of (record { size = 0; is_recursive = false }) (length p.functions) f lt

  pub are_reaches : AreReaches (calls_of p) (length p.functions) reaches
  are_reaches f lt = subst (λ (r : Reach). IsReachOf (calls_of p) f r) (sym (reach_there f lt)) (reach_is f)

  reach_small : (f : ℕ) → f < length p.functions → (reach_at reaches f).size < suc (length p.functions)
  unfolding reach_of
  reach_small f lt =
      let e : (reach_at reaches f).size ≡ length (reached f).0 = ap (λ (r : Reach). r.size) (reach_there f lt) in
      let n : length (reached f).0 ≤ length (calls_of p) = reach_few (calls_of p) within f NO_FUNCTION (reached f).0 (reached f).1 in
      omega (arith, e, n, graph_size p)

  started : List Bool
  started = table (is_started p) (length p.functions)

  named : (f : ℕ) → f < length p.functions → in_table started f ≡ is_started p f
  unfolding started
  named f lt = table_at (is_started p) false (length p.functions) f lt

  -- ---- one function after another

  abbrev Sums : Type 0
  Sums = ℕ → Option RootedList

  abbrev with_sum : Sums → ℕ → Option RootedList → Sums
  with_sum sums f s g = cond (g == f) s (sums g)

  sum_same : (sums : Sums) (f : ℕ) (s : Option RootedList) → with_sum sums f s f ≡ s
  sum_same sums f s = let e : (f == f) ≡ true = eq-eqb f f refl in rw e refl

  sum_other : (sums : Sums) (f g : ℕ) (s : Option RootedList) → g ≢ f → with_sum sums f s g ≡ sums g
  sum_other sums f g s ne = let e : (g == f) ≡ false = ne_eqb g f ne in rw e refl

  abbrev WorkedTo : ℕ → ℕ → Type 0
  WorkedTo size f = (sums : Sums) × AreWorked p gated sums (is_done p started reaches size f)

  next_worked : (size f : ℕ) → f < length p.functions → WorkedTo size f → WorkedTo size (f + 1)
  next_worked size f lt w = go (may_be_quiet p started reaches f) refl (cases_eq (reach_at reaches f).size size)
    where
      go : (b : Bool) → may_be_quiet p started reaches f ≡ b → ((reach_at reaches f).size ≡ size) ⊎ ((reach_at reaches f).size ≡ size → ⊥) → WorkedTo size (f + 1)
      go true e (inl q) =
          let s = summary_by p gated w.0 f in
          (with_sum w.0 f s, worked_more p started reaches gated program are_reaches w.0 (with_sum w.0 f s) size f lt w.1 e q (sum_same w.0 f s) (λ g ne. sum_other w.0 f g s ne))
      go true e (inr ne) = (w.0, worked_skip p started reaches gated w.0 size f w.1 (λ q. absurd (ne q)))
      go false e d = (w.0, worked_skip p started reaches gated w.0 size f w.1 (λ q. e))

  round : (size f : ℕ) → f ≤ length p.functions → WorkedTo size 0 → WorkedTo size f
  round size zero le w = w
  round size (suc f) le w =
      let e : f + 1 ≡ suc f = omega arith in
      subst (λ (k : ℕ). WorkedTo size k) e (next_worked size f (omega (arith, le)) (round size f (omega (arith, le)) w))

  rounds : (size : ℕ) → WorkedTo size 0
  rounds zero = ((λ f. None), none_worked p started reaches gated (λ f. None) (λ f. refl))
  rounds (suc size) =
      let w = round size (length p.functions) (omega arith) (rounds size) in
      let e : size + 1 ≡ suc size = omega arith in
      subst (λ (k : ℕ). WorkedTo k 0) e (w.0, round_over p started reaches gated w.0 size (length p.functions) (omega arith) w.1)

  pub summaries : (sums : Sums) × AreSummaries p gated sums
  summaries =
      let w = rounds (suc (length p.functions)) in
      (w.0, all_worked p started reaches gated program are_reaches named w.0 (suc (length p.functions)) reach_small w.1)
