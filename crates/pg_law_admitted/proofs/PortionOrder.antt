-- Portions in turn: each thread's do its first units in order, and units that are tied are done in the order of the reference run.
use Rattle.std.proofs.Common.{◌≡◌, ℕ, ◌<◌, ◌++◌, ◌+◌, length, suc, List, [], ◌∷◌, arith, sym, ap, ◌∙◌, subst, inl, inr}
use Rattle.std.specs.List.{AllByRecursion as AllOf}
use Rattle.pg_slice_rules.specs.Known.{Taken}
use Rattle.pg_law_effects.specs.PermittedSteps.{none_taken, one_more}
use Rattle.pg_law_threads.proofs.DoneLists.{all_join}
use Rattle.pg_law_plan.specs.pg_law_runs.Cuts.{IsFrontOf}
use Rattle.pg_law_plan.specs.Lists.{Has}
use Rattle.pg_law_plan.specs.Units.{PlanUnit, ReferenceRun, units_of}
use Rattle.pg_law_plan.proofs.ListMembers.{all_has, has_all, has_left}
use Rattle.pg_law_admitted.specs.Invariant.{AreInOrder, AreTied, Portion, owner, units_by, units_done}
use Rattle.pg_law_admitted.proofs.MovesAsPortions.{AreInTurn}
use Rattle.pg_law_admitted.proofs.UnitNumbers.{Consecutive, NumberedFrom, all_by, are_first, by_thread, counts_after, counts_are, found, has_between, units_numbered}
use Rattle.pg_law_admitted.proofs.NextUnits.{InTurn}

module _ (r : ReferenceRun) (d : Taken) where
  numbered : (c : ℕ → ℕ) (es : List Portion) → AreInTurn r d c es → NumberedFrom c (units_done es)
  numbered c [] h = tt
  numbered c (e ∷ es) h = (h.0, numbered (one_more (owner e.unit) c) es h.1.1)

  -- a portion behind others
  record Behind (c : ℕ → ℕ) (before : List Portion) (e : Portion) : Type 0 where
    front : NumberedFrom c (units_done before)
    number : e.unit.units ≡ counts_after c (units_done before) (owner e.unit)
    turn : InTurn r d (counts_after c (units_done before)) e.unit

  behind : (c : ℕ → ℕ) (before : List Portion) (e : Portion) (later : List Portion) → AreInTurn r d c (before ++ e ∷ later) → Behind c before e
  behind c [] e later h = record { front = tt; number = h.0; turn = h.1.0 }
  behind c (x ∷ before) e later h =
      let k = behind (one_more (owner x.unit) c) before e later h.1.1 in
      record { front = (h.0, k.front); number = k.number; turn = k.turn }

  -- the number of a unit behind others
  number_at : (c : ℕ → ℕ) (us : List PlanUnit) (u : PlanUnit) (vs : List PlanUnit) → NumberedFrom c (us ++ u ∷ vs) → NumberedFrom c us × (u.units ≡ counts_after c us (owner u))
  number_at c [] u vs n = (tt, n.0)
  number_at c (x ∷ us) u vs n = let k = number_at (one_more (owner x) c) us u vs n.1 in ((n.0, k.0), k.1)

  units_in : (before later : List Portion) → AllOf (λ (p : Portion). Has (units_of r d) p.unit) (before ++ later) → AllOf (Has (units_of r d)) (units_done before)
  units_in [] later h = tt
  units_in (x ∷ before) later h = (h.0, units_in before later h.1)

  all_left_units : (us vs : List PlanUnit) → units_of r d ≡ us ++ vs → AllOf (Has (units_of r d)) us
  all_left_units us vs e = Rattle.pg_law_threads.proofs.DoneLists.all_left (Has (units_of r d)) us vs (subst (AllOf (Has (units_of r d))) e (has_all (units_of r d)))

  module _ (es : List Portion) (turn : AreInTurn r d none_taken es) (has : AllOf (λ (e : Portion). Has (units_of r d) e.unit) es) where
    -- one unit against that of a portion
    module _ (before : List Portion) (e : Portion) (later : List Portion) (us vs : List PlanUnit) (w : PlanUnit) (is : es ≡ before ++ e ∷ later)
        (place : units_of r d ≡ us ++ e.unit ∷ vs) where
      has_here : AllOf (λ (p : Portion). Has (units_of r d) p.unit) (before ++ e ∷ later)
      has_here = subst (AllOf (λ (p : Portion). Has (units_of r d) p.unit)) is has

      here : Behind none_taken before e
      here = behind none_taken before e later (subst (AreInTurn r d none_taken) is turn)

      numbers : NumberedFrom none_taken us × (e.unit.units ≡ counts_after none_taken us (owner e.unit))
      numbers = number_at none_taken us e.unit vs (subst (NumberedFrom none_taken) place (units_numbered r d))

      done : Has (units_of r d) w → w.units < counts_after none_taken (units_done before) (owner w) → Has (units_done before) w
      done h lt = found r d none_taken (units_done before) w here.front (units_in before (e ∷ later) has_here) h (omega arith) lt

      from_units : Has us w → Has (units_of r d) w
      from_units k = subst (λ (l : List PlanUnit). Has l w) (sym place) (has_left us (e.unit ∷ vs) w k)

      from_done : Has (units_done before) w → Has (units_of r d) w
      from_done k = all_has (Has (units_of r d)) (units_done before) w (units_in before (e ∷ later) has_here) k

      tied : AreTied d w e.unit → (Has us w → Has (units_done before) w) × (Has (units_done before) w → Has us w)
      tied (inr c) = (
        (λ k. done (from_units k) ((here.turn us vs w place (from_units k) c).0 k)),
        (λ k. (here.turn us vs w place (from_done k) c).1 (has_between none_taken (units_done before) w here.front k).1),
      )
      tied (inl own) = (
        (λ k. done (from_units k) (let a = (has_between none_taken us w numbers.0 k).1 in let b = numbers.1 in let q = here.number in let s = ap (counts_after none_taken us) own in
            let t = ap (counts_after none_taken (units_done before)) own in omega (arith, a, b, q, s, t))),
        (λ k. found r d none_taken us w numbers.0 (all_left_units us (e.unit ∷ vs) place) (from_done k) (omega arith)
            (let a = (has_between none_taken (units_done before) w here.front k).1 in let b = numbers.1 in let q = here.number in let s = ap (counts_after none_taken us) own in
            let t = ap (counts_after none_taken (units_done before)) own in omega (arith, a, b, q, s, t))),
      )

    pub in_order : AreInOrder r d es
    in_order before e later us vs w is place t = tied before e later us vs w is place t

    units_have : AllOf (Has (units_of r d)) (units_done es)
    units_have = go es has
      where
        go : (es : List Portion) → AllOf (λ (p : Portion). Has (units_of r d) p.unit) es → AllOf (Has (units_of r d)) (units_done es)
        go [] h = tt
        go (e ∷ es) h = (h.0, go es h.1)

    pub fronts : (t : ℕ) → IsFrontOf (units_by t (units_done es)) (units_by t (units_of r d))
    fronts t = are_first r d t (units_by t (units_done es)) (by_thread t none_taken (units_done es) (numbered none_taken es turn)) (all_by (Has (units_of r d)) t (units_done es) units_have)

    consecutive_more : (k : ℕ) (us : List PlanUnit) (u : PlanUnit) → Consecutive k us → u.units ≡ k + length us → Consecutive k (us ++ u ∷ [])
    consecutive_more k [] u h e = ((let q : u.units ≡ k = omega (arith, e) in q), tt)
    consecutive_more k (x ∷ us) u h e = (h.0, consecutive_more (suc k) us u h.1 (omega (arith, e)))

    -- the unit of thread t that has the next number is its next
    pub next_of : (t : ℕ) (u : PlanUnit) → Has (units_of r d) u → owner u ≡ t → u.units ≡ counts_after none_taken (units_done es) t
        → IsFrontOf (units_by t (units_done es) ++ u ∷ []) (units_by t (units_of r d))
    next_of t u h own n = are_first r d t (units_by t (units_done es) ++ u ∷ [])
        (consecutive_more 0 (units_by t (units_done es)) u (by_thread t none_taken (units_done es) (numbered none_taken es turn)) (n ∙ counts_are t none_taken (units_done es)))
        (all_join (λ (v : PlanUnit). Has (units_of r d) v × (owner v ≡ t)) (units_by t (units_done es)) (u ∷ []) (all_by (Has (units_of r d)) t (units_done es) units_have) ((h, own), tt))
