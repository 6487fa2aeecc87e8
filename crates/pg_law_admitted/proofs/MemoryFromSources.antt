-- Of a prefix that keeps the invariant: what a live step may read was last written by its source under the decisions.
use Rattle.std.proofs.Common.{◌≡◌, ℕ, ℤ, ◌⊎◌, ◌<◌, ◌++◌, ◌||◌, Bool, true, false, List, [], ◌∷◌, arith, Option, Some, None, refl, sym, ap, ◌∙◌, subst}
use Rattle.std.proofs.Common.{inl, inr, append_assoc}
use Rattle.std.specs.Prelude.{if◌then◌else◌}
use Rattle.std.specs.List.{AllByRecursion as AllOf}
use Rattle.std.proofs.lemmas.Bool.{and_from, cases_eq, or_left, or_right, true≢false}
use Rattle.pg_num.specs.declared.layout.TheConstants.{MEMORY_BYTES}
use Rattle.pg_region_accesses.specs.Accesses.{RootedList}
use Rattle.pg_run_trace.specs.declared.step.Step.{Step}
use Rattle.pg_run_trace.specs.Races.{recorded}
use Rattle.pg_slice_rules.specs.Known.{Taken}
use Rattle.pg_law_effects.specs.PermittedSteps.{none_taken}
use Rattle.pg_law_plan.specs.Lists.{Has}
use Rattle.pg_law_plan.specs.Units.{PlanUnit, ReferenceRun, is_placed_access, reads_cell, units_of, writes_cell}
use Rattle.pg_law_plan.proofs.ListMembers.{has_cases, has_left, has_right}
use Rattle.pg_law_admitted.specs.Invariant.{AreInOrder, AreTied, IsOfUnit, Portion, TouchesWithin, owner, steps_in, units_done}
use Rattle.pg_law_admitted.specs.Prefixes.{IsFromSource, IsLastWrittenBy, KeepsMemory, NoneWrites, source_in}
use Rattle.pg_law_admitted.proofs.UnitNumbers.{NumberedFrom, has_between, units_numbered}

-- ---- units at one byte

-- units of which one writes a byte and the other reads or writes it are tied
tied_by : (d : Taken) (u v : PlanUnit) (b : ℕ) → writes_cell d u.seen b ≡ true → (reads_cell d v.seen b || writes_cell d v.seen b) ≡ true → AreTied d u v
tied_by d u v b w t = go (cases_eq (owner u) (owner v))
  where
    go : (owner u ≡ owner v) ⊎ (owner u ≡ owner v → ⊥) → AreTied d u v
    go (inl e) = inl e
    go (inr ne) = inr (record { threads = ne; cell = b; meet = or_left _ _ (and_from (writes_cell d u.seen b) (reads_cell d v.seen b || writes_cell d v.seen b) w t) })

-- ---- the source among units

record Source (d : Taken) (b : ℕ) (us : List PlanUnit) (v : PlanUnit) : Type 0 where
  earlier : List PlanUnit
  later : List PlanUnit
  is : us ≡ earlier ++ v ∷ later
  writes : writes_cell d v.seen b ≡ true
  last : AllOf (λ (u : PlanUnit). writes_cell d u.seen b ≡ false) later

no_source : (d : Taken) (b : ℕ) (us : List PlanUnit) → source_in d b us ≡ None → AllOf (λ (u : PlanUnit). writes_cell d u.seen b ≡ false) us
no_source d b [] e = tt
no_source d b (u ∷ us) e = go (source_in d b us) refl (writes_cell d u.seen b) refl e (λ k. no_source d b us k)
  where
    go : (o : Option PlanUnit) → source_in d b us ≡ o → (w : Bool) → writes_cell d u.seen b ≡ w → Rattle.pg_law_admitted.specs.Prefixes.or_earlier o (if w then Some u else None) ≡ None
        → (source_in d b us ≡ None → AllOf (λ (u : PlanUnit). writes_cell d u.seen b ≡ false) us) → AllOf (λ (u : PlanUnit). writes_cell d u.seen b ≡ false) (u ∷ us)
    go (Some v) k w q h more = absurd cc
    go None k true q h more = absurd cc
    go None k false q h more = (q, more k)

source : (d : Taken) (b : ℕ) (us : List PlanUnit) (v : PlanUnit) → source_in d b us ≡ Some v → Source d b us v
source d b [] v e = absurd cc
source d b (u ∷ us) v e = go (source_in d b us) refl (writes_cell d u.seen b) refl e (λ k. source d b us v k)
  where
    go : (o : Option PlanUnit) → source_in d b us ≡ o → (w : Bool) → writes_cell d u.seen b ≡ w → Rattle.pg_law_admitted.specs.Prefixes.or_earlier o (if w then Some u else None) ≡ Some v
        → (source_in d b us ≡ Some v → Source d b us v) → Source d b (u ∷ us) v
    go (Some x) k w q h more =
        let same : x ≡ v = cc in
        let s = more (k ∙ ap (λ (y : PlanUnit). Some y) same) in
        record { earlier = u ∷ s.earlier; later = s.later; is = ap (λ (l : List PlanUnit). u ∷ l) s.is; writes = s.writes; last = s.last }
    go None k true q h more = let same : u ≡ v =
        cc in record { earlier = []; later = us; is = ap (λ (y : PlanUnit). y ∷ us) same; writes = subst (λ (y : PlanUnit). writes_cell d y.seen b ≡ true) same q; last = no_source d b us k }
    go None k false q h more = absurd cc

all_false : (d : Taken) (b : ℕ) (us : List PlanUnit) (w : PlanUnit) → AllOf (λ (u : PlanUnit). writes_cell d u.seen b ≡ false) us → Has us w → writes_cell d w.seen b ≡ true → ⊥
all_false d b us w h k e = true≢false (sym e ∙ Rattle.pg_law_plan.proofs.ListMembers.all_has (λ (u : PlanUnit). writes_cell d u.seen b ≡ false) us w h k)

-- ---- portions

has_done : (es : List Portion) (e : Portion) → Has es e → Has (units_done es) e.unit
has_done [] e h = h
has_done (x ∷ es) e (inl k) = inl (ap (λ (p : Portion). p.unit) k)
has_done (x ∷ es) e (inr k) = inr (has_done es e k)

record Parted (es : List Portion) (u : PlanUnit) : Type 0 where
  before : List Portion
  portion : Portion
  later : List Portion
  is : es ≡ before ++ portion ∷ later
  unit : portion.unit ≡ u

parted : (es : List Portion) (u : PlanUnit) → Has (units_done es) u → Parted es u
parted [] u h = absurd h
parted (e ∷ es) u (inl k) = record { before = []; portion = e; later = es; is = refl; unit = k }
parted (e ∷ es) u (inr k) = let p = parted es u k in record { before = e ∷ p.before; portion = p.portion; later = p.later; is = ap (λ (l : List Portion). e ∷ l) p.is; unit = p.unit }

done_append : (es fs : List Portion) → units_done (es ++ fs) ≡ units_done es ++ units_done fs
done_append [] fs = refl
done_append (e ∷ es) fs = ap (λ (l : List PlanUnit). e.unit ∷ l) (done_append es fs)

-- where no portion that is one of these has a step that writes the byte, none of the steps does
none_in : (b : ℕ) (es : List Portion) → ((e : Portion) → Has es e → (x : Step) → Has (e.step ∷ e.inner) x → recorded.writes x b ≡ true → ⊥) → NoneWrites b (steps_in es)
none_in b [] f = tt
none_in b (e ∷ es) f = each (e.step ∷ e.inner) (λ x h. f e (inl refl) x h) (none_in b es (λ p h. f p (inr h)))
  where
    each : (xs : List Step) → ((x : Step) → Has xs x → recorded.writes x b ≡ true → ⊥) → NoneWrites b (steps_in es) → NoneWrites b (xs ++ steps_in es)
    each [] g more = more
    each (x ∷ xs) g more = (by (recorded.writes x b) refl, each xs (λ y h. g y (inr h)) more)
      where
        by : (w : Bool) → recorded.writes x b ≡ w → recorded.writes x b ≡ false
        by true k = absurd (g x (inl refl) k)
        by false k = k

module _ (r : ReferenceRun) (d : Taken) (input : List ℤ) (sums : ℕ → Option RootedList) (es : List Portion) (each : AllOf (IsOfUnit r d input sums) es) (in_order : AreInOrder r d es) where
  of_unit : (e : Portion) → Has es e → IsOfUnit r d input sums e
  of_unit e h = Rattle.pg_law_plan.proofs.ListMembers.all_has (IsOfUnit r d input sums) es e each h

  may_write : (e : Portion) → Has es e → (x : Step) → Has (e.step ∷ e.inner) x → (b : ℕ) → recorded.writes x b ≡ true → writes_cell d e.unit.seen b ≡ true
  may_write e h x k b w = (Rattle.pg_law_plan.proofs.ListMembers.all_has (TouchesWithin d e.unit) (e.step ∷ e.inner) x (of_unit e h).touches k).writes b w

  -- a unit stands at one place of the run
  not_twice : (us : List PlanUnit) (u : PlanUnit) (vs : List PlanUnit) → units_of r d ≡ us ++ u ∷ vs → Has us u → ⊥
  not_twice us u vs is h = go none_taken us (subst (NumberedFrom none_taken) is (units_numbered r d)) h
    where
      go : (c : ℕ → ℕ) (us : List PlanUnit) → NumberedFrom c (us ++ u ∷ vs) → Has us u → ⊥
      go c [] n k = k
      go c (x ∷ us) n (inl e) =
          let a = (has_between (Rattle.pg_law_effects.specs.PermittedSteps.one_more (owner x) c) (us ++ u ∷ vs) u n.1 (has_right us (u ∷ vs) u (inl refl))).0 in
          let s = Rattle.pg_law_admitted.proofs.UnitNumbers.one_more_same (owner x) (owner u) c (ap owner e) in
          let m = n.0 in let q = ap c (ap owner e) in let w = ap (λ (y : PlanUnit). y.units) e in absurd (omega (arith, a, s, m, q, w))
      go c (x ∷ us) n (inr k) = go (Rattle.pg_law_effects.specs.PermittedSteps.one_more (owner x) c) us n.1 k

  -- and is done by one portion
  not_again : (before : List Portion) (e : Portion) (later : List Portion) → es ≡ before ++ e ∷ later → Has (units_done before) e.unit → ⊥
  not_again before e later is k = go (place (of_unit e (subst (λ (l : List Portion). Has l e) (sym is) (has_right before (e ∷ later) e (inl refl)))).has)
    where
      place : Has (units_of r d) e.unit → (us : List PlanUnit) × (vs : List PlanUnit) × (units_of r d ≡ us ++ e.unit ∷ vs)
      place h = find (units_of r d) h
        where
          find : (all : List PlanUnit) → Has all e.unit → (us : List PlanUnit) × (vs : List PlanUnit) × (all ≡ us ++ e.unit ∷ vs)
          find [] h = absurd h
          find (x ∷ all) (inl q) = ([], all, ap (λ (y : PlanUnit). y ∷ all) q)
          find (x ∷ all) (inr q) = let f = find all q in (x ∷ f.0, f.1, ap (λ (l : List PlanUnit). x ∷ l) f.2)

      go : (us : List PlanUnit) × (vs : List PlanUnit) × (units_of r d ≡ us ++ e.unit ∷ vs) → ⊥
      go p = not_twice p.0 e.unit p.1 p.2 ((in_order before e later p.0 p.1 e.unit is p.2 (inl refl)).1 k)

  module _ (before : List Portion) (e : Portion) (later : List Portion) (us vs : List PlanUnit) (b : ℕ) (is : es ≡ before ++ e ∷ later) (place : units_of r d ≡ us ++ e.unit ∷ vs)
      (lt : b < MEMORY_BYTES) (reads : reads_cell d e.unit.seen b ≡ true) where
    has_before : (p : Portion) → Has before p → Has es p
    has_before p h = subst (λ (l : List Portion). Has l p) (sym is) (has_left before (e ∷ later) p h)

    -- a portion before this one that writes the byte does a unit before this one's
    writer_before : (p : Portion) → Has before p → (x : Step) → Has (p.step ∷ p.inner) x → recorded.writes x b ≡ true → Has us p.unit
    writer_before p h x k w = (in_order before e later us vs p.unit is place
        (tied_by d p.unit e.unit b (may_write p (has_before p h) x k b w) (or_left (reads_cell d e.unit.seen b) (writes_cell d e.unit.seen b) reads))).1 (has_done before p h)

    from_none : source_in d b us ≡ None → NoneWrites b (steps_in before)
    from_none n = none_in b before (λ p h x k w. all_false d b us p.unit (no_source d b us n) (writer_before p h x k w) (may_write p (has_before p h) x k b w))

    module _ (v : PlanUnit) (s : Source d b us v) (placed : is_placed_access d v.seen ≡ true) where
      v_in : Has us v
      v_in = subst (λ (l : List PlanUnit). Has l v) (sym s.is) (has_right s.earlier (v ∷ s.later) v (inl refl))

      part : Parted before v
      part = parted before v ((in_order before e later us vs v is place (tied_by d v e.unit b s.writes (or_left (reads_cell d e.unit.seen b) (writes_cell d e.unit.seen b) reads))).0 v_in)

      has_part : Has before part.portion
      has_part = subst (λ (l : List Portion). Has l part.portion) (sym part.is) (has_right part.before (part.portion ∷ part.later) part.portion (inl refl))

      is_part : IsOfUnit r d input sums part.portion
      is_part = of_unit part.portion (has_before part.portion has_part)

      all_parts : es ≡ part.before ++ part.portion ∷ (part.later ++ e ∷ later)
      all_parts = is ∙ ap (λ (l : List Portion). l ++ e ∷ later) part.is ∙ append_assoc part.before (part.portion ∷ part.later) (e ∷ later)

      place_v : units_of r d ≡ s.earlier ++ v ∷ (s.later ++ e.unit ∷ vs)
      place_v = place ∙ ap (λ (l : List PlanUnit). l ++ e.unit ∷ vs) s.is ∙ append_assoc s.earlier (v ∷ s.later) (e.unit ∷ vs)

      place_part : units_of r d ≡ s.earlier ++ part.portion.unit ∷ (s.later ++ e.unit ∷ vs)
      place_part = place_v ∙ ap (λ (y : PlanUnit). s.earlier ++ y ∷ (s.later ++ e.unit ∷ vs)) (sym part.unit)

      -- a portion behind that of v, whose unit stands before v or is v, is the second of its unit
      second : (p : Portion) → Has part.later p → Has (units_done (part.before ++ part.portion ∷ [])) p.unit → ⊥
      second p h k = go (split part.later h)
        where
          split : (l : List Portion) → Has l p → (a : List Portion) × (c : List Portion) × (l ≡ a ++ p ∷ c)
          split [] h = absurd h
          split (x ∷ l) (inl q) = ([], l, ap (λ (y : Portion). y ∷ l) q)
          split (x ∷ l) (inr q) = let f = split l q in (x ∷ f.0, f.1, ap (λ (m : List Portion). x ∷ m) f.2)

          go : (a : List Portion) × (c : List Portion) × (part.later ≡ a ++ p ∷ c) → ⊥
          go f = not_again ((part.before ++ part.portion ∷ []) ++ f.0) p (f.1 ++ e ∷ later)
              (all_parts ∙ ap (λ (l : List Portion). part.before ++ part.portion ∷ (l ++ e ∷ later)) f.2
              ∙ ap (λ (l : List Portion). part.before ++ part.portion ∷ l) (append_assoc f.0 (p ∷ f.1) (e ∷ later))
              ∙ sym (append_assoc part.before (part.portion ∷ []) (f.0 ++ p ∷ (f.1 ++ e ∷ later)))
              ∙ sym (append_assoc (part.before ++ part.portion ∷ []) f.0 (p ∷ (f.1 ++ e ∷ later))))
              (subst (λ (l : List PlanUnit). Has l p.unit) (sym (done_append (part.before ++ part.portion ∷ []) f.0))
              (has_left (units_done (part.before ++ part.portion ∷ [])) (units_done f.0) p.unit k))

      later_none : (p : Portion) → Has part.later p → (x : Step) → Has (p.step ∷ p.inner) x → recorded.writes x b ≡ true → ⊥
      later_none p h x k w = go (has_cases s.earlier (v ∷ s.later) p.unit (subst (λ (l : List PlanUnit). Has l p.unit) s.is (writer_before p in_before x k w)))
        where
          in_before : Has before p
          in_before = subst (λ (l : List Portion). Has l p) (sym part.is) (has_right part.before (part.portion ∷ part.later) p (inr h))

          writes : writes_cell d p.unit.seen b ≡ true
          writes = may_write p (has_before p in_before) x k b w

          done_there : Has (units_done part.before) p.unit ⊎ (v ≡ p.unit) → Has (units_done (part.before ++ part.portion ∷ [])) p.unit
          done_there (inl q) = subst (λ (l : List PlanUnit). Has l p.unit) (sym (done_append part.before (part.portion ∷ [])))
              (has_left (units_done part.before) (part.portion.unit ∷ []) p.unit q)
          done_there (inr q) = subst (λ (l : List PlanUnit). Has l p.unit) (sym (done_append part.before (part.portion ∷ [])))
              (has_right (units_done part.before) (part.portion.unit ∷ []) p.unit (inl (part.unit ∙ q)))

          tied : AreTied d p.unit part.portion.unit
          tied = tied_by d p.unit part.portion.unit b writes
              (or_right (reads_cell d part.portion.unit.seen b) (writes_cell d part.portion.unit.seen b) (subst (λ (y : PlanUnit). writes_cell d y.seen b ≡ true) (sym part.unit) s.writes))

          go : Has s.earlier p.unit ⊎ Has (v ∷ s.later) p.unit → ⊥
          go (inl q) = second p h (done_there (inl ((in_order part.before part.portion (part.later ++ e ∷ later) s.earlier (s.later ++ e.unit ∷ vs) p.unit all_parts place_part tied).0 q)))
          go (inr (inl q)) = second p h (done_there (inr q))
          go (inr (inr q)) = all_false d b s.later p.unit s.last q writes

      from_store : IsLastWrittenBy before v b
      from_store =
          let k = is_part.placed (subst (λ (y : PlanUnit). is_placed_access d y.seen ≡ true) (sym part.unit) placed) in
          record {
            before = part.before;
            portion = part.portion;
            later = part.later;
            among = part.is;
            unit = part.unit;
            writes = k.writes b lt (subst (λ (y : PlanUnit). writes_cell d y.seen b ≡ true) (sym part.unit) s.writes);
            last = subst (λ (l : List Step). NoneWrites b (l ++ steps_in part.later)) (sym k.single) (none_in b part.later later_none);
          }

    from_source : IsFromSource d before b (source_in d b us)
    from_source = go (source_in d b us) refl
      where
        go : (o : Option PlanUnit) → source_in d b us ≡ o → IsFromSource d before b o
        go None k = from_none k
        go (Some v) k = λ p. from_store v (source d b us v k) p

  pub memory : KeepsMemory r d es
  memory before e later us vs b is place lt reads = from_source before e later us vs b is place lt reads
