-- The example keeps to its extents.
use Rattle.std.proofs.Common.{◌≡◌, ℕ, Bool, true, false, List, [], ◌∷◌, Option, Some, None, refl, sym, ap, ◌∙◌, subst, inl, inr, ◌⊎◌, arith}
use Rattle.std.specs.Prelude.{Contains, ◌==◌, if◌then◌else◌}
use Rattle.std.proofs.lemmas.Bool.{true≢false, or_left, cases_eq, ne_eqb}
use Rattle.pg_ir.specs.declared.instr.Instr.{Instr}
use Rattle.pg_ir.specs.declared.instr.Op.TheVariants as op
use Rattle.pg_ir.specs.declared.value.Value.TheVariants as value
use Rattle.pg_region_paths.specs.declared.path.Loads.TheVariants.{Never}
use Rattle.pg_region_paths.specs.declared.path.Root.TheVariants as root
use Rattle.pg_slice_rules.specs.Sets.{one_of}
use Rattle.pg_ir.specs.declared.instr.Op.{Op}
use Rattle.pg_ir.specs.Edges.{instrs_of, phis_of}
use Rattle.pg_ir.specs.Program.{end_of, first_of}
use Rattle.pg_run_trace.specs.declared.step.Access.{Access}
use Rattle.pg_run_trace.specs.declared.step.StepKind.{StepKind}
use Rattle.pg_run_trace.specs.declared.step.StepKind.TheVariants as kinds
use Rattle.pg_run_trace.specs.Steps.{range_of}
use Rattle.pg_slice_rules.specs.Moments.{Moment, instr_in}
use Rattle.pg_slice_rules.specs.Freeable.{FreeRegion, bounds_of}
use Rattle.pg_slice_rules.specs.SymbolicValues.{is_within}
use Rattle.pg_slice_rules.specs.Extents.{begun}
use Rattle.pg_slice_rules.specs.Known.{edge_of}
use Rattle.pg_slice_rules.specs.Rooted.{rooted_bytes0}
use Rattle.pg_law_least.specs.Keeps.{AreStacked, KeepsTo, MaySet, MaySetPhis, Returns, StoresBy, is_branching, is_store}
use Rattle.pg_law_least.specs.Along.{Goes, OpenExtent, StepGoes, Track, calls_behind, extents_behind, extents_in, first_track, made_behind, region_in, step_at}
use Rattle.pg_law_least.specs.Kept.{kept, kept_bytes1, step_of}
use Rattle.pg_region_paths.proofs.Elements.{cases as cases_in, none_in}

-- a step that is no store
no_store : (n : ℕ) (m : Moment) (x : Instr) (c : Access) → instr_in kept.program m ≡ Some x → is_store x.op ≡ false → StoresBy kept (step_at kept n m) c → ⊥
no_store n m x c i q h =
    let a : Some x ≡ Some h.instr = sym i ∙ h.stands in
    let e : x ≡ h.instr = cc in
    true≢false (sym h.store ∙ sym (ap (λ (x : Instr). is_store x.op) e) ∙ q)

no_region : {A : Type 0} (g : Option FreeRegion) (r : FreeRegion) → g ≡ None → g ≡ Some r → A
no_region g r e f = let z : None ≡ Some r = sym e ∙ f in absurd (cc)

abbrev with_height : ℕ → Track
with_height k = record first_track { calls = λ t. if t == 0 then k else 0 }

-- a step outside of extents that begins none
quiet : (n i : ℕ) (kind : StepKind) (rs : List (Option ℕ)) (bytes : ℕ → ℕ) (low : ℕ) (x : Instr) → instr_in kept.program (step_of i kind rs bytes low) ≡ Some x →
    is_store x.op ≡ false → region_in kept (step_of i kind rs bytes low) ≡ None →
    (k : ℕ) → calls_behind (instr_in kept.program (step_of i kind rs bytes low)) kind 1 ≡ k → made_behind (instr_in kept.program (step_of i kind rs bytes low)) kind ≡ 0 →
    StepGoes kept n first_track (step_of i kind rs bytes low) (with_height k)
quiet n i kind rs bytes low x e q g k c d = record {
  known = omega arith;
  calls = refl;
  bounds = λ a h. absurd (no_store n m x a e q h);
  branches = λ r f. no_region (region_in kept m) r g f;
  own = λ r f. no_region (region_in kept m) r g f;
  together = λ t o h. absurd (none_in o h);
  nested = subst (λ (r : Option FreeRegion). AreStacked 1 (edge_of kept.program m kind) (begun n 1 r [])) (sym g) tt;
  keep = λ o h. absurd (none_in o h);
  more = rw d (omega arith);
  own_calls = sym c;
  other_calls = λ u o l. absurd (omega (arith, o, l));
  first_call = λ u h l. absurd (omega (arith, h, l));
  own_extents = subst (λ (r : Option FreeRegion). [] ≡ extents_behind n 1 r (edge_of kept.program m kind) []) (sym g) refl;
  other_extents = λ u o. refl;
}
  where
    m : Moment
    m = step_of i kind rs bytes low

-- ---- the extents

abbrev first_region : FreeRegion
first_region = record { join = 2; sets = one_of (2 ∷ []); accesses = [] }

abbrev region : FreeRegion
region = record {
  join = 4;
  sets = one_of [];
  accesses = record { writes = true; path = record { root = root.Register 2; loads = Never }; at = record { pointers = []; cells = []; last = 4398063288320 } } ∷ [];
}

abbrev own : OpenExtent
own = record { extent = record { step = 6; join = 4; depth = 1 }; region = region }

abbrev inside : Track
inside = record first_track { extents = λ t. if t == 0 then own ∷ [] else [] }

own_in : (t : ℕ) (o : OpenExtent) → Contains (inside.extents t) o → (t ≡ 0) × (own ≡ o)
own_in t o c = go (cases_eq t 0)
  where
    go : (t ≡ 0) ⊎ (t ≡ 0 → ⊥) → (t ≡ 0) × (own ≡ o)
    go (inl q) = (q, on (cases_in own [] o (subst (λ (t : ℕ). Contains (inside.extents t) o) q c)))
      where
        on : (own ≡ o) ⊎ Contains [] o → own ≡ o
        on (inl e) = e
        on (inr d) = absurd (none_in o d)
    go (inr q) = absurd (none_in o (subst (λ (b : Bool). Contains (if b then own ∷ [] else []) o) (ne_eqb t 0 q) c))

none_outside : (u : ℕ) → (u ≡ 0 → ⊥) → inside.extents u ≡ []
none_outside u q = ap (λ (b : Bool). if b then own ∷ [] else []) (ne_eqb u 0 q)

-- ---- the steps

abbrev registers : List (Option ℕ)
registers = Some 0 ∷ Some 0 ∷ Some 4398063288320 ∷ Some 7 ∷ Some 1 ∷ []

same_some : {A : Type 0} (x y : A) → Some x ≡ Some y → x ≡ y
same_some x y q = cc

-- a step of the only thread in its only call, by the extents before it and behind it
module _ (n i : ℕ) (kind : StepKind) (rs : List (Option ℕ)) (bytes : ℕ → ℕ) (a b : ℕ → List OpenExtent) where
  abbrev moment : Moment
  moment = step_of i kind rs bytes 1

  goes_by : calls_behind (instr_in kept.program moment) kind 1 ≡ 1 → made_behind (instr_in kept.program moment) kind ≡ 0
      → ((c : Access) → StoresBy kept (step_at kept n moment) c → (j : ℕ) → is_within (range_of c) j ≡ true → is_within (bounds_of c.pointer) j ≡ true)
      → ((r : FreeRegion) → region_in kept moment ≡ Some r → (x : Instr) → instr_in kept.program moment ≡ Some x → is_branching x.op ≡ true)
      → ((r : FreeRegion) → region_in kept moment ≡ Some r → MaySetPhis kept.program r.sets (edge_of kept.program moment kind))
      → ((t : ℕ) (o : OpenExtent) → Contains (a t) o → 0 ≡ t) → AreStacked 1 (edge_of kept.program moment kind) (begun n 1 (region_in kept moment) (extents_in (a 0)))
      → ((o : OpenExtent) → Contains (a 0) o → KeepsTo kept o.region o.extent.depth (step_at kept n moment))
      → b 0 ≡ extents_behind n 1 (region_in kept moment) (edge_of kept.program moment kind) (a 0) → ((u : ℕ) → (u ≡ 0 → ⊥) → b u ≡ a u)
      → StepGoes kept n (record first_track { extents = a }) moment (record first_track { extents = b })
  goes_by c d bounds branches own together nested keep own_extents other_extents = record {
    known = omega arith;
    calls = refl;
    bounds = bounds;
    branches = branches;
    own = own;
    together = together;
    nested = nested;
    keep = keep;
    more = rw d (omega arith);
    own_calls = sym c;
    other_calls = λ u o l. refl;
    first_call = λ u h l. absurd (omega (arith, h, l));
    own_extents = own_extents;
    other_extents = other_extents;
  }

-- the first branch, whose edge leads to the join
first_branch : StepGoes kept 3 first_track (step_of 2 (kinds.Branch 0) (Some 0 ∷ Some 0 ∷ None ∷ None ∷ None ∷ []) rooted_bytes0 1) first_track
unfolding instrs_of phis_of end_of first_of
first_branch = goes_by 3 2 (kinds.Branch 0) (Some 0 ∷ Some 0 ∷ None ∷ None ∷ None ∷ []) rooted_bytes0 first_track.extents first_track.extents refl refl
    (λ a h. absurd (no_store 3 m _ a refl refl h)) (λ r f i q. ap (λ (i : Instr). is_branching i.op) (sym (same_some _ i q)))
    (λ r f i c. phi r (same_some first_region r f) i (cases_in _ [] i c)) (λ t o h. absurd (none_in o h)) (λ o c e. absurd (none_in o c), tt)
    (λ o h. absurd (none_in o h)) refl (λ u o. refl)
  where
    m : Moment
    m = step_of 2 (kinds.Branch 0) (Some 0 ∷ Some 0 ∷ None ∷ None ∷ None ∷ []) rooted_bytes0 1

    phi : (r : FreeRegion) → first_region ≡ r → (i : Instr) →
        (record {
          op = op.Phi (record { block = record { 0 = 0 }; value = value.Global 0 } ∷ record { block = record { 0 = 1 }; value = value.Global 1 } ∷ []);
          block =
              record { 0 = 2 };
          result = Some 2;
        } ≡ i) ⊎ Contains [] i → MaySet r.sets i.result
    phi r q i (inl e) = subst (λ (r : FreeRegion). MaySet r.sets i.result) q (subst (λ (i : Instr). MaySet first_region.sets i.result) e refl)
    phi r q i (inr d) = absurd (none_in i d)

-- the second branch begins an extent
second_branch : StepGoes kept 6 first_track (step_of 7 (kinds.Branch 1) registers rooted_bytes0 1) inside
unfolding instrs_of phis_of end_of first_of
second_branch = goes_by 6 7 (kinds.Branch 1) registers rooted_bytes0 first_track.extents inside.extents refl refl
    (λ a h. absurd (no_store 6 (step_of 7 (kinds.Branch 1) registers rooted_bytes0 1) _ a refl refl h)) (λ r f i q. ap (λ (i : Instr). is_branching i.op) (sym (same_some _ i q)))
    (λ r f i c. absurd (none_in i c)) (λ t o h. absurd (none_in o h)) (λ o c e. absurd (none_in o c), tt)
    (λ o h. absurd (none_in o h)) refl (λ u o. none_outside u o)

abbrev stored : Access
stored = record { pointer = 4398063288320; number = 1; bytes = 8; writes = true; event = false }

same_access : (a b : Access) → kinds.Access a ≡ kinds.Access b → a ≡ b
same_access a b q = cc

abbrev is_return : Op → Bool
is_return (op.Ret v) = true
is_return o = false

-- no return
no_return : (n : ℕ) (m : Moment) (x : Instr) → instr_in kept.program m ≡ Some x → is_return x.op ≡ false → Returns kept (step_at kept n m) → ⊥
no_return n m x e q h =
    true≢false (sym (ap is_return h.returns) ∙ sym (ap (λ (x : Instr). is_return x.op) (same_some x h.instr (sym e ∙ h.stands))) ∙ q)

-- the store in the extent
store_step : StepGoes kept 7 inside (step_of 8 (kinds.Access stored) registers rooted_bytes0 1) inside
unfolding instrs_of phis_of end_of first_of
store_step = goes_by 7 8 (kinds.Access stored) registers rooted_bytes0 inside.extents inside.extents refl refl
    (λ a h j q. subst (λ (a : Access). is_within (range_of a) j ≡ true → is_within (bounds_of a.pointer) j ≡ true) (same_access stored a h.kind) (λ q. q) q)
    (λ r f. no_region None r refl f) (λ r f. no_region None r refl f) (λ t o h. sym (own_in t o h).0) (λ o c e. absurd (none_in o c), tt)
    (λ o h. subst (λ (o : OpenExtent). KeepsTo kept o.region o.extent.depth (step_at kept 7 m)) (own_in 0 o h).1 kept_to) refl (λ u o. refl)
  where
    m : Moment
    m = step_of 8 (kinds.Access stored) registers rooted_bytes0 1

    kept_to : KeepsTo kept region 1 (step_at kept 7 m)
    kept_to = record {
      plain = refl;
      result = λ l i q. subst (λ (i : Instr). MaySet region.sets i.result) (same_some _ i q) tt;
      phis = λ l i c. absurd (none_in i c);
      inner = λ l q f. no_region None q refl f;
      deeper = λ h. absurd (no_return 7 m _ refl refl h);
      target = λ h. absurd (no_return 7 m _ refl refl h);
      stores = λ a h b q. or_left _ false (subst (λ (a : Access). is_within (bounds_of a.pointer) b ≡ true) (sym (same_access stored a h.kind)) q);
      inner_stores = λ q f. no_region None q refl f;
    }

-- the edge to the join
last_step : StepGoes kept 8 inside (step_of 9 kinds.Other registers kept_bytes1 1) first_track
unfolding instrs_of phis_of end_of first_of
last_step = goes_by 8 9 kinds.Other registers kept_bytes1 inside.extents first_track.extents refl refl
    (λ a h. absurd (no_store 8 m _ a refl refl h)) (λ r f. no_region None r refl f)
    (λ r f. no_region None r refl f) (λ t o h. sym (own_in t o h).0) (λ o c e. absurd (none_in o c), tt)
    (λ o h. subst (λ (o : OpenExtent). KeepsTo kept o.region o.extent.depth (step_at kept 8 m)) (own_in 0 o h).1 kept_to) refl (λ u o. sym (none_outside u o))
  where
    m : Moment
    m = step_of 9 kinds.Other registers kept_bytes1 1

    kept_to : KeepsTo kept region 1 (step_at kept 8 m)
    kept_to = record {
      plain = refl;
      result = λ l i q. subst (λ (i : Instr). MaySet region.sets i.result) (same_some _ i q) tt;
      phis = λ l i c. absurd (none_in i c);
      inner = λ l q f. no_region None q refl f;
      deeper = λ h. absurd (no_return 8 m _ refl refl h);
      target = λ h. absurd (no_return 8 m _ refl refl h);
      stores = λ a h. absurd (no_store 8 m _ a refl refl h);
      inner_stores = λ q f. no_region None q refl f;
    }

pub kept_goes : Goes kept
kept_goes = (
  first_track,
  quiet 0 0 _ _ _ _ _ refl refl refl 1 refl refl,
  (
    first_track,
    quiet 1 0 _ _ _ _ _ refl refl refl 1 refl refl,
    (
      first_track,
      quiet 2 1 _ _ _ _ _ refl refl refl 1 refl refl,
      (
        first_track,
        first_branch,
        (
          first_track,
          quiet 4 5 _ _ _ _ _ refl refl refl 1 refl refl,
          (
            first_track,
            quiet 5 6 _ _ _ _ _ refl refl refl 1 refl refl,
            (
              inside,
              second_branch,
              (
                inside,
                store_step,
                (
                  first_track,
                  last_step,
                  (
                    with_height 0,
                    quiet 9 10 _ _ _ _ _ refl refl refl 0 refl refl,
                    tt,
                  ),
                ),
              ),
            ),
          ),
        ),
      ),
    ),
  ),
)
