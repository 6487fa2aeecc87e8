-- What passes a step in an extent, and what an extent keeps from being known while its branch step isn't pinned.
use Rattle.std.proofs.Common.{◌≡◌, ℕ, zero, suc, ◌+◌, ◌<◌, ◌≤◌, ◌==◌, Bool, true, false, List, [], ◌∷◌, ◌++◌, length, length-append, Option, Some, None}
use Rattle.std.proofs.Common.{refl, sym, ap, ◌∙◌, subst, inl, inr, ◌⊎◌, arith}
use Rattle.std.specs.Prelude.{Contains, slice_get, slice_index_or, if◌then◌else◌}
use Rattle.std.proofs.lemmas.Bool.{eqb-true}
use Rattle.pg_ir.specs.declared.library_call.LibraryCall.{LibraryCall}
use Rattle.pg_ir.specs.declared.library_call.LibraryCall.TheVariants as known
use Rattle.pg_ir.specs.declared.value.Value.{Value}
use Rattle.pg_ir.specs.declared.instr.Instr.{Instr}
use Rattle.pg_ir.specs.declared.instr.Op.{Op}
use Rattle.pg_ir.specs.declared.instr.Op.TheVariants as op
use Rattle.pg_ir.specs.Program.{NumberedProgram}
use Rattle.pg_run_trace.specs.declared.step.StepKind.{StepKind}
use Rattle.pg_run_trace.specs.declared.step.StepKind.TheVariants as kinds
use Rattle.pg_run_trace.specs.declared.step.Access.{Access}
use Rattle.pg_run_trace.specs.Steps.{happening_in}
use Rattle.pg_law_least.specs.pg_slice_rules.declared.decision.Decision.{Decision}
use Rattle.pg_law_least.specs.pg_slice_rules.declared.decision.Decision.TheVariants.{Pinned}
use Rattle.pg_law_least.specs.pg_slice_rules.Moments.{Moment, thread_in}
use Rattle.pg_law_least.specs.pg_slice_rules.Freeable.{FreeRegion}
use Rattle.pg_law_least.specs.pg_slice_rules.SymbolicValues.{Symbolic, Unknown, unset}
use Rattle.pg_law_least.specs.pg_slice_rules.Extents.{Extent, edge_by, edge_in, is_live}
use Rattle.pg_law_least.specs.pg_slice_rules.Known.{Reference, SymbolicState, Seen, Taken, after_access, after_branch, after_known, after_op, after_step, caller_target, optional_symbolic, result_in, seen_from}
use Rattle.pg_law_least.specs.pg_slice_rules.Known.{set_symbolic, start_of, thread_of, top_of, under_top, with_top}
use Rattle.pg_law_least.specs.Keeps.{MaySet, MaySetPhis, every, steps_of}
use Rattle.pg_law_least.specs.Along.{region_in}
use Rattle.pg_region_paths.proofs.Elements.{cases as cases_in, here, none_in, there}
use Rattle.pg_law_least.proofs.KeptLikeness.{AreForgotten, Outside, outside_edge, outside_forgotten, outside_same, outside_target}
use Rattle.pg_law_least.proofs.LiveSteps.{calls_by}
use Rattle.pg_law_least.proofs.LiveStepsInside.{IsTopForgotten}
use Rattle.pg_law_demands.specs.Cells.{call_at}
use Rattle.pg_law_demands.specs.Passed.{first_free, or_first, region_at_step, region_then}
use Rattle.pg_law_demands.proofs.DemandsBack.{eq_false, outside_index}

-- ---- the region of a branch step by its number

module _ (R : Reference) where
  each_region : (n : ℕ) (u : SymbolicState) (ms : List Moment) → ((i : ℕ) → slice_get R.moments (n + i) ≡ slice_get ms i) → (y : Seen) → Contains (seen_from R every n u ms) y →
      region_at_step R y.number ≡ y.region
  unfolding seen_from
  each_region n u [] h y c = absurd (none_in y c)
  each_region n u (m ∷ ms) h y c = go (cases_in _ (seen_from R every (suc n) (after_step R every n m u) ms) y c)
      (λ d. each_region (suc n) (after_step R every n m u) ms (λ i. let z : n + suc i ≡ suc n + i = omega arith in sym (ap (slice_get R.moments) z) ∙ h (suc i)) y d)
    where
      first : region_at_step R n ≡ region_in R m
      first = let z : n + 0 ≡ n = omega arith in ap (region_then R) (sym (ap (slice_get R.moments) z) ∙ h 0)

      go : (record { number = n; moment = m; region = region_in R m; live = is_live every.pinned (thread_of u (thread_in m)).extents; before = u } ≡ y)
          ⊎ Contains (seen_from R every (suc n) (after_step R every n m u) ms) y
          → (Contains (seen_from R every (suc n) (after_step R every n m u) ms) y → region_at_step R y.number ≡ y.region) →
          region_at_step R y.number ≡ y.region
      go (inl q) more = subst (λ (y : Seen). region_at_step R y.number ≡ y.region) q first
      go (inr d) more = more d

  pub region_of_steps : (y : Seen) → Contains (steps_of R) y → region_at_step R y.number ≡ y.region
  region_of_steps y c = each_region 0 (start_of R.program) R.moments (λ i. let z : 0 + i ≡ i = omega arith in ap (slice_get R.moments) z) y c

  -- and the step itself
  pub find_step : (n : ℕ) (u : SymbolicState) (ms : List Moment) (i : ℕ) (r : FreeRegion) → region_then R (slice_get ms i) ≡ Some r →
      (b : Seen) × Contains (seen_from R every n u ms) b × (b.number ≡ n + i) × (b.region ≡ Some r)
  unfolding seen_from
  find_step n u [] i r h = let z : None ≡ Some r = h in absurd (cc)
  find_step n u (m ∷ ms) zero r h = (
    record { number = n; moment = m; region = region_in R m; live = is_live every.pinned (thread_of u (thread_in m)).extents; before = u },
    here _ (seen_from R every (suc n) (after_step R every n m u) ms),
    omega arith,
    h,
  )
  find_step n u (m ∷ ms) (suc i) r h =
      let q = find_step (suc n) (after_step R every n m u) ms i r h in
      let z : suc n + i ≡ n + suc i = omega arith in
      (q.0, there _ (seen_from R every (suc n) (after_step R every n m u) ms) q.0 q.1, q.2 ∙ z, q.3)

-- ---- the oldest extent that isn't pinned

pub first_in : (pinned : ℕ → Bool) (es : List Extent) (x : Extent) → first_free pinned es ≡ Some x → Contains es x
first_in pinned [] x h = let z : None ≡ Some x = h in absurd (cc)
first_in pinned (e ∷ es) x h = go (first_free pinned es) refl (pinned e.step) (λ q. first_in pinned es x q) h
  where
    some_in : (y z : Extent) → Some y ≡ Some z → y ≡ z
    some_in y z q = cc

    go : (o : Option Extent) → first_free pinned es ≡ o → (b : Bool) → (first_free pinned es ≡ Some x → Contains es x) → or_first b e o ≡ Some x → Contains (e ∷ es) x
    go (Some y) q b more h = there e es x (more (q ∙ h))
    go None q true more h = let z : None ≡ Some x = h in absurd (cc)
    go None q false more h = subst (Contains (e ∷ es)) (some_in e x h) (here e es)

-- ---- what is forgotten

forgotten_register : (rs : List Symbolic) (i : ℕ) (sets : ℕ → Bool) (x : Decision) (r : ℕ) → AreForgotten i sets x rs → r < length rs → sets (i + r) ≡ true →
    slice_index_or rs r unset ≡ Unknown x
forgotten_register [] i sets x r h l q = absurd (omega (arith, l))
forgotten_register (s ∷ rs) i sets x zero h l q = let z : i + 0 ≡ i = omega arith in h.0 (sym (ap sets z) ∙ q)
forgotten_register (s ∷ rs) i sets x (suc r) h l q =
    let z : i + suc r ≡ suc i + r = omega arith in
    forgotten_register rs (suc i) sets x r h.1 (omega (arith, l)) (sym (ap sets z) ∙ q)

pub forgotten_top : (cs : List (List Symbolic)) (sets : ℕ → Bool) (x : Decision) (r : ℕ) → IsTopForgotten sets x cs → r < length (top_of cs) → sets r ≡ true →
    slice_index_or (top_of cs) r unset ≡ Unknown x
forgotten_top [] sets x r h l q = absurd (omega (arith, l))
forgotten_top (rs ∷ cs) sets x r h l q = let z : 0 + r ≡ r = omega arith in forgotten_register rs 0 sets x r h l (ap sets z ∙ q)

-- a call below others
pub call_below : (more low : List (List Symbolic)) (k : ℕ) → length low ≡ k → call_at k (more ++ low) ≡ call_at k low
call_below [] low k q = refl
call_below (c ∷ more) low k q =
    let a : length (more ++ low) ≡ length more + length low = length-append more low in
    rw (eq_false (suc (length (more ++ low))) k (λ z. omega (arith, z, a, q))) (call_below more low k q)

-- ---- registers that a step in an extent leaves as they were

module _ (p : NumberedProgram) (e : Taken) (n : ℕ) (m : Moment) (region : Option FreeRegion) (x : Instr) (sets : ℕ → Bool) (depth : ℕ)
    (result : length m.calls ≡ depth → MaySet sets x.result) (phis : length m.calls ≡ depth → MaySetPhis p sets (edge_in p m (Some x)))
    (inner : length m.calls ≡ depth → (q : FreeRegion) → region ≡ Some q → (j : ℕ) → q.sets j ≡ true → sets j ≡ true)
    (deeper : (v : Option Value) → x.op ≡ op.Ret v → depth < length m.calls)
    (target : (v : Option Value) → x.op ≡ op.Ret v → length m.calls ≡ suc depth → MaySet sets (caller_target p m.calls))
    (cs : List (List Symbolic)) (high : length cs ≡ length m.calls) (below : depth ≤ length m.calls) (j r : ℕ) where
  abbrev k : ℕ
  k = length m.calls

  abbrev Same : List (List Symbolic) → Type 0
  Same c = slice_index_or (call_at j c) r unset ≡ slice_index_or (call_at j cs) r unset

  -- a register of the branch's call that the region doesn't set, or one of a call below it
  abbrev pub Kept : Type 0
  Kept = (j < depth) ⊎ ((j ≡ depth) × (sets r ≡ false))

  by_outside : (rs rt : List Symbolic) → Outside 0 sets rs rt → sets r ≡ false → slice_index_or rt r unset ≡ slice_index_or rs r unset
  by_outside rs rt h q = let z : 0 + r ≡ r = omega arith in outside_index rs rt 0 sets r h (ap sets z ∙ q)

  module _ (kept : Kept) where
    outside_top : (f : List Symbolic → List Symbolic) → (k ≡ depth → (rs : List Symbolic) → Outside 0 sets rs (f rs)) → Same (with_top f cs)
    outside_top f o = go cs high
      where
        at_top : (rs : List Symbolic) (low : List (List Symbolic)) → suc (length low) ≡ k → (b : Bool) → (suc (length low) == j) ≡ b →
            slice_index_or (if b then f rs else call_at j low) r unset ≡ slice_index_or (if b then rs else call_at j low) r unset
        at_top rs low h false q = refl
        at_top rs low h true q = on kept
          where
            same : suc (length low) ≡ j
            same = eqb-true (suc (length low)) j q

            on : (j < depth) ⊎ ((j ≡ depth) × (sets r ≡ false)) → slice_index_or (f rs) r unset ≡ slice_index_or rs r unset
            on (inl l) = absurd (omega (arith, l, same, h, below))
            on (inr g) = let a = g.0 in by_outside rs (f rs) (o (omega (arith, a, same, h)) rs) g.1

        go : (c : List (List Symbolic)) → length c ≡ k → slice_index_or (call_at j (with_top f c)) r unset ≡ slice_index_or (call_at j c) r unset
        go [] h = refl
        go (rs ∷ low) h = at_top rs low h (suc (length low) == j) refl

    small : j ≤ k
    small = on kept
      where
        on : (j < depth) ⊎ ((j ≡ depth) × (sets r ≡ false)) → j ≤ k
        on (inl l) = omega (arith, l, below)
        on (inr g) = let a = g.0 in omega (arith, a, below)

    called : (c : List Symbolic) → Same (c ∷ cs)
    called c = rw (eq_false (suc (length cs)) j (λ z. let l = small in omega (arith, z, l, high))) refl

    returned : (v : Symbolic) → depth < k → (k ≡ suc depth → MaySet sets (caller_target p m.calls)) → Same (with_top (set_symbolic (caller_target p m.calls) v) (under_top cs))
    returned v l t = go cs high
      where
        under : (rs : List Symbolic) (low : List (List Symbolic)) → suc (length low) ≡ k → call_at j (rs ∷ low) ≡ call_at j low
        under rs low h = rw (eq_false (suc (length low)) j (λ z. differs z)) refl
          where
            differs : suc (length low) ≡ j → ⊥
            differs z = on kept
              where
                on : (j < depth) ⊎ ((j ≡ depth) × (sets r ≡ false)) → ⊥
                on (inl g) = omega (arith, g, z, h, l)
                on (inr g) = let a = g.0 in omega (arith, a, z, h, l)

        at_caller : (rs : List Symbolic) (low : List (List Symbolic)) → suc (suc (length low)) ≡ k → (b : Bool) → (suc (length low) == j) ≡ b →
            slice_index_or (if b then set_symbolic (caller_target p m.calls) v rs else call_at j low) r unset ≡ slice_index_or (if b then rs else call_at j low) r unset
        at_caller rs low h false q = refl
        at_caller rs low h true q = on kept
          where
            same : suc (length low) ≡ j
            same = eqb-true (suc (length low)) j q

            on : (j < depth) ⊎ ((j ≡ depth) × (sets r ≡ false)) → slice_index_or (set_symbolic (caller_target p m.calls) v rs) r unset ≡ slice_index_or rs r unset
            on (inl g) = absurd (omega (arith, g, same, h, l))
            on (inr g) =
                let a = g.0 in
                by_outside rs (set_symbolic (caller_target p m.calls) v rs) (outside_target sets (caller_target p m.calls) v rs (t (omega (arith, a, same, h)))) g.1

        go : (c : List (List Symbolic)) → length c ≡ k →
            slice_index_or (call_at j (with_top (set_symbolic (caller_target p m.calls) v) (under_top c))) r unset ≡ slice_index_or (call_at j c) r unset
        go [] h = refl
        go (rs ∷ []) h = rw (under rs [] h) refl
        go (rs ∷ ru ∷ low) h = rw (under rs (ru ∷ low) h) (at_caller ru low h (suc (length low) == j) refl)

    branch_same : (pinned : Bool) (o : Option FreeRegion) → region ≡ o → k ≡ depth → (rs : List Symbolic) → Outside 0 sets rs (after_branch p pinned n x (edge_in p m (Some x)) o rs)
    branch_same true o q l rs = outside_edge p sets x.block.0 (edge_in p m (Some x)) rs (phis l)
    branch_same false None q l rs = outside_edge p sets x.block.0 (edge_in p m (Some x)) rs (phis l)
    branch_same false (Some g) q l rs = outside_forgotten 0 sets g.sets (Pinned n) rs (inner l g q)

    known_same : (f : LibraryCall) (number : ℕ) (s : Symbolic) → k ≡ depth → (rs : List Symbolic) → Outside 0 sets rs (after_known f x.result number s rs)
    known_same known.PgIn number s l rs = outside_target sets x.result _ rs (result l)
    known_same known.PgInLen number s l rs = outside_target sets x.result _ rs (result l)
    known_same known.Malloc number s l rs = outside_target sets x.result _ rs (result l)
    known_same _ number s l rs = outside_same 0 sets rs

    op_same : (pinned : Bool) (number : ℕ) (o : Op) → x.op ≡ o → Same (after_op p pinned n m region number x o cs)
    op_same pinned number (op.Br to) q = outside_top _ (λ l rs. outside_edge p sets x.block.0 (Some to.0) rs (subst (λ (o : Op). MaySetPhis p sets (edge_by p m o)) q (phis l)))
    op_same pinned number (op.CondBr c a b) q = outside_top _ (λ l rs. branch_same pinned region refl l rs)
    op_same pinned number (op.Switch w on other cases) q = outside_top _ (λ l rs. branch_same pinned region refl l rs)
    op_same pinned number (op.Call g args) q = called _
    op_same pinned number (op.Ret v) q = returned (optional_symbolic p (top_of cs) v) (deeper v q) (target v q)
    op_same pinned number (op.Alloca bytes) q = outside_top _ (λ l rs. outside_target sets x.result _ rs (result l))
    op_same pinned number (op.CallLibrary f args) q = outside_top _ (λ l rs. known_same f number _ l rs)
    op_same pinned number (op.Gep base indices) q = outside_top _ (λ l rs. outside_target sets x.result _ rs (result l))
    op_same pinned number _ q = outside_top _ (λ l rs. outside_target sets x.result _ rs (result l))

    access_same : (exact : Bool) (a : Access) (bytes : ℕ → Symbolic) (o : Op) → k ≡ depth → (rs : List Symbolic) → Outside 0 sets rs (after_access p exact n a bytes x o rs)
    access_same exact a bytes (op.Load w from) l rs = outside_target sets x.result _ rs (result l)
    access_same exact a bytes o l rs = outside_same 0 sets rs

    pub register_same : (kind : StepKind) → happening_in kind ≡ None → (s : SymbolicState) → Same (calls_by p e n m region x kind s cs)
    register_same (kinds.Access a) q s = outside_top _ (λ l rs. access_same (e.exact n) a s.bytes x.op l rs)
    register_same (kinds.Event v) q s = absurd (cc)
    register_same kind q s = op_same (e.pinned n) (result_in kind) x.op refl
