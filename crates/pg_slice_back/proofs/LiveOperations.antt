-- A live step that is neither an access nor an event.
use Rattle.std.proofs.Common.{◌≡◌, ℕ, zero, suc, ◌-◌, ◌<◌, ◌≤◌, ◌==◌, Bool, true, false, List, [], ◌∷◌, Option, Some, None, refl, sym, ap, ◌∙◌, subst}
use Rattle.std.proofs.Common.{inl, inr, ◌⊎◌, arith, ltb-true, ltb-false}
use Rattle.std.specs.Prelude.{nat_lt, slice_get, if◌then◌else◌}
use Rattle.std.specs.List.{AllByRecursion}
use Rattle.std.proofs.lemmas.Bool.{true≢false, eqb-true, eq-eqb, cases_lt, lt-ltb}
use Rattle.pg_ir.specs.declared.library_call.LibraryCall.{LibraryCall}
use Rattle.pg_ir.specs.declared.library_call.LibraryCall.TheVariants as known
use Rattle.pg_ir.specs.declared.value.Value.{Value}
use Rattle.pg_ir.specs.declared.instr.Instr.{Instr}
use Rattle.pg_ir.specs.declared.instr.Op.{Op}
use Rattle.pg_ir.specs.declared.instr.Op.TheVariants as op
use Rattle.pg_ir.specs.Edges.{phis_of}
use Rattle.pg_ir.specs.Program.{NumberedProgram}
use Rattle.pg_run_trace.specs.declared.step.Step.{Step}
use Rattle.pg_run_trace.specs.declared.step.StepKind.{StepKind}
use Rattle.pg_run_trace.specs.declared.step.StepKind.TheVariants as kinds
use Rattle.pg_slice_rules.specs.declared.decision.Decision.TheVariants.{Pinned}
use Rattle.pg_slice_rules.specs.Moments.{Moment, instr_in}
use Rattle.pg_slice_rules.specs.Freeable.{FreeRegion}
use Rattle.pg_slice_rules.specs.Extents.{edge_by, edge_in}
use Rattle.pg_slice_rules.specs.Known.{Reference, Taken, caller_target, edge_of}
use Rattle.pg_law_least.specs.Keeps.{MaySetPhis, may_write}
use Rattle.pg_slice_passes.specs.pg_slice_replay.declared.run.ReferenceRun.{ReferenceRun}
use Rattle.pg_slice_passes.specs.Given.{is_op}
use Rattle.pg_law_demands.specs.Cells.{Demand, IsMet}
use Rattle.pg_law_demands.specs.Back.{back_branch, back_byte, back_edge, back_freed, back_known, back_moved, back_op, back_other, back_other_op, back_phi, back_return, back_top, byte_demand}
use Rattle.pg_law_demands.specs.Back.{caller_count, fixing, if_set, is_target, of_operand, of_optional, of_value, only, register_count, register_demand}
use Rattle.pg_law_demands.proofs.DemandsBack.{Asks, eq_false}
use Rattle.pg_slice_back.specs.declared.registers.Counts.{Counts}
use Rattle.pg_slice_back.specs.Edges.{edge_sets, held_by, sets_result, takes_edge}
use Rattle.pg_slice_back.specs.Leaves.{IsAbove, Leaves, none}
use Rattle.pg_slice_back.specs.Made.{made_by}
use Rattle.pg_slice_back.specs.Steps.{IsLiveStep}
use Rattle.pg_slice_back.proofs.KnownBackOverSteps as live
use Rattle.pg_slice_back.proofs.EnteredPhis.{no_phi, phis_may}
use Rattle.pg_slice_back.proofs.LiveAccesses.{held_is, held_not, set_asks, target_is, unset_first}

-- ---- phis

edge_same : (p : NumberedProgram) (t k from : ℕ) (edge : Option ℕ) (i : ℕ) (w : Bool) → edge_sets p edge i ≡ false → back_edge p t k from edge i w ≡ register_demand t k i w ∷ []
edge_same p t k from None i w f = refl
edge_same p t k from (Some to) i w f = ap (λ (o : Option Instr). back_phi t k from o i w) (no_phi (phis_of p to) i f)

module _ (R : Reference) (e : Taken) (p : NumberedProgram) (r : ReferenceRun) (x : Instr) (step : Step) (counts : Counts) (n : ℕ) (m : Moment) (st : IsLiveStep R e p r x step counts n m)
    (kind : is_op m.did.did.kind ≡ true) where
  open live.standing R e p r x step counts n m st use {s, after, t, k}

  abbrev region : Option FreeRegion
  region = live.region R e p r x step counts n m st

  abbrev under : ℕ
  under = caller_count (live.y R e p r x step counts n m st)

  -- ---- by the operation alone

  top_by : (c : StepKind) → is_op c ≡ true → (i : ℕ) (w : Bool) → Asks e s (back_top R.program t k n m region x i w c) → Asks e s (back_op R.program t k n m region x i w x.op)
  top_by (kinds.Access a) q i w h = absurd (true≢false (sym q))
  top_by (kinds.Event v) q i w h = absurd (true≢false (sym q))
  top_by c q i w h = h

  low_by : (c : StepKind) → is_op c ≡ true → (j i : ℕ) (w : Bool) → Asks e s (back_other R.program t k under m x j i w c) → Asks e s (back_other_op R.program t k under m j i w x.op)
  low_by (kinds.Access a) q j i w h = absurd (true≢false (sym q))
  low_by (kinds.Event v) q j i w h = absurd (true≢false (sym q))
  low_by c q j i w h = h

  freed_by : (c : StepKind) → is_op c ≡ true → (b : ℕ) → Asks e s (back_byte t k n region x b true c) → Asks e s (back_freed n region b true)
  freed_by (kinds.Access a) q b h = absurd (true≢false (sym q))
  freed_by (kinds.Event v) q b h = absurd (true≢false (sym q))
  freed_by c q b h = h

  freed_same : (o : Option FreeRegion) (b : ℕ) → Asks e s (back_freed n o b true) → IsMet s (byte_demand b true)
  freed_same None b h = h.0.0
  freed_same (Some q) b h = go (may_write q.accesses b) h
    where
      go : (c : Bool) → Asks e s (if c then fixing (Pinned n) (byte_demand b true ∷ []) else only (byte_demand b true ∷ [])) → IsMet s (byte_demand b true)
      go true h = h.0.0
      go false h = h.0.0

  pub freed_back : (b : ℕ) → IsMet after (byte_demand b true) → Asks e s (back_freed n region b true)
  freed_back b h = freed_by m.did.did.kind kind b (live.byte_back R e p r x step counts n m st b h)

  pub bytes_same : (b : ℕ) → none b ≡ false → IsMet after (byte_demand b true) → IsMet s (byte_demand b true)
  bytes_same b q h = freed_same region b (freed_back b h)

  pub top_back : (i : ℕ) (w : Bool) → i < counts.present → IsMet after (register_demand t k i w) → Asks e s (back_op R.program t k n m region x i w x.op)
  top_back i w l h = top_by m.did.did.kind kind i w (live.present_back R e p r x step counts n m st i w l h)

  low_back : (j i : ℕ) (w : Bool) → (j ≡ k → ⊥) → IsMet after (register_demand t j i w) → Asks e s (back_other_op R.program t k under m j i w x.op)
  low_back j i w o h = low_by m.did.did.kind kind j i w (live.other_back R e p r x step counts n m st j i w o h)

  op_leaves : (o : Op) → x.op ≡ o → (sets : ℕ → Bool) → ((j i : ℕ) (w : Bool) → j < k
      → Asks e s (back_other_op R.program t k under m j i w o) → IsMet s (register_demand t j i w)) →
      ((i : ℕ) (w : Bool) → sets i ≡ false → i < register_count (live.y R e p r x step counts n m st)
      → Asks e s (back_op R.program t k n m region x i w o) → IsMet s (register_demand t k i w)) →
      Leaves t k sets none after s
  op_leaves o q sets low top = record {
    registers = live.registers_leave R e p r x step counts n m st sets
        (λ j i w l h. low j i w l (subst (λ (o : Op). Asks e s (back_other_op R.program t k under m j i w o)) q (low_by m.did.did.kind kind j i w h)))
        (λ i w f l h. top i w f l (subst (λ (o : Op). Asks e s (back_op R.program t k n m region x i w o)) q (top_by m.did.did.kind kind i w h)));
    bytes = bytes_same;
  }

  -- ---- along an edge

  edge_leaves : (edge : Option ℕ) (i : ℕ) (w : Bool) → edge_sets R.program edge i ≡ false → Asks e s (only (back_edge R.program t k x.block.0 edge i w)) → IsMet s (register_demand t k i w)
  edge_leaves edge i w f h = (subst (λ (qs : List Demand). Asks e s (only qs)) (edge_same R.program t k x.block.0 edge i w f) h).0.0

  branch_same : (o : Option FreeRegion) (edge : Option ℕ) (i : ℕ) (w : Bool) → edge_sets R.program edge i ≡ false
      → Asks e s (back_branch R.program t k n x edge o i w) → IsMet s (register_demand t k i w)
  branch_same None edge i w f h = edge_leaves edge i w f h
  branch_same (Some q) edge i w f h = go (q.sets i) h
    where
      go : (b : Bool) → Asks e s (if b then fixing (Pinned n) (back_edge R.program t k x.block.0 edge i w) else only (register_demand t k i w ∷ [])) → IsMet s (register_demand t k i w)
      go false h = h.0.0
      go true h = edge_leaves edge i w f (h.0, tt)

  edge_by_op : (o : Op) → x.op ≡ o → takes_edge o ≡ true → Leaves t k (edge_sets R.program (edge_in R.program m (Some x))) none after s
  edge_by_op (op.Br to) q f =
      op_leaves (op.Br to) q (edge_sets R.program (edge_in R.program m (Some x))) (λ j i w l h. h.0.0)
      (λ i w g l h. edge_leaves (Some to.0) i w (subst (λ (o : Op). edge_sets R.program (edge_by R.program m o) i ≡ false) q g) h)
  edge_by_op (op.CondBr c a b) q f =
      op_leaves (op.CondBr c a b) q (edge_sets R.program (edge_in R.program m (Some x))) (λ j i w l h. h.0.0) (λ i w g l h. branch_same region (edge_in R.program m (Some x)) i w g h)
  edge_by_op (op.Switch w' on other cases) q f =
      op_leaves (op.Switch w' on other cases) q (edge_sets R.program (edge_in R.program m (Some x))) (λ j i w l h. h.0.0) (λ i w g l h. branch_same region (edge_in R.program m (Some x)) i w g h)
  edge_by_op o q f = absurd (true≢false (sym f))

  pub edge_op_leaves : takes_edge x.op ≡ true → Leaves t k (edge_sets R.program (edge_in R.program m (Some x))) none after s
  edge_op_leaves f = edge_by_op x.op refl f

  edge_by_kind : (c : StepKind) → is_op c ≡ true → edge_of R.program m c ≡ edge_in R.program m (instr_in R.program m)
  edge_by_kind (kinds.Access a) q = absurd (true≢false (sym q))
  edge_by_kind (kinds.Event v) q = absurd (true≢false (sym q))
  edge_by_kind c q = refl

  pub edge_is : edge_of R.program m m.did.did.kind ≡ edge_in R.program m (Some x)
  edge_is = edge_by_kind m.did.did.kind kind ∙ ap (edge_in R.program m) st.instr

  own_edge : (q : FreeRegion) → region ≡ Some q → MaySetPhis R.program q.sets (edge_in R.program m (Some x))
  own_edge q is = subst (MaySetPhis R.program q.sets) edge_is (st.keeps.own (live.y R e p r x step counts n m st) (live.here R e p r x step counts n m st).in_run q is)

  none_set : (sets : ℕ → Bool) (edge : Option ℕ) (i : ℕ) → MaySetPhis R.program sets edge → sets i ≡ false → edge_sets R.program edge i ≡ false
  none_set sets None i h f = refl
  none_set sets (Some to) i h f = phis_may sets (phis_of R.program to) i h f

  branch_moved : (o : Option FreeRegion) (edge : Option ℕ) → ((q : FreeRegion) → o ≡ Some q → MaySetPhis R.program q.sets edge)
      → (i : ℕ) (w : Bool) → Asks e s (back_branch R.program t k n x edge o i w) →
      AllByRecursion (IsMet s) (back_edge R.program t k x.block.0 edge i w)
  branch_moved None edge o i w h = h.0
  branch_moved (Some q) edge o i w h = go (q.sets i) refl h
    where
      go : (b : Bool) → q.sets i ≡ b → Asks e s (if b then fixing (Pinned n) (back_edge R.program t k x.block.0 edge i w) else only (register_demand t k i w ∷ [])) →
          AllByRecursion (IsMet s) (back_edge R.program t k x.block.0 edge i w)
      go true f h = h.0
      go false f h = subst (λ (qs : List Demand). AllByRecursion (IsMet s) qs) (sym (edge_same R.program t k x.block.0 edge i w (none_set q.sets edge i (o q refl) f))) h.0

  edge_moved : (o : Op) → x.op ≡ o → takes_edge o ≡ true → (i : ℕ) (w : Bool) → Asks e s (back_op R.program t k n m region x i w o) →
      AllByRecursion (IsMet s) (back_edge R.program t k x.block.0 (edge_in R.program m (Some x)) i w)
  edge_moved (op.Br to) q f i w h = subst (λ (o : Op). AllByRecursion (IsMet s) (back_edge R.program t k x.block.0 (edge_by R.program m o) i w)) (sym q) h.0
  edge_moved (op.CondBr c a b) q f i w h = branch_moved region (edge_in R.program m (Some x)) own_edge i w h
  edge_moved (op.Switch w' on other cases) q f i w h = branch_moved region (edge_in R.program m (Some x)) own_edge i w h
  edge_moved o q f i w h = absurd (true≢false (sym f))

  pub edge_op_moves : takes_edge x.op ≡ true → (i : ℕ) (w : Bool) → i < counts.present → IsMet after (register_demand t k i w) →
      AllByRecursion (IsMet s) (back_edge R.program t k x.block.0 (edge_in R.program m (Some x)) i w)
  edge_op_moves f i w l h = edge_moved x.op refl f i w (top_back i w l h)

  -- ---- a call

  module _ (g : ℕ) (args : List Value) (is : x.op ≡ op.Call g args) where
    pub call_leaves : Leaves t k none none after s
    call_leaves = op_leaves (op.Call g args) is none
        (λ j i w l h. outside j i w (j == suc k) (eq_false j (suc k) (λ z. omega (arith, z, l))) h)
        (λ i w f l h. h.0.0)
      where
        outside : (j i : ℕ) (w : Bool) (b : Bool) → b ≡ false → Asks e s (if b then only (of_optional t k w (slice_get args i)) else only (register_demand t j i w ∷ []))
            → IsMet s (register_demand t j i w)
        outside j i w false f h = h.0.0
        outside j i w true f h = absurd (true≢false f)

    pub call_moves : (i : ℕ) (z : Value) (w : Bool) → slice_get args i ≡ Some z → IsMet after (register_demand t (suc k) i w) → AllByRecursion (IsMet s) (of_value t k w z)
    call_moves i z w q h =
        let a : Asks e s (back_other_op R.program t k under m (suc k) i w (op.Call g args)) =
        subst (λ (o : Op). Asks e s (back_other_op R.program t k under m (suc k) i w o)) is (low_back (suc k) i w (λ z. omega (arith, z)) h) in
        inside (suc k == suc k) (eq-eqb (suc k) (suc k) refl) a
      where
        inside : (b : Bool) → b ≡ true → Asks e s (if b then only (of_optional t k w (slice_get args i)) else only (register_demand t (suc k) i w ∷ []))
            → AllByRecursion (IsMet s) (of_value t k w z)
        inside true f h = subst (λ (o : Option Value). AllByRecursion (IsMet s) (of_optional t k w o)) q h.0
        inside false f h = absurd (true≢false (sym f))

  -- ---- a return

  module _ (v : Option Value) (is : x.op ≡ op.Ret v) where
    abbrev target : Option ℕ
    target = held_by (caller_target R.program m.calls) counts.under

    returned : (j i : ℕ) (w : Bool) → (j ≡ k → ⊥) → IsMet after (register_demand t j i w) → Asks e s (back_return t k under (caller_target R.program m.calls) j i w v)
    returned j i w o h = subst (λ (o : Op). Asks e s (back_other_op R.program t k under m j i w o)) is (low_back j i w o h)

    -- of a call below the caller's
    below : (j i : ℕ) (w : Bool) → (suc j ≡ k → ⊥) → Asks e s (back_return t k under (caller_target R.program m.calls) j i w v) → IsMet s (register_demand t j i w)
    below j i w o h = go (suc j == k) (eq_false (suc j) k o) h
      where
        go : (b : Bool) → b ≡ false → Asks e s (if b then (if nat_lt i under then if_set (is_target (caller_target R.program m.calls) i)
            (register_demand t j i w) (only (of_optional t k w v)) else only [])
            else only (register_demand t j i w ∷ [])) → IsMet s (register_demand t j i w)
        go false f h = h.0.0
        go true f h = absurd (true≢false f)

    -- of the caller's
    caller : (j i : ℕ) (w : Bool) → suc j ≡ k → Asks e s (back_return t k under (caller_target R.program m.calls) j i w v) →
        Asks e s (if nat_lt i under then if_set (is_target (caller_target R.program m.calls) i) (register_demand t j i w) (only (of_optional t k w v)) else only [])
    caller j i w q h = go (suc j == k) (eq-eqb (suc j) k q) h
      where
        go : (b : Bool) → b ≡ true → Asks e s (if b then (if nat_lt i under then if_set (is_target (caller_target R.program m.calls) i)
            (register_demand t j i w) (only (of_optional t k w v)) else only [])
            else only (register_demand t j i w ∷ [])) →
            Asks e s (if nat_lt i under then if_set (is_target (caller_target R.program m.calls) i) (register_demand t j i w) (only (of_optional t k w v)) else only [])
        go true f h = h
        go false f h = absurd (true≢false (sym f))

    caller_same : (j i : ℕ) (w : Bool) → suc j ≡ k → is_target target i ≡ false → (b : Bool) → nat_lt i under ≡ b →
        Asks e s (if b then if_set (is_target (caller_target R.program m.calls) i) (register_demand t j i w) (only (of_optional t k w v)) else only []) → IsMet s (register_demand t j i w)
    caller_same j i w q f true g h =
        let c = st.counted.under in
        let l : i < under = ltb-true i under g in
        unset_first e s (is_target (caller_target R.program m.calls) i) (register_demand t j i w) (only (of_optional t k w v))
        (held_not (caller_target R.program m.calls) counts.under i f (omega (arith, l, c))) h
    caller_same j i w q f false g h = live.beyond_under R e p r x step counts n m st j i w (sym q) (ltb-false i under g)

    pub return_leaves : Leaves t (k - 1) (is_target target) none after s
    return_leaves = record { registers = λ v j i w o h. go v j i w o h (v == t) refl; bytes = bytes_same }
      where
        own : (j i : ℕ) (w : Bool) → (IsAbove t (k - 1) (is_target target) t j i → ⊥) → IsMet after (register_demand t j i w) → (k ≡ 0) ⊎ (0 < k) → IsMet s (register_demand t j i w)
        own j i w o h (inl q) = first (cases_lt 0 j)
          where
            first : (0 < j) ⊎ (j ≤ 0) → IsMet s (register_demand t j i w)
            first (inl l) = absurd (o (refl, inl (omega (arith, l, q))))
            first (inr l) = let z : j ≡ 0 = omega (arith, l) in subst (λ (c : ℕ). IsMet s (register_demand t c i w)) (sym z) (live.no_call R e p r x step counts n m st q i w)
        own j i w o h (inr l) = at (cases_lt j (k - 1))
          where
            differs : j ≤ k - 1 → j ≡ k → ⊥
            differs l' z = omega (arith, l, l', z)

            is_caller : j ≡ k - 1 → (b : Bool) → is_target target i ≡ b → IsMet s (register_demand t j i w)
            is_caller z true f = absurd (o (refl, inr (z, f)))
            is_caller z false f =
                let q : suc j ≡ k = omega (arith, z, l) in
                caller_same j i w q f (nat_lt i under) refl (caller j i w q (returned j i w (differs (omega (arith, z))) h))

            equal : (k - 1 < j) ⊎ (j ≤ k - 1) → k - 1 ≤ j → IsMet s (register_demand t j i w)
            equal (inl g) l' = absurd (o (refl, inl g))
            equal (inr g) l' = is_caller (omega (arith, g, l')) (is_target target i) refl

            at : (j < k - 1) ⊎ (k - 1 ≤ j) → IsMet s (register_demand t j i w)
            at (inl g) = below j i w (λ z. omega (arith, g, z)) (returned j i w (differs (omega (arith, g))) h)
            at (inr g) = equal (cases_lt (k - 1) j) g

        some_calls : (c : ℕ) → (c ≡ 0) ⊎ (0 < c)
        some_calls zero = inl refl
        some_calls (suc c) = inr (omega arith)

        go : (v j i : ℕ) (w : Bool) → (IsAbove t (k - 1) (is_target target) v j i → ⊥) → IsMet after (register_demand v j i w)
            → (b : Bool) → (v == t) ≡ b → IsMet s (register_demand v j i w)
        go v j i w o h false f = live.other_thread R e p r x step counts n m st v j i w (λ q. true≢false (sym (eq-eqb v t q) ∙ f)) h
        go v j i w o h true f =
            let q : v ≡ t = eqb-true v t f in
            subst (λ (c : ℕ). IsMet s (register_demand c j i w)) (sym q)
            (own j i w (λ z. o (subst (λ (c : ℕ). IsAbove t (k - 1) (is_target target) c j i) (sym q) z)) (subst (λ (c : ℕ). IsMet after (register_demand c j i w)) q h) (some_calls k))

    pub return_moves : (i : ℕ) (w : Bool) → target ≡ Some i → IsMet after (register_demand t (k - 1) i w) → 0 < k → AllByRecursion (IsMet s) (of_optional t k w v)
    return_moves i w f h l =
        let g = held_is (caller_target R.program m.calls) counts.under i f in
        let c = st.counted.under in
        let below : i < counts.under = g.1 in
        let q : suc (k - 1) ≡ k = omega (arith, l) in
        let a = caller (k - 1) i w q (returned (k - 1) i w (λ z. omega (arith, l, z)) h) in
        (set_asks e s (is_target (caller_target R.program m.calls) i) (register_demand t (k - 1) i w) (only (of_optional t k w v)) (target_is (caller_target R.program m.calls) i g.0)
        (inside (nat_lt i under) (small (omega (arith, below, c))) a)).0
      where
        small : i < under → nat_lt i under ≡ true
        small l = lt-ltb i under l

        inside : (b : Bool) → b ≡ true → Asks e s (if b then if_set (is_target (caller_target R.program m.calls) i) (register_demand t (k - 1) i w) (only (of_optional t k w v)) else only []) →
            Asks e s (if_set (is_target (caller_target R.program m.calls) i) (register_demand t (k - 1) i w) (only (of_optional t k w v)))
        inside true f h = h
        inside false f h = absurd (true≢false (sym f))

  -- ---- an operation that sets the register of its instruction

  known_same : (f : LibraryCall) (i : ℕ) (w : Bool) → is_target x.result i ≡ false → Asks e s (back_known t k f x i w) → IsMet s (register_demand t k i w)
  known_same known.PgIn i w g h = unset_first e s (is_target x.result i) (register_demand t k i w) _ g h
  known_same known.PgInLen i w g h = unset_first e s (is_target x.result i) (register_demand t k i w) _ g h
  known_same known.Malloc i w g h = unset_first e s (is_target x.result i) (register_demand t k i w) _ g h
  known_same _ i w g h = h.0.0

  result_same : (o : Op) → sets_result o ≡ true → (i : ℕ) (w : Bool) → is_target x.result i ≡ false
      → Asks e s (back_op R.program t k n m region x i w o) → IsMet s (register_demand t k i w)
  result_same (op.Br to) q i w g h = absurd (true≢false (sym q))
  result_same (op.CondBr c a b) q i w g h = absurd (true≢false (sym q))
  result_same (op.Switch w' on other cases) q i w g h = absurd (true≢false (sym q))
  result_same (op.Call f args) q i w g h = absurd (true≢false (sym q))
  result_same (op.Ret v) q i w g h = absurd (true≢false (sym q))
  result_same (op.Alloca bytes) q i w g h = unset_first e s (is_target x.result i) (register_demand t k i w) _ g h
  result_same (op.CallLibrary f args) q i w g h = known_same f i w g h
  result_same (op.Gep base indices) q i w g h = unset_first e s (is_target x.result i) (register_demand t k i w) _ g h
  result_same o q i w g h = unset_first e s (is_target x.result i) (register_demand t k i w) _ g h

  result_low : (o : Op) → sets_result o ≡ true → (j i : ℕ) (w : Bool) → Asks e s (back_other_op R.program t k under m j i w o) → IsMet s (register_demand t j i w)
  result_low (op.Call f args) q j i w h = absurd (true≢false (sym q))
  result_low (op.Ret v) q j i w h = absurd (true≢false (sym q))
  result_low o q j i w h = h.0.0

  pub result_leaves : sets_result x.op ≡ true → Leaves t k (is_target (held_by x.result counts.present)) none after s
  result_leaves q = op_leaves x.op refl (is_target (held_by x.result counts.present)) (λ j i w l h. result_low x.op q j i w h)
      (λ i w f l h. let c = st.counted.present in result_same x.op q i w (held_not x.result counts.present i f (omega (arith, l, c))) h)

  known_moves : (f : LibraryCall) (args : List Value) → x.op ≡ op.CallLibrary f args → (i : ℕ) (w : Bool) → is_target x.result i ≡ true → Asks e s (back_known t k f x i w) →
      AllByRecursion (IsMet s) (made_by t k (op.CallLibrary f args) w)
  known_moves known.PgIn args q i w g h =
      subst (λ (o : Op). AllByRecursion (IsMet s) (of_operand t k true o 0)) q (set_asks e s (is_target x.result i) (register_demand t k i w) _ g h).0
  known_moves _ args q i w g h = tt

  result_moved : (o : Op) → x.op ≡ o → sets_result o ≡ true → (i : ℕ) (w : Bool) → is_target x.result i ≡ true → Asks e s (back_op R.program t k n m region x i w o) →
      AllByRecursion (IsMet s) (made_by t k o w)
  result_moved (op.Br to) z q i w g h = absurd (true≢false (sym q))
  result_moved (op.CondBr c a b) z q i w g h = absurd (true≢false (sym q))
  result_moved (op.Switch w' on other cases) z q i w g h = absurd (true≢false (sym q))
  result_moved (op.Call f args) z q i w g h = absurd (true≢false (sym q))
  result_moved (op.Ret v) z q i w g h = absurd (true≢false (sym q))
  result_moved (op.Alloca bytes) z q i w g h = tt
  result_moved (op.CallLibrary f args) z q i w g h = known_moves f args z i w g h
  result_moved (op.Gep base indices) z q i w g h =
      subst (λ (o : Op). AllByRecursion (IsMet s) (back_moved t k o w)) z (set_asks e s (is_target x.result i) (register_demand t k i w) _ g h).0
  result_moved o z q i w g h = (set_asks e s (is_target x.result i) (register_demand t k i w) _ g h).0

  pub result_moves : sets_result x.op ≡ true → (i : ℕ) (w : Bool) → held_by x.result counts.present ≡ Some i → IsMet after (register_demand t k i w) →
      AllByRecursion (IsMet s) (made_by t k x.op w)
  result_moves q i w f h =
      let g = held_is x.result counts.present i f in
      result_moved x.op refl q i w (target_is x.result i g.0) (top_back i w g.1 h)
