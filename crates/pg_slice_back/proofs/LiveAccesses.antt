-- A live step that is an access.
use Rattle.std.proofs.Common.{◌≡◌, ℕ, ◌<◌, ◌==◌, Bool, true, false, List, [], ◌∷◌, Option, Some, None, refl, sym, ◌∙◌, subst, arith, ltb-true}
use Rattle.std.specs.Prelude.{◌||◌, nat_lt, if◌then◌else◌}
use Rattle.std.specs.List.{AllByRecursion}
use Rattle.std.proofs.lemmas.Bool.{true≢false, eqb-true, eq-eqb, lt-ltb}
use Rattle.pg_num.specs.declared.width.Width.{Width}
use Rattle.pg_ir.specs.declared.instr.Instr.{Instr}
use Rattle.pg_ir.specs.declared.instr.Op.{Op}
use Rattle.pg_ir.specs.declared.instr.Op.TheVariants as op
use Rattle.pg_ir.specs.declared.value.Value.{Value}
use Rattle.pg_ir.specs.Program.{NumberedProgram}
use Rattle.pg_run_trace.specs.declared.step.Step.{Step}
use Rattle.pg_run_trace.specs.declared.step.StepKind.{StepKind}
use Rattle.pg_run_trace.specs.declared.step.StepKind.TheVariants as kinds
use Rattle.pg_run_trace.specs.declared.step.Access.{Access}
use Rattle.pg_run_trace.specs.Steps.{range_of}
use Rattle.pg_slice_rules.specs.Moments.{Moment}
use Rattle.pg_slice_rules.specs.Freeable.{bounds_of}
use Rattle.pg_slice_rules.specs.SymbolicValues.{is_within}
use Rattle.pg_slice_rules.specs.Known.{Reference, SymbolicState, Taken}
use Rattle.pg_slice_passes.specs.pg_slice_replay.declared.run.ReferenceRun.{ReferenceRun}
use Rattle.pg_law_demands.specs.Cells.{Demand, IsMet}
use Rattle.pg_law_demands.specs.Back.{Asked, back_access, back_byte, back_other, back_store, back_top, byte_demand, caller_count, if_plain, if_set, is_target, of_bytes, of_value, only}
use Rattle.pg_law_demands.specs.Back.{register_count, register_demand}
use Rattle.pg_law_demands.proofs.DemandsBack.{Asks}
use Rattle.pg_slice_back.specs.declared.registers.Counts.{Counts}
use Rattle.pg_slice_back.specs.Edges.{held_by}
use Rattle.pg_slice_back.specs.Leaves.{Leaves, none}
use Rattle.pg_slice_back.specs.Steps.{IsLiveStep}
use Rattle.pg_slice_back.proofs.KnownBackOverSteps as live

-- ---- a register that is set

pub unset_first : (e : Taken) (s : SymbolicState) (b : Bool) (q : Demand) (a : Asked) → b ≡ false → Asks e s (if_set b q a) → IsMet s q
unset_first e s false q a f h = h.0.0
unset_first e s true q a f h = absurd (true≢false f)

pub set_asks : (e : Taken) (s : SymbolicState) (b : Bool) (q : Demand) (a : Asked) → b ≡ true → Asks e s (if_set b q a) → Asks e s a
set_asks e s true q a f h = h
set_asks e s false q a f h = absurd (true≢false (sym f))

pub held_not : (o : Option ℕ) (count i : ℕ) → is_target (held_by o count) i ≡ false → i < count → is_target o i ≡ false
held_not None count i f l = refl
held_not (Some j) count i f l = go (nat_lt j count) refl f
  where
    go : (b : Bool) → nat_lt j count ≡ b → is_target (if b then Some j else None) i ≡ false → (j == i) ≡ false
    go true g f = f
    go false g f = differ (j == i) refl
      where
        differ : (c : Bool) → (j == i) ≡ c → (j == i) ≡ false
        differ false q = q
        differ true q = absurd (true≢false (sym (lt-ltb j count (subst (λ (z : ℕ). z < count) (sym (eqb-true j i q)) l)) ∙ g))

pub held_is : (o : Option ℕ) (count i : ℕ) → held_by o count ≡ Some i → (o ≡ Some i) × (i < count)
held_is None count i h = absurd cc
held_is (Some j) count i h = go (nat_lt j count) refl h
  where
    go : (b : Bool) → nat_lt j count ≡ b → (if b then Some j else None) ≡ Some i → (Some j ≡ Some i) × (i < count)
    go true g h = let z : j ≡ i = cc in (h, subst (λ (z : ℕ). z < count) z (ltb-true j count g))
    go false g h = absurd cc

pub target_is : (o : Option ℕ) (i : ℕ) → o ≡ Some i → is_target o i ≡ true
target_is o i q = subst (λ (z : Option ℕ). is_target z i ≡ true) (sym q) (eq-eqb i i refl)

-- ---- a store

plain_first : (e : Taken) (s : SymbolicState) (n : ℕ) (v : Bool) (qs : List Demand) → Asks e s (if_plain v n qs) → AllByRecursion (IsMet s) qs
plain_first e s n true qs h = h.0
plain_first e s n false qs h = h.0

plain_fixed : (e : Taken) (s : SymbolicState) (n : ℕ) (v : Bool) (qs : List Demand) → v ≡ false → Asks e s (if_plain v n qs) → e.exact n ≡ true
plain_fixed e s n false qs f h = h.1.0
plain_fixed e s n true qs f h = absurd (true≢false f)

module _ (R : Reference) (e : Taken) (p : NumberedProgram) (r : ReferenceRun) (x : Instr) (step : Step) (counts : Counts) (n : ℕ) (m : Moment) (st : IsLiveStep R e p r x step counts n m)
    (a : Access) (kind : m.did.did.kind ≡ kinds.Access a) where
  open live.standing R e p r x step counts n m st use {s, after, t, k}

  top_access : (i : ℕ) (w : Bool) → Asks e s (back_top R.program t k n m (live.region R e p r x step counts n m st) x i w m.did.did.kind) → Asks e s (back_access t k n a x i w x.op)
  top_access i w h = subst (λ (c : StepKind). Asks e s (back_top R.program t k n m (live.region R e p r x step counts n m st) x i w c)) kind h

  byte_access : (b : ℕ) → IsMet after (byte_demand b true) → Asks e s (back_store t k n a b true x.op)
  byte_access b h = subst (λ (c : StepKind). Asks e s (back_byte t k n (live.region R e p r x step counts n m st) x b true c)) kind (live.byte_back R e p r x step counts n m st b h)

  not_set : (o : Op) (i : ℕ) (w : Bool) → is_target x.result i ≡ false → Asks e s (back_access t k n a x i w o) → IsMet s (register_demand t k i w)
  not_set (op.Load w' from) i w f h = unset_first e s (is_target x.result i) (register_demand t k i w) _ f h
  not_set o i w f h = h.0.0

  not_stored : (o : Op) (b : ℕ) → is_within (range_of a) b ≡ false → Asks e s (back_store t k n a b true o) → IsMet s (byte_demand b true)
  not_stored (op.Store w v at) b f h = go (is_within (range_of a) b) f (is_within (bounds_of a.pointer) b) h
    where
      go : (c : Bool) → c ≡ false → (d : Bool) →
          Asks e s (if c then if_plain a.event n (of_value t k true v) else if d then if_plain a.event n (byte_demand b true ∷ []) else only (byte_demand b true ∷ []))
          → IsMet s (byte_demand b true)
      go true f d h = absurd (true≢false f)
      go false f true h = (plain_first e s n a.event (byte_demand b true ∷ []) h).0
      go false f false h = h.0.0
  not_stored o b f h = h.0.0

  access_registers : (sets : ℕ → Bool) → ((i : ℕ) → sets i ≡ false → i < register_count (live.y R e p r x step counts n m st) → is_target x.result i ≡ false) →
      (writes : ℕ → Bool) → ((b : ℕ) → writes b ≡ false → IsMet after (byte_demand b true) → IsMet s (byte_demand b true)) → Leaves t k sets writes after s
  access_registers sets f writes g = record {
    registers = live.registers_leave R e p r x step counts n m st sets
        (λ j i w l h. (subst (λ (c : StepKind). Asks e s (back_other R.program t k (caller_count (live.y R e p r x step counts n m st)) m x j i w c)) kind h).0.0)
        (λ i w q l h. not_set x.op i w (f i q l) (top_access i w h));
    bytes = g;
  }

  pub access_leaves : Leaves t k (is_target x.result) (is_within (range_of a)) after s
  access_leaves = access_registers (is_target x.result) (λ i q l. q) (is_within (range_of a)) (λ b q h. not_stored x.op b q (byte_access b h))

  pub load_leaves : (w : Width) (from : Value) → x.op ≡ op.Load w from → Leaves t k (is_target (held_by x.result counts.present)) none after s
  load_leaves w from q = access_registers (is_target (held_by x.result counts.present))
      (λ i f l. let c = st.counted.present in held_not x.result counts.present i f (omega (arith, l, c))) none
      (λ b f h. (subst (λ (o : Op). Asks e s (back_store t k n a b true o)) q (byte_access b h)).0.0)

  pub load_moves : (w : Width) (from : Value) → x.op ≡ op.Load w from → (i : ℕ) (v : Bool) → held_by x.result counts.present ≡ Some i → IsMet after (register_demand t k i v) →
      AllByRecursion (IsMet s) (of_bytes (range_of a).start a.bytes) × (e.exact n ≡ true)
  load_moves w from q i v f h =
      let g = held_is x.result counts.present i f in
      let b : Asks e s (back_access t k n a x i v x.op) = top_access i v (live.present_back R e p r x step counts n m st i v g.1 h) in
      let c = set_asks e s (is_target x.result i) (register_demand t k i v) _ (target_is x.result i g.0) (subst (λ (o : Op). Asks e s (back_access t k n a x i v o)) q b) in
      (c.0, c.1.0)

  module _ (w : Width) (v at : Value) (is : x.op ≡ op.Store w v at) where
    stored : (b : ℕ) → IsMet after (byte_demand b true) → Asks e s (back_store t k n a b true (op.Store w v at))
    stored b h = subst (λ (o : Op). Asks e s (back_store t k n a b true o)) is (byte_access b h)

    pub store_leaves : Leaves t k none (is_within (range_of a)) after s
    store_leaves = record {
      registers = live.registers_leave R e p r x step counts n m st none
          (λ j i w l h. (subst (λ (c : StepKind). Asks e s (back_other R.program t k (caller_count (live.y R e p r x step counts n m st)) m x j i w c)) kind h).0.0)
          (λ i w q l h. (subst (λ (o : Op). Asks e s (back_access t k n a x i w o)) is (top_access i w h)).0.0);
      bytes = λ b q h. not_stored (op.Store w v at) b q (stored b h);
    }

    pub store_moves : (b : ℕ) → is_within (range_of a) b ≡ true → IsMet after (byte_demand b true) → AllByRecursion (IsMet s) (of_value t k true v)
    store_moves b f h = go (is_within (range_of a) b) f (stored b h)
      where
        go : (c : Bool) → c ≡ true → Asks e s (if c then if_plain a.event n (of_value t k true v)
            else if is_within (bounds_of a.pointer) b then if_plain a.event n (byte_demand b true ∷ []) else only (byte_demand b true ∷ [])) → AllByRecursion (IsMet s) (of_value t k true v)
        go true f h = plain_first e s n a.event (of_value t k true v) h
        go false f h = absurd (true≢false (sym f))

    pub store_fixes : (b : ℕ) → (is_within (range_of a) b || is_within (bounds_of a.pointer) b) ≡ true → a.event ≡ false → IsMet after (byte_demand b true) → e.exact n ≡ true
    store_fixes b f g h = go (is_within (range_of a) b) (is_within (bounds_of a.pointer) b) f (stored b h)
      where
        go : (c d : Bool) → (c || d) ≡ true →
            Asks e s (if c then if_plain a.event n (of_value t k true v) else if d then if_plain a.event n (byte_demand b true ∷ []) else only (byte_demand b true ∷ [])) → e.exact n ≡ true
        go true d f h = plain_fixed e s n a.event (of_value t k true v) g h
        go false true f h = plain_fixed e s n a.event (byte_demand b true ∷ []) g h
        go false false f h = absurd (true≢false (sym f))
