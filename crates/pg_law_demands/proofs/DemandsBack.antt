-- One step back over a live step: a demand that is met after it asks for what is met before it.
use Rattle.std.proofs.Common.{◌≡◌, ℕ, zero, suc, ◌+◌, ◌-◌, ◌<◌, ◌==◌, Bool, true, false, List, [], ◌∷◌, ◌++◌, length, map, Option, Some, None, refl, sym}
use Rattle.std.proofs.Common.{ap, ◌∙◌, subst, arith, ltb-true}
use Rattle.std.specs.Prelude.{◌&&◌, ◌||◌, nat_lt, not, slice_get, slice_index_or, slice_set, if◌then◌else◌}
use Rattle.std.specs.List.{AllByRecursion}
use Rattle.std.proofs.lemmas.Bool.{true≢false, eqb-true, eq-eqb}
use Rattle.std.proofs.lemmas.List.{get_or-set_other}
use Rattle.pg_ir.specs.declared.library_call.LibraryCall.{LibraryCall}
use Rattle.pg_ir.specs.declared.library_call.LibraryCall.TheVariants as known
use Rattle.pg_ir.specs.declared.value.Value.{Value}
use Rattle.pg_ir.specs.declared.instr.Instr.{Instr}
use Rattle.pg_ir.specs.declared.instr.Op.{Op}
use Rattle.pg_ir.specs.declared.instr.Op.TheVariants as op
use Rattle.pg_ir.specs.Program.{NumberedProgram, parameter_count}
use Rattle.pg_run_thread.specs.Operands.{operands_of}
use Rattle.pg_run_trace.specs.declared.turn.TurnKind.{TurnKind}
use Rattle.pg_run_trace.specs.declared.turn.TurnKind.TheVariants as turns
use Rattle.pg_run_trace.specs.declared.step.StepKind.{StepKind}
use Rattle.pg_run_trace.specs.declared.step.StepKind.TheVariants as kinds
use Rattle.pg_run_trace.specs.declared.step.Access.{Access}
use Rattle.pg_run_trace.specs.declared.step.Event.{Event}
use Rattle.pg_run_trace.specs.declared.step.Write.{Write}
use Rattle.pg_run_trace.specs.Steps.{range_of, write_by}
use Rattle.pg_law_least.specs.pg_slice_rules.declared.decision.Decision.{Decision}
use Rattle.pg_law_least.specs.pg_slice_rules.declared.decision.Decision.TheVariants.{Pinned, Exact}
use Rattle.pg_law_least.specs.pg_slice_rules.Moments.{Moment, thread_in}
use Rattle.pg_law_least.specs.pg_slice_rules.Freeable.{FreeRegion, bounds_of}
use Rattle.pg_law_least.specs.pg_slice_rules.SymbolicValues.{Symbolic, Known, Bounded, Unknown, always, applied, byte_in, is_within, loaded, symbolic_of, unset}
use Rattle.pg_law_least.specs.pg_slice_rules.Extents.{edge_in}
use Rattle.pg_law_least.specs.pg_slice_rules.Known.{SymbolicState, Taken, after_access, after_branch, after_event, after_known, after_op, along_edge, bytes_by, bytes_freed, bytes_stored, caller_target, entered}
use Rattle.pg_law_least.specs.pg_slice_rules.Known.{exit_symbolic, from_input, function_in, has, load_of, operand_at, optional_symbolic, registers_of, result_in, returned_symbolic, set_symbolic, started, thread_of}
use Rattle.pg_law_least.specs.pg_slice_rules.Known.{top_of, under_top, with_top, words_after, written_symbolic}
use Rattle.pg_law_least.specs.Keeps.{MaySetPhis, is_store, may_write}
use Rattle.pg_law_least.proofs.KeptLikeness.{Outside, forgotten_byte, outside_edge}
use Rattle.pg_law_least.proofs.LiveSteps.{calls_by, known_bytes, known_words}
use Rattle.pg_law_demands.specs.Cells.{Demand, IsMet, Word, call_at, is_met}
use Rattle.pg_law_demands.specs.Back.{Asked, back_access, back_branch, back_byte, back_edge, back_event, back_freed, back_known, back_op, back_other, back_other_event, back_other_op}
use Rattle.pg_law_demands.specs.Back.{back_return, back_exit, back_start, back_store, back_top, back_word, back_word_event, back_write, back_written, byte_demand, if_plain, if_set, is_target}
use Rattle.pg_law_demands.specs.Back.{of_bytes, of_optional, of_operand, of_value, only, register_demand, word_demand}
use Rattle.pg_law_demands.proofs.ValuesBefore.{bytes_met, cut_met, edge_met, entered_met, index_forgotten, index_set, moved_met, none_unknown, operand_met, optional_met, top_met, value_met}
use Rattle.pg_law_demands.proofs.ValuesBefore.{values_met}

-- what is asked is met before, and taken
abbrev pub Asks : Taken → SymbolicState → Asked → Type 0
Asks e s a = AllByRecursion (IsMet s) a.demands × AllByRecursion (λ (x : Decision). has e x ≡ true) a.decisions

pub outside_index : (rs rt : List Symbolic) (i : ℕ) (sets : ℕ → Bool) (r : ℕ) → Outside i sets rs rt → sets (i + r) ≡ false → slice_index_or rt r unset ≡ slice_index_or rs r unset
outside_index [] [] i sets r h q = refl
outside_index [] (t ∷ rt) i sets r h q = absurd h
outside_index (s ∷ rs) [] i sets r h q = absurd h
outside_index (s ∷ rs) (t ∷ rt) i sets zero h q = let z : i + 0 ≡ i = omega arith in h.0 (sym (ap sets z) ∙ q)
outside_index (s ∷ rs) (t ∷ rt) i sets (suc r) h q = let z : i + suc r ≡ suc i + r = omega arith in outside_index rs rt (suc i) sets r h.1 (sym (ap sets z) ∙ q)

pub none_below : (r : ℕ) → nat_lt r 0 ≡ false
none_below r = go (nat_lt r 0) refl
  where
    go : (b : Bool) → nat_lt r 0 ≡ b → nat_lt r 0 ≡ false
    go false q = q
    go true q = let z : r < 0 = ltb-true r 0 q in absurd (omega (arith, z))

pub eq_false : (i j : ℕ) → (i ≡ j → ⊥) → (i == j) ≡ false
eq_false i j o = go (i == j) refl
  where
    go : (b : Bool) → (i == j) ≡ b → (i == j) ≡ false
    go false q = q
    go true q = absurd (o (eqb-true i j q))

next_eq : (i j : ℕ) → (i == j) ≡ (suc i == suc j)
next_eq i j = go (i == j) refl
  where
    go : (b : Bool) → (i == j) ≡ b → (i == j) ≡ (suc i == suc j)
    go true q = q ∙ sym (eq-eqb (suc i) (suc j) (ap suc (eqb-true i j q)))
    go false q = q ∙ sym (eq_false (suc i) (suc j) (λ z. true≢false (sym (eq-eqb i j (omega (arith, z))) ∙ q)))

pub top_is : (k : ℕ) (cs : List (List Symbolic)) → length cs ≡ k → call_at k cs ≡ top_of cs
top_is k [] q = refl
top_is k (rs ∷ cs) q = rw (eq-eqb (suc (length cs)) k q) refl

module _ (p : NumberedProgram) (e : Taken) (n : ℕ) (m : Moment) (region : Option FreeRegion) (x : Instr) (s : SymbolicState) where
  abbrev t : ℕ
  t = thread_in m

  abbrev k : ℕ
  k = length m.calls

  -- ---- a register of the present call

  module _ (rs : List Symbolic) (low : List (List Symbolic)) (calls : (thread_of s t).calls ≡ rs ∷ low) (high : suc (length low) ≡ k)
      (own : (q : FreeRegion) → region ≡ Some q → MaySetPhis p q.sets (edge_in p m (Some x))) (r : ℕ) (whole : Bool) (l : r < length rs) where
    top : call_at k (thread_of s t).calls ≡ rs
    top = ap (call_at k) calls ∙ top_is k (rs ∷ low) high

    self : is_met whole (slice_index_or rs r unset) ≡ true → Asks e s (only (register_demand t k r whole ∷ []))
    self h = ((top_met p s t k rs top r whole h, tt), tt)

    at_top : (c : List Symbolic) → is_met whole (slice_index_or (call_at k (c ∷ low)) r unset) ≡ true → is_met whole (slice_index_or c r unset) ≡ true
    at_top c h = subst (λ (z : List Symbolic). is_met whole (slice_index_or z r unset) ≡ true) (top_is k (c ∷ low) high) h

    set_back : (o : Option ℕ) (v : Symbolic) (a : Asked) → is_met whole (slice_index_or (set_symbolic o v rs) r unset) ≡ true → (is_met whole v ≡ true → Asks e s a) →
        Asks e s (if_set (is_target o r) (register_demand t k r whole) a)
    set_back o v a h f = go (is_target o r) (subst (λ (z : Symbolic). is_met whole z ≡ true) (index_set rs o v r l) h)
      where
        go : (b : Bool) → is_met whole (if b then v else slice_index_or rs r unset) ≡ true → Asks e s (if_set b (register_demand t k r whole) a)
        go true h = f h
        go false h = self h

    edge_back : (edge : Option ℕ) → is_met whole (slice_index_or (along_edge p x.block.0 edge rs) r unset) ≡ true → Asks e s (only (back_edge p t k x.block.0 edge r whole))
    edge_back edge h = (edge_met p s t k rs top x.block.0 edge r whole l h, tt)

    branch_back : (b : Bool) → e.pinned n ≡ b → (edge : Option ℕ) (o : Option FreeRegion) → ((q : FreeRegion) → o ≡ Some q → MaySetPhis p q.sets edge) →
        is_met whole (slice_index_or (after_branch p b n x edge o rs) r unset) ≡ true → Asks e s (back_branch p t k n x edge o r whole)
    branch_back true f edge None o h = edge_back edge h
    branch_back false f edge None o h = edge_back edge h
    branch_back true f edge (Some q) o h = go (q.sets r) refl
      where
        go : (b : Bool) → q.sets r ≡ b → Asks e s (back_branch p t k n x edge (Some q) r whole)
        go true g = rw g (edge_met p s t k rs top x.block.0 edge r whole l h, (f, tt))
        go false g =
            let z : 0 + r ≡ r = omega arith in
            rw g (self (subst (λ (z : Symbolic). is_met whole z ≡ true)
            (outside_index rs (along_edge p x.block.0 edge rs) 0 q.sets r (outside_edge p q.sets x.block.0 edge rs (o q refl)) (ap q.sets z ∙ g)) h))
    branch_back false f edge (Some q) o h = go (q.sets r) refl
      where
        same : slice_index_or (after_branch p false n x edge (Some q) rs) r unset ≡ (if q.sets r then Unknown (Pinned n) else slice_index_or rs r unset)
        same = let z : 0 + r ≡ r = omega arith in index_forgotten rs 0 q.sets (Pinned n) r l ∙ ap (λ (j : ℕ). if q.sets j then Unknown (Pinned n) else slice_index_or rs r unset) z

        go : (b : Bool) → q.sets r ≡ b → Asks e s (back_branch p t k n x edge (Some q) r whole)
        go true g = absurd (none_unknown whole (Pinned n) (subst (λ (z : Symbolic). is_met whole z ≡ true)
            (same ∙ ap (λ (b : Bool). if b then Unknown (Pinned n) else slice_index_or rs r unset) g) h))
        go false g = rw g (self (subst (λ (z : Symbolic). is_met whole z ≡ true) (same ∙ ap (λ (b : Bool). if b then Unknown (Pinned n) else slice_index_or rs r unset) g) h))

    input_met : (z : Symbolic) → is_met whole (from_input z) ≡ true → is_met true z ≡ true
    input_met (Known f g) h = refl
    input_met (Bounded f y) h = absurd (true≢false (sym h))
    input_met (Unknown y) h = absurd (true≢false (sym h))

    known_back : (f : LibraryCall) (number : ℕ) → is_met whole (slice_index_or (after_known f x.result number (operand_at p rs x.op 0) rs) r unset) ≡ true →
        Asks e s (back_known t k f x r whole)
    known_back known.PgIn number h = set_back x.result _ _ h (λ z. (operand_met p s t k rs top x.op 0 true (input_met (operand_at p rs x.op 0) z), tt))
    known_back known.PgInLen number h = set_back x.result _ _ h (λ z. (tt, tt))
    known_back known.Malloc number h = set_back x.result _ _ h (λ z. (tt, tt))
    known_back _ number h = self h

    under : (c : List Symbolic) → is_met whole (slice_index_or (call_at k (c ∷ rs ∷ low)) r unset) ≡ true → is_met whole (slice_index_or rs r unset) ≡ true
    under c h = at_top rs (subst (λ (b : Bool). is_met whole (slice_index_or (if b then c else call_at k (rs ∷ low)) r unset) ≡ true) (differs (suc (suc (length low)) == k) refl) h)
      where
        differs : (b : Bool) → (suc (suc (length low)) == k) ≡ b → (suc (suc (length low)) == k) ≡ false
        differs false q = q
        differs true q = let z : suc (suc (length low)) ≡ k = eqb-true (suc (suc (length low))) k q in absurd (omega (arith, z, high))

    op_back : (number : ℕ) (o : Op) → is_met whole (slice_index_or (call_at k (after_op p (e.pinned n) n m region number x o (rs ∷ low))) r unset) ≡ true →
        Asks e s (back_op p t k n m region x r whole o)
    op_back number (op.Br to) h = edge_back (Some to.0) (at_top _ h)
    op_back number (op.CondBr c a b) h = branch_back (e.pinned n) refl (edge_in p m (Some x)) region own (at_top _ h)
    op_back number (op.Switch w on other cases) h = branch_back (e.pinned n) refl (edge_in p m (Some x)) region own (at_top _ h)
    op_back number (op.Call g args) h = self (under _ h)
    op_back number (op.Ret v) h = (tt, tt)
    op_back number (op.Alloca bytes) h = set_back x.result _ _ (at_top _ h) (λ z. (tt, tt))
    op_back number (op.CallLibrary f args) h = known_back f number (at_top _ h)
    op_back number (op.Gep base indices) h = set_back x.result _ _ (at_top _ h) (λ z. (moved_met p s t k rs top x.op whole z, tt))
    op_back number o h = set_back x.result _ _ (at_top _ h) (λ z. (values_met p s t k rs top (operands_of o) (λ gs input. applied o (gs input)) whole z, tt))

    load_back : (b : Bool) → e.exact n ≡ b → (w : _) (a : Access) → is_met whole (load_of b n w a s.bytes) ≡ true
        → Asks e s (record { demands = of_bytes (range_of a).start a.bytes; decisions = Exact n ∷ [] })
    load_back true f w a h = (bytes_met s true (range_of a).start a.bytes (cut_met _ whole (loaded s.bytes (range_of a).start a.bytes) h), (f, tt))
    load_back false f w a h = absurd (none_unknown whole (Exact n) h)

    access_back : (a : Access) (o : Op) → is_met whole (slice_index_or (after_access p (e.exact n) n a s.bytes x o rs) r unset) ≡ true → Asks e s (back_access t k n a x r whole o)
    access_back a (op.Load w from) h = set_back x.result _ _ h (λ z. load_back (e.exact n) refl w a z)
    access_back a o h = self h

    start_back : (parameters : ℕ) → is_met whole (slice_index_or (started parameters (slice_index_or s.words t unset) rs) r unset) ≡ true → Asks e s (back_start parameters t k r whole)
    start_back parameters h = go (parameters == 0) (r == 0) refl h
      where
        go : (b c : Bool) → (r == 0) ≡ c → is_met whole (slice_index_or (if b then rs else slice_set rs 0 (slice_index_or s.words t unset)) r unset) ≡ true →
            Asks e s (if not b && c then only (record { cell = Word t; whole = whole } ∷ []) else only (register_demand t k r whole ∷ []))
        go true true q h = self h
        go true false q h = self h
        go false true q h =
            let z : r ≡ 0 = eqb-true r 0 q in
            let y : is_target (Some 0) r ≡ true = eq-eqb 0 r (sym z) in (
              (
                subst (λ (z : Symbolic). is_met whole z ≡ true)
                    (index_set rs (Some 0) (slice_index_or s.words t unset) r l ∙ ap (λ (b : Bool). if b then slice_index_or s.words t unset else slice_index_or rs r unset) y) h,
                tt,
              ),
              tt,
            )
        go false false q h =
            self (subst (λ (z : Symbolic). is_met whole z ≡ true)
            (index_set rs (Some 0) (slice_index_or s.words t unset) r l ∙ ap (λ (b : Bool). if b then slice_index_or s.words t unset else slice_index_or rs r unset) (other (0 == r) refl)) h)
          where
            other : (b : Bool) → (0 == r) ≡ b → (0 == r) ≡ false
            other false f = f
            other true f = absurd (true≢false (sym (eq-eqb r 0 (sym (eqb-true 0 r f))) ∙ q))

    event_back : (v : Event) (kind : TurnKind) →
        is_met whole (slice_index_or (call_at k (after_event p m v kind (slice_index_or s.words t unset) x (rs ∷ low))) r unset) ≡ true → Asks e s (back_event p t k m x r whole kind)
    event_back v turns.Start h = start_back (parameter_count p (function_in m.calls)) (at_top _ h)
    event_back v turns.Exit h = (tt, tt)
    event_back v turns.Wait h = self (at_top rs h)
    event_back v turns.Arrive h = self (at_top rs h)
    event_back v turns.Putchar h = set_back x.result _ _ (at_top _ h) (λ z. (operand_met p s t k rs top x.op 0 true (cut_met _ whole (operand_at p rs x.op 0) z), tt))
    event_back v _ h = set_back x.result _ _ (at_top _ h) (λ z. (tt, tt))

    pub kind_back : (kind : StepKind) → is_met whole (slice_index_or (call_at k (calls_by p e n m region x kind s (rs ∷ low))) r unset) ≡ true →
        Asks e s (back_top p t k n m region x r whole kind)
    kind_back (kinds.Access a) h = access_back a x.op (at_top _ h)
    kind_back (kinds.Event v) h = event_back v v.kind h
    kind_back kind h = op_back (result_in kind) x.op h

  -- ---- a register of another call of the thread

  module _ (cs : List (List Symbolic)) (calls : (thread_of s t).calls ≡ cs) (high : length cs ≡ k) (j : ℕ) (apart : (j ≡ k) → ⊥) (r : ℕ) (whole : Bool) where
    keep : is_met whole (slice_index_or (call_at j cs) r unset) ≡ true → Asks e s (only (register_demand t j r whole ∷ []))
    keep h = ((subst (λ (c : List (List Symbolic)). is_met whole (slice_index_or (call_at j c) r unset) ≡ true) (sym calls) h, tt), tt)

    differs : (i : ℕ) → i ≡ k → (i == j) ≡ false
    differs i q = go (i == j) refl
      where
        go : (b : Bool) → (i == j) ≡ b → (i == j) ≡ false
        go false f = f
        go true f = absurd (apart (sym (eqb-true i j f) ∙ q))

    with_top_same : (f : List Symbolic → List Symbolic) (c : List (List Symbolic)) → length c ≡ k → call_at j (with_top f c) ≡ call_at j c
    with_top_same f [] q = refl
    with_top_same f (rs ∷ low) q = rw (differs (suc (length low)) q) refl

    keep_top : (f : List Symbolic → List Symbolic) → is_met whole (slice_index_or (call_at j (with_top f cs)) r unset) ≡ true → Asks e s (only (register_demand t j r whole ∷ []))
    keep_top f h = keep (subst (λ (c : List Symbolic). is_met whole (slice_index_or c r unset) ≡ true) (with_top_same f cs high) h)

    -- where a call begins
    call_other : (g : ℕ) (args : List Value) → is_met whole (slice_index_or (call_at j (entered p g (map (symbolic_of p (top_of cs)) args) ∷ cs)) r unset) ≡ true →
        Asks e s (if j == suc k then only (of_optional t k whole (slice_get args r)) else only (register_demand t j r whole ∷ []))
    call_other g args h = go (suc (length cs) == j) refl (j == suc k) refl h
      where
        go : (b : Bool) → (suc (length cs) == j) ≡ b → (c : Bool) → (j == suc k) ≡ c →
            is_met whole (slice_index_or (if suc (length cs) == j then entered p g (map (symbolic_of p (top_of cs)) args) else call_at j cs) r unset) ≡ true →
            Asks e s (if c then only (of_optional t k whole (slice_get args r)) else only (register_demand t j r whole ∷ []))
        go true f true q h = (
          entered_met p s t k (top_of cs) (ap (call_at k) calls ∙ top_is k cs high) g args r whole
              (subst (λ (b : Bool). is_met whole (slice_index_or (if b then entered p g (map (symbolic_of p (top_of cs)) args) else call_at j cs) r unset) ≡ true) f h),
          tt,
        )
        go true f false q h = let z : suc (length cs) ≡ j = eqb-true (suc (length cs)) j f in absurd (true≢false (sym (eq-eqb j (suc k) (sym z ∙ ap suc high)) ∙ q))
        go false f true q h = let z : j ≡ suc k = eqb-true j (suc k) q in absurd (true≢false (sym (eq-eqb (suc (length cs)) j (ap suc high ∙ sym z)) ∙ f))
        go false f false q h = keep (subst (λ (b : Bool). is_met whole (slice_index_or (if b then entered p g (map (symbolic_of p (top_of cs)) args) else call_at j cs) r unset) ≡ true) f h)

    -- where one returns
    caller_met : (v : Option Value) (target : Option ℕ) (count : ℕ) (c : List (List Symbolic)) → c ≡ cs → count ≡ length (top_of (under_top c)) →
        is_met whole (slice_index_or (call_at j (with_top (set_symbolic target (optional_symbolic p (top_of c) v)) (under_top c))) r unset) ≡ true → Asks e s (back_return t k count target j r whole v)
    caller_met v target count [] q n' h = go (suc j == k) refl
      where
        go : (b : Bool) → (suc j == k) ≡ b → Asks e s (back_return t k count target j r whole v)
        go true f = rw (f, n', none_below r) (tt, tt)
        go false f = rw f (keep (subst (λ (c : List (List Symbolic)). is_met whole (slice_index_or (call_at j c) r unset) ≡ true) q refl))
    caller_met v target count (rs ∷ []) q n' h = go (suc j == k) refl
      where
        go : (b : Bool) → (suc j == k) ≡ b → Asks e s (back_return t k count target j r whole v)
        go true f = rw (f, n', none_below r) (tt, tt)
        go false f = rw f (keep (subst (λ (c : List (List Symbolic)). is_met whole (slice_index_or (call_at j c) r unset) ≡ true) q (rw (differs 1 (ap length q ∙ high)) refl)))
    caller_met v target count (rs ∷ ru ∷ low) q n' h = go (suc j == k) refl
      where
        long : suc (suc (length low)) ≡ k
        long = ap length q ∙ high

        top : call_at k (thread_of s t).calls ≡ rs
        top = ap (call_at k) (calls ∙ sym q) ∙ top_is k (rs ∷ ru ∷ low) long

        whole_call : call_at j (rs ∷ ru ∷ low) ≡ call_at j (ru ∷ low)
        whole_call = rw (differs (suc (suc (length low))) long) refl

        same : (suc (length low) == j) ≡ false → is_met whole (slice_index_or (call_at j (rs ∷ ru ∷ low)) r unset) ≡ true
        same f = rw (whole_call, f) (rw f at h)

        on : (suc (length low) == j) ≡ true → (b : Bool) → nat_lt r (length ru) ≡ b →
            Asks e s (if nat_lt r (length ru) then if_set (is_target target r) (register_demand t j r whole) (only (of_optional t k whole v)) else only [])
        on f false g = rw g (tt, tt)
        on f true g =
            let i : is_met whole (slice_index_or (set_symbolic target (optional_symbolic p rs v) ru) r unset) ≡ true = rw f at h in
            rw g (set (is_target target r) (subst (λ (z : Symbolic). is_met whole z ≡ true) (index_set ru target (optional_symbolic p rs v) r (ltb-true r (length ru) g)) i))
          where
            set : (b : Bool) → is_met whole (if b then optional_symbolic p rs v else slice_index_or ru r unset) ≡ true →
                Asks e s (if_set b (register_demand t j r whole) (only (of_optional t k whole v)))
            set true i = (optional_met p s t k rs top v whole i, tt)
            set false i = keep (subst (λ (c : List (List Symbolic)). is_met whole (slice_index_or (call_at j c) r unset) ≡ true) q (rw (whole_call, f) i))

        go : (b : Bool) → (suc j == k) ≡ b → Asks e s (back_return t k count target j r whole v)
        go true f = let z : suc j ≡ k = eqb-true (suc j) k f in rw (f, n') (on (eq-eqb (suc (length low)) j (omega (arith, z, long))) (nat_lt r (length ru)) refl)
        go false f = rw f (keep (subst (λ (c : List (List Symbolic)). is_met whole (slice_index_or (call_at j c) r unset) ≡ true) q (same (other (suc (length low) == j) refl))))
          where
            other : (b : Bool) → (suc (length low) == j) ≡ b → (suc (length low) == j) ≡ false
            other false g = g
            other true g = let z : suc (length low) ≡ j = eqb-true (suc (length low)) j g in absurd (true≢false (sym (eq-eqb (suc j) k (omega (arith, z, long))) ∙ f))

    other_op : (count number : ℕ) → count ≡ length (top_of (under_top cs)) → (o : Op) →
        is_met whole (slice_index_or (call_at j (after_op p (e.pinned n) n m region number x o cs)) r unset) ≡ true → Asks e s (back_other_op p t k count m j r whole o)
    other_op count number c (op.Br to) h = keep_top _ h
    other_op count number c (op.CondBr v a b) h = keep_top _ h
    other_op count number c (op.Switch w on other cases) h = keep_top _ h
    other_op count number c (op.Call g args) h = call_other g args h
    other_op count number c (op.Ret v) h = caller_met v (caller_target p m.calls) count cs refl c h
    other_op count number c (op.Alloca bytes) h = keep_top _ h
    other_op count number c (op.CallLibrary f args) h = keep_top _ h
    other_op count number c (op.Gep base indices) h = keep_top _ h
    other_op count number c o h = keep_top _ h

    other_event : (v : Event) (kind : TurnKind) → is_met whole (slice_index_or (call_at j (after_event p m v kind (slice_index_or s.words t unset) x cs)) r unset) ≡ true →
        Asks e s (back_other_event t j r whole kind)
    other_event v turns.Start h = keep_top _ h
    other_event v turns.Exit h = (tt, tt)
    other_event v turns.Wait h = keep h
    other_event v turns.Arrive h = keep h
    other_event v turns.Putchar h = keep_top _ h
    other_event v _ h = keep_top _ h

    pub other_back : (count : ℕ) → count ≡ length (top_of (under_top cs)) → (kind : StepKind) →
        is_met whole (slice_index_or (call_at j (calls_by p e n m region x kind s cs)) r unset) ≡ true → Asks e s (back_other p t k count m x j r whole kind)
    other_back count c (kinds.Access a) h = keep_top _ h
    other_back count c (kinds.Event v) h = other_event v v.kind h
    other_back count c kind h = other_op count (result_in kind) c x.op h

  -- ---- bytes

  module _ (high : length (thread_of s t).calls ≡ k) where
    own_top : call_at k (thread_of s t).calls ≡ registers_of s t
    own_top = top_is k (thread_of s t).calls high

    module _ (b : ℕ) (whole : Bool) where
      self_byte : is_met whole (s.bytes b) ≡ true → Asks e s (only (byte_demand b whole ∷ []))
      self_byte h = ((h, tt), tt)

      plain_asks : (v c : Bool) → (c || v) ≡ true → e.exact n ≡ c → (qs : List Demand) → AllByRecursion (IsMet s) qs → Asks e s (if_plain v n qs)
      plain_asks true c q f qs h = (h, tt)
      plain_asks false true q f qs h = (h, (f, tt))
      plain_asks false false q f qs h = absurd (true≢false (sym q))

      store_back : (a : Access) (o : Op) → (is_store o ≡ true → is_within (range_of a) b ≡ true → is_within (bounds_of a.pointer) b ≡ true) →
          is_met whole (bytes_stored p (e.exact n || a.event) n a (registers_of s t) o s.bytes b) ≡ true → Asks e s (back_store t k n a b whole o)
      store_back a (op.Store w v at) fits h = go (e.exact n || a.event) refl (is_within (range_of a) b) refl (is_within (bounds_of a.pointer) b) refl h
        where
          go : (c : Bool) → (e.exact n || a.event) ≡ c → (i : Bool) → is_within (range_of a) b ≡ i → (f : Bool) → is_within (bounds_of a.pointer) b ≡ f →
              is_met whole (bytes_stored p c n a (registers_of s t) (op.Store w v at) s.bytes b) ≡ true → Asks e s (back_store t k n a b whole (op.Store w v at))
          go true c true i f g h =
              let z : is_met whole (byte_in (b - (range_of a).start) (symbolic_of p (registers_of s t) v)) ≡ true = rw i at h in
              rw i (plain_asks a.event (e.exact n) c refl (of_value t k true v)
              (value_met p s t k (registers_of s t) own_top v true (cut_met _ whole (symbolic_of p (registers_of s t) v) z)))
          go true c false i true g h = let z : is_met whole (s.bytes b) ≡ true = rw i at h in rw (i, g) (plain_asks a.event (e.exact n) c refl (byte_demand b whole ∷ []) (z, tt))
          go true c false i false g h = let z : is_met whole (s.bytes b) ≡ true = rw i at h in rw (i, g) (self_byte z)
          go false c i q true g h = let z : is_met whole (Unknown (Exact n)) ≡ true = rw g at h in absurd (none_unknown whole (Exact n) z)
          go false c true i false g h = absurd (true≢false (sym (fits refl i) ∙ g))
          go false c false i false g h = let z : is_met whole (s.bytes b) ≡ true = rw g at h in rw (i, g) (self_byte z)
      store_back a o fits h = self_byte h

      written_back : (v : Event) (w : Write) (kind : TurnKind) → is_met true (written_symbolic v w kind s.words) ≡ true → Asks e s (back_written v kind)
      written_back v w turns.Join h = ((h, tt), tt)
      written_back v w _ h = (tt, tt)

      write_back : (v : Event) (w : Option Write) → is_met whole (bytes_by v w s.words s.bytes b) ≡ true → Asks e s (back_write v w b whole)
      write_back v None h = self_byte h
      write_back v (Some w) h = go (is_within (range_of (write_by w)) b) refl
        where
          go : (i : Bool) → is_within (range_of (write_by w)) b ≡ i → Asks e s (back_write v (Some w) b whole)
          go true i =
              let z : is_met whole (byte_in (b - (range_of (write_by w)).start) (written_symbolic v w v.kind s.words)) ≡ true = rw i at h in
              rw i (written_back v w v.kind (cut_met _ whole (written_symbolic v w v.kind s.words) z))
          go false i = let z : is_met whole (s.bytes b) ≡ true = rw i at h in rw i (self_byte z)

      freed_back : (c : Bool) → e.pinned n ≡ c → (o : Option FreeRegion) → is_met whole (bytes_freed c n o s.bytes b) ≡ true → Asks e s (back_freed n o b whole)
      freed_back true f None h = self_byte h
      freed_back false f None h = self_byte h
      freed_back true f (Some q) h = go (may_write q.accesses b) refl
        where
          go : (i : Bool) → may_write q.accesses b ≡ i → Asks e s (back_freed n (Some q) b whole)
          go true i = rw i ((h, tt), (f, tt))
          go false i = rw i (self_byte h)
      freed_back false f (Some q) h = go (may_write q.accesses b) refl (subst (λ (z : Symbolic). is_met whole z ≡ true) (forgotten_byte q.accesses (Pinned n) s.bytes b) h)
        where
          go : (i : Bool) → may_write q.accesses b ≡ i → is_met whole (if may_write q.accesses b then Unknown (Pinned n) else s.bytes b) ≡ true → Asks e s (back_freed n (Some q) b whole)
          go true i h = let z : is_met whole (Unknown (Pinned n)) ≡ true = rw i at h in absurd (none_unknown whole (Pinned n) z)
          go false i h = let z : is_met whole (s.bytes b) ≡ true = rw i at h in rw i (self_byte z)

      pub byte_back : (kind : StepKind) →
          ((a : Access) → kind ≡ kinds.Access a → is_store x.op ≡ true → is_within (range_of a) b ≡ true → is_within (bounds_of a.pointer) b ≡ true) →
          is_met whole (known_bytes p e n m region x kind s b) ≡ true → Asks e s (back_byte t k n region x b whole kind)
      byte_back (kinds.Access a) fits h = store_back a x.op (fits a refl) h
      byte_back (kinds.Event v) fits h = write_back v v.write h
      byte_back kind fits h = freed_back (e.pinned n) refl region h

    -- ---- words

    module _ (w : ℕ) (whole : Bool) where
      self_word : is_met whole (slice_index_or s.words w unset) ≡ true → Asks e s (only (word_demand w whole ∷ []))
      self_word h = ((h, tt), tt)

      returned_back : (v : Option Value) → is_met whole (returned_symbolic p (registers_of s t) v) ≡ true → Asks e s (only (of_optional t k whole v))
      returned_back None h = (tt, tt)
      returned_back (Some v) h = (value_met p s t k (registers_of s t) own_top v whole h, tt)

      other_exit : (o : Op) → is_met whole (if t == 0 then always 0 else operand_at p (registers_of s t) o 0) ≡ true → Asks e s (if t == 0 then only [] else only (of_operand t k whole o 0))
      other_exit o h = go (t == 0) h
        where
          go : (b : Bool) → is_met whole (if b then always 0 else operand_at p (registers_of s t) o 0) ≡ true → Asks e s (if b then only [] else only (of_operand t k whole o 0))
          go true h = (tt, tt)
          go false h = (operand_met p s t k (registers_of s t) own_top o 0 whole h, tt)

      exit_back : (o : Op) → is_met whole (exit_symbolic p t (registers_of s t) o) ≡ true → Asks e s (back_exit t k whole o)
      exit_back (op.Ret v) h = returned_back v h
      exit_back o h = other_exit o h

      exited_back : (o : Op) → is_met whole (slice_index_or (slice_set s.words t (exit_symbolic p t (registers_of s t) o)) w unset) ≡ true →
          Asks e s (if w == t then (if nat_lt w (length s.words) then back_exit t k whole o else only []) else only (word_demand w whole ∷ []))
      exited_back o h = go (w == t) refl
        where
          on : w ≡ t → (b : Bool) → nat_lt w (length s.words) ≡ b → Asks e s (if b then back_exit t k whole o else only [])
          on q false f = (tt, tt)
          on q true f = exit_back o (subst (λ (z : Symbolic). is_met whole z ≡ true)
              (index_set s.words (Some t) (exit_symbolic p t (registers_of s t) o) w (ltb-true w (length s.words) f)
              ∙ ap (λ (b : Bool). if b then exit_symbolic p t (registers_of s t) o else slice_index_or s.words w unset) (eq-eqb t w (sym q))) h)

          go : (b : Bool) → (w == t) ≡ b → Asks e s (if b then (if nat_lt w (length s.words) then back_exit t k whole o else only []) else only (word_demand w whole ∷ []))
          go true f = on (eqb-true w t f) (nat_lt w (length s.words)) refl
          go false f = self_word (subst (λ (z : Symbolic). is_met whole z ≡ true)
              (get_or-set_other s.words t w (exit_symbolic p t (registers_of s t) o) unset (λ z. true≢false (sym (eq-eqb w t z) ∙ f))) h)

      index_pushed : (xs : List Symbolic) (z : Symbolic) (i : ℕ) → slice_index_or (xs ++ z ∷ []) i unset ≡ (if i == length xs then z else slice_index_or xs i unset)
      index_pushed [] z zero = refl
      index_pushed [] z (suc i) = rw (eq_false (suc i) 0 (λ q. omega (arith, q))) refl
      index_pushed (y ∷ xs) z zero = rw (eq_false 0 (suc (length xs)) (λ q. omega (arith, q))) refl
      index_pushed (y ∷ xs) z (suc i) = index_pushed xs z i ∙ ap (λ (b : Bool). if b then z else slice_index_or xs i unset) (next_eq i (length xs))

      created_back : (o : Op) → is_met whole (slice_index_or (s.words ++ operand_at p (registers_of s t) o 3 ∷ []) w unset) ≡ true →
          Asks e s (if w == length s.words then only (of_operand t k whole o 3) else only (word_demand w whole ∷ []))
      created_back o h = go (w == length s.words) (subst (λ (z : Symbolic). is_met whole z ≡ true) (index_pushed s.words (operand_at p (registers_of s t) o 3) w) h)
        where
          go : (b : Bool) → is_met whole (if b then operand_at p (registers_of s t) o 3 else slice_index_or s.words w unset) ≡ true →
              Asks e s (if b then only (of_operand t k whole o 3) else only (word_demand w whole ∷ []))
          go true h = (operand_met p s t k (registers_of s t) own_top o 3 whole h, tt)
          go false h = self_word h

      word_event : (kind : TurnKind) (o : Op) → is_met whole (slice_index_or (words_after p t kind (registers_of s t) o s.words) w unset) ≡ true →
          Asks e s (back_word_event t k (length s.words) o w whole kind)
      word_event turns.Exit o h = exited_back o h
      word_event turns.Create o h = created_back o h
      word_event _ o h = self_word h

      pub word_back : (kind : StepKind) → is_met whole (slice_index_or (known_words p m x kind s) w unset) ≡ true → Asks e s (back_word t k (length s.words) x.op w whole kind)
      word_back (kinds.Event v) h = word_event v.kind x.op h
      word_back kind h = self_word h
