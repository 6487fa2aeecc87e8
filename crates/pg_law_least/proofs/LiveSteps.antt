-- What a live step makes of what is known keeps a likeness.
use Rattle.std.proofs.Common.{◌≡◌, ℕ, ◌-◌, ◌<◌, ◌==◌, Bool, true, false, List, [], ◌∷◌, length, replicate, Option, Some, None, refl, sym, ◌∙◌}
use Rattle.std.specs.Prelude.{slice_index_or, slice_set, ◌||◌, if◌then◌else◌}
use Rattle.std.specs.List.{AllZip}
use Rattle.std.proofs.lemmas.Bool.{true≢false}
use Rattle.std.proofs.lemmas.List.Elements.{AllZip-push}
use Rattle.pg_ir.specs.declared.value.Index.{Index}
use Rattle.pg_ir.specs.declared.value.Value.{Value}
use Rattle.pg_slice_rules.specs.pg_run_thread.Operands.{operands_of}
use Rattle.pg_ir.specs.declared.library_call.LibraryCall.{LibraryCall}
use Rattle.pg_ir.specs.declared.library_call.LibraryCall.TheVariants as known
use Rattle.pg_ir.specs.declared.instr.Instr.{Instr}
use Rattle.pg_ir.specs.declared.instr.Op.{Op}
use Rattle.pg_ir.specs.declared.instr.Op.TheVariants as op
use Rattle.pg_ir.specs.Program.{NumberedProgram, types_of}
use Rattle.pg_run_trace.specs.declared.turn.TurnKind.{TurnKind}
use Rattle.pg_run_trace.specs.declared.turn.TurnKind.TheVariants as turns
use Rattle.pg_run_trace.specs.declared.step.StepKind.{StepKind}
use Rattle.pg_run_trace.specs.declared.step.StepKind.TheVariants as kinds
use Rattle.pg_run_trace.specs.declared.step.Access.{Access}
use Rattle.pg_run_trace.specs.declared.step.Event.{Event}
use Rattle.pg_run_trace.specs.declared.step.Write.{Write}
use Rattle.pg_run_trace.specs.Steps.{range_of, write_by}
use Rattle.pg_slice_rules.specs.declared.decision.Decision.TheVariants.{Pinned, Exact}
use Rattle.pg_slice_rules.specs.Moments.{Moment, thread_in}
use Rattle.pg_slice_rules.specs.Freeable.{FreeRegion, bounds_of}
use Rattle.pg_slice_rules.specs.SymbolicValues.{Symbolic, always, is_within, moved, result_of, applied, unset}
use Rattle.pg_slice_rules.specs.Extents.{edge_in}
use Rattle.pg_slice_rules.specs.Known.{SymbolicState, Taken, after_access, after_branch, after_event, after_known, after_op, along_edge, bytes_by, bytes_freed, bytes_stored, caller_target, entered}
use Rattle.pg_slice_rules.specs.Known.{exit_symbolic, forgotten_from, from_input, load_of, operand_at, operand_symbolics, registers_of, result_in, returned_symbolic, started, top_of, under_top}
use Rattle.pg_slice_rules.specs.Known.{with_top, words_after, written_symbolic}
use Rattle.pg_law_least.specs.Keeps.{MaySetPhis, is_store}
use Rattle.pg_law_least.proofs.AlikeLists.{append_like, index_like, length_like, replicate_like, set_like}
use Rattle.pg_law_least.proofs.KeptLikeness.{IsLink, edge_like, forgotten_left, forgotten_like, changed_like, are_forgotten, outside_edge, free_bytes_left, free_bytes_like, loaded_like, operand_like}
use Rattle.pg_law_least.proofs.KeptLikeness.{optional_like, spoiled_like, stored_left, stored_like, target_like, value_like, values_like}

-- ---- what a live step makes of the calls of its thread, of the bytes and of the words

abbrev pub calls_by : NumberedProgram → Taken → ℕ → Moment → Option FreeRegion → Instr → StepKind → SymbolicState → List (List Symbolic) → List (List Symbolic)
calls_by p d n m region x (kinds.Access a) s calls = with_top (after_access p (d.exact n) n a s.bytes x x.op) calls
calls_by p d n m region x (kinds.Event e) s calls = after_event p m e e.kind (slice_index_or s.words (thread_in m) unset) x calls
calls_by p d n m region x k s calls = after_op p (d.pinned n) n m region (result_in k) x x.op calls

abbrev pub known_bytes : NumberedProgram → Taken → ℕ → Moment → Option FreeRegion → Instr → StepKind → SymbolicState → ℕ → Symbolic
known_bytes p d n m region x (kinds.Access a) s = bytes_stored p (d.exact n || a.event) n a (registers_of s (thread_in m)) x.op s.bytes
known_bytes p d n m region x (kinds.Event e) s = bytes_by e e.write s.words s.bytes
known_bytes p d n m region x k s = bytes_freed (d.pinned n) n region s.bytes

abbrev pub known_words : NumberedProgram → Moment → Instr → StepKind → SymbolicState → List Symbolic
known_words p m x (kinds.Event e) s = words_after p (thread_in m) e.kind (registers_of s (thread_in m)) x.op s.words
known_words p m x k s = s.words

-- ---- each keeps a likeness

module _ (p : NumberedProgram) (d e : Taken) (bound : ℕ) (L : Symbolic → Symbolic → Type 0) (k : IsLink d e bound L) where
  abbrev pub CallsLike : List (List Symbolic) → List (List Symbolic) → Type 0
  CallsLike cs ct = AllZip (AllZip L) cs ct

  pub top_like : (cs ct : List (List Symbolic)) → CallsLike cs ct → AllZip L (top_of cs) (top_of ct)
  top_like [] [] h = tt
  top_like [] (rt ∷ ct) h = absurd h
  top_like (rs ∷ cs) [] h = absurd h
  top_like (rs ∷ cs) (rt ∷ ct) h = h.0

  under_like : (cs ct : List (List Symbolic)) → CallsLike cs ct → CallsLike (under_top cs) (under_top ct)
  under_like [] [] h = tt
  under_like [] (rt ∷ ct) h = absurd h
  under_like (rs ∷ cs) [] h = absurd h
  under_like (rs ∷ cs) (rt ∷ ct) h = h.1

  with_top_like : (f g : List Symbolic → List Symbolic) (cs ct : List (List Symbolic)) → ((rs rt : List Symbolic) → AllZip L rs rt → AllZip L (f rs) (g rt)) → CallsLike cs ct →
      CallsLike (with_top f cs) (with_top g ct)
  with_top_like f g [] [] q h = tt
  with_top_like f g [] (rt ∷ ct) q h = absurd h
  with_top_like f g (rs ∷ cs) [] q h = absurd h
  with_top_like f g (rs ∷ cs) (rt ∷ ct) q h = (q rs rt h.0, h.1)

  entered_like : (f : ℕ) (ss ts : List Symbolic) → AllZip L ss ts → AllZip L (entered p f ss) (entered p f ts)
  entered_like f ss ts h =
      let l : length ss ≡ length ts = length_like L ss ts h in
      append_like L ss ts (replicate (length (types_of p f) - length ss) unset) (replicate (length (types_of p f) - length ts) unset) h
      (rw l (replicate_like L (length (types_of p f) - length ts) unset (k.known (λ input. None))))

  input_like : (s t : Symbolic) → L s t → L (from_input s) (from_input t)
  input_like s t h = k.all (s ∷ []) (t ∷ []) _ (h, tt)

  known_like : (f : LibraryCall) (target : Option ℕ) (result : ℕ) (s t : Symbolic) (rs rt : List Symbolic) → L s t → AllZip L rs rt →
      AllZip L (after_known f target result s rs) (after_known f target result t rt)
  known_like known.PgIn target result s t rs rt q h = target_like p d e bound L k target (from_input s) (from_input t) rs rt (input_like s t q) h
  known_like known.PgInLen target result s t rs rt q h = target_like p d e bound L k target _ _ rs rt (k.known (λ input. Some (length input))) h
  known_like known.Malloc target result s t rs rt q h = target_like p d e bound L k target _ _ rs rt (k.known (λ input. Some result)) h
  known_like _ target result s t rs rt q h = h

  result_like : (o : Op) (rs rt : List Symbolic) → AllZip L rs rt → L (result_of o (operand_symbolics p rs o)) (result_of o (operand_symbolics p rt o))
  result_like o rs rt z = k.all (operand_symbolics p rs o) (operand_symbolics p rt o) (λ gs input. applied o (gs input)) (values_like p d e bound L k rs rt (operands_of o) z)

  moved_like : (o : Op) (base : Value) (indices : List Index) → o ≡ op.Gep base indices → (rs rt : List Symbolic) → AllZip L rs rt →
      L (moved (operand_at p rs o 0) (result_of o (operand_symbolics p rs o))) (moved (operand_at p rt o 0) (result_of o (operand_symbolics p rt o)))
  moved_like o base indices q rs rt z = k.moves o base indices q (operand_symbolics p rs o) (operand_symbolics p rt o) (values_like p d e bound L k rs rt (operands_of o) z)

  module _ (n : ℕ) (l : n < bound) where
    branch_by : (b c : Bool) → d.pinned n ≡ b → e.pinned n ≡ c → (x : Instr) (edge : Option ℕ) (region : Option FreeRegion) →
        (d.pinned n ≡ false → e.pinned n ≡ true → (r : FreeRegion) → region ≡ Some r → MaySetPhis p r.sets edge) →
        (rs rt : List Symbolic) → AllZip L rs rt → AllZip L (after_branch p b n x edge region rs) (after_branch p c n x edge region rt)
    branch_by true true f g x edge region own rs rt h = edge_like p d e bound L k x.block.0 edge rs rt h
    branch_by true false f g x edge region own rs rt h = absurd (true≢false (sym (k.within (Pinned n) f) ∙ g))
    branch_by false true f g x edge None own rs rt h = edge_like p d e bound L k x.block.0 edge rs rt h
    branch_by false true f g x edge (Some r) own rs rt h =
        changed_like p d e bound L k 0 r.sets (Pinned n) (forgotten_from 0 r.sets (Pinned n) rs) rt (along_edge p x.block.0 edge rt) f g (are_forgotten 0 r.sets (Pinned n) rs)
        (forgotten_left p d e bound L k 0 r.sets (Pinned n) rs rt f g h) (outside_edge p r.sets x.block.0 edge rt (own f g r refl))
    branch_by false false f g x edge None own rs rt h = edge_like p d e bound L k x.block.0 edge rs rt h
    branch_by false false f g x edge (Some r) own rs rt h = forgotten_like p d e bound L k 0 r.sets (Pinned n) rs rt l f h

    module _ (m : Moment) (region : Option FreeRegion) (x : Instr)
        (own : d.pinned n ≡ false → e.pinned n ≡ true → (r : FreeRegion) → region ≡ Some r → MaySetPhis p r.sets (edge_in p m (Some x))) where
      op_like : (result : ℕ) (o : Op) → x.op ≡ o → (cs ct : List (List Symbolic)) → CallsLike cs ct →
          CallsLike (after_op p (d.pinned n) n m region result x o cs) (after_op p (e.pinned n) n m region result x o ct)
      op_like result (op.Br to) q cs ct h = with_top_like _ _ cs ct (λ rs rt z. edge_like p d e bound L k x.block.0 (Some to.0) rs rt z) h
      op_like result (op.CondBr c a b) q cs ct h = with_top_like _ _ cs ct (λ rs rt z. branch_by (d.pinned n) (e.pinned n) refl refl x (edge_in p m (Some x)) region own rs rt z) h
      op_like result (op.Switch w on other cases) q cs ct h = with_top_like _ _ cs ct (λ rs rt z. branch_by (d.pinned n) (e.pinned n) refl refl x (edge_in p m (Some x)) region own rs rt z) h
      op_like result (op.Call g args) q cs ct h = (entered_like g _ _ (values_like p d e bound L k (top_of cs) (top_of ct) args (top_like cs ct h)), h)
      op_like result (op.Ret v) q cs ct h = with_top_like _ _ (under_top cs) (under_top ct)
          (λ rs rt z. target_like p d e bound L k (caller_target p m.calls) _ _ rs rt (optional_like p d e bound L k (top_of cs) (top_of ct) v (top_like cs ct h)) z) (under_like cs ct h)
      op_like result (op.Alloca bytes) q cs ct h = with_top_like _ _ cs ct (λ rs rt z. target_like p d e bound L k x.result _ _ rs rt (k.known (λ input. Some result)) z) h
      op_like result (op.CallLibrary f args) q cs ct h = with_top_like _ _ cs ct (λ rs rt z. known_like f x.result result _ _ rs rt (operand_like p d e bound L k rs rt x.op 0 z) z) h
      op_like result (op.Gep base indices) q cs ct h = with_top_like _ _ cs ct (λ rs rt z. target_like p d e bound L k x.result _ _ rs rt (moved_like x.op base indices q rs rt z) z) h
      op_like result o q cs ct h = with_top_like _ _ cs ct (λ rs rt z. target_like p d e bound L k x.result _ _ rs rt (result_like o rs rt z) z) h

      load_like : (b c : Bool) → d.exact n ≡ b → e.exact n ≡ c → (w : _) (a : Access) (bs bt : ℕ → Symbolic) → ((i : ℕ) → L (bs i) (bt i)) →
          L (load_of b n w a bs) (load_of c n w a bt)
      load_like true true f g w a bs bt h = k.cuts _ _ _ (loaded_like p d e bound L k bs bt _ a.bytes h)
      load_like true false f g w a bs bt h = absurd (true≢false (sym (k.within (Exact n) f) ∙ g))
      load_like false true f g w a bs bt h = k.left (Exact n) f g _
      load_like false false f g w a bs bt h = k.both (Exact n) l f

      access_like : (a : Access) (bs bt : ℕ → Symbolic) → ((i : ℕ) → L (bs i) (bt i)) → (o : Op) (rs rt : List Symbolic) → AllZip L rs rt →
          AllZip L (after_access p (d.exact n) n a bs x o rs) (after_access p (e.exact n) n a bt x o rt)
      access_like a bs bt h (op.Load w from) rs rt z = target_like p d e bound L k x.result _ _ rs rt (load_like (d.exact n) (e.exact n) refl refl w a bs bt h) z
      access_like a bs bt h o rs rt z = z

      started_like : (i : ℕ) (s t : Symbolic) (rs rt : List Symbolic) → L s t → AllZip L rs rt → AllZip L (started i s rs) (started i t rt)
      started_like i s t rs rt q z = go (i == 0)
        where
          go : (b : Bool) → AllZip L (if b then rs else slice_set rs 0 s) (if b then rt else slice_set rt 0 t)
          go true = z
          go false = set_like L rs rt 0 s t z q

      event_like : (v : Event) (kind : TurnKind) (s t : Symbolic) → L s t → (cs ct : List (List Symbolic)) → CallsLike cs ct →
          CallsLike (after_event p m v kind s x cs) (after_event p m v kind t x ct)
      event_like v turns.Start s t q cs ct h = with_top_like _ _ cs ct (λ rs rt z. started_like _ s t rs rt q z) h
      event_like v turns.Exit s t q cs ct h = tt
      event_like v turns.Wait s t q cs ct h = h
      event_like v turns.Arrive s t q cs ct h = h
      event_like v turns.Putchar s t q cs ct h = with_top_like _ _ cs ct
          (λ rs rt z. target_like p d e bound L k x.result _ _ rs rt (k.cuts _ _ _ (operand_like p d e bound L k rs rt x.op 0 z)) z) h
      event_like v _ s t q cs ct h = with_top_like _ _ cs ct (λ rs rt z. target_like p d e bound L k x.result _ _ rs rt (k.known (λ input. Some v.reply)) z) h

      pub calls_like : (kind : StepKind) (s t : SymbolicState) → ((b : ℕ) → L (s.bytes b) (t.bytes b)) → AllZip L s.words t.words → (cs ct : List (List Symbolic)) → CallsLike cs ct →
          CallsLike (calls_by p d n m region x kind s cs) (calls_by p e n m region x kind t ct)
      calls_like (kinds.Access a) s t bytes words cs ct h = with_top_like _ _ cs ct (λ rs rt z. access_like a s.bytes t.bytes bytes x.op rs rt z) h
      calls_like (kinds.Event v) s t bytes words cs ct h = event_like v v.kind _ _ (index_like L s.words t.words (thread_in m) unset (k.known (λ input. None)) words) cs ct h
      calls_like kind s t bytes words cs ct h = op_like (result_in kind) x.op refl cs ct h

      -- ---- bytes

      store_by : (b c : Bool) → d.exact n ≡ b → e.exact n ≡ c → (o : Op) (a : Access) →
          (is_store o ≡ true → d.exact n ≡ false → e.exact n ≡ true → (i : ℕ) → is_within (range_of a) i ≡ true → is_within (bounds_of a.pointer) i ≡ true) →
          (rs rt : List Symbolic) → AllZip L rs rt → (bs bt : ℕ → Symbolic) → ((i : ℕ) → L (bs i) (bt i)) → (i : ℕ) →
          L (bytes_stored p (b || a.event) n a rs o bs i) (bytes_stored p (c || a.event) n a rt o bt i)
      store_by true true f g (op.Store w v at) a fits rs rt z bs bt h i = stored_like p d e bound L k (range_of a) _ _ bs bt i (value_like p d e bound L k rs rt v z) (h i)
      store_by true false f g (op.Store w v at) a fits rs rt z bs bt h i = absurd (true≢false (sym (k.within (Exact n) f) ∙ g))
      store_by false c f g (op.Store w v at) a fits rs rt z bs bt h i = go c g a.event
        where
          go : (c : Bool) → e.exact n ≡ c → (b : Bool) → L (bytes_stored p b n a rs (op.Store w v at) bs i) (bytes_stored p (c || b) n a rt (op.Store w v at) bt i)
          go true q true = stored_like p d e bound L k (range_of a) _ _ bs bt i (value_like p d e bound L k rs rt v z) (h i)
          go false q true = stored_like p d e bound L k (range_of a) _ _ bs bt i (value_like p d e bound L k rs rt v z) (h i)
          go true q false = stored_left p d e bound L k (range_of a) (bounds_of a.pointer) (Exact n) _ bs bt i (fits refl f q i) f q (h i)
          go false q false = spoiled_like p d e bound L k (bounds_of a.pointer) (Exact n) bs bt i l f (h i)
      store_by b c f g _ a fits rs rt z bs bt h i = h i

      free_by : (b c : Bool) → d.pinned n ≡ b → e.pinned n ≡ c → (free : Option FreeRegion) (bs bt : ℕ → Symbolic) → ((i : ℕ) → L (bs i) (bt i)) → (i : ℕ) →
          L (bytes_freed b n free bs i) (bytes_freed c n free bt i)
      free_by true true f g free bs bt h i = h i
      free_by true false f g free bs bt h i = absurd (true≢false (sym (k.within (Pinned n) f) ∙ g))
      free_by false true f g None bs bt h i = h i
      free_by false true f g (Some r) bs bt h i = free_bytes_left p d e bound L k r.accesses (Pinned n) bs bt i f g (h i)
      free_by false false f g None bs bt h i = h i
      free_by false false f g (Some r) bs bt h i = free_bytes_like p d e bound L k r.accesses (Pinned n) bs bt i l f (h i)

      written_like : (v : Event) (w : Write) (kind : TurnKind) (ws wt : List Symbolic) → AllZip L ws wt → L (written_symbolic v w kind ws) (written_symbolic v w kind wt)
      written_like v w turns.Join ws wt h = index_like L ws wt v.object unset (k.known (λ input. None)) h
      written_like v w _ ws wt h = k.known (λ input. Some w.number)

      write_like : (v : Event) (w : Option Write) (ws wt : List Symbolic) → AllZip L ws wt → (bs bt : ℕ → Symbolic) → ((i : ℕ) → L (bs i) (bt i)) → (i : ℕ) →
          L (bytes_by v w ws bs i) (bytes_by v w wt bt i)
      write_like v None ws wt q bs bt h i = h i
      write_like v (Some w) ws wt q bs bt h i = stored_like p d e bound L k (range_of (write_by w)) _ _ bs bt i (written_like v w v.kind ws wt q) (h i)

      pub bytes_like : (kind : StepKind) (s t : SymbolicState) → ((a : Access) → kind ≡ kinds.Access a → is_store x.op ≡ true → d.exact n ≡ false → e.exact n ≡ true →
          (i : ℕ) → is_within (range_of a) i ≡ true → is_within (bounds_of a.pointer) i ≡ true) →
          AllZip L (registers_of s (thread_in m)) (registers_of t (thread_in m)) → ((b : ℕ) → L (s.bytes b) (t.bytes b)) → AllZip L s.words t.words → (i : ℕ) →
          L (known_bytes p d n m region x kind s i) (known_bytes p e n m region x kind t i)
      bytes_like (kinds.Access a) s t fits z bytes words i = store_by (d.exact n) (e.exact n) refl refl x.op a (fits a refl) _ _ z s.bytes t.bytes bytes i
      bytes_like (kinds.Event v) s t fits z bytes words i = write_like v v.write s.words t.words words s.bytes t.bytes bytes i
      bytes_like kind s t fits z bytes words i = free_by (d.pinned n) (e.pinned n) refl refl region s.bytes t.bytes bytes i

      -- ---- words

      returned_like : (v : Option Value) (rs rt : List Symbolic) → AllZip L rs rt → L (returned_symbolic p rs v) (returned_symbolic p rt v)
      returned_like None rs rt z = k.known (λ input. Some 0)
      returned_like (Some v) rs rt z = value_like p d e bound L k rs rt v z

      exit_other : (t : ℕ) (o : Op) (rs rt : List Symbolic) → AllZip L rs rt → L (if t == 0 then always 0 else operand_at p rs o 0) (if t == 0 then always 0 else operand_at p rt o 0)
      exit_other t o rs rt z = go (t == 0)
        where
          go : (b : Bool) → L (if b then always 0 else operand_at p rs o 0) (if b then always 0 else operand_at p rt o 0)
          go true = k.known (λ input. Some 0)
          go false = operand_like p d e bound L k rs rt o 0 z

      exit_like : (t : ℕ) (o : Op) (rs rt : List Symbolic) → AllZip L rs rt → L (exit_symbolic p t rs o) (exit_symbolic p t rt o)
      exit_like t (op.Ret v) rs rt z = returned_like v rs rt z
      exit_like t o rs rt z = exit_other t o rs rt z

      words_by : (t : ℕ) (kind : TurnKind) (o : Op) (rs rt ws wt : List Symbolic) → AllZip L rs rt → AllZip L ws wt → AllZip L (words_after p t kind rs o ws) (words_after p t kind rt o wt)
      words_by t turns.Exit o rs rt ws wt z h = set_like L ws wt t _ _ h (exit_like t o rs rt z)
      words_by t turns.Create o rs rt ws wt z h = AllZip-push L ws wt _ _ h (operand_like p d e bound L k rs rt o 3 z)
      words_by t _ o rs rt ws wt z h = h

      pub words_like : (kind : StepKind) (s t : SymbolicState) → AllZip L (registers_of s (thread_in m)) (registers_of t (thread_in m)) → AllZip L s.words t.words →
          AllZip L (known_words p m x kind s) (known_words p m x kind t)
      words_like (kinds.Event v) s t z words = words_by (thread_in m) v.kind x.op _ _ s.words t.words z words
      words_like kind s t z words = words
