-- What is known before the steps of a run is, on the run's own input, what the machine had there.
use Rattle.std.proofs.Common.{◌≡◌, ℕ, ℤ, ◌⊎◌, ◌<◌, true, List, [], ◌∷◌, replicate, Option, Some, refl, sym, ap, ◌∙◌, subst, inl, inr}
use Rattle.std.specs.Prelude.{slice_get, slice_index_or, nat_lt}
use Rattle.std.specs.List.{AllByRecursion as AllOf, AllZip}
use Rattle.std.proofs.lemmas.Bool.{lt-ltb}
use Rattle.pg_num.specs.declared.layout.TheConstants.{MEMORY_BYTES}
use Rattle.pg_ir.specs.declared.value.Value.TheVariants as value
use Rattle.pg_ir.specs.Program.{NumberedProgram, types_of}
use Rattle.pg_run_memory.specs.Memory.{byte_at}
use Rattle.pg_run_thread.specs.LocalState.{fresh}
use Rattle.pg_run.specs.Runs.{Takes}
use Rattle.pg_run.specs.State.{State}
use Rattle.pg_slice_rules.specs.Freeable.{registers_by}
use Rattle.pg_slice_rules.specs.Known.{SymbolicState, Seen, Taken, seen_in, thread_of, top_of}
use Rattle.pg_slice_rules.specs.Moments.{Moment, calls_of, registers_in, thread_in}
use Rattle.pg_slice_rules.specs.Rules.{registers_before}
use Rattle.pg_slice_rules.specs.SymbolicValues.{OnInput, Symbolic, Known, unset}
use Rattle.pg_law_instances.specs.pg_law_least.Keeps.{ExtentsKeep, every}
use Rattle.pg_law_instances.proofs.of_pg_law_least.LikeValues.{Likes, likes_link}
use Rattle.pg_law_instances.proofs.of_pg_law_least.AskedOfValues.{SeenLike}
use Rattle.pg_law_instances.proofs.of_pg_law_least.EachStep.{run_like}
use Rattle.pg_law_instances.proofs.of_pg_law_least.AlikeLists.{index_like}
use Rattle.pg_law_plan.specs.Likes.{AreLike, IsLike}
use Rattle.pg_law_plan.specs.Units.{ReferenceRun, reference_of}
use Rattle.pg_law_plan.proofs.LikeOperands.{operand_like, unset_like}
use Rattle.pg_law_plan.proofs.AlikeThreads.{Beginning, Both}
use Rattle.pg_law_own_input.specs.OwnInput.{IsMachineRun, IsTrueOn}
use Rattle.pg_law_own_input.proofs.KnownAlongRun.{AsksNothing, IsTrue, begins, bytes_like, each_step, live, met, seen_at}
use Rattle.pg_law_own_input.proofs.FewerDecisions.{within_every}
use Rattle.pg_law_own_input.proofs.StepAsks.{registers_alike}

-- where all decisions are taken, the registers and the bytes before a step are like the machine's
pub record IsTold (input : List ℤ) (x : Seen) : Type 0 where
  pub registers : AreLike input (registers_before x) (registers_in x.moment.calls)
  pub bytes : (c : ℕ) → nat_lt c MEMORY_BYTES ≡ true → IsLike input (x.before.bytes c) (Some (x.moment.bytes c))

fresh_calls : (p : NumberedProgram) (t f : ℕ) → registers_in (calls_of (Some (fresh p t f))) ≡ replicate (Rattle.std.proofs.Common.length (types_of p f)) Rattle.std.proofs.Common.None
unfolding fresh
fresh_calls p t f = refl

module _ (r : ReferenceRun) (o : IsMachineRun r) where
  told : (n : ℕ) (m : Moment) (known : SymbolicState) (s : State) → Takes r.gated r.program r.input s m.did.did → IsTrue r known s → m.calls ≡ calls_of (slice_get s.locals (thread_in m))
      → m.bytes ≡ byte_at s.memory → AsksNothing r (seen_at r n m known) → IsTold r.input (seen_at r n m known)
  told n m known s h holds calls bytes asks = record {
    registers = go (begins r o.can.program o.can.small n m known s h holds calls bytes);
    bytes = bytes_like r o.can.program o.can.small n m known s h holds calls bytes;
  }
    where
      go : Both r.program r.input (thread_in m) s s (thread_of known (thread_in m)).calls ⊎ Beginning r.program (thread_in m) s s
          → AreLike r.input (registers_before (seen_at r n m known)) (registers_in m.calls)
      go (inl b) = registers_alike r (seen_at r n m known) s (met r o.can.program o.can.small n m known s h holds calls bytes) (live r o.can.program o.can.small n m known s h holds calls bytes)
          (bytes_like r o.can.program o.can.small n m known s h holds calls bytes) b
      go (inr b) = subst (AreLike r.input (registers_before (seen_at r n m known))) (sym (ap registers_in (calls ∙ ap calls_of b.first) ∙ fresh_calls r.program (thread_in m) b.function))
          (subst (λ (ks : List Symbolic). AreLike r.input ks (replicate (Rattle.std.proofs.Common.length (types_of r.program b.function)) Rattle.std.proofs.Common.None))
          (sym (ap top_of (holds.started.fresh_calls (thread_in m) b.function b.first))) (unset_like r.input (Rattle.std.proofs.Common.length (types_of r.program b.function))))

  all_told : AllOf (IsTold r.input) (seen_in (reference_of r) every)
  all_told = each_step r o (IsTold r.input) told

-- ---- under fewer decisions

like_known : (input : List ℤ) (d : Taken) (s z : Symbolic) (f g : OnInput) (v : Option ℕ) → s ≡ Known f g → Likes every s z → IsLike input z v → f input ≡ v
like_known input d s z f g v e h k =
    let q : z ≡ Known f g = subst (λ (a : Symbolic). Likes every a z) e h in
    sym (subst (λ (a : Symbolic). IsLike input a v) q k).0

module _ (r : ReferenceRun) (d : Taken) where
  one_true : (x y : Seen) → SeenLike (Likes every) x y → IsTold r.input y → IsTrueOn r.input x
  one_true x y h k = record {
    registers = λ live i f g e. like_known r.input d (slice_index_or (registers_before x) i unset) (slice_index_or (registers_before y) i unset) f g (registers_by (registers_in x.moment.calls) i) e
        (index_like (Likes every) (registers_before x) (registers_before y) i unset refl (h.registers live))
        (operand_like r.input r.program (registers_before y) (registers_in x.moment.calls)
        (subst (λ (m : Moment). AreLike r.input (registers_before y) (registers_in m.calls)) (ap (λ (z : Seen). z.moment) h.same) k.registers) (value.Register i));
    bytes = λ b f g l e. like_known r.input d (x.before.bytes b) (y.before.bytes b) f g (Some (x.moment.bytes b)) e (h.bytes b)
        (subst (λ (m : Moment). IsLike r.input (y.before.bytes b) (Some (m.bytes b))) (ap (λ (z : Seen). z.moment) h.same) (k.bytes b (lt-ltb b MEMORY_BYTES l)));
  }

  each_true : (xs ys : List Seen) → AllZip (SeenLike (Likes every)) xs ys → AllOf (IsTold r.input) ys → AllOf (IsTrueOn r.input) xs
  each_true [] ys h k = tt
  each_true (x ∷ xs) [] h k = absurd h
  each_true (x ∷ xs) (y ∷ ys) h k = (one_true x y h.0 k.0, each_true xs ys h.1 k.1)

  pub all_true : IsMachineRun r → ExtentsKeep (reference_of r) → AllOf (IsTrueOn r.input) (seen_in (reference_of r) d)
  all_true o keeps = each_true (seen_in (reference_of r) d) (seen_in (reference_of r) every)
      (run_like (reference_of r) keeps d every (Likes every) (likes_link d every _ (within_every d))) (all_told r o)
