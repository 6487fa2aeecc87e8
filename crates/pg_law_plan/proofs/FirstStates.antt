-- A run on any input begins like the plan of a run.
use Rattle.std.proofs.Common.{◌≡◌, ℕ, ℤ, ◌<◌, ◌^◌, ◌-◌, zero, suc, Bool, true, false, List, [], ◌∷◌, Option, Some, None, refl, sym, ap, subst}
use Rattle.std.specs.Prelude.{nat_lt, slice_index, slice_index_or, if◌then◌else◌}
use Rattle.std.proofs.lemmas.Bool.{ltb-true}
use Rattle.pg_num.specs.declared.layout.TheConstants.{MEMORY_BYTES}
use Rattle.pg_ir.specs.Program.{NumberedProgram}
use Rattle.pg_run_memory.specs.Initial as memory
use Rattle.pg_run_memory.specs.Initial.{initial_byte}
use Rattle.pg_run_memory.specs.Memory.{byte_at}
use Rattle.pg_run_memory.proofs.ReadsAndWrites.{byte_at-memory_of}
use Rattle.pg_law_threads.specs.Plans.{Alike}
use Rattle.pg_run_thread.specs.LocalState.{LocalState, fresh}
use Rattle.pg_run.specs.State.{initial}
use Rattle.pg_law_effects.specs.PermittedSteps.{none_taken}
use Rattle.pg_law_effects.specs.Views.{cell_at, local_at}
use Rattle.pg_law_effects.specs.Reached.{HoldBytes}
use Rattle.pg_slice_rules.specs.Known.{start_of, thread_of}
use Rattle.pg_slice_rules.specs.SymbolicValues.{always}
use Rattle.pg_law_plan.specs.Likes.{IsCellLike, StandLike, like}
use Rattle.pg_law_plan.proofs.LikeOperands.{valued_like}
use Rattle.pg_law_plan.specs.Moves.{moved}
use Rattle.pg_law_plan.specs.Order.{IsOrderedRun}
use Rattle.pg_law_plan.specs.Units.{ReferenceRun, cell_known, plan_start, standing_of}
use Rattle.pg_law_effects.proofs.ReachedStates.{byte_first}

none_begun : (p : NumberedProgram) (t : ℕ) → local_at (initial p) t ≡ None
unfolding initial fresh
none_begun p zero = refl
none_begun p (suc t) = refl

first_byte : (p : NumberedProgram) (c : ℕ) → cell_at (initial p) c ≡ (if nat_lt c MEMORY_BYTES then byte_at (memory.initial p.globals) c else slice_index (0 ∷ []) (c - MEMORY_BYTES))
unfolding initial
first_byte p c = refl

memory_byte : (p : NumberedProgram) (c : ℕ) → ((i : ℕ) → initial_byte p.globals i < 2 ^ 8) → c < MEMORY_BYTES → byte_at (memory.initial p.globals) c ≡ initial_byte p.globals c
unfolding memory.initial
memory_byte p c h l = byte_at-memory_of (initial_byte p.globals) c h l

first_word : (input : List ℤ) (i : ℕ) → IsCellLike input (slice_index_or (always 0 ∷ []) i (always 0)) (slice_index (0 ∷ []) i)
first_word input zero = valued_like input (λ i. Some 0) (Some 0) refl
first_word input (suc i) = valued_like input (λ i. Some 0) (Some 0) refl

module _ (p : NumberedProgram) (input : List ℤ) where
  pub first_cell : HoldBytes p.globals → (c : ℕ) → IsCellLike input (cell_known (start_of p) c) (cell_at (initial p) c)
  first_cell bytes c = subst (IsCellLike input (cell_known (start_of p) c)) (sym (first_byte p c)) (go (nat_lt c MEMORY_BYTES) refl)
    where
      go : (b : Bool) → nat_lt c MEMORY_BYTES ≡ b → IsCellLike input (if b then always (initial_byte p.globals c) else slice_index_or (always 0 ∷ []) (c - MEMORY_BYTES) (always 0))
          (if b then byte_at (memory.initial p.globals) c else slice_index (0 ∷ []) (c - MEMORY_BYTES))
      go true e = valued_like input (λ i. Some (initial_byte p.globals c)) (Some (byte_at (memory.initial p.globals) c))
          (ap (λ (n : ℕ). Some n) (memory_byte p c (λ i. byte_first p.globals i bytes) (ltb-true c MEMORY_BYTES e)))
      go false e = first_word input (c - MEMORY_BYTES)

  pub stands_first : (t : ℕ) → StandLike input (standing_of (local_at (initial p) t) (thread_of (start_of p) t).calls) (local_at (initial p) t)
  stands_first t = subst (λ (l : Option LocalState). StandLike input (standing_of l (thread_of (start_of p) t).calls) l) (sym (none_begun p t)) tt

module _ (r : ReferenceRun) (o : IsOrderedRun r) (input : List ℤ) where
  pub begins_alike : Alike (like input) (plan_start r) (moved (initial r.program) none_taken)
  begins_alike = record {
    locals = λ t. record { moves = refl; stands = stands_first r.program input t };
    cells = first_cell r.program input o.can.bytes;
    objects = refl;
  }
