-- As many words are known as threads.
use Rattle.std.proofs.Common.{◌≡◌, ℕ, suc, ◌+◌, Bool, true, false, List, [], ◌∷◌, length, take, Option, Some, None, refl, sym, ap, ◌∙◌, arith, length-append}
use Rattle.std.proofs.lemmas.List.{length-set}
use Rattle.pg_ir.specs.declared.instr.Instr.{Instr}
use Rattle.pg_ir.specs.declared.instr.Op.{Op}
use Rattle.pg_ir.specs.Program.{NumberedProgram}
use Rattle.pg_run_trace.specs.declared.turn.TurnKind.{TurnKind}
use Rattle.pg_run_trace.specs.declared.turn.TurnKind.TheVariants as turns
use Rattle.pg_run_trace.specs.declared.step.Event.{Event}
use Rattle.pg_run_trace.specs.declared.step.StepKind.{StepKind}
use Rattle.pg_run_trace.specs.declared.step.StepKind.TheVariants as kinds
use Rattle.pg_slice_rules.specs.Moments.{Moment, instr_in, thread_in}
use Rattle.pg_slice_rules.specs.SymbolicValues.{Symbolic}
use Rattle.pg_slice_rules.specs.Known.{Reference, SymbolicState, Taken, after_step, exit_symbolic, operand_at, start_of, words_after}
use Rattle.pg_slice_back.proofs.of_pg_law_least.LiveSteps.{known_words}
use Rattle.pg_slice_back.proofs.of_pg_law_least.ThreadsAfterSteps.{length_next, live_at, made_by, made_in, next_made, own_made, own_region, own_words, words_next}
use Rattle.pg_slice_back.specs.pg_law_demands.Along.{known_at, known_from}

-- a step adds as many words as threads
event_words : (p : NumberedProgram) (t : ℕ) (v : Event) (kind : TurnKind) (rs : List Symbolic) (o : Op) (words : List Symbolic)
    → length (words_after p t kind rs o words) ≡ length words + length (made_by p v kind)
event_words p t v turns.Exit rs o words = let l = length-set words t (exit_symbolic p t rs o) in omega (arith, l)
event_words p t v turns.Create rs o words = length-append words (operand_at p rs o 3 ∷ [])
event_words p t v kind rs o words = omega arith

kind_words : (p : NumberedProgram) (m : Moment) (x : Instr) (s : SymbolicState) (k : StepKind) → length (known_words p m x k s) ≡ length s.words + length (made_in p k)
kind_words p m x s (kinds.Event v) = event_words p (thread_in m) v v.kind _ x.op s.words
kind_words p m x s k = omega arith

module _ (R : Reference) (d : Taken) (n : ℕ) (m : Moment) (s : SymbolicState) where
  words_own : (b : Bool) (i : Option Instr) →
      length (own_words R.program d n m (own_region R d n m s) s b i) ≡ length s.words + length (own_made R.program d n m (own_region R d n m s) s b i)
  words_own true None = omega arith
  words_own true (Some x) = kind_words R.program m x s m.did.did.kind
  words_own false i = omega arith

  words_step : length s.words ≡ length s.threads → length (after_step R d n m s).words ≡ length (after_step R d n m s).threads
  words_step h =
      ap length (words_next R d n m s)
      ∙ words_own (live_at R d n m s) (instr_in R.program m)
      ∙ ap (λ (k : ℕ). k + length (next_made R d n m s)) h
      ∙ sym (length_next R d n m s)

words_from : (R : Reference) (d : Taken) (n : ℕ) (s : SymbolicState) (ms : List Moment) → length s.words ≡ length s.threads
    → length (known_from R d n s ms).words ≡ length (known_from R d n s ms).threads
unfolding known_from
words_from R d n s [] h = h
words_from R d n s (m ∷ ms) h = words_from R d (suc n) (after_step R d n m s) ms (words_step R d n m s h)

pub words_at : (R : Reference) (d : Taken) (n : ℕ) → length (known_at R d n).words ≡ length (known_at R d n).threads
words_at R d n = words_from R d 0 (start_of R.program) (take n R.moments) refl
