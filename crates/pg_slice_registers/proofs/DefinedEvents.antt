-- The definition's events by their kinds.
use Rattle.std.proofs.Common.{◌≡◌, ℕ, List, [], ◌∷◌, Bool, true, false, Option, Some, slice_set, refl, ap, sym, ◌∙◌}
use Rattle.std.specs.Prelude.{◌==◌, if◌then◌else◌}
use Rattle.pg_ir.specs.declared.instr.Instr.{Instr}
use Rattle.pg_ir.specs.declared.instr.Op.{Op}
use Rattle.pg_ir.specs.Program.{NumberedProgram, parameter_count}
use Rattle.pg_run_trace.specs.declared.step.Event.{Event}
use Rattle.pg_run_trace.specs.declared.turn.TurnKind.{TurnKind}
use Rattle.pg_run_trace.specs.declared.turn.TurnKind.TheVariants as turns
use Rattle.pg_slice_rules.specs.Moments.{Moment}
use Rattle.pg_slice_rules.specs.SymbolicValues.{Symbolic, always}
use Rattle.pg_slice_rules.specs.Known.{after_event, function_in, low_byte, operand_at, set_symbolic, started, top_of, with_top, words_after}
use Rattle.pg_slice_registers.proofs.DefinedSteps.{with_top_same}

pub starts : (n : ℕ) (a : Symbolic) (calls : List (List Symbolic)) → (n == 0) ≡ false → with_top (set_symbolic (Some 0) a) calls ≡ with_top (started n a) calls
starts n a calls e = with_top_same _ _ calls (λ rs. ap (λ (b : Bool). if b then rs else slice_set rs 0 a) (sym e))

nothing : (calls : List (List Symbolic)) → calls ≡ with_top (λ rs. rs) calls
nothing [] = refl
nothing (rs ∷ calls) = refl

pub starts_not : (n : ℕ) (a : Symbolic) (calls : List (List Symbolic)) → (n == 0) ≡ true → calls ≡ with_top (started n a) calls
starts_not n a calls e = nothing calls ∙ with_top_same (λ rs. rs) (started n a) calls (λ rs. ap (λ (b : Bool). if b then rs else slice_set rs 0 a) (sym e))

pub at_top_set : (target : Option ℕ) (g : List Symbolic → Symbolic) (calls : List (List Symbolic)) →
    with_top (set_symbolic target (g (top_of calls))) calls ≡ with_top (λ rs. set_symbolic target (g rs) rs) calls
at_top_set target g [] = refl
at_top_set target g (rs ∷ calls) = refl

module _ (p : NumberedProgram) (m : Moment) (e : Event) (a : Symbolic) (x : Instr) (calls : List (List Symbolic)) where
  pub start_is : (kind : TurnKind) (f : ℕ) → kind ≡ turns.Start → function_in m.calls ≡ f → with_top (started (parameter_count p f) a) calls ≡ after_event p m e kind a x calls
  start_is kind f k h = ap (λ (g : ℕ). with_top (started (parameter_count p g) a) calls) (sym h) ∙ ap (λ (z : TurnKind). after_event p m e z a x calls) (sym k)

  pub wait_is : (kind : TurnKind) → kind ≡ turns.Wait → calls ≡ after_event p m e kind a x calls
  wait_is kind k = ap (λ (z : TurnKind). after_event p m e z a x calls) (sym k)

  pub print_is : (kind : TurnKind) → kind ≡ turns.Putchar → with_top (λ rs. set_symbolic x.result (low_byte (operand_at p rs x.op 0)) rs) calls ≡ after_event p m e kind a x calls
  print_is kind k = ap (λ (z : TurnKind). after_event p m e z a x calls) (sym k)

  pub answer_is : (kind : TurnKind) → (kind ≡ turns.Start → ⊥) → (kind ≡ turns.Exit → ⊥) → (kind ≡ turns.Wait → ⊥) → (kind ≡ turns.Arrive → ⊥) →
      (kind ≡ turns.Putchar → ⊥) →
      with_top (set_symbolic x.result (always e.reply)) calls ≡ after_event p m e kind a x calls
  answer_is turns.Start h i j k l = absurd (h refl)
  answer_is turns.Exit h i j k l = absurd (i refl)
  answer_is turns.Wait h i j k l = absurd (j refl)
  answer_is turns.Arrive h i j k l = absurd (k refl)
  answer_is turns.Putchar h i j k l = absurd (l refl)
  answer_is kind h i j k l = refl

pub same_words : (p : NumberedProgram) (t : ℕ) (kind : TurnKind) (rs : List Symbolic) (o : Op) (words : List Symbolic) → (kind ≡ turns.Exit → ⊥) → (kind ≡ turns.Create → ⊥) →
    words ≡ words_after p t kind rs o words
same_words p t turns.Exit rs o words h k = absurd (h refl)
same_words p t turns.Create rs o words h k = absurd (k refl)
same_words p t kind rs o words h k = refl
