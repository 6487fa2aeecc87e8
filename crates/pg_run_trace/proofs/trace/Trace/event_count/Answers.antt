use Rattle.std.proofs.Common.{◌≡◌, ◌+◌, ◌≤◌, ℕ, List, take, get_or, Bool, true, false, Option, Some, arith, sym, ap, ◌∙◌}
use Rattle.std.specs.Prelude.{slice_get, is_some}
use Rattle.std.proofs.lemmas.List.Sums.{count_by_more_no, count_by_more_yes}
use Rattle.std.proofs.lemmas.Option.{slice_get_within, get_or_from_slice_get}
use Rattle.pg_run_trace.specs.declared.step.Step.{Step}
use Rattle.pg_run_trace.specs.declared.turn.Turn.{Turn}
use Rattle.pg_run_trace.specs.Steps.{event_count, event_of}
use Rattle.pg_run_trace.proofs.trace.Trace.event_count.Goals as goal
use Rattle.pg_run_trace.proofs.trace.Trace.event_count.Goals.{then-is_some, else-is_some}

abbrev is_event : Step → Bool
is_event x = is_some (event_of x)

counted : (xs : List Step) (i : ℕ) (x : Step) → slice_get xs i ≡ Some x → is_event x ≡ true → event_count (take (i + 1) xs) ≡ event_count (take i xs) + 1
counted xs i x e h = count_by_more_yes is_event xs i x (slice_get_within xs i x e) (ap is_event (get_or_from_slice_get xs i x x e) ∙ h)

passed : (xs : List Step) (i : ℕ) (x : Step) → slice_get xs i ≡ Some x → is_event x ≡ false → event_count (take (i + 1) xs) ≡ event_count (take i xs)
passed xs i x e h = count_by_more_no is_event xs i x (slice_get_within xs i x e) (ap is_event (get_or_from_slice_get xs i x x e) ∙ h)

pub loop-i-preserved : goal.loop-i-preserved
loop-i-preserved c =
    let tells : is_event c.step.result ≡ c.is_some.result = sym (c.is_some.ensures ∙ ap (λ (o : Option Turn). is_some o) c.event.ensures) in
    elim c.if-is_some.branch [
      | then-is_some w ↦ (
        omega (arith, w.count-is, c.loop-i.invariant.0, counted c.args.self.now.steps c.loop-i.i c.step.result c.step.ensures (tells ∙ w.if-is_some.true)),
        omega (arith, w.count-is, c.loop-i.invariant.1),
      )
      | else-is_some w ↦ (
        omega (arith, w.count-is, c.loop-i.invariant.0, passed c.args.self.now.steps c.loop-i.i c.step.result c.step.ensures (tells ∙ w.if-is_some.false)),
        omega (arith, w.count-is, c.loop-i.invariant.1),
      )
    ]
