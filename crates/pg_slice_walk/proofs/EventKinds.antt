-- Of which kind an event is, by the tests of it.
use Rattle.std.proofs.Common.{◌≡◌, true, false, refl, sym, ap, ◌∙◌}
use Rattle.std.proofs.lemmas.Bool.{true≢false}
use Rattle.pg_run_trace.specs.declared.turn.TurnKind.{TurnKind}
use Rattle.pg_run_trace.specs.declared.turn.TurnKind.TheVariants as turns
use Rattle.pg_run_trace.specs.declared.turn.TurnKind.TheVariants.{Exit, Start}
use Rattle.pg_slice_back.specs.Events.{is_exit}
use Rattle.pg_slice_back.specs.pg_slice_passes.pg_slice_checks.Steps.{is_start}

pub starts : (kind : TurnKind) → is_start kind ≡ true → kind ≡ Start
starts turns.Start q = refl
starts kind q = absurd (true≢false (sym q))

pub exits : (kind : TurnKind) → is_exit kind ≡ true → kind ≡ Exit
exits turns.Exit q = refl
exits kind q = absurd (true≢false (sym q))

pub exits_not : (kind : TurnKind) → is_exit kind ≡ false → kind ≡ Exit → ⊥
exits_not kind q e = true≢false (sym (ap is_exit e) ∙ q)
