use Rattle.std.proofs.Common.{◌∙◌, ap}
use Rattle.std.specs.Prelude.{not}
use Rattle.pg_rounds.specs.Turns.{is_strayed}
use Rattle.pg_rounds.proofs.FirstTurns.{end_tells}
use Rattle.pg_rounds.proofs.next_turn.is_stopped.Goals as goal

pub returns : goal.returns
returns c = ap not (c.strays.ensures ∙ ap is_strayed c.end.ensures) ∙ end_tells c.args.p.now c.args.worker.now
