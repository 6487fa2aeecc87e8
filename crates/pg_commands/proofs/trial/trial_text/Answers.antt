use Rattle.std.proofs.Common.{ap, ◌∙◌}
use Rattle.pg_commands.proofs.TrialEnds.{trial_told}
use Rattle.pg_commands.proofs.trial.trial_text.Goals as goal

pub returns : goal.returns
returns g c =
    trial_told _ c.new-runner.result.subject _ _ _ _ _ c.trial-text.result c.new-runner.ensures.program c.new-runner.ensures.way
    (record { first = c.new-runner.ensures.turns ∙ ap g.C.Crew.turns c.replace.ensures.value; last = c.into_crew.ensures }) c.trial-text.ensures.text
