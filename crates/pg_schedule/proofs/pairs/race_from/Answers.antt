use Rattle.std.proofs.Common.{sym, ◌∙◌}
use Rattle.pg_schedule.proofs.RaceTable.{racing_within}
use Rattle.pg_schedule.proofs.pairs.race_from.Goals as goal

pub partner-requires-clause-within : goal.partner-requires-clause-within
partner-requires-clause-within c = racing_within c.args.t.now.steps c.args.id.0 c.in-Some.step (sym c.requires.first ∙ c.in-Some.is)
