use Rattle.std.proofs.Common.{◌∙◌}
use Rattle.pg_commands.proofs.TurnsCounted.{is_turn_at}
use Rattle.pg_commands.proofs.turns.is_turn.Goals as goal

pub returns-in-Access : goal.returns-in-Access
returns-in-Access c = c.has.ensures.gated ∙ is_turn_at c.args.gated.now c.args.step.now c.in-Access.field-0 c.in-Access.is
