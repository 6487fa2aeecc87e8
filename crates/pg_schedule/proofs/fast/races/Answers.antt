use Rattle.std.proofs.Common.{sym, ◌∙◌}
use Rattle.pg_schedule.proofs.RaceTable.{one_thread}
use Rattle.pg_schedule.proofs.fast.races.Goals as goal

pub returns-then-is_of_thread : goal.returns-then-is_of_thread
returns-then-is_of_thread c = c.new.ensures.items ∙ sym (one_thread 0 c.args.t.now.steps (sym c.is_of_thread.ensures ∙ c.if-is_of_thread.true))
