use Rattle.std.proofs.Common.{sym}
use Rattle.pg_session_runner.proofs.LoadedTurns.{are_inside}
use Rattle.pg_session_runner.proofs.loading.load_turns.Goals as goal

pub from_turns-requires-clause-gated : goal.from_turns-requires-clause-gated
from_turns-requires-clause-gated c = are_inside c.args.p.now c.args.gated.now (sym c.if-not-all.ensures)
