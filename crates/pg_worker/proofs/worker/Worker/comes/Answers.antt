use Rattle.std.proofs.Common.{refl}
use Rattle.pg_worker.specs.Standing.{run_in, table_in}
use Rattle.pg_worker.proofs.DueTurns.{looked_at, looked_due, looked_early, looked_went}
use Rattle.pg_worker.proofs.worker.Worker.comes.Goals as goal

pub returns-clause-at : goal.returns-clause-at
returns-clause-at c = looked_at (run_in c.args.shared.now) (table_in c.args.shared.now)
    c.args.self.now (record c.args.self.now { seat = c.look-found.new.seat }) c.requires.at c.requires.left c.next_turn-turn.result c.next_turn-turn.ensures c.requires.waits c.look-found.result refl
    c.look-found.ensures.own.0 c.look-found.ensures.view c.look-found.ensures.low c.look-found.ensures.high

pub returns-clause-went : goal.returns-clause-went
returns-clause-went c = looked_went (run_in c.args.shared.now) (table_in c.args.shared.now)
    c.args.self.now (record c.args.self.now { seat = c.look-found.new.seat }) c.requires.at c.requires.left c.next_turn-turn.result c.next_turn-turn.ensures c.requires.waits c.look-found.result refl
    c.look-found.ensures.own.0 c.look-found.ensures.view c.look-found.ensures.low c.look-found.ensures.high

pub returns-clause-due : goal.returns-clause-due
returns-clause-due c e = looked_due (run_in c.args.shared.now) (table_in c.args.shared.now)
    c.args.self.now (record c.args.self.now { seat = c.look-found.new.seat }) c.requires.at c.requires.left c.next_turn-turn.result c.next_turn-turn.ensures c.requires.waits c.look-found.result refl
    c.look-found.ensures.own.0 c.look-found.ensures.view c.look-found.ensures.low c.look-found.ensures.high e

pub returns-clause-early : goal.returns-clause-early
returns-clause-early c e = looked_early (run_in c.args.shared.now) (table_in c.args.shared.now)
    c.args.self.now (record c.args.self.now { seat = c.look-found.new.seat }) c.requires.at c.requires.left c.next_turn-turn.result c.next_turn-turn.ensures c.requires.waits c.look-found.result refl
    c.look-found.ensures.own.0 c.look-found.ensures.view c.look-found.ensures.low c.look-found.ensures.high e
