use Rattle.std.proofs.Common.{◌+◌, refl, subst, sym}
use Rattle.pg_seats.specs.pg_run_thread.declared.action.Action.{Action}
use Rattle.pg_worker.specs.Standing.{HasKept, run_in, table_in}
use Rattle.pg_worker.proofs.DueTurns.{turned_at, turned_took}
use Rattle.pg_worker.proofs.worker.Worker.end_turn.Goals as goal

pub returns-clause-at : goal.returns-clause-at
returns-clause-at c =
    turned_at (run_in c.args.shared.now) (table_in c.args.shared.now) c.requires.at.parts
    c.args.self.now c.requires.at.at c.next_turn-turn.result c.next_turn-turn.ensures c.requires.event c.requires.due
    c.keep.new.self (record c.keep.new.self { seat = c.advance.new.seat; done = c.keep.new.self.done + 1 }) c.resume.new.self
    (subst (λ (x : Action). HasKept x c.args.self.now c.keep.new.self) (sym c.requires.next) c.keep.ensures) refl c.args.answer c.requires.at.answered
    c.advance.ensures.own.0 c.advance.ensures.view.0 c.advance.ensures.view.1 c.advance.ensures.view.2 c.resume.ensures.resumed c.resume.ensures.seat

pub returns-clause-took : goal.returns-clause-took
returns-clause-took c =
    turned_took (run_in c.args.shared.now) (table_in c.args.shared.now) c.requires.at.parts
    c.args.self.now c.requires.at.at c.next_turn-turn.result c.next_turn-turn.ensures c.requires.event c.requires.due
    c.keep.new.self (record c.keep.new.self { seat = c.advance.new.seat; done = c.keep.new.self.done + 1 }) c.resume.new.self
    (subst (λ (x : Action). HasKept x c.args.self.now c.keep.new.self) (sym c.requires.next) c.keep.ensures) refl c.args.answer c.requires.at.answered
    c.advance.ensures.own.0 c.advance.ensures.view.0 c.advance.ensures.view.1 c.advance.ensures.view.2 c.resume.ensures.resumed c.resume.ensures.seat
