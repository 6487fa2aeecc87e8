use Rattle.std.proofs.Common.{[], ◌++◌, ◌∙◌, ap}
use Rattle.std.specs.List.{cons_option}
use Rattle.pg_seats.specs.pg_law_threads.Effects.{or_old}
use Rattle.pg_worker.proofs.DueTurns.{kept_of}
use Rattle.pg_worker.proofs.worker.Worker.keep.Goals as goal

pub returns : goal.returns
returns c = kept_of c.args.action.now c.args.self.now c.print.new.self c.mark.new.self c.leave.new.self c.print.ensures.same c.mark.ensures.same c.leave.ensures.same
    (c.print.ensures.items ∙ ap (λ o. c.args.self.now.prints.items ++ cons_option o []) c.printed_by.ensures) c.print.ensures.room
    (λ q e. c.mark.ensures.stored q (c.stored_by.ensures ∙ e)) c.mark.ensures.marked (c.leave.ensures.value ∙ ap (λ o. or_old o c.mark.new.self.value) c.value_of.ensures)
