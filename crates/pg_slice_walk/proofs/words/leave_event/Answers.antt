use Rattle.std.proofs.Common.{sym, ◌∙◌}
use Rattle.pg_slice_walk.proofs.EventKinds.{exits, exits_not}
use Rattle.pg_slice_walk.proofs.WordsBack.{created_met, exited_met, kept_met}
use Rattle.pg_slice_walk.proofs.words.leave_event.Goals as goal

pub returns-then-is_exit : goal.returns-then-is_exit
returns-then-is_exit c = λ R e p r x step counts v n m st call op kind exit threads words met.
    exited_met R e p r x step counts n m st v kind (exit ∙ exits c.args.kind (sym c.is_exit.ensures ∙ c.if-is_exit.true)) c.args.at call c.args.op.now op c.args.words.now.items c.leave_exit.new.words.items
    c.args.demanded.now c.leave_exit.new.demanded c.leave_exit.ensures.rest c.in_ok-leave_exit.ensures.met words met

pub returns-then-is_create : goal.returns-then-is_create
returns-then-is_create c = λ R e p r x step counts v n m st call op kind create threads words met.
    created_met R e p r x step counts n m st v kind (create ∙ c.is_create.ensures.yes c.if-is_create.true) c.args.at call c.args.op.now op c.args.threads threads c.args.words.now.items
    c.leave_created.new.words.items c.args.demanded.now c.leave_created.new.demanded c.leave_created.ensures.rest c.in_ok-leave_created.ensures.met words met

pub returns : goal.returns
returns c = λ R e p r x step counts v n m st call op kind other threads words met. (
  met,
  kept_met R e p r x step counts n m st v kind (λ q. exits_not c.args.kind (sym c.is_exit.ensures ∙ c.if-is_exit.false) (sym other ∙ q)) (λ q. c.is_create.ensures.no c.if-is_create.false (sym other ∙ q))
      c.args.words.now.items words,
)
