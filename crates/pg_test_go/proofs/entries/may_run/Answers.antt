use Rattle.std.proofs.Common.{sym, ◌∙◌, subst}
use Rattle.pg_law_reuse.specs.Entries.{EntryParts}
use Rattle.pg_law_reuse.specs.pg_law_order.Good.{IsGoodRun}
use Rattle.pg_test_go.specs.Serves.{Serves}
use Rattle.pg_test_go.proofs.entries.may_run.Goals as goal

pub returns-clause-good : goal.returns-clause-good
returns-clause-good c e =
    subst (λ (k : EntryParts). IsGoodRun c.args.p.now c.args.input.now k.schedule) (sym c.admits.ensures.stays)
    (c.requires.serves.good c.args.input.now c.can_run.ensures.small (sym c.admits.ensures.answer ∙ e))

pub returns-clause-serves : goal.returns-clause-serves
returns-clause-serves c = subst (λ (k : EntryParts). Serves c.args.p.now k) (sym c.admits.ensures.stays) c.requires.serves
