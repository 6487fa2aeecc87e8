use Rattle.std.proofs.Common.{sym, ◌∙◌, subst, eqb-true}
use Rattle.pg_slice_walk.specs.Settled.{ArePinned}
use Rattle.pg_slice_walk.proofs.SettledWithMore.{none_held, settled_at}
use Rattle.pg_slice_walk.proofs.extents.is_settled.Goals as goal

pub returns-then-holder-eq0-clause-pinned : goal.returns-then-holder-eq0-clause-pinned
returns-then-holder-eq0-clause-pinned c = λ q hs d a. subst (λ h. ArePinned hs d h) (sym (eqb-true c.args.holder 0 q)) (none_held hs d)

pub returns-else-holder-eq0-clause-pinned : goal.returns-else-holder-eq0-clause-pinned
returns-else-holder-eq0-clause-pinned c = λ q hs d a. settled_at hs d c.args.settled.now c.args.holder c.if-holder-eq0.false (sym c.mark_at.ensures ∙ q) a
