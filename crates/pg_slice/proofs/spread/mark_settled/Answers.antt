use Rattle.std.proofs.Common.{sym, ◌∙◌}
use Rattle.pg_slice_decisions.specs.Steps.{taken_by}
use Rattle.pg_slice_walk.proofs.SettledWithMore.{settled_set}
use Rattle.pg_slice.proofs.spread.mark_settled.Goals as goal

pub returns-then-is_pinned-clause-settled : goal.returns-then-is_pinned-clause-settled
returns-then-is_pinned-clause-settled c = λ hs here a. settled_set hs (taken_by c.args.decisions.now) c.args.s.now.settled.items c.set_mark.new.marks.items c.args.number
    (sym c.is_pinned.ensures ∙ c.if-is_pinned.true) here c.set_mark.ensures.only a
