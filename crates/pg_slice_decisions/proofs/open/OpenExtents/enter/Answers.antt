use Rattle.std.proofs.Common.{◌∙◌, ap, not}
use Rattle.std.specs.List.{filter}
use Rattle.pg_slice_decisions.specs.Places.{is_at}
use Rattle.pg_slice_decisions.proofs.OpenedExtents.{entered_by}
use Rattle.pg_slice_decisions.proofs.open.OpenExtents.enter.Goals as goal

pub returns-in_ok-self : goal.returns-in_ok-self
returns-in_ok-self c = entered_by c.args.self.now.ends.items c.in_ok-self.field-0.items c.args.depth c.args.block c.in-Some.block c.in-Some.is
    (c.in_ok-self.ensures ∙ ap (λ l. filter (λ e. not (is_at c.args.depth c.in-Some.block e)) l) c.as_slice-then-has.ensures.value)
