use Rattle.std.proofs.Common.{ℕ, sym, subst}
use Rattle.std.specs.List.{AllByRecursion}
use Rattle.pg_law_demands.specs.Cells.{IsMet}
use Rattle.pg_law_demands.specs.Back.{of_bytes}
use Rattle.pg_slice_back.proofs.access.back_load.Goals as goal

pub returns-then-branch-clause-met : goal.returns-then-branch-clause-met
returns-then-branch-clause-met c = λ e after before l f m.
    let asked = c.in_ok-back_loaded.ensures.asked c.if-branch.true in (
      c.in_ok-back_loaded.ensures.met after before l (λ r v q h.
          subst (λ (start : ℕ). AllByRecursion (IsMet before) (of_bytes start c.args.a.bytes)) (sym c.own_bytes-own.ensures.from) (f r v q h).0) m,
      (f asked.0 asked.1 asked.2 (m.registers c.args.at.thread.0 c.args.at.depth asked.0 asked.1 asked.3)).1,
    )
