use Rattle.std.proofs.Common.{inl, inr, refl, subst, List}
use Rattle.pg_slice_passes.specs.declared.rows.Row.{Row}
use Rattle.pg_slice_passes.specs.Rows.{Begins}
use Rattle.pg_slice_passes.proofs.rows.add_behind.Goals as goal

pub returns-then-goes_on : goal.returns-then-goes_on
returns-then-goes_on c = inl
    (record {
      front = c.args.rows.now.items;
      row = c.args.row;
      was = refl;
      owner = c.goes_on.ensures.owner c.if-goes_on.true;
      number = c.goes_on.ensures.number c.if-goes_on.true;
      longer = c.in_ok-push.ensures.items;
    })

pub returns : goal.returns
returns c = inr (subst (λ (l : List Row). Begins c.args.owner c.args.number l c.begin.new.rows.items) c.in_ok-push-2.ensures.items c.in_ok-begin.ensures)
