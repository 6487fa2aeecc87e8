use Rattle.std.proofs.Common.{true, false, sym, ◌∙◌}
use Rattle.pg_read_ast.specs.Views.{ty_of}
use Rattle.pg_check_types.specs.NumberedTypes.{named_types}
use Rattle.pg_check_rules.specs.Earliest.{earliest}
use Rattle.pg_check_values.proofs.Misfits.{literal_place}
use Rattle.pg_check_values.proofs.uses.wrong_literal.Goals as goal

pub returns-then-misfit_literal : goal.returns-then-misfit_literal
unfolding earliest
returns-then-misfit_literal c = record {
  place = λ g t.
      literal_place g (ty_of c.args.ty.now) c.args.literal.now (named_types c.args.types.now) true t (sym c.if-misfit_literal.true ∙ c.misfit_literal.ensures _ c.in_ok-kind.ensures.kind);
}

pub returns-else-misfit_literal : goal.returns-else-misfit_literal
unfolding earliest
returns-else-misfit_literal c = record {
  place = λ g t.
      literal_place g (ty_of c.args.ty.now) c.args.literal.now (named_types c.args.types.now) false t (sym c.if-misfit_literal.false ∙ c.misfit_literal.ensures _ c.in_ok-kind.ensures.kind);
}
