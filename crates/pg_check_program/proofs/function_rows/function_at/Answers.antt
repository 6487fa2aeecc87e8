use Rattle.std.proofs.Common.{length, ap, ◌∙◌}
use Rattle.std.specs.List.{filter_map}
use Rattle.pg_read_ast.specs.Numbers.{numbered}
use Rattle.pg_read_ast.specs.Views.{ty_of, define_of, tree_of}
use Rattle.pg_check_types.specs.NumberedTypes.{items_of}
use Rattle.pg_check_types.specs.Resolved.{resolved}
use Rattle.pg_check_rules.specs.Names.{Register, registers_of}
use Rattle.pg_check_rules.specs.Numbered.{scalar_in}
use Rattle.pg_check_program.proofs.OwnScopes.{function_made}
use Rattle.pg_check_program.proofs.Scalars.{own_scalars}
use Rattle.pg_check_program.proofs.function_rows.function_at.Goals as goal

pub returns : goal.returns
returns c = record {
  function =
      let item = c.args.item.now in
      let own = c.in_ok-own.own in
      function_made (tree_of c.args.globals.now.symbols.tree.now) item c.args.first _ _ _ _
      (ap (λ ps. length ps) c.as_slice-params.ensures.value)
      (ap (λ bs. length bs) c.as_slice-blocks.ensures.value)
      (own_scalars _ own.registers.items own.types.items _ _ _ c.as_slice-all.ensures.value c.in_ok-own.ensures.lengths c.in_ok-own.ensures.registers
      (c.from_vec-scalars.ensures.items ∙ c.in_ok-registers.ensures.scalars)
      ∙ ap (λ its. filter_map (λ (r : Register). scalar_in r.ty) (registers_of (items_of its) (numbered (items_of its) (define_of item)))) c.args.globals.now.items)
      (c.in_ok-result.ensures.scalar
      ∙ ap (λ its. scalar_in (resolved (items_of its) (ty_of item.result))) c.args.globals.now.items);
}
