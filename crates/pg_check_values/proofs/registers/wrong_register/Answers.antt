use Rattle.std.proofs.Common.{sym, ap, ◌∙◌}
use Rattle.std.specs.Option.{option_map}
use Rattle.pg_read_ast.specs.Views.{ty_of}
use Rattle.pg_check_types.specs.Resolved.{resolved}
use Rattle.pg_check_types.proofs.Resolutions.{if_ok}
use Rattle.pg_check_rules.specs.Names.{register_named}
use Rattle.pg_check_names.specs.Registers.{register_type}
use Rattle.pg_check_values.specs.Uses.{wrong_typed}
use Rattle.pg_check_values.proofs.RegisterTypes.{wrong_same}
use Rattle.pg_check_values.proofs.registers.wrong_register.Goals as goal

pub returns : goal.returns
returns c = record {
  wrong = λ g s.
      let ty = ty_of c.args.ty.now in
      if_ok c.is_wrong_register.result
      (λ b h. h
      ∙ ap (λ types. wrong_typed c.args.constant (resolved types ty) (option_map (register_type types) c.type_of_register-register.result)) (sym s.types)
      ∙ ap (λ o. wrong_typed c.args.constant (resolved g.tree.types ty) o) (c.type_of_register-register.ensures g s)
      ∙ wrong_same c.args.constant (resolved g.tree.types ty) (register_named g.registers c.args.name.now.text))
      c.is_wrong_register.ensures.wrong;
}
