use Rattle.std.proofs.Common.{ap, ◌∙◌}
use Rattle.std.specs.Option.{option_map}
use Rattle.pg_check_types.specs.NameIndex.{known_place}
use Rattle.pg_check_names.specs.Registers.{register_type}
use Rattle.pg_check_values.proofs.RegisterTypes.{type_found}
use Rattle.pg_check_values.proofs.registers.type_of_register.Goals as goal

pub returns : goal.returns
returns c = λ g s.
    ap (λ o. option_map (register_type g.tree.types) o) c.type_at.ensures
    ∙ type_found (register_type g.tree.types) c.args.scope.now.register_types.now g.registers c.args.name.now.text _
    (c.place_of_name-place.ensures ∙ ap (λ t. known_place c.args.scope.now.registers.now t) c.as_slice.ensures ∙ s.known c.args.name.now.text) s.registers
