use Rattle.std.proofs.Common.{sym, ap, ◌∙◌}
use Rattle.pg_check_types.specs.NameIndex.{known_place}
use Rattle.pg_check_values.proofs.RegisterTypes.{known_register, no_register}
use Rattle.pg_check_values.proofs.names.unknown_register.Goals as goal

pub returns-in-Some : goal.returns-in-Some
returns-in-Some c = λ g s.
    known_register g c.args.name.now _
    (sym (s.known c.args.name.now.text) ∙ ap (λ t. known_place c.args.scope.now.registers.now t) (sym c.as_slice.ensures) ∙ sym c.place_of_name.ensures ∙ c.in-Some.is)

pub returns-in-None : goal.returns-in-None
returns-in-None c = λ g s.
    no_register g c.args.name.now
    (sym (s.known c.args.name.now.text) ∙ ap (λ t. known_place c.args.scope.now.registers.now t) (sym c.as_slice.ensures) ∙ sym c.place_of_name.ensures ∙ c.in-None.is)
