use Rattle.std.proofs.Common.{is_some, ap, ◌∙◌}
use Rattle.pg_check_rules.specs.Names.{register_number}
use Rattle.pg_check_calls.proofs.Registers.{register_found}
use Rattle.pg_check_calls.proofs.symbols_in_scope.has_register.Goals as goal

pub returns : goal.returns
returns c = λ g s.
    let text = c.args.name.now.text in
    c.is_some.ensures
    ∙ ap (λ o. is_some o) (c.place_of_name.ensures ∙ s.values.known c.as_slice.result.now ∙ ap (λ t. register_number g.registers t) c.as_slice.ensures)
    ∙ register_found g.registers text
