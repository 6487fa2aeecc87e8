use Rattle.std.proofs.Common.{is_some, ap, ◌∙◌}
use Rattle.pg_read_ast.specs.Numbers.{type_named}
use Rattle.pg_check_types.specs.NumberedTypes.{named_types}
use Rattle.pg_check_types.proofs.ItemPlaces.{place_is_item}
use Rattle.pg_check_types.proofs.types.TypeNumbers.is_item.Goals as goal

pub returns : goal.returns
returns c =
    c.is_some.ensures
    ∙ ap (λ o. is_some o) (c.place_of_name.ensures ∙ c.self.invariant.known c.args.name.now)
    ∙ place_is_item c.args.name.now 0 c.self.inside.items.now
    ∙ ap (λ v. is_some (type_named (named_types v) c.args.name.now)) c.self.view_is
