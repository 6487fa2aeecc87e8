use Rattle.std.proofs.Common.{ap, ◌∙◌}
use Rattle.pg_read_ast.specs.Views.{global_of}
use Rattle.pg_check_rules.specs.Symbols.{variable_text, placed}
use Rattle.pg_check_rules.proofs.SymbolPlaces.{node_is}
use Rattle.pg_check_rules.proofs.symbols.variable.Goals as goal

pub returns : goal.returns
returns c =
    node_is global_of variable_text c.args.text.now c.args.symbols.now.tree.now.globals.items c.place_of_name-place.result c.item_at.result
    (c.place_of_name-place.ensures ∙ c.args.symbols.now.known.variable c.args.text.now)
    (c.item_at.ensures ∙ ap (λ xs. placed xs c.place_of_name-place.result) c.as_slice.ensures.value)
