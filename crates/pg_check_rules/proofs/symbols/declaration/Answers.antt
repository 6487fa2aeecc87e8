use Rattle.std.proofs.Common.{ap, ◌∙◌}
use Rattle.pg_read_ast.specs.Views.{declare_of}
use Rattle.pg_check_rules.specs.Symbols.{declaration_text, placed}
use Rattle.pg_check_rules.proofs.SymbolPlaces.{plain_node_is}
use Rattle.pg_check_rules.proofs.symbols.declaration.Goals as goal

pub returns : goal.returns
returns c =
    plain_node_is declare_of declaration_text c.args.text.now c.args.symbols.now.tree.now.declares.items c.place_of_name-place.result c.item_at.result
    (c.place_of_name-place.ensures ∙ c.args.symbols.now.known.declaration c.args.text.now)
    (c.item_at.ensures ∙ ap (λ xs. placed xs c.place_of_name-place.result) c.as_slice.ensures.value)
