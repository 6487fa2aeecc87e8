use Rattle.std.proofs.Common.{◌++◌, map, append_assoc, ap, ◌∙◌}
use Rattle.pg_read_ast.specs.Syntax.{Variable, Declaration, Definition}
use Rattle.pg_read_ast.specs.Views.{global_of, declare_of, define_of}
use Rattle.pg_check_rules.specs.Starts.{names_behind}
use Rattle.pg_check_rules.proofs.symbol_names.symbol_names.Goals as goal

pub returns : goal.returns
returns c =
    let variables = map (λ (g : Variable). g.name) (map global_of c.as_slice.result.now) in
    let declared = map (λ (d : Declaration). d.name) (map declare_of c.as_slice-2.result.now) in
    let defined = map (λ (d : Definition). d.name) (map define_of c.as_slice-3.result.now) in
    let all_variables = map (λ (g : Variable). g.name) (map global_of c.args.tree.now.globals.items) in
    let all_declared = map (λ (d : Declaration). d.name) (map declare_of c.args.tree.now.declares.items) in
    let first = c.in_ok-add_variables.ensures ∙ ap (λ xs. names_behind xs ++ variables) c.new-all.ensures.items in
    let second = c.in_ok-add_declarations.ensures ∙ ap (λ ns. ns ++ declared) first in
    c.in_ok-add_definitions.ensures
    ∙ ap (λ ns. ns ++ defined) second
    ∙ append_assoc variables declared defined
    ∙ ap (λ xs. map (λ (g : Variable). g.name) (map global_of xs) ++ (declared ++ defined)) c.as_slice.ensures.value
    ∙ ap (λ xs. all_variables ++ (map (λ (d : Declaration). d.name) (map declare_of xs) ++ defined)) c.as_slice-2.ensures.value
    ∙ ap (λ xs. all_variables ++ (all_declared ++ map (λ (d : Definition). d.name) (map define_of xs))) c.as_slice-3.ensures.value
