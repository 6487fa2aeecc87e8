use Rattle.std.proofs.Common.{◌≡◌, slice_get, unwrap_or, sym, ap, ◌∙◌}
use Rattle.pg_read_ast.specs.Views.{tree_of, global_of}
use Rattle.pg_check_rules.specs.Names.{VariableOf, symbol}
use Rattle.pg_check_rules.specs.Symbols.{symbol_of}
use Rattle.pg_check_rules.specs.Constants.{symbol_word}
use Rattle.pg_check_constants.proofs.PointerWords.{word_found}
use Rattle.pg_check_constants.proofs.globals.symbol_word.Goals as goal

pub returns-in-Variable : goal.returns-in-Variable
returns-in-Variable c =
    let m = tree_of c.args.globals.now.symbols.tree.now in
    let v = global_of c.in-Variable.field-1.now in
    let s : symbol m c.args.text.now ≡ VariableOf c.in-Variable.place v = sym c.symbol.ensures ∙ ap (λ x. symbol_of x) c.in-Variable.is in
    c.word_or_zero.ensures
    ∙ ap (λ ws. unwrap_or (slice_get ws c.in-Variable.place) 0) (c.as_slice.ensures.value ∙ c.args.globals.now.known)
    ∙ word_found m c.args.text.now c.in-Variable.place v s
    ∙ ap (λ x. symbol_word m x) (sym s)
