use Rattle.std.proofs.Common.{sym, ap, subst, ◌∙◌, rules}
use Rattle.pg_read_ast.specs.Views.{ty_of, val_of, tree_of}
use Rattle.pg_read_ast.specs.declared.values.ValNode.TheViews.{the_lemmas}
use Rattle.pg_check_types.specs.NumberedTypes.{items_of}
use Rattle.pg_check_types.proofs.Resolutions.{if_ok}
use Rattle.pg_check_rules.specs.Constants.{pointer_word}
use Rattle.pg_check_constants.specs.Sizes.{TypeFits, ValFits}
use Rattle.pg_check_constants.proofs.ConstantSizes.{gep_fits}
use Rattle.pg_check_constants.proofs.ConstantViews.{moved_word_is}
use Rattle.pg_check_constants.proofs.constants.+words.Goals as goal

pub pointer_word-requires : goal.pointer_word-requires
pointer_word-requires t c =
    let m = tree_of c.args.globals.now.symbols.tree.now in
    let g = c.in-GetElementPtr in (
      search (rules, the_lemmas),
      subst (λ x. ValFits m.types (val_of x)) (sym c.deref.ensures) (gep_fits m.types c.args.value.now g.field-0 g.ty g.field-2 g.base g.indices g.is c.requires.fits).1,
    )

pub moved_word-requires : goal.moved_word-requires
moved_word-requires t c =
    let m = tree_of c.args.globals.now.symbols.tree.now in
    let g = c.in-GetElementPtr in
    subst (λ its. TypeFits (items_of its) (ty_of g.ty)) (sym c.args.globals.now.items)
    (gep_fits m.types c.args.value.now g.field-0 g.ty g.field-2 g.base g.indices g.is c.requires.fits).0

pub returns-in_ok-word-in-GetElementPtr : goal.returns-in_ok-word-in-GetElementPtr
returns-in_ok-word-in-GetElementPtr t c = record {
  word =
      let m = tree_of c.args.globals.now.symbols.tree.now in
      let g = c.in-GetElementPtr in
      if_ok c.moved_word.result
      (λ w h. h
      ∙ moved_word_is m _ c.in_ok-word-in-GetElementPtr.word g.field-0 g.ty g.field-2 g.base g.indices _
      (ap (λ xs. items_of xs) c.args.globals.now.items)
      (c.in_ok-word-in-GetElementPtr.ensures.word ∙ ap (λ x. pointer_word m (val_of x)) c.deref.ensures)
      c.as_slice-in-GetElementPtr.ensures.value
      ∙ ap (λ x. pointer_word m (val_of x)) (sym g.is))
      c.moved_word.ensures.word;
}
