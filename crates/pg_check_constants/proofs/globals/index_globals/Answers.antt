use Rattle.std.proofs.Common.{map, sym, subst}
use Rattle.pg_read_ast.specs.Views.{global_of, tree_of}
use Rattle.pg_check_types.specs.NumberedTypes.{items_of}
use Rattle.pg_check_constants.specs.Sizes.{GlobalsFit}
use Rattle.pg_check_constants.proofs.globals.index_globals.Goals as goal

pub global_words-requires : goal.global_words-requires
global_words-requires c =
    subst (λ gs. GlobalsFit (items_of c.args.types.now.items) (map global_of gs)) (sym c.as_slice.ensures.value)
    (subst (λ its. GlobalsFit (items_of its) (tree_of c.args.tree.now).globals) (sym c.requires.items) c.requires.fits)
