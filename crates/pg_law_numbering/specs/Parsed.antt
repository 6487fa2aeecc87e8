-- What each tree has that a text was read as.
use Rattle.std.specs.Prelude.{◌≡◌, true}
use Rattle.pg_read_ast.specs.Syntax.{Tree}
use Rattle.pg_read_grammar.specs.Endings.{all_end_last}
use Rattle.pg_read_grammar.specs.NameOrder.{all_ascend}

-- ending lines end their blocks, and the names that a function writes stand in the order of the text
pub record IsInOrder (m : Tree) : Type 0 where
  pub endings : all_end_last m ≡ true
  pub names : all_ascend m ≡ true
