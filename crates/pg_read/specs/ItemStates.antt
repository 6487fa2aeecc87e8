-- What the code keeps between two items.
use Rattle.std.specs.Prelude.{List, Option, Some, None}
use Rattle.pg_read_grammar.specs.declared.class.Class.TheVariants.{Distinct, Local, Comma}
use Rattle.pg_read_grammar.specs.declared.token.Token.{Token}
use Rattle.pg_read.specs.declared.items.AfterItem.{AfterItem}
use Rattle.pg_read.specs.declared.items.AfterItem.TheVariants as after
use Rattle.pg_read.specs.declared.items.Items.{Items}
use Rattle.pg_read_grammar.specs.Classes.{is}
use Rattle.pg_read_grammar.specs.Grammar.{name_of}
use Rattle.pg_read_grammar.specs.Reading.{Read, Good, ◌>>=◌, take_one, choose}
use Rattle.pg_read_grammar.specs.Reader.{drop_value_at}
use Rattle.pg_read_grammar.specs.ReaderItems as reader
use Rattle.pg_read_ast.specs.declared.names.Name.{Name}
use Rattle.pg_read_ast.specs.Syntax.{Tree}
use Rattle.pg_read_ast.specs.Views.{tree_of}

-- a Local, or none
abbrev pub maybe_name_at : List Token → Read (Option Name)
maybe_name_at = choose (is Local) (λ ts. take_one (is Local) ts >>= λ n. Good (Some (name_of n))) (Good None)

-- the word distinct, or none
abbrev pub distinct_at : List Token → Read (Unit {0})
distinct_at = choose (is Distinct) (drop_value_at (take_one (is Distinct))) (Good tt)

abbrev pub after_of : AfterItem → reader.AfterItem
after_of after.Done = reader.Done
after_of after.Declared = reader.Declared
after_of after.Valued = reader.Valued
after_of after.Tailed = reader.Tailed

abbrev pub items_of : Items → reader.Items
items_of s = reader.items (tree_of s.tree) (after_of s.after)

-- a comma behind a global
abbrev pub comma_at : Tree → List Token → Read reader.Items
comma_at t ts = take_one (is Comma) ts >>= λ _. Good (reader.items t reader.Tailed)
