-- What stands behind the first token of a row.
use Rattle.std.proofs.Common.{ℕ}
use Rattle.pg_read_grammar.specs.declared.token.Token.{Token}
use Rattle.pg_read_grammar.specs.declared.class.Class.TheVariants.{Int}
use Rattle.pg_read_grammar.specs.Classes.{is}
use Rattle.pg_read_grammar.specs.Language.{Gram, one, give, ◌>>=◌, ◌or◌}
use Rattle.pg_read_grammar.specs.Grammar.{literal_of, flags, gep_tail, plain_value}
use Rattle.pg_read_ast.specs.Syntax.{Val}
use Rattle.pg_read_ast.specs.Syntax as syntax

abbrev pub gep_rest : ℕ → Gram Val → Token → Gram Val
gep_rest d g o = do
  _ ← flags
  gep_tail d g o

-- an integer, one word or a global
abbrev pub certain_value : Gram Val
certain_value = (do
  n ← one (is Int)
  give (syntax.Int (literal_of n))) or plain_value
