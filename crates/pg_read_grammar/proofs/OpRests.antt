-- Rows of operations, factored as they are read.
use Rattle.std.proofs.Common.{[], ◌∷◌, Option, Some, None, true, false}
use Rattle.pg_num.specs.declared.limits.TheConstants.{NESTING_LIMIT}
use Rattle.pg_read_grammar.specs.declared.token.Token.{Token}
use Rattle.pg_read_grammar.specs.declared.class.Class.TheVariants.{To, Align, Int, Dots, Local, Comma, OpenRound, CloseRound}
use Rattle.pg_read_grammar.specs.declared.token.Fault.TheVariants.{Unsupported}
use Rattle.pg_read_grammar.specs.Classes.{is}
use Rattle.pg_read_grammar.specs.Language.{Gram, one, give, refused, ◌or◌, ◌>>=◌, many}
use Rattle.pg_read_grammar.specs.Grammar.{literal_of, drop_value, metadata_name, flags, type_in}
use Rattle.pg_read_grammar.specs.GrammarOps.{typed_value, cast_of, alignment, count}
use Rattle.pg_read_grammar.specs.GrammarItems.{metadata}
use Rattle.pg_read_grammar.proofs.Listings.{comma_item, ending}
use Rattle.pg_read_ast.specs.Syntax.{Op, Count, Written}
use Rattle.pg_read_ast.specs.Syntax as syntax

-- an operation and the metadata behind it
abbrev pub with_metadata : Gram Op → Gram Op
with_metadata g = do
  o ← g
  _ ← metadata
  give o

abbrev pub metadata_tail : Gram (Unit {0})
metadata_tail = do
  _ ← one metadata_name
  _ ← one metadata_name
  metadata

abbrev pub cast_tail : Token → Gram Op
cast_tail o = do
  _ ← flags
  v ← typed_value
  _ ← one (is To)
  t ← type_in NESTING_LIMIT
  give (syntax.Cast o.span (cast_of o.class) v t)

-- ---- an alignment behind a comma, and metadata

abbrev pub alignment_line : Gram (Unit {0})
alignment_line = do
  _ ← alignment
  metadata

abbrev pub alignment_first : Gram (Unit {0})
alignment_first = (do
  _ ← one (is Comma)
  (do
    _ ← one (is Align)
    _ ← one (is Int)
    metadata) or metadata_tail) or give tt

abbrev pub count_line : Gram (Option Count)
count_line = do
  n ← count
  _ ← alignment
  _ ← metadata
  give n

abbrev pub count_first : Gram (Option Count)
count_first = (do
  _ ← one (is Comma)
  (do
    _ ← one (is Align)
    _ ← one (is Int)
    _ ← metadata
    give None) or ((do
      _ ← metadata_tail
      give None) or (do
        t ← type_in NESTING_LIMIT
        n ← one (is Int) or refused Unsupported (is Local)
        _ ← alignment_line
        give (Some (record { ty = t; count = literal_of n }))))) or give None

-- ---- the written types of a call

abbrev pub written_first : Gram Written
written_first = do
  _ ← one (is OpenRound)
  (do
    _ ← one (is Dots)
    _ ← one (is CloseRound)
    give (record { types = []; dots = true })) or ((do
      _ ← one (is Comma)
      _ ← one (is Dots)
      _ ← one (is CloseRound)
      give (record { types = []; dots = true })) or ((do
        _ ← one (is CloseRound)
        give (record { types = []; dots = false })) or (do
          t ← type_in NESTING_LIMIT
          all ← many (comma_item (type_in NESTING_LIMIT))
          more ← ending (drop_value (one (is Dots))) all
          _ ← one (is CloseRound)
          give (record { types = t ∷ more.items; dots = more.comma }))))

-- ---- a list behind commas, and metadata

abbrev pub gep_op_tail : Token → Gram Op
gep_op_tail o = do
  t ← type_in NESTING_LIMIT
  _ ← one (is Comma)
  p ← typed_value
  more ← many (comma_item typed_value)
  _ ← metadata
  give (syntax.GetElementPtr o.span t p more)
