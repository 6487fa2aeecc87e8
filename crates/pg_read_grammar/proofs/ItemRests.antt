-- The items, factored as they are read.
use Rattle.pg_num.specs.declared.limits.TheConstants.{NESTING_LIMIT}
use Rattle.pg_read_grammar.specs.declared.class.Class.TheVariants.{TypeWord, Distinct, SourceFilename, Target, Attributes, Str, Local, Comma, Equals}
use Rattle.pg_read_grammar.specs.declared.class.Class.TheVariants.{OpenBrace, CloseBrace}
use Rattle.pg_read_grammar.specs.declared.nesting.TheConstants.{INNER_NESTING_LIMIT}
use Rattle.pg_read_grammar.specs.declared.token.Fault.TheVariants.{Unsupported}
use Rattle.pg_read_grammar.specs.Classes.{is, is_word}
use Rattle.pg_read_grammar.specs.Language.{Gram, one, give, refused, ◌or◌, ◌>>=◌, many}
use Rattle.pg_read_grammar.specs.Grammar.{name_of, drop_value, type_in, skip_to, attribute, attribute_name, metadata_name, attributes}
use Rattle.pg_read_grammar.specs.GrammarItems.{TypeItem, GlobalItem, DeclareItem, DefineItem, global_head, declare_head, define_whole, node, no_item}
use Rattle.pg_read_grammar.specs.ReaderItems.{AfterItem, Done, Declared, Valued, Tailed, Items, items, add_item, begins_item}
use Rattle.pg_read_ast.specs.Syntax.{NamedType, Tree}
use Rattle.pg_read_grammar.proofs.ChoicesPast.{past}

-- = [distinct] (! { skip } | Meta ( skip ))
abbrev pub node_tail : Gram (Unit {0})
node_tail = do
  _ ← one (is Equals)
  _ ← drop_value (one (is Distinct)) or give tt
  node

-- , attrs
abbrev pub tail : Gram (Unit {0})
tail = do
  _ ← one (is Comma)
  attributes

-- (, attrs)*
abbrev pub tails : Gram (Unit {0})
tails = drop_value (many tail)

abbrev pub type_whole : Gram NamedType
type_whole = do
  n ← one (is Local)
  _ ← one (is Equals)
  _ ← one (is TypeWord)
  t ← type_in NESTING_LIMIT
  give (record { name = name_of n; ty = t })

abbrev pub attributes_whole : Gram (Unit {0})
attributes_whole = do
  _ ← one (is Attributes)
  _ ← one attribute_name
  _ ← one (is Equals)
  _ ← one (is OpenBrace)
  skip_to INNER_NESTING_LIMIT CloseBrace

abbrev pub text_whole : Gram (Unit {0})
text_whole = (do
  _ ← one (is SourceFilename)
  _ ← one (is Equals)
  drop_value (one (is Str))) or (do
    _ ← one (is Target)
    _ ← one is_word
    _ ← one (is Equals)
    drop_value (one (is Str)))

abbrev pub opened_item : Tree → Gram Items
opened_item t = (do
  _ ← one metadata_name
  _ ← node_tail
  give (items t Done)) or ((do
    g ← global_head
    give (items (add_item t (GlobalItem g)) Valued)) or ((do
      d ← declare_head
      give (items (add_item t (DeclareItem d)) Declared)) or ((do
        d ← define_whole
        give (items (add_item t (DefineItem d)) Done)) or ((do
          n ← type_whole
          give (items (add_item t (TypeItem n)) Done)) or ((do
            _ ← attributes_whole
            give (items t Done)) or (do
              _ ← text_whole
              give (items t Done)))))))

abbrev pub behind_attributes_item : Tree → AfterItem → Gram Items
behind_attributes_item t after = (do
  _ ← one metadata_name
  (do
    _ ← one metadata_name
    give (items t after)) or (do
      _ ← node_tail
      give (items t Done))) or past metadata_name (opened_item t or past begins_item (do
        _ ← attribute
        give (items t after)))

abbrev pub comma_or_item : Tree → Gram Items → Gram Items
comma_or_item t g = (do
  _ ← one (is Comma)
  give (items t Tailed)) or g

abbrev pub next_item_of : Tree → AfterItem → Gram Items
next_item_of t Done = opened_item t
next_item_of t Declared = behind_attributes_item t Declared
next_item_of t Valued = comma_or_item t (opened_item t)
next_item_of t Tailed = comma_or_item t (behind_attributes_item t Tailed)

abbrev pub next_item : Items → Gram Items
next_item s = next_item_of s.tree s.after

abbrev pub items_end : Items → Gram Tree
items_end s = give s.tree or refused Unsupported no_item
