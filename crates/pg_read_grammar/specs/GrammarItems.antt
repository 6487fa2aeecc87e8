-- The grammar of lines, functions and items, and of a whole program text.
use Rattle.std.specs.Prelude.{List, [], ◌∷◌, Option, Some, None, Bool, true, false, ◌&&◌, ◌||◌, not, if◌then◌else◌}
use Rattle.pg_num.specs.declared.limits.TheConstants.{NESTING_LIMIT}
use Rattle.pg_read_grammar.specs.declared.class.Class.{Class}
use Rattle.pg_read_grammar.specs.declared.class.Class.TheVariants.{MetadataWord, TypeWord, Distinct, GlobalWord}
use Rattle.pg_read_grammar.specs.declared.class.Class.TheVariants.{ConstantWord, SourceFilename, Target, Declare, Define}
use Rattle.pg_read_grammar.specs.declared.class.Class.TheVariants.{Attributes, Label, Dots, Str, Local, Meta, Bang}
use Rattle.pg_read_grammar.specs.declared.class.Class.TheVariants.{DebugAttr, Comma, Equals, OpenRound, CloseRound}
use Rattle.pg_read_grammar.specs.declared.class.Class.TheVariants.{OpenBrace, CloseBrace}
use Rattle.pg_read_grammar.specs.declared.nesting.TheConstants.{INNER_NESTING_LIMIT}
use Rattle.pg_read_grammar.specs.declared.token.Fault.TheVariants.{Unsupported}
use Rattle.pg_read_grammar.specs.Classes.{is, is_word, ◌∪◌}
use Rattle.pg_read_grammar.specs.Language.{Gram, give, one, refused, ◌or◌, ◌>>=◌, many}
use Rattle.pg_read_grammar.specs.Grammar.{listed, name_of, drop_value, global_name, type_in, skip_to, attribute_name, metadata_name, attributes, const_in}
use Rattle.pg_read_grammar.specs.GrammarOps.{op}
use Rattle.pg_read_ast.specs.Syntax.{Op, RetVoid, Ret, Br, CondBr, Switch, Unreachable, Line, Block, Param, Dparam, NamedType, Variable, Declaration, Definition, Tree}
use Rattle.pg_read_ast.specs.Syntax as syntax
use Rattle.pg_read_ast.specs.declared.names.Name.{Name}

-- ---- lines

-- a part of a function's body: a label, a line, or a line that is dropped
pub data Part : Type 0 where
  LabelPart : Name → Part
  LinePart : Line → Part
  DroppedPart : Part

-- (, Meta Meta)*
abbrev pub metadata : Gram (Unit {0})
metadata = drop_value (many (do
  _ ← one (is Comma)
  _ ← one metadata_name
  one metadata_name))

-- the line of an operation, with the name before it or none
abbrev pub line_of : Option Name → Option Op → Part
line_of name (Some o) = LinePart (record { name = name; op = o })
line_of name None = DroppedPart

-- [Local =]
abbrev pub result_name : Gram (Option Name)
result_name = (do
  t ← one (is Local)
  _ ← one (is Equals)
  give (Some (name_of t))) or give None

-- [Local =] op (, Meta Meta)*
abbrev pub op_line : Gram Part
op_line = do
  name ← result_name
  o ← op
  _ ← metadata
  give (line_of name o)

-- Attr ( skip ), where the Attr begins with #dbg_
abbrev pub debug_line : Gram Part
debug_line = do
  _ ← one (is DebugAttr)
  _ ← one (is OpenRound)
  _ ← skip_to INNER_NESTING_LIMIT CloseRound
  give DroppedPart

abbrev pub part : Gram Part
part = (do
  t ← one (is Label)
  give (LabelPart (name_of t))) or (debug_line or op_line)

-- ---- blocks

abbrev pub ends_block : Op → Bool
ends_block (Br s b) = true
ends_block (CondBr s c a b) = true
ends_block (Switch s v b cases) = true
ends_block (RetVoid s v) = true
ends_block (Ret s v) = true
ends_block (Unreachable s) = true
ends_block _ = false

abbrev pub ends : Part → Bool
ends (LabelPart n) = false
ends (LinePart l) = ends_block l.op
ends DroppedPart = false

abbrev pub has_label : Option Name → Bool
has_label None = false
has_label (Some n) = true

-- a block with this part at its front
abbrev pub with_front : Part → Block → Block
with_front (LabelPart n) b = record { label = Some n; lines = b.lines }
with_front (LinePart l) b = record { label = b.label; lines = l ∷ b.lines }
with_front DroppedPart b = b

abbrev pub alone : Part → Block
alone p = with_front p (record { label = None; lines = [] })

-- A part stands in the block of the part after it, unless it ends a block or a label comes after it.
abbrev pub before : Part → List Block → List Block
before p [] = alone p ∷ []
before p (b ∷ bs) = if ends p || has_label b.label then alone p ∷ b ∷ bs else with_front p b ∷ bs

-- the blocks of a body
unfoldable pub blocks_of : List Part → List Block
blocks_of [] = []
blocks_of (p ∷ ps) = before p (blocks_of ps)

-- { block* }
abbrev pub body : Gram (List Block)
body = do
  _ ← one (is OpenBrace)
  ps ← many part
  _ ← one (is CloseBrace)
  give (blocks_of ps)

-- ---- parameters

-- type attrs [Local]
abbrev pub param : Gram Param
param = do
  t ← type_in NESTING_LIMIT
  _ ← attributes
  name ← (do
    n ← one (is Local)
    give (Some (name_of n))) or give None
  give (record { ty = t; name = name })

-- param | metadata | Dots
abbrev pub dparam : Gram Dparam
dparam = (do
  t ← one (is MetadataWord)
  give (syntax.Metadata t.span)) or ((do
    t ← one (is Dots)
    give (syntax.Dots t.span)) or (do
      p ← param
      give (syntax.ParamOf p)))

-- ---- items

pub data Item : Type 0 where
  TypeItem : NamedType → Item
  GlobalItem : Variable → Item
  DeclareItem : Declaration → Item
  DefineItem : Definition → Item
  OtherItem : Item

-- source_filename = Str | target Word = Str
abbrev pub text_item : Gram Item
text_item = (do
  _ ← one (is SourceFilename)
  _ ← one (is Equals)
  _ ← one (is Str)
  give OtherItem) or (do
    _ ← one (is Target)
    _ ← one is_word
    _ ← one (is Equals)
    _ ← one (is Str)
    give OtherItem)

-- Local = type type, where the first is the word
abbrev pub type_item : Gram Item
type_item = do
  n ← one (is Local)
  _ ← one (is Equals)
  _ ← one (is TypeWord)
  t ← type_in NESTING_LIMIT
  give (TypeItem (record { name = name_of n; ty = t }))

-- global | constant
abbrev pub constancy : Gram Bool
constancy = (do
  _ ← one (is GlobalWord)
  give false) or (do
    _ ← one (is ConstantWord)
    give true)

-- Global = attrs (global|constant) type const
abbrev pub global_head : Gram Variable
global_head = do
  n ← one global_name
  _ ← one (is Equals)
  _ ← attributes
  c ← constancy
  t ← type_in NESTING_LIMIT
  v ← const_in NESTING_LIMIT
  give (record { name = name_of n; is_constant = c; ty = t; value = v })

-- a global (, attrs)*
abbrev pub global_item : Gram Item
global_item = do
  g ← global_head
  _ ← drop_value (many (do
    _ ← one (is Comma)
    attributes))
  give (GlobalItem g)

-- declare attrs type Global ( [dparam (, dparam)*] )
abbrev pub declare_head : Gram Declaration
declare_head = do
  _ ← one (is Declare)
  _ ← attributes
  t ← type_in NESTING_LIMIT
  n ← one global_name
  _ ← one (is OpenRound)
  ps ← listed CloseRound dparam
  give (record { result = t; name = name_of n; params = ps })

-- a declaration attrs
abbrev pub declare_item : Gram Item
declare_item = do
  d ← declare_head
  _ ← attributes
  give (DeclareItem d)

-- define attrs type Global ( [param (, param)*] ) attrs { block* }, where Dots aren't supported as a param
abbrev pub define_whole : Gram Definition
define_whole = do
  _ ← one (is Define)
  _ ← attributes
  t ← type_in NESTING_LIMIT
  n ← one global_name
  _ ← one (is OpenRound)
  ps ← listed CloseRound (param or refused Unsupported (is Dots))
  _ ← attributes
  bs ← body
  give (record { result = t; name = name_of n; params = ps; blocks = bs })

abbrev pub define_item : Gram Item
define_item = do
  d ← define_whole
  give (DefineItem d)

-- attributes Attr = { skip }
abbrev pub attributes_item : Gram Item
attributes_item = do
  _ ← one (is Attributes)
  _ ← one attribute_name
  _ ← one (is Equals)
  _ ← one (is OpenBrace)
  _ ← skip_to INNER_NESTING_LIMIT CloseBrace
  give OtherItem

-- ! { skip } | Meta ( skip )
abbrev pub node : Gram (Unit {0})
node = (do
  _ ← one (is Meta)
  _ ← one (is OpenRound)
  skip_to INNER_NESTING_LIMIT CloseRound) or (do
    _ ← one (is Bang)
    (do
      _ ← one (is OpenBrace)
      skip_to INNER_NESTING_LIMIT CloseBrace) or (do
        _ ← one (is OpenRound)
        skip_to INNER_NESTING_LIMIT CloseRound))

-- Meta = [distinct] (! { skip } | Meta ( skip )), where ! alone is a Meta, too
abbrev pub metadata_item : Gram Item
metadata_item = do
  _ ← one metadata_name
  _ ← one (is Equals)
  _ ← drop_value (one (is Distinct)) or give tt
  _ ← node
  give OtherItem

abbrev pub item_word : Class → Bool
item_word = is SourceFilename ∪ (is Target ∪ (is Declare ∪ (is Define ∪ is Attributes)))

-- any other Word
abbrev pub no_item : Class → Bool
no_item c = is_word c && not (item_word c)

abbrev pub item : Gram Item
item = (metadata_item or (global_item or (declare_item or (define_item or (type_item or (attributes_item or text_item)))))) or refused Unsupported no_item

-- ---- a whole program text

abbrev pub types_of : List Item → List NamedType
types_of [] = []
types_of (TypeItem t ∷ xs) = t ∷ types_of xs
types_of (x ∷ xs) = types_of xs

abbrev pub globals_of : List Item → List Variable
globals_of [] = []
globals_of (GlobalItem g ∷ xs) = g ∷ globals_of xs
globals_of (x ∷ xs) = globals_of xs

abbrev pub declares_of : List Item → List Declaration
declares_of [] = []
declares_of (DeclareItem d ∷ xs) = d ∷ declares_of xs
declares_of (x ∷ xs) = declares_of xs

abbrev pub defines_of : List Item → List Definition
defines_of [] = []
defines_of (DefineItem d ∷ xs) = d ∷ defines_of xs
defines_of (x ∷ xs) = defines_of xs

-- the items of each kind, in the order of the text
abbrev pub tree : List Item → Tree
tree xs = record { types = types_of xs; globals = globals_of xs; declares = declares_of xs; functions = defines_of xs }

-- item*
abbrev pub program : Gram Tree
program = do
  xs ← many item
  give (tree xs)
