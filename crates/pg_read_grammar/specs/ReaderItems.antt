-- The reading of bodies and items.
use Rattle.std.specs.Prelude.{List, [], ◌∷◌, ◌++◌, Option, Some, None, Bool, true, false, ◌||◌, length, if◌then◌else◌}
use Rattle.pg_num.specs.declared.limits.TheConstants.{NESTING_LIMIT}
use Rattle.pg_read_grammar.specs.declared.class.Class.{Class}
use Rattle.pg_read_grammar.specs.declared.class.Class.TheVariants.{MetadataWord, Void, TypeWord, Distinct, GlobalWord}
use Rattle.pg_read_grammar.specs.declared.class.Class.TheVariants.{ConstantWord, SourceFilename, Target, Declare, Define}
use Rattle.pg_read_grammar.specs.declared.class.Class.TheVariants.{Attributes, IntToPtr, TailWord, Call, Ret, GetElementPtr}
use Rattle.pg_read_grammar.specs.declared.class.Class.TheVariants.{Label, Int, Dots, Str, Local, Meta, Bang, DebugAttr}
use Rattle.pg_read_grammar.specs.declared.class.Class.TheVariants.{Comma, Equals, OpenRound, CloseRound, OpenBrace}
use Rattle.pg_read_grammar.specs.declared.class.Class.TheVariants.{CloseBrace}
use Rattle.pg_read_grammar.specs.declared.nesting.TheConstants.{INNER_NESTING_LIMIT}
use Rattle.pg_read_grammar.specs.declared.token.Token.{Token}
use Rattle.pg_read_grammar.specs.declared.token.Fault.TheVariants.{Unsupported}
use Rattle.pg_read_grammar.specs.Classes.{is, is_word, ◌∪◌}
use Rattle.pg_read_grammar.specs.Reading.{Read, Good, ◌>>=◌, take_one, choose, unless, run}
use Rattle.pg_read_grammar.specs.Grammar.{name_of, global_name, attribute_name, metadata_name}
use Rattle.pg_read_grammar.specs.GrammarOps.{op_word, no_op}
use Rattle.pg_read_grammar.specs.GrammarItems.{Part, LabelPart, LinePart, DroppedPart, line_of, ends_block, alone, Item, TypeItem, GlobalItem, DeclareItem, DefineItem, OtherItem, no_item}
use Rattle.pg_read_grammar.specs.Reader.{listed_at, type_at, drop_value_at, skip_at, flags_at, begins_plain, plain_value_at}
use Rattle.pg_read_grammar.specs.Reader.{int_or, value_at, gep_tail_at, int_to_ptr_tail_at, const_at, begins_attribute}
use Rattle.pg_read_grammar.specs.Reader.{attribute_at, attributes_at}
use Rattle.pg_read_grammar.specs.ReaderOps.{typed_value_at, metadata_at, metadata_tail_at, cast_tail_at, gep_op_tail_at, call_at, simple_op_at}
use Rattle.pg_read_lex.specs.declared.token.Span.{Span}
use Rattle.pg_read_ast.specs.Syntax.{Val, Typed, Op, Line, Block, Param, Dparam, Tree, NamedType, Variable, Declaration, Definition}
use Rattle.pg_read_ast.specs.Syntax as syntax
use Rattle.pg_read_ast.specs.declared.names.Name.{Name}

-- ---- blocks, a part at a time

-- the last of these lines ends a block
abbrev pub is_closed : List Line → Bool
is_closed [] = false
is_closed (l ∷ []) = ends_block l.op
is_closed (l ∷ m ∷ ls) = is_closed (m ∷ ls)

abbrev pub begins_block : Part → Bool
begins_block (LabelPart n) = true
begins_block (LinePart l) = false
begins_block DroppedPart = false

-- a block with this part behind its lines
abbrev pub with_back : Block → Part → Block
with_back b (LabelPart n) = b
with_back b (LinePart l) = record { label = b.label; lines = b.lines ++ l ∷ [] }
with_back b DroppedPart = b

-- the blocks, and a part behind them
unfoldable pub add_part : List Block → Part → List Block
add_part [] p = alone p ∷ []
add_part (b ∷ []) p = if is_closed b.lines || begins_block p then b ∷ alone p ∷ [] else with_back b p ∷ []
add_part (b ∷ c ∷ bs) p = b ∷ add_part (c ∷ bs) p

-- ---- bodies

-- What stands before a place in a body: complete lines; a call, whose attributes may go on; or ret void with these
-- places, behind which a value may come.
pub data After : Type 0 where
  Complete : After
  Called : After
  Returned : Option Name → Span → Span → After

pub record Body : Type 0 where
  pub blocks : List Block
  pub after : After

abbrev pub complete : List Block → Body
complete bs = record { blocks = bs; after = Complete }

abbrev pub add_line : List Block → Option Name → Op → List Block
add_line bs name o = add_part bs (LinePart (record { name = name; op = o }))

-- behind a call, or behind one of its attributes
abbrev pub called_at : List Block → List Token → Read Body
called_at bs = choose (is Comma) (λ ts. take_one (is Comma) ts >>= λ _ ts. metadata_tail_at ts >>= λ _. Good (complete bs)) (Good (record { blocks = bs; after = Called }))

-- a value of ret void
abbrev pub void_value : Span → Val → Typed
void_value void v = record { ty = syntax.Void void; value = v }

-- an integer, one word or a global
abbrev pub begins_certain : Class → Bool
begins_certain = is Int ∪ begins_plain

-- behind ret void: a Local, getelementptr and inttoptr are left to the next part
abbrev pub void_at : List Block → Option Name → Span → Span → List Token → Read Body
void_at bs name o void =
    choose begins_certain (λ ts. int_or plain_value_at ts >>= λ v ts. metadata_at ts >>= λ _. Good (complete (add_line bs name (syntax.Ret o (void_value void v)))))
    (choose (is Comma) (λ ts. take_one (is Comma) ts >>= λ _ ts. metadata_tail_at ts >>= λ _. Good (complete (add_line bs name (syntax.RetVoid o void))))
    (Good (record { blocks = bs; after = Returned name o void })))

unfoldable pub return_at : List Block → Option Name → List Token → Read Body
return_at bs name ts =
    take_one (is Ret) ts >>= λ o.
    choose (is Void) (λ ts. take_one (is Void) ts >>= λ t. void_at bs name o.span t.span)
    (λ ts. typed_value_at ts >>= λ v ts. metadata_at ts >>= λ _. Good (complete (add_line bs name (syntax.Ret o.span v))))

abbrev pub begins_call : Class → Bool
begins_call = is Call ∪ is TailWord

-- an operation
unfoldable pub op_at : List Block → Option Name → List Token → Read Body
op_at bs name = choose begins_call (λ ts. call_at ts >>= λ c. called_at (add_part bs (line_of name c)))
    (choose (is Ret) (return_at bs name) (λ ts. simple_op_at ts >>= λ o. Good (complete (add_line bs name o))))

-- ( skip ), behind an Attr that begins with #dbg_
abbrev pub debug_tail_at : List Block → List Token → Read Body
debug_tail_at bs ts =
    take_one (is OpenRound) ts >>= λ _ ts.
    skip_at INNER_NESTING_LIMIT CloseRound ts >>= λ _.
    Good (complete (add_part bs DroppedPart))

-- = op, behind the name
abbrev pub named_tail_at : List Block → Name → List Token → Read Body
named_tail_at bs name ts = take_one (is Equals) ts >>= λ _. unless Unsupported no_op (op_at bs (Some name))

abbrev pub begins_part : Class → Bool
begins_part = is Label ∪ (is DebugAttr ∪ (is Local ∪ op_word))

-- a label or a line, as far as it is certain
unfoldable pub part_at : List Block → List Token → Read Body
part_at bs = choose (is Label) (λ ts. take_one (is Label) ts >>= λ t. Good (complete (add_part bs (LabelPart (name_of t)))))
    (choose (is DebugAttr) (λ ts. take_one (is DebugAttr) ts >>= λ _. debug_tail_at bs)
    (choose (is Local) (λ ts. take_one (is Local) ts >>= λ t. named_tail_at bs (name_of t)) (op_at bs None)))

-- behind a call: more of its attributes, or the next part
abbrev pub behind_call_at : List Block → List Token → Read Body
behind_call_at bs = choose (is DebugAttr) (λ ts. take_one (is DebugAttr) ts >>= λ _. choose (is OpenRound) (debug_tail_at bs) (called_at bs))
    (choose begins_part (part_at bs) (λ ts. attribute_at ts >>= λ _. called_at bs))

-- a value behind ret void, and the metadata behind it
abbrev pub void_value_at : List Block → Option Name → Span → Span → (List Token → Read Val) → List Token → Read Body
void_value_at bs name o void r ts =
    r ts >>= λ v ts.
    metadata_at ts >>= λ _.
    Good (complete (add_line bs name (syntax.Ret o (void_value void v))))

-- behind ret void: a value that is no operation and no name of the next line, or the next part
abbrev pub behind_void_at : List Block → Option Name → Span → Span → List Token → Read Body
behind_void_at bs name o void =
    choose (is Local) (λ ts. take_one (is Local) ts >>= λ t. choose (is Equals)
    (named_tail_at (add_line bs name (syntax.RetVoid o void)) (name_of t))
    (void_value_at bs name o void (Good (syntax.Local (name_of t)))))
    (choose (is GetElementPtr) (λ ts. take_one (is GetElementPtr) ts >>= λ t ts. flags_at ts >>= λ _. choose (is OpenRound)
    (void_value_at bs name o void (gep_tail_at INNER_NESTING_LIMIT (value_at INNER_NESTING_LIMIT) t))
    (λ ts. gep_op_tail_at t ts >>= λ p. Good (complete (add_line (add_line bs name (syntax.RetVoid o void)) None p))))
    (choose (is IntToPtr) (λ ts. take_one (is IntToPtr) ts >>= λ t. choose (is OpenRound) (void_value_at bs name o void (int_to_ptr_tail_at INNER_NESTING_LIMIT t))
    (λ ts. cast_tail_at t ts >>= λ p ts. metadata_at ts >>= λ _. Good (complete (add_line (add_line bs name (syntax.RetVoid o void)) None p))))
    (part_at (add_line bs name (syntax.RetVoid o void)))))

abbrev pub next_part_by : List Block → After → List Token → Read Body
next_part_by bs Complete = part_at bs
next_part_by bs Called = behind_call_at bs
next_part_by bs (Returned name o void) = behind_void_at bs name o void

-- the next part of a body
unfoldable pub next_part_at : Body → List Token → Read Body
next_part_at b = next_part_by b.blocks b.after

abbrev pub begins_after : After → Class → Bool
begins_after Complete = begins_part
begins_after Called = is DebugAttr ∪ (begins_part ∪ begins_attribute)
begins_after (Returned name o void) = begins_part

abbrev pub begins_next : Body → Class → Bool
begins_next b = begins_after b.after

abbrev pub blocks_by : List Block → After → List Block
blocks_by bs Complete = bs
blocks_by bs Called = bs
blocks_by bs (Returned name o void) = add_line bs name (syntax.RetVoid o void)

-- the end of a body
abbrev pub body_end_at : Body → List Token → Read (List Block)
body_end_at b = unless Unsupported no_op (λ ts. take_one (is CloseBrace) ts >>= λ _. Good (blocks_by b.blocks b.after))

unfoldable pub body_at : List Token → Read (List Block)
body_at ts = take_one (is OpenBrace) ts >>= λ _ ts. run begins_next next_part_at body_end_at (length ts) (complete []) ts

-- ---- parameters

unfoldable pub param_at : List Token → Read Param
param_at ts =
    type_at NESTING_LIMIT ts >>= λ t ts.
    attributes_at ts >>= λ _ ts.
    choose (is Local) (λ ts. take_one (is Local) ts >>= λ n. Good (Some (name_of n))) (Good None) ts >>= λ name.
    Good (record { ty = t; name = name })

abbrev pub dparam_at : List Token → Read Dparam
dparam_at = choose (is MetadataWord) (λ ts. take_one (is MetadataWord) ts >>= λ t. Good (syntax.Metadata t.span))
    (choose (is Dots) (λ ts. take_one (is Dots) ts >>= λ t. Good (syntax.Dots t.span)) (λ ts. param_at ts >>= λ p. Good (syntax.ParamOf p)))

abbrev pub defined_param_at : List Token → Read Param
defined_param_at = unless Unsupported (is Dots) param_at

-- ---- items

-- What stands before a place among the items: complete items; a declare, whose attributes may go on; the constant of
-- a global, behind which a comma may come; or the attributes behind such a comma.
pub data AfterItem : Type 0 where
  Done : AfterItem
  Declared : AfterItem
  Valued : AfterItem
  Tailed : AfterItem

pub record Items : Type 0 where
  pub tree : Tree
  pub after : AfterItem

abbrev pub empty : Tree
empty = record { types = []; globals = []; declares = []; functions = [] }

-- an item behind the others
abbrev pub add_item : Tree → Item → Tree
add_item t (TypeItem i) = record { types = t.types ++ i ∷ []; globals = t.globals; declares = t.declares; functions = t.functions }
add_item t (GlobalItem i) = record { types = t.types; globals = t.globals ++ i ∷ []; declares = t.declares; functions = t.functions }
add_item t (DeclareItem i) = record { types = t.types; globals = t.globals; declares = t.declares ++ i ∷ []; functions = t.functions }
add_item t (DefineItem i) = record { types = t.types; globals = t.globals; declares = t.declares; functions = t.functions ++ i ∷ [] }
add_item t OtherItem = t

abbrev pub node_at : List Token → Read (Unit {0})
node_at =
    choose (is Meta) (λ ts. take_one (is Meta) ts >>= λ _ ts. take_one (is OpenRound) ts >>= λ _. skip_at INNER_NESTING_LIMIT CloseRound)
    (λ ts. take_one (is Bang) ts >>= λ _. choose (is OpenBrace)
    (λ ts. take_one (is OpenBrace) ts >>= λ _. skip_at INNER_NESTING_LIMIT CloseBrace)
    (λ ts. take_one (is OpenRound) ts >>= λ _. skip_at INNER_NESTING_LIMIT CloseRound))

-- = [distinct] (! { skip } | Meta ( skip )), behind a Meta
unfoldable pub metadata_item_tail_at : List Token → Read (Unit {0})
metadata_item_tail_at ts =
    take_one (is Equals) ts >>= λ _ ts.
    choose (is Distinct) (drop_value_at (take_one (is Distinct))) (Good tt) ts >>= λ _.
    node_at

abbrev pub constancy_at : List Token → Read Bool
constancy_at = choose (is GlobalWord) (λ ts. take_one (is GlobalWord) ts >>= λ _. Good false) (λ ts. take_one (is ConstantWord) ts >>= λ _. Good true)

-- a global without what stands behind its constant
unfoldable pub global_item_at : List Token → Read Variable
global_item_at ts =
    take_one global_name ts >>= λ n ts.
    take_one (is Equals) ts >>= λ _ ts.
    attributes_at ts >>= λ _ ts.
    constancy_at ts >>= λ c ts.
    type_at NESTING_LIMIT ts >>= λ t ts.
    const_at NESTING_LIMIT ts >>= λ v.
    Good (record { name = name_of n; is_constant = c; ty = t; value = v })

-- a declare without the attributes behind its parameters
unfoldable pub declare_item_at : List Token → Read Declaration
declare_item_at ts =
    take_one (is Declare) ts >>= λ _ ts.
    attributes_at ts >>= λ _ ts.
    type_at NESTING_LIMIT ts >>= λ t ts.
    take_one global_name ts >>= λ n ts.
    take_one (is OpenRound) ts >>= λ _ ts.
    listed_at CloseRound dparam_at ts >>= λ ps.
    Good (record { result = t; name = name_of n; params = ps })

unfoldable pub define_item_at : List Token → Read Definition
define_item_at ts =
    take_one (is Define) ts >>= λ _ ts.
    attributes_at ts >>= λ _ ts.
    type_at NESTING_LIMIT ts >>= λ t ts.
    take_one global_name ts >>= λ n ts.
    take_one (is OpenRound) ts >>= λ _ ts.
    listed_at CloseRound defined_param_at ts >>= λ ps ts.
    attributes_at ts >>= λ _ ts.
    body_at ts >>= λ bs.
    Good (record { result = t; name = name_of n; params = ps; blocks = bs })

unfoldable pub type_item_at : List Token → Read NamedType
type_item_at ts =
    take_one (is Local) ts >>= λ n ts.
    take_one (is Equals) ts >>= λ _ ts.
    take_one (is TypeWord) ts >>= λ _ ts.
    type_at NESTING_LIMIT ts >>= λ t.
    Good (record { name = name_of n; ty = t })

unfoldable pub attributes_item_at : List Token → Read (Unit {0})
attributes_item_at ts =
    take_one (is Attributes) ts >>= λ _ ts.
    take_one attribute_name ts >>= λ _ ts.
    take_one (is Equals) ts >>= λ _ ts.
    take_one (is OpenBrace) ts >>= λ _.
    skip_at INNER_NESTING_LIMIT CloseBrace

unfoldable pub text_item_at : List Token → Read (Unit {0})
text_item_at = choose (is SourceFilename) (λ ts. take_one (is SourceFilename) ts >>= λ _ ts. take_one (is Equals) ts >>= λ _. drop_value_at (take_one (is Str)))
    (λ ts. take_one (is Target) ts >>= λ _ ts. take_one is_word ts >>= λ _ ts. take_one (is Equals) ts >>= λ _. drop_value_at (take_one (is Str)))

abbrev pub items : Tree → AfterItem → Items
items t after = record { tree = t; after = after }

abbrev pub begins_item : Class → Bool
begins_item = metadata_name ∪ (global_name ∪ (is Declare ∪ (is Define ∪ (is Local ∪ (is Attributes ∪ (is SourceFilename ∪ is Target))))))

-- an item, as far as it is certain
unfoldable pub item_at : Tree → List Token → Read Items
item_at t = choose metadata_name (λ ts. take_one metadata_name ts >>= λ _ ts. metadata_item_tail_at ts >>= λ _. Good (items t Done))
    (choose global_name (λ ts. global_item_at ts >>= λ g. Good (items (add_item t (GlobalItem g)) Valued))
    (choose (is Declare) (λ ts. declare_item_at ts >>= λ d. Good (items (add_item t (DeclareItem d)) Declared))
    (choose (is Define) (λ ts. define_item_at ts >>= λ d. Good (items (add_item t (DefineItem d)) Done))
    (choose (is Local) (λ ts. type_item_at ts >>= λ n. Good (items (add_item t (TypeItem n)) Done))
    (choose (is Attributes) (λ ts. attributes_item_at ts >>= λ _. Good (items t Done))
    (λ ts. text_item_at ts >>= λ _. Good (items t Done)))))))

-- more attributes, or the next item
abbrev pub behind_attributes_at : Tree → AfterItem → List Token → Read Items
behind_attributes_at t after =
    choose metadata_name (λ ts. take_one metadata_name ts >>= λ _. choose metadata_name
    (λ ts. take_one metadata_name ts >>= λ _. Good (items t after))
    (λ ts. metadata_item_tail_at ts >>= λ _. Good (items t Done)))
    (choose begins_item (item_at t) (λ ts. attribute_at ts >>= λ _. Good (items t after)))

-- a comma behind a global, or what else comes
abbrev pub comma_or : Tree → (List Token → Read Items) → List Token → Read Items
comma_or t = choose (is Comma) (λ ts. take_one (is Comma) ts >>= λ _. Good (items t Tailed))

abbrev pub next_item_by : Tree → AfterItem → List Token → Read Items
next_item_by t Done = item_at t
next_item_by t Declared = behind_attributes_at t Declared
next_item_by t Valued = comma_or t (item_at t)
next_item_by t Tailed = comma_or t (behind_attributes_at t Tailed)

unfoldable pub next_item_at : Items → List Token → Read Items
next_item_at s = next_item_by s.tree s.after

abbrev pub begins_after_item : AfterItem → Class → Bool
begins_after_item Done = begins_item
begins_after_item Declared = metadata_name ∪ (begins_item ∪ begins_attribute)
begins_after_item Valued = is Comma ∪ begins_item
begins_after_item Tailed = is Comma ∪ (metadata_name ∪ (begins_item ∪ begins_attribute))

abbrev pub begins_next_item : Items → Class → Bool
begins_next_item s = begins_after_item s.after

-- the end of the items: no other Word may begin one
abbrev pub items_end_at : Items → List Token → Read Tree
items_end_at s = unless Unsupported no_item (Good s.tree)

unfoldable pub program_at : List Token → Read Tree
program_at ts = run begins_next_item next_item_at items_end_at (length ts) (items empty Done) ts
