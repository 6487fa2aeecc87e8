-- The grammar of program texts.
use Rattle.std.specs.Prelude.{ℕ, zero, suc, List, [], ◌∷◌, Bool, true, false, ◌&&◌, ◌||◌, not}
use Rattle.pg_num.specs.declared.limits.TheConstants.{NESTING_LIMIT}
use Rattle.pg_read_grammar.specs.declared.class.Class.{Class}
use Rattle.pg_read_grammar.specs.declared.class.Class.TheVariants.{I1, I8, I16, I32, I64, Ptr, Void, X, To, Align, Volatile}
use Rattle.pg_read_grammar.specs.declared.class.Class.TheVariants.{Flag, Eq, Ne, Ugt, Uge, Ult, Ule, Sgt, Sge, Slt, Sle}
use Rattle.pg_read_grammar.specs.declared.class.Class.TheVariants.{TypeWord, Distinct, OtherWord, Refused, True, False}
use Rattle.pg_read_grammar.specs.declared.class.Class.TheVariants.{Null, Undef, Poison, ZeroInitializer, GetElementPtr}
use Rattle.pg_read_grammar.specs.declared.class.Class.TheVariants.{IntToPtr, Int, Str, CStr, Local, Global, DroppedGlobal}
use Rattle.pg_read_grammar.specs.declared.class.Class.TheVariants.{Meta, Bang, Attr, DebugAttr, Less, Comma, Equals}
use Rattle.pg_read_grammar.specs.declared.class.Class.TheVariants.{OpenRound, CloseRound, OpenBrace, CloseBrace, OpenSquare}
use Rattle.pg_read_grammar.specs.declared.class.Class.TheVariants.{CloseSquare}
use Rattle.pg_read_grammar.specs.declared.nesting.TheConstants.{INNER_NESTING_LIMIT}
use Rattle.pg_read_grammar.specs.declared.token.Token.{Token}
use Rattle.pg_read_grammar.specs.declared.token.Fault.TheVariants.{Unsupported, TooDeep}
use Rattle.pg_read_grammar.specs.Classes.{is, is_word, ◌∪◌}
use Rattle.pg_read_grammar.specs.Language.{Gram, give, one, refused, ◌or◌, ◌>>=◌, many}
use Rattle.pg_read_ast.specs.Syntax.{Ty, tys, Val, Typed, vals, Const, TypedC, consts}
use Rattle.pg_read_ast.specs.Syntax as syntax
use Rattle.pg_read_ast.specs.declared.names.Name.{Name}
use Rattle.pg_read_ast.specs.declared.names.Literal.{Literal}

-- an item, and more behind commas
abbrev pub separated : {A : Type 0} → Gram A → Gram (List A)
separated g = do
  a ← g
  more ← many (do
    _ ← one (is Comma)
    g)
  give (a ∷ more)

-- nothing, or items behind commas, up to a token
abbrev pub listed : {A : Type 0} → Class → Gram A → Gram (List A)
listed close g = (do
  _ ← one (is close)
  give []) or (do
    all ← separated g
    _ ← one (is close)
    give all)

-- the name and the literal that a token is
abbrev pub name_of : Token → Name
name_of t = record { text = t.text; span = t.span }

abbrev pub literal_of : Token → Literal
literal_of t = record { text = t.text; span = t.span }

abbrev pub global_name : Class → Bool
global_name = is Global ∪ is DroppedGlobal

-- ---- types

-- any Word but a type's, or `<`, where a type may begin
abbrev pub no_type : Class → Bool
no_type c = is Less c || (is_word c && not (is I1 c || is I8 c || is I16 c || is I32 c || is I64 c || is Ptr c || is Void c))

-- i1|i8|i16|i32|i64|ptr|void | Local
abbrev pub simple_type : Gram Ty
simple_type = (do
  t ← one (is I1)
  give (syntax.I1 t.span)) or ((do
    t ← one (is I8)
    give (syntax.I8 t.span)) or ((do
      t ← one (is I16)
      give (syntax.I16 t.span)) or ((do
        t ← one (is I32)
        give (syntax.I32 t.span)) or ((do
          t ← one (is I64)
          give (syntax.I64 t.span)) or ((do
            t ← one (is Ptr)
            give (syntax.Ptr t.span)) or ((do
              t ← one (is Void)
              give (syntax.Void t.span)) or (do
                t ← one (is Local)
                give (syntax.Named (name_of t)))))))))

abbrev pub opens_type : Class → Bool
opens_type = is OpenSquare ∪ is OpenBrace

-- [ Int x type ]
abbrev pub array_of : Gram Ty → Gram Ty
array_of g = do
  o ← one (is OpenSquare)
  n ← one (is Int)
  _ ← one (is X)
  t ← g
  _ ← one (is CloseSquare)
  give (syntax.Array o.span (literal_of n) t)

-- { [types] }
abbrev pub struct_of : Gram Ty → Gram Ty
struct_of g = do
  o ← one (is OpenBrace)
  ts ← listed CloseBrace g
  give (syntax.Struct o.span (tys ts))

-- a type in which at most this many brackets are open at once
unfoldable pub type_in : ℕ → Gram Ty
type_in zero = (simple_type or refused TooDeep opens_type) or refused Unsupported no_type
type_in (suc d) = (array_of (type_in d) or (struct_of (type_in d) or simple_type)) or refused Unsupported no_type

-- ---- skips and attributes

abbrev pub opens : Class → Bool
opens = is OpenRound ∪ (is OpenSquare ∪ is OpenBrace)

abbrev pub plain : Class → Bool
plain c = not (opens c || is CloseRound c || is CloseSquare c || is CloseBrace c)

-- a piece of which only that it is there is kept
abbrev pub drop_value : {A : Type 0} → Gram A → Gram (Unit {0})
drop_value g = do
  _ ← g
  give tt

-- tokens with their brackets balanced, at most this many open at once, up to a closing bracket
unfoldable pub skip_to : ℕ → Class → Gram (Unit {0})
skip_to zero close = do
  _ ← drop_value (many (one plain))
  drop_value (one (is close)) or refused TooDeep opens
skip_to (suc d) close = do
  _ ← drop_value (many ((do
    _ ← one (is OpenRound)
    skip_to d CloseRound) or ((do
      _ ← one (is OpenSquare)
      skip_to d CloseSquare) or ((do
        _ ← one (is OpenBrace)
        skip_to d CloseBrace) or drop_value (one plain)))))
  drop_value (one (is close))

-- the Words that an attribute may be
abbrev pub attribute_word : Class → Bool
attribute_word X = true
attribute_word To = true
attribute_word Align = true
attribute_word Volatile = true
attribute_word Flag = true
attribute_word Eq = true
attribute_word Ne = true
attribute_word Ugt = true
attribute_word Uge = true
attribute_word Ult = true
attribute_word Ule = true
attribute_word Sgt = true
attribute_word Sge = true
attribute_word Slt = true
attribute_word Sle = true
attribute_word TypeWord = true
attribute_word Distinct = true
attribute_word OtherWord = true
attribute_word _ = false

abbrev pub attribute_name : Class → Bool
attribute_name = is Attr ∪ is DebugAttr

abbrev pub metadata_name : Class → Bool
metadata_name = is Meta ∪ is Bang

-- Word [Int | ( skip )] | Attr | Str [= Str] | Meta Meta
abbrev pub attribute : Gram (Unit {0})
attribute = (do
  _ ← one attribute_word
  (drop_value (one (is Int))) or ((do
    _ ← one (is OpenRound)
    skip_to INNER_NESTING_LIMIT CloseRound) or give tt)) or (drop_value (one attribute_name) or ((do
      _ ← one (is Str)
      (do
        _ ← one (is Equals)
        drop_value (one (is Str))) or give tt) or (do
          _ ← one metadata_name
          drop_value (one metadata_name))))

abbrev pub attributes : Gram (Unit {0})
attributes = do
  _ ← drop_value (many attribute)
  give tt or refused Unsupported (is Refused)

-- ---- values

abbrev pub flags : Gram (Unit {0})
flags = drop_value (many (one (is Flag)))

-- a value that is one word, or a global
abbrev pub plain_value : Gram Val
plain_value = (do
  t ← one (is True)
  give (syntax.True t.span)) or ((do
    t ← one (is False)
    give (syntax.False t.span)) or ((do
      t ← one (is Null)
      give (syntax.Null t.span)) or ((do
        t ← one (is Undef)
        give (syntax.Undef t.span)) or ((do
          t ← one (is Poison)
          give (syntax.Poison t.span)) or ((do
            t ← one (is ZeroInitializer)
            give (syntax.ZeroInitializer t.span)) or (do
              t ← one global_name
              give (syntax.Global (name_of t))))))))

-- any value but an integer and a constant instruction
abbrev pub named_value : Gram Val
named_value = (do
  t ← one (is Local)
  give (syntax.Local (name_of t))) or plain_value

-- a value and the type before it
abbrev pub typed_in : ℕ → Gram Val → Gram Typed
typed_in d g = do
  t ← type_in d
  v ← g
  give (record { ty = t; value = v })

-- ( type , type val (, type val)* ), behind the flags of a getelementptr
abbrev pub gep_tail : ℕ → Gram Val → Token → Gram Val
gep_tail d g o = do
  _ ← one (is OpenRound)
  t ← type_in d
  _ ← one (is Comma)
  p ← typed_in d g
  all ← many (do
    _ ← one (is Comma)
    typed_in d g)
  _ ← one (is CloseRound)
  give (syntax.GepVal o.span t p.ty p.value (vals all))

-- getelementptr flags ( type , type val (, type val)* )
abbrev pub gep_of : ℕ → Gram Val → Gram Val
gep_of d g = do
  o ← one (is GetElementPtr)
  _ ← flags
  gep_tail d g o

-- ( type Int to type )
abbrev pub int_to_ptr_tail : ℕ → Token → Gram Val
int_to_ptr_tail d o = do
  _ ← one (is OpenRound)
  t ← type_in d
  n ← one (is Int)
  _ ← one (is To)
  u ← type_in d
  _ ← one (is CloseRound)
  give (syntax.IntToPtrVal o.span t (literal_of n) u)

-- inttoptr ( type Int to type )
abbrev pub int_to_ptr_of : ℕ → Gram Val
int_to_ptr_of d = do
  o ← one (is IntToPtr)
  int_to_ptr_tail d o

abbrev pub opens_value : Class → Bool
opens_value = is GetElementPtr ∪ is IntToPtr

-- any value but an integer
unfoldable pub other_value_in : ℕ → Gram Val
other_value_in zero = named_value or refused TooDeep opens_value
other_value_in (suc d) = gep_of d ((do
  n ← one (is Int)
  give (syntax.Int (literal_of n))) or other_value_in d) or (int_to_ptr_of d or named_value)

abbrev pub value_in : ℕ → Gram Val
value_in d = (do
  n ← one (is Int)
  give (syntax.Int (literal_of n))) or other_value_in d

-- ---- constants

-- a constant and the type before it
abbrev pub typed_const_in : ℕ → Gram Const → Gram TypedC
typed_const_in d g = do
  t ← type_in d
  c ← g
  give (record { ty = t; value = c })

-- [ [type const (, type const)*] ]
abbrev pub array_const_of : ℕ → Gram Const → Gram Const
array_const_of d g = do
  o ← one (is OpenSquare)
  all ← listed CloseSquare (typed_const_in d g)
  give (syntax.ArrayConst o.span (consts all))

-- { [type const (, type const)*] }
abbrev pub struct_const_of : ℕ → Gram Const → Gram Const
struct_const_of d g = do
  o ← one (is OpenBrace)
  all ← listed CloseBrace (typed_const_in d g)
  give (syntax.StructConst o.span (consts all))

-- val | CStr
abbrev pub simple_const_in : ℕ → Gram Const
simple_const_in d = (do
  t ← one (is CStr)
  give (syntax.BytesConst (literal_of t))) or (do
    v ← value_in d
    give (syntax.ValConst v))

-- a constant in which at most this many brackets are open at once
unfoldable pub const_in : ℕ → Gram Const
const_in zero = simple_const_in zero or refused TooDeep opens_type
const_in (suc d) = array_const_of d (const_in d) or (struct_const_of d (const_in d) or simple_const_in (suc d))

-- ---- arguments

-- type attrs val
abbrev pub argument : Gram Typed
argument = do
  t ← type_in NESTING_LIMIT
  _ ← attributes
  v ← value_in NESTING_LIMIT
  give (record { ty = t; value = v })
