-- What a token of the text is to the grammar: its class, and the bytes that it stands for.
use Rattle.std.specs.Prelude.{ℕ, ◌-◌, Bool, false, ◌&&◌, ◌||◌, ◌==◌, nat_eq, List, [], ◌∷◌, length, take, drop, map}
use Rattle.std.specs.Prelude.{Option, find, unwrap_or, codes, if◌then◌else◌}
use Rattle.std.specs.List.{starts_with}
use Rattle.std.specs.Str.{bytes_eq}
use Rattle.std.specs.Option.{option_map}
use Rattle.pg_read_lex.specs.declared.token.Span.{Span}
use Rattle.pg_read_lex.specs.declared.token.TokenKind.{TokenKind}
use Rattle.pg_read_lex.specs.declared.token.TokenKind.TheVariants as kinds
use Rattle.pg_read_lex.specs.declared.token.Token.{Token as Lexed}
use Rattle.pg_num.specs.Decimal.{are_digits}
use Rattle.pg_read_lex.specs.Names.{token_name}
use Rattle.pg_read_grammar.specs.declared.class.WordClass.{WordClass}
use Rattle.pg_read_grammar.specs.declared.class.Class.{Class}
use Rattle.pg_read_grammar.specs.declared.class.Class.TheVariants as classes
use Rattle.pg_read_grammar.specs.declared.token.Token.{Token}

-- i and digits
abbrev pub is_integer_type : List ℕ → Bool
is_integer_type [] = false
is_integer_type (b ∷ bs) = b == 105 && are_digits bs

-- the class of a word that the table doesn't have
abbrev pub class_by_form : List ℕ → Class
class_by_form word = if is_integer_type word then classes.OtherType else classes.OtherWord

-- the words of the grammar, each with its class
unfoldable pub words : List (List ℕ × Class)
words =
    (codes "i1", classes.I1) ∷
    (codes "i8", classes.I8) ∷
    (codes "i16", classes.I16) ∷
    (codes "i32", classes.I32) ∷
    (codes "i64", classes.I64) ∷
    (codes "ptr", classes.Ptr) ∷
    (codes "void", classes.Void) ∷
    (codes "metadata", classes.MetadataWord) ∷
    (codes "label", classes.LabelWord) ∷
    (codes "token", classes.OtherType) ∷
    (codes "opaque", classes.OtherType) ∷
    (codes "half", classes.OtherType) ∷
    (codes "bfloat", classes.OtherType) ∷
    (codes "float", classes.OtherType) ∷
    (codes "double", classes.OtherType) ∷
    (codes "fp128", classes.OtherType) ∷
    (codes "x86_fp80", classes.OtherType) ∷
    (codes "ppc_fp128", classes.OtherType) ∷
    (codes "x86_mmx", classes.OtherType) ∷
    (codes "x86_amx", classes.OtherType) ∷
    (codes "x", classes.X) ∷
    (codes "to", classes.To) ∷
    (codes "align", classes.Align) ∷
    (codes "volatile", classes.Volatile) ∷
    (codes "nsw", classes.Flag) ∷
    (codes "nuw", classes.Flag) ∷
    (codes "exact", classes.Flag) ∷
    (codes "inbounds", classes.Flag) ∷
    (codes "nusw", classes.Flag) ∷
    (codes "disjoint", classes.Flag) ∷
    (codes "nneg", classes.Flag) ∷
    (codes "samesign", classes.Flag) ∷
    (codes "eq", classes.Eq) ∷
    (codes "ne", classes.Ne) ∷
    (codes "ugt", classes.Ugt) ∷
    (codes "uge", classes.Uge) ∷
    (codes "ult", classes.Ult) ∷
    (codes "ule", classes.Ule) ∷
    (codes "sgt", classes.Sgt) ∷
    (codes "sge", classes.Sge) ∷
    (codes "slt", classes.Slt) ∷
    (codes "sle", classes.Sle) ∷
    (codes "type", classes.TypeWord) ∷
    (codes "distinct", classes.Distinct) ∷
    (codes "global", classes.GlobalWord) ∷
    (codes "constant", classes.ConstantWord) ∷
    (codes "true", classes.True) ∷
    (codes "false", classes.False) ∷
    (codes "null", classes.Null) ∷
    (codes "undef", classes.Undef) ∷
    (codes "poison", classes.Poison) ∷
    (codes "zeroinitializer", classes.ZeroInitializer) ∷
    (codes "source_filename", classes.SourceFilename) ∷
    (codes "target", classes.Target) ∷
    (codes "declare", classes.Declare) ∷
    (codes "define", classes.Define) ∷
    (codes "attributes", classes.Attributes) ∷
    (codes "add", classes.Add) ∷
    (codes "sub", classes.Sub) ∷
    (codes "mul", classes.Mul) ∷
    (codes "udiv", classes.Udiv) ∷
    (codes "sdiv", classes.Sdiv) ∷
    (codes "urem", classes.Urem) ∷
    (codes "srem", classes.Srem) ∷
    (codes "shl", classes.Shl) ∷
    (codes "lshr", classes.Lshr) ∷
    (codes "ashr", classes.Ashr) ∷
    (codes "and", classes.And) ∷
    (codes "or", classes.Or) ∷
    (codes "xor", classes.Xor) ∷
    (codes "icmp", classes.Icmp) ∷
    (codes "trunc", classes.Trunc) ∷
    (codes "zext", classes.Zext) ∷
    (codes "sext", classes.Sext) ∷
    (codes "ptrtoint", classes.PtrToInt) ∷
    (codes "inttoptr", classes.IntToPtr) ∷
    (codes "select", classes.Select) ∷
    (codes "phi", classes.Phi) ∷
    (codes "br", classes.Br) ∷
    (codes "switch", classes.Switch) ∷
    (codes "tail", classes.TailWord) ∷
    (codes "musttail", classes.TailWord) ∷
    (codes "notail", classes.TailWord) ∷
    (codes "call", classes.Call) ∷
    (codes "ret", classes.Ret) ∷
    (codes "unreachable", classes.Unreachable) ∷
    (codes "alloca", classes.Alloca) ∷
    (codes "load", classes.Load) ∷
    (codes "store", classes.Store) ∷
    (codes "getelementptr", classes.GetElementPtr) ∷
    (codes "fence", classes.OtherLeading) ∷
    (codes "cmpxchg", classes.OtherLeading) ∷
    (codes "atomicrmw", classes.OtherLeading) ∷
    (codes "invoke", classes.OtherLeading) ∷
    (codes "callbr", classes.OtherLeading) ∷
    (codes "indirectbr", classes.OtherLeading) ∷
    (codes "resume", classes.OtherLeading) ∷
    (codes "cleanupret", classes.OtherLeading) ∷
    (codes "catchret", classes.OtherLeading) ∷
    (codes "freeze", classes.OtherLeading) ∷
    (codes "extractvalue", classes.OtherLeading) ∷
    (codes "insertvalue", classes.OtherLeading) ∷
    (codes "module", classes.OtherLeading) ∷
    (codes "uselistorder", classes.OtherLeading) ∷
    (codes "thread_local", classes.Refused) ∷
    (codes "byval", classes.Refused) ∷
    (codes "byref", classes.Refused) ∷
    (codes "sret", classes.Refused) ∷
    (codes "inalloca", classes.Refused) ∷
    (codes "preallocated", classes.Refused) ∷
    (codes "external", classes.Refused) ∷
    (codes "extern_weak", classes.Refused) ∷
    (codes "alias", classes.Refused) ∷
    (codes "ifunc", classes.Refused) ∷
    (codes "addrspace", classes.Refused) ∷
    (codes "personality", classes.Refused) ∷
    (codes "gc", classes.Refused) ∷ []

-- the class of the row with this word
abbrev pub class_in : List (List ℕ × Class) → List ℕ → Option Class
class_in rows word = option_map (λ row. row.1) (find (λ row. bytes_eq row.0 word) rows)

unfoldable pub word_class : List ℕ → Class
word_class word = unwrap_or (class_in words word) (class_by_form word)

-- a global whose calls are dropped
unfoldable pub is_dropped : List ℕ → Bool
is_dropped name = starts_with nat_eq name (codes "llvm.lifetime.") || starts_with nat_eq name (codes "llvm.dbg.")

unfoldable pub is_debug : List ℕ → Bool
is_debug text = starts_with nat_eq text (codes "#dbg_")

-- the class of a token of this kind that stands for these bytes
abbrev pub class_of : TokenKind → List ℕ → Class
class_of kinds.Word text = word_class text
class_of kinds.Global name = if is_dropped name then classes.DroppedGlobal else classes.Global
class_of kinds.Meta text = if length text == 1 then classes.Bang else classes.Meta
class_of kinds.Attr text = if is_debug text then classes.DebugAttr else classes.Attr
class_of kinds.Label text = classes.Label
class_of kinds.Int text = classes.Int
class_of kinds.Dots text = classes.Dots
class_of kinds.CStr text = classes.CStr
class_of kinds.Odd text = classes.Odd
class_of kinds.Str text = classes.Str
class_of kinds.Local name = classes.Local
class_of kinds.OpenRound text = classes.OpenRound
class_of kinds.CloseRound text = classes.CloseRound
class_of kinds.OpenBrace text = classes.OpenBrace
class_of kinds.CloseBrace text = classes.CloseBrace
class_of kinds.OpenSquare text = classes.OpenSquare
class_of kinds.CloseSquare text = classes.CloseSquare
class_of kinds.Less text = classes.Less
class_of kinds.Greater text = classes.Greater
class_of kinds.Comma text = classes.Comma
class_of kinds.Equals text = classes.Equals
class_of kinds.Star text = classes.Star
class_of kinds.Bar text = classes.Bar
class_of kinds.Colon text = classes.Colon

-- the bytes of a span
abbrev pub bytes_at : List ℕ → Span → List ℕ
bytes_at text s = take (s.end - s.start) (drop s.start text)

-- what the bytes of a token stand for
abbrev pub stands_for : List ℕ → Lexed → List ℕ
stands_for text t = token_name t.kind (bytes_at text t.span)

abbrev pub seen : List ℕ → Lexed → Token
seen text t = record { class = class_of t.kind (stands_for text t); text = stands_for text t; span = t.span }

-- the tokens of the text as the grammar sees them
abbrev pub classified : List ℕ → List Lexed → List Token
classified text ts = map (seen text) ts

-- a row of the table in the code
abbrev pub row_of : WordClass → List ℕ × Class
row_of row = (row.word.now, row.class)
