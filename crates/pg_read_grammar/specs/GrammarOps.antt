-- The grammar of operations.
use Rattle.std.specs.Prelude.{[], Option, Some, None, Bool, true, false, ◌&&◌, not}
use Rattle.pg_num.specs.declared.limits.TheConstants.{NESTING_LIMIT}
use Rattle.pg_read_grammar.specs.declared.class.Class.{Class}
use Rattle.pg_read_grammar.specs.declared.class.Class.TheVariants.{Void, LabelWord, To, Align, Volatile, Eq, Ne, Ugt, Uge}
use Rattle.pg_read_grammar.specs.declared.class.Class.TheVariants.{Ult, Ule, Sgt, Sge, Slt, Sle, Add, Sub, Mul, Udiv, Sdiv}
use Rattle.pg_read_grammar.specs.declared.class.Class.TheVariants.{Urem, Srem, Shl, Lshr, Ashr, And, Or, Xor, Icmp, Trunc}
use Rattle.pg_read_grammar.specs.declared.class.Class.TheVariants.{Zext, Sext, PtrToInt, IntToPtr, Select, Phi, Br, Switch}
use Rattle.pg_read_grammar.specs.declared.class.Class.TheVariants.{TailWord, Call, Ret, Unreachable, Alloca, Load, Store}
use Rattle.pg_read_grammar.specs.declared.class.Class.TheVariants.{GetElementPtr, Int, Dots, Local, Global, DroppedGlobal}
use Rattle.pg_read_grammar.specs.declared.class.Class.TheVariants.{Comma, OpenRound, CloseRound, OpenSquare, CloseSquare}
use Rattle.pg_read_grammar.specs.declared.nesting.TheConstants.{INNER_NESTING_LIMIT}
use Rattle.pg_read_grammar.specs.declared.token.Token.{Token}
use Rattle.pg_read_grammar.specs.declared.token.Fault.TheVariants.{Unsupported}
use Rattle.pg_read_grammar.specs.Classes.{is, is_word, ◌∪◌}
use Rattle.pg_read_grammar.specs.Language.{Gram, give, one, refused, ◌or◌, ◌>>=◌, many}
use Rattle.pg_read_grammar.specs.Grammar.{separated, listed, name_of, literal_of, drop_value, type_in, skip_to, attributes, flags, value_in, typed_in, argument}
use Rattle.pg_read_ast.specs.Syntax.{Ty, Typed, Op, Incoming, Case, Written, Count}
use Rattle.pg_read_ast.specs.Syntax as syntax
use Rattle.pg_read_ast.specs.declared.names.Name.{Name}
use Rattle.pg_read_ast.specs.declared.ops.BinaryOp.{BinaryOp}
use Rattle.pg_read_ast.specs.declared.ops.BinaryOp.TheVariants as binaries
use Rattle.pg_num.specs.declared.operations.Compare.{Compare}
use Rattle.pg_num.specs.declared.operations.Compare.TheVariants as predicates
use Rattle.pg_read_ast.specs.declared.ops.CastOp.{CastOp}
use Rattle.pg_read_ast.specs.declared.ops.CastOp.TheVariants as casts

-- type val
abbrev pub typed_value : Gram Typed
typed_value = typed_in NESTING_LIMIT (value_in NESTING_LIMIT)

-- label Local
abbrev pub target : Gram Name
target = do
  _ ← one (is LabelWord)
  t ← one (is Local)
  give (name_of t)

-- ---- numbers

abbrev pub binary_word : Class → Bool
binary_word = is Add ∪ (is Sub ∪ (is Mul ∪ (is Udiv ∪ (is Sdiv ∪ (is Urem ∪ (is Srem ∪ (is Shl ∪ (is Lshr ∪ (is Ashr ∪ (is And ∪ (is Or ∪ is Xor)))))))))))

-- the operation that one of these words is
abbrev pub binary_of : Class → BinaryOp
binary_of Add = binaries.Add
binary_of Sub = binaries.Sub
binary_of Mul = binaries.Mul
binary_of Udiv = binaries.Udiv
binary_of Sdiv = binaries.Sdiv
binary_of Urem = binaries.Urem
binary_of Srem = binaries.Srem
binary_of Shl = binaries.Shl
binary_of Lshr = binaries.Lshr
binary_of Ashr = binaries.Ashr
binary_of And = binaries.And
binary_of Or = binaries.Or
binary_of _ = binaries.Xor

-- (add|..|xor) flags type val , val
abbrev pub binary : Gram Op
binary = do
  o ← one binary_word
  _ ← flags
  t ← type_in NESTING_LIMIT
  a ← value_in NESTING_LIMIT
  _ ← one (is Comma)
  b ← value_in NESTING_LIMIT
  give (syntax.Binary o.span (binary_of o.class) t a b)

abbrev pub predicate_word : Class → Bool
predicate_word = is Eq ∪ (is Ne ∪ (is Ugt ∪ (is Uge ∪ (is Ult ∪ (is Ule ∪ (is Sgt ∪ (is Sge ∪ (is Slt ∪ is Sle))))))))

-- the comparison that one of these words is
abbrev pub predicate_of : Class → Compare
predicate_of Eq = predicates.Eq
predicate_of Ne = predicates.Ne
predicate_of Ugt = predicates.Ugt
predicate_of Uge = predicates.Uge
predicate_of Ult = predicates.Ult
predicate_of Ule = predicates.Ule
predicate_of Sgt = predicates.Sgt
predicate_of Sge = predicates.Sge
predicate_of Slt = predicates.Slt
predicate_of _ = predicates.Sle

-- icmp flags (eq|..|sle) type val , val
abbrev pub icmp : Gram Op
icmp = do
  o ← one (is Icmp)
  _ ← flags
  p ← one predicate_word
  t ← type_in NESTING_LIMIT
  a ← value_in NESTING_LIMIT
  _ ← one (is Comma)
  b ← value_in NESTING_LIMIT
  give (syntax.Icmp o.span (predicate_of p.class) t a b)

abbrev pub cast_word : Class → Bool
cast_word = is Trunc ∪ (is Zext ∪ (is Sext ∪ (is PtrToInt ∪ is IntToPtr)))

-- the conversion that one of these words is
abbrev pub cast_of : Class → CastOp
cast_of Trunc = casts.Trunc
cast_of Zext = casts.Zext
cast_of Sext = casts.Sext
cast_of PtrToInt = casts.PtrToInt
cast_of _ = casts.IntToPtr

-- (trunc|zext|sext|ptrtoint|inttoptr) flags type val to type
abbrev pub cast : Gram Op
cast = do
  o ← one cast_word
  _ ← flags
  v ← typed_value
  _ ← one (is To)
  t ← type_in NESTING_LIMIT
  give (syntax.Cast o.span (cast_of o.class) v t)

-- select type val , type val , type val
abbrev pub select : Gram Op
select = do
  o ← one (is Select)
  c ← typed_value
  _ ← one (is Comma)
  a ← typed_value
  _ ← one (is Comma)
  b ← typed_value
  give (syntax.Select o.span c a b)

-- ---- the way through the blocks

-- [ val , Local ]
abbrev pub incoming : Gram Incoming
incoming = do
  _ ← one (is OpenSquare)
  v ← value_in NESTING_LIMIT
  _ ← one (is Comma)
  b ← one (is Local)
  _ ← one (is CloseSquare)
  give (record { value = v; block = name_of b })

-- phi type [ val , Local ] (, [ val , Local ])*
abbrev pub phi : Gram Op
phi = do
  o ← one (is Phi)
  t ← type_in NESTING_LIMIT
  i ← incoming
  more ← many (do
    _ ← one (is Comma)
    incoming)
  give (syntax.Phi o.span t i more)

-- br label Local | br type val , label Local , label Local
abbrev pub branch : Gram Op
branch = do
  o ← one (is Br)
  (do
    b ← target
    give (syntax.Br o.span b)) or (do
      c ← typed_value
      _ ← one (is Comma)
      a ← target
      _ ← one (is Comma)
      b ← target
      give (syntax.CondBr o.span c a b))

-- type val , label Local
abbrev pub case_of : Gram Case
case_of = do
  v ← typed_value
  _ ← one (is Comma)
  b ← target
  give (record { value = v; block = b })

-- switch type val , label Local [ (type val , label Local)* ]
abbrev pub switch : Gram Op
switch = do
  o ← one (is Switch)
  v ← typed_value
  _ ← one (is Comma)
  b ← target
  _ ← one (is OpenSquare)
  cases ← many case_of
  _ ← one (is CloseSquare)
  give (syntax.Switch o.span v b cases)

-- ret void | ret type val
abbrev pub return : Gram Op
return = do
  o ← one (is Ret)
  (do
    v ← one (is Void)
    give (syntax.RetVoid o.span v.span)) or (do
      v ← typed_value
      give (syntax.Ret o.span v))

abbrev pub unreachable : Gram Op
unreachable = do
  o ← one (is Unreachable)
  give (syntax.Unreachable o.span)

-- ---- memory

-- [, align Int]
abbrev pub alignment : Gram (Unit {0})
alignment = (do
  _ ← one (is Comma)
  _ ← one (is Align)
  drop_value (one (is Int))) or give tt

-- [, type Int], where a Local isn't supported in place of the Int
abbrev pub count : Gram (Option Count)
count = (do
  _ ← one (is Comma)
  t ← type_in NESTING_LIMIT
  n ← one (is Int) or refused Unsupported (is Local)
  give (Some (record { ty = t; count = literal_of n }))) or give None

-- alloca type [, type Int] [, align Int]
abbrev pub alloca : Gram Op
alloca = do
  o ← one (is Alloca)
  t ← type_in NESTING_LIMIT
  n ← count
  _ ← alignment
  give (syntax.Alloca o.span t n)

abbrev pub volatile : Gram (Unit {0})
volatile = drop_value (one (is Volatile)) or give tt

-- load [volatile] type , type val [, align Int]
abbrev pub load : Gram Op
load = do
  o ← one (is Load)
  _ ← volatile
  t ← type_in NESTING_LIMIT
  _ ← one (is Comma)
  p ← typed_value
  _ ← alignment
  give (syntax.Load o.span t p)

-- store [volatile] type val , type val [, align Int]
abbrev pub store : Gram Op
store = do
  o ← one (is Store)
  _ ← volatile
  v ← typed_value
  _ ← one (is Comma)
  p ← typed_value
  _ ← alignment
  give (syntax.Store o.span v p)

-- getelementptr flags type , type val (, type val)*
abbrev pub gep : Gram Op
gep = do
  o ← one (is GetElementPtr)
  _ ← flags
  t ← type_in NESTING_LIMIT
  _ ← one (is Comma)
  p ← typed_value
  more ← many (do
    _ ← one (is Comma)
    typed_value)
  give (syntax.GetElementPtr o.span t p more)

-- ---- calls

-- ( ([types] [, Dots] | Dots) )
abbrev pub written : Gram Written
written = do
  _ ← one (is OpenRound)
  w ← (do
    _ ← one (is Dots)
    give (record { types = []; dots = true })) or (do
      types ← separated (type_in NESTING_LIMIT) or give []
      dots ← (do
        _ ← one (is Comma)
        _ ← one (is Dots)
        give true) or give false
      give (record { types = types; dots = dots }))
  _ ← one (is CloseRound)
  give w

-- the first token of a call: [tail|musttail|notail] call
abbrev pub call_word : Gram Token
call_word = one (is Call) or (do
  o ← one (is TailWord)
  _ ← one (is Call)
  give o)

-- Global ( [arg (, arg)*] ), where a Local or a Word isn't supported in place of the Global
abbrev pub callee : Token → Ty → Option Written → Gram Op
callee o t w = do
  f ← one (is Global) or refused Unsupported (is_word ∪ is Local)
  _ ← one (is OpenRound)
  all ← listed CloseRound argument
  give (syntax.Call o.span t w (name_of f) all)

-- the same where the call is dropped: its arguments are a skip
abbrev pub dropped_callee : Gram (Unit {0})
dropped_callee = do
  _ ← one (is DroppedGlobal)
  _ ← one (is OpenRound)
  skip_to INNER_NESTING_LIMIT CloseRound

-- [tail|musttail|notail] call attrs type [written] Global ( [arg (, arg)*] ), with no operation where it is dropped
abbrev pub call_head : Gram (Option Op)
call_head = do
  o ← call_word
  _ ← attributes
  t ← type_in NESTING_LIMIT
  w ← (do
    w ← written
    give (Some w)) or give None
  (do
    _ ← dropped_callee
    give None) or (do
      c ← callee o t w
      give (Some c))

-- a call attrs
abbrev pub call : Gram (Option Op)
call = do
  c ← call_head
  _ ← attributes
  give c

-- ---- all operations

-- any operation but a call, a return, a getelementptr and a conversion
abbrev pub plain_op : Gram Op
plain_op = binary or (icmp or (select or (phi or (branch or (switch or (unreachable or (alloca or (load or store))))))))

-- any operation but a call and a return
abbrev pub simple_op : Gram Op
simple_op = gep or (cast or plain_op)

abbrev pub op_word : Class → Bool
op_word =
    (is Call ∪ is TailWord) ∪ (is Ret ∪ (is GetElementPtr ∪ (cast_word ∪ (binary_word ∪ (is Icmp ∪ (is Select
    ∪ (is Phi ∪ (is Br ∪ (is Switch ∪ (is Unreachable ∪ (is Alloca ∪ (is Load ∪ is Store))))))))))))

-- any other Word
abbrev pub no_op : Class → Bool
no_op c = is_word c && not (op_word c)

-- an operation, or none for a call that is dropped
abbrev pub op : Gram (Option Op)
op = (call or (do
  o ← return or simple_op
  give (Some o))) or refused Unsupported no_op
