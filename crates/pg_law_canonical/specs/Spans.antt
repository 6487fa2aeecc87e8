-- Trees without the places of their parts in the text.
use Rattle.std.specs.Prelude.{map, Option, Some, None}
use Rattle.pg_read_lex.specs.declared.token.Span.{Span}
use Rattle.pg_read_ast.specs.declared.names.Name.{Name}
use Rattle.pg_read_ast.specs.declared.names.Literal.{Literal}
use Rattle.pg_read_ast.specs.Syntax.{Ty, Tys, I1, I8, I16, I32, I64, Ptr, Void, Array, Struct, Named, NoTys, MoreTys, Val}
use Rattle.pg_read_ast.specs.Syntax.{Vals, Int, True, False, Null, Undef, Poison, ZeroInitializer, Local, Global, GepVal}
use Rattle.pg_read_ast.specs.Syntax.{IntToPtrVal, NoVals, MoreVals, Typed, Const, Consts, ValConst, BytesConst, ArrayConst}
use Rattle.pg_read_ast.specs.Syntax.{StructConst, NoConsts, MoreConsts, Incoming, Case, Written, Count, Op, Binary, Icmp}
use Rattle.pg_read_ast.specs.Syntax.{Cast, Select, Phi, Br, CondBr, Switch, Call, RetVoid, Ret, Unreachable, Alloca, Load}
use Rattle.pg_read_ast.specs.Syntax.{Store, GetElementPtr, Line, Block, Param, Dparam, ParamOf, Metadata, Dots, NamedType}
use Rattle.pg_read_ast.specs.Syntax.{Variable, Declaration, Definition, Tree}

-- the empty place
abbrev pub nowhere : Span
nowhere = record { start = 0; end = 0 }

abbrev pub plain_name : Name → Name
plain_name n = record { text = n.text; span = nowhere }

abbrev pub plain_option : {A B : Type 0} → (A → B) → Option A → Option B
plain_option f None = None
plain_option f (Some x) = Some (f x)

abbrev pub plain_literal : Literal → Literal
plain_literal n = record { text = n.text; span = nowhere }

-- ---- types, values, constants

abbrev mutual
  pub plain_type : Ty → Ty
  plain_type (I1 s) = I1 nowhere
  plain_type (I8 s) = I8 nowhere
  plain_type (I16 s) = I16 nowhere
  plain_type (I32 s) = I32 nowhere
  plain_type (I64 s) = I64 nowhere
  plain_type (Ptr s) = Ptr nowhere
  plain_type (Void s) = Void nowhere
  plain_type (Array s n t) = Array nowhere (plain_literal n) (plain_type t)
  plain_type (Struct s ts) = Struct nowhere (plain_types ts)
  plain_type (Named n) = Named (plain_name n)

  pub plain_types : Tys → Tys
  plain_types NoTys = NoTys
  plain_types (MoreTys t ts) = MoreTys (plain_type t) (plain_types ts)

abbrev mutual
  pub plain_value : Val → Val
  plain_value (Int n) = Int (plain_literal n)
  plain_value (True s) = True nowhere
  plain_value (False s) = False nowhere
  plain_value (Null s) = Null nowhere
  plain_value (Undef s) = Undef nowhere
  plain_value (Poison s) = Poison nowhere
  plain_value (ZeroInitializer s) = ZeroInitializer nowhere
  plain_value (Local n) = Local (plain_name n)
  plain_value (Global n) = Global (plain_name n)
  plain_value (GepVal s t u p vs) = GepVal nowhere (plain_type t) (plain_type u) (plain_value p) (plain_values vs)
  plain_value (IntToPtrVal s t n u) = IntToPtrVal nowhere (plain_type t) (plain_literal n) (plain_type u)

  pub plain_values : Vals → Vals
  plain_values NoVals = NoVals
  plain_values (MoreVals t v vs) = MoreVals (plain_type t) (plain_value v) (plain_values vs)

abbrev pub plain_typed : Typed → Typed
plain_typed t = record { ty = plain_type t.ty; value = plain_value t.value }

abbrev mutual
  pub plain_const : Const → Const
  plain_const (ValConst v) = ValConst (plain_value v)
  plain_const (BytesConst b) = BytesConst (plain_literal b)
  plain_const (ArrayConst s cs) = ArrayConst nowhere (plain_consts cs)
  plain_const (StructConst s cs) = StructConst nowhere (plain_consts cs)

  pub plain_consts : Consts → Consts
  plain_consts NoConsts = NoConsts
  plain_consts (MoreConsts t c cs) = MoreConsts (plain_type t) (plain_const c) (plain_consts cs)

-- ---- instructions

abbrev pub plain_incoming : Incoming → Incoming
plain_incoming i = record { value = plain_value i.value; block = plain_name i.block }

abbrev pub plain_case : Case → Case
plain_case i = record { value = plain_typed i.value; block = plain_name i.block }

abbrev pub plain_written : Written → Written
plain_written w = record { types = map plain_type w.types; dots = w.dots }

abbrev pub plain_count : Count → Count
plain_count n = record { ty = plain_type n.ty; count = plain_literal n.count }

abbrev pub plain_op : Op → Op
plain_op (Binary s op t a b) = Binary nowhere op (plain_type t) (plain_value a) (plain_value b)
plain_op (Icmp s p t a b) = Icmp nowhere p (plain_type t) (plain_value a) (plain_value b)
plain_op (Cast s op v t) = Cast nowhere op (plain_typed v) (plain_type t)
plain_op (Select s c a b) = Select nowhere (plain_typed c) (plain_typed a) (plain_typed b)
plain_op (Phi s t i all) = Phi nowhere (plain_type t) (plain_incoming i) (map plain_incoming all)
plain_op (Br s b) = Br nowhere (plain_name b)
plain_op (CondBr s c a b) = CondBr nowhere (plain_typed c) (plain_name a) (plain_name b)
plain_op (Switch s v b all) = Switch nowhere (plain_typed v) (plain_name b) (map plain_case all)
plain_op (Call s t w f all) = Call nowhere (plain_type t) (plain_option plain_written w) (plain_name f) (map plain_typed all)
plain_op (RetVoid s v) = RetVoid nowhere nowhere
plain_op (Ret s v) = Ret nowhere (plain_typed v)
plain_op (Unreachable s) = Unreachable nowhere
plain_op (Alloca s t n) = Alloca nowhere (plain_type t) (plain_option plain_count n)
plain_op (Load s t p) = Load nowhere (plain_type t) (plain_typed p)
plain_op (Store s v p) = Store nowhere (plain_typed v) (plain_typed p)
plain_op (GetElementPtr s t p all) = GetElementPtr nowhere (plain_type t) (plain_typed p) (map plain_typed all)

-- ---- functions and items

abbrev pub plain_line : Line → Line
plain_line l = record { name = plain_option plain_name l.name; op = plain_op l.op }

abbrev pub plain_block : Block → Block
plain_block b = record { label = plain_option plain_name b.label; lines = map plain_line b.lines }

abbrev pub plain_param : Param → Param
plain_param p = record { ty = plain_type p.ty; name = plain_option plain_name p.name }

abbrev pub plain_dparam : Dparam → Dparam
plain_dparam (ParamOf p) = ParamOf (plain_param p)
plain_dparam (Metadata s) = Metadata nowhere
plain_dparam (Dots s) = Dots nowhere

abbrev pub plain_named : NamedType → NamedType
plain_named i = record { name = plain_name i.name; ty = plain_type i.ty }

abbrev pub plain_variable : Variable → Variable
plain_variable g = record { name = plain_name g.name; is_constant = g.is_constant; ty = plain_type g.ty; value = plain_const g.value }

abbrev pub plain_declaration : Declaration → Declaration
plain_declaration d = record { result = plain_type d.result; name = plain_name d.name; params = map plain_dparam d.params }

abbrev pub plain_definition : Definition → Definition
plain_definition d = record { result = plain_type d.result; name = plain_name d.name; params = map plain_param d.params; blocks = map plain_block d.blocks }

-- the tree with the empty place in each part
abbrev pub without_spans : Tree → Tree
without_spans m = record { types = map plain_named m.types; globals = map plain_variable m.globals; declares = map plain_declaration m.declares; functions = map plain_definition m.functions }
