-- Programs as trees: what a contract sees of a module and its parts.
use Rattle.std.specs.Prelude.{List, [], ◌∷◌, Option, Bool}
use Rattle.pg_read_lex.specs.declared.token.Span.{Span}
use Rattle.pg_read_ast.specs.declared.names.Name.{Name}
use Rattle.pg_read_ast.specs.declared.names.Literal.{Literal}
use Rattle.pg_read_ast.specs.declared.ops.BinaryOp.{BinaryOp}
use Rattle.pg_read_lex.specs.pg_num.declared.operations.Compare.{Compare}
use Rattle.pg_read_ast.specs.declared.ops.CastOp.{CastOp}

mutual
  pub data Ty : Type 0 where
    I1 : Span → Ty
    I8 : Span → Ty
    I16 : Span → Ty
    I32 : Span → Ty
    I64 : Span → Ty
    Ptr : Span → Ty
    Void : Span → Ty
    Array : Span → Literal → Ty → Ty
    Struct : Span → Tys → Ty
    Named : Name → Ty

  pub data Tys : Type 0 where
    NoTys : Tys
    MoreTys : Ty → Tys → Tys

abbrev pub tys : List Ty → Tys
tys [] = NoTys
tys (t ∷ ts) = MoreTys t (tys ts)

mutual
  pub data Val : Type 0 where
    Int : Literal → Val
    True : Span → Val
    False : Span → Val
    Null : Span → Val
    Undef : Span → Val
    Poison : Span → Val
    ZeroInitializer : Span → Val
    Local : Name → Val
    Global : Name → Val
    GepVal : Span → Ty → Ty → Val → Vals → Val
    IntToPtrVal : Span → Ty → Literal → Ty → Val

  pub data Vals : Type 0 where
    NoVals : Vals
    MoreVals : Ty → Val → Vals → Vals

pub record Typed : Type 0 where
  pub ty : Ty
  pub value : Val

abbrev pub vals : List Typed → Vals
vals [] = NoVals
vals (t ∷ ts) = MoreVals t.ty t.value (vals ts)

mutual
  pub data Const : Type 0 where
    ValConst : Val → Const
    BytesConst : Literal → Const
    ArrayConst : Span → Consts → Const
    StructConst : Span → Consts → Const

  pub data Consts : Type 0 where
    NoConsts : Consts
    MoreConsts : Ty → Const → Consts → Consts

pub record TypedC : Type 0 where
  pub ty : Ty
  pub value : Const

abbrev pub consts : List TypedC → Consts
consts [] = NoConsts
consts (t ∷ ts) = MoreConsts t.ty t.value (consts ts)

-- a value of a phi, and its block
pub record Incoming : Type 0 where
  pub value : Val
  pub block : Name

pub record Case : Type 0 where
  pub value : Typed
  pub block : Name

-- the written types of a call
pub record Written : Type 0 where
  pub types : List Ty
  pub dots : Bool

pub record Count : Type 0 where
  pub ty : Ty
  pub count : Literal

pub data Op : Type 0 where
  Binary : Span → BinaryOp → Ty → Val → Val → Op
  Icmp : Span → Compare → Ty → Val → Val → Op
  Cast : Span → CastOp → Typed → Ty → Op
  Select : Span → Typed → Typed → Typed → Op
  Phi : Span → Ty → Incoming → List Incoming → Op
  Br : Span → Name → Op
  CondBr : Span → Typed → Name → Name → Op
  Switch : Span → Typed → Name → List Case → Op
  Call : Span → Ty → Option Written → Name → List Typed → Op
  RetVoid : Span → Span → Op
  Ret : Span → Typed → Op
  Unreachable : Span → Op
  Alloca : Span → Ty → Option Count → Op
  Load : Span → Ty → Typed → Op
  Store : Span → Typed → Typed → Op
  GetElementPtr : Span → Ty → Typed → List Typed → Op

pub record Line : Type 0 where
  pub name : Option Name
  pub op : Op

pub record Block : Type 0 where
  pub label : Option Name
  pub lines : List Line

pub record Param : Type 0 where
  pub ty : Ty
  pub name : Option Name

pub data Dparam : Type 0 where
  ParamOf : Param → Dparam
  Metadata : Span → Dparam
  Dots : Span → Dparam

pub record NamedType : Type 0 where
  pub name : Name
  pub ty : Ty

pub record Variable : Type 0 where
  pub name : Name
  pub is_constant : Bool
  pub ty : Ty
  pub value : Const

pub record Declaration : Type 0 where
  pub result : Ty
  pub name : Name
  pub params : List Dparam

pub record Definition : Type 0 where
  pub result : Ty
  pub name : Name
  pub params : List Param
  pub blocks : List Block

pub record Tree : Type 0 where
  pub types : List NamedType
  pub globals : List Variable
  pub declares : List Declaration
  pub functions : List Definition
