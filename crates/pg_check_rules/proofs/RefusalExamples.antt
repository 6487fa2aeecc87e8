-- What is refused in small functions.
use Rattle.std.proofs.Common.{◌≡◌, ℕ, List, [], ◌∷◌, ◌++◌, Some, None, refl, codes}
use Rattle.pg_read_ast.specs.declared.ops.BinaryOp.TheVariants as binary
use Rattle.pg_read_ast.specs.declared.ops.CastOp.TheVariants as cast
use Rattle.pg_read_ast.specs.Syntax as syntax
use Rattle.pg_read_ast.specs.Syntax.{Ty, Val, Typed, Op, Line, Block, Definition}
use Rattle.pg_read_ast.specs.Numbers.{numbered, gives, is_void, name_void, decimal_text, digits_text, after_name, behind_block, block_at}
use Rattle.pg_check_rules.specs.declared.fault.CheckKind.{CheckKind}
use Rattle.pg_check_rules.specs.declared.fault.CheckKind.TheVariants.{UnknownName, Doubled, WrongType, NoBlock, BadPhi, Unsupported, TooLarge}
use Rattle.pg_check_types.specs.Resolved.{resolved, type_within, type_by, fields_by, same_type}
use Rattle.pg_check_types.specs.Layout.{size_of, fields_end, alignment_of}
use Rattle.pg_check_rules.specs.KnownNames.{known_name, known_named}
use Rattle.pg_check_rules.specs.Names.{symbol, registers_of, register_named, label_number, doubled}
use Rattle.pg_check_rules.specs.Written.{inner_uses, index_uses, operands, types_within, types_within_all, op_types, op_demands, label_targets, label_sources}
use Rattle.pg_check_rules.specs.TypeConditions.{unknown_types, wrong_types, any_large}
use Rattle.pg_check_rules.specs.ValueConditions.{wrong_indices, wrong_use}
use Rattle.pg_check_rules.specs.LineConditions.{line_refused}
use Rattle.pg_check_rules.specs.BlockConditions.{predecessors, bad_phis}
use Rattle.pg_check_rules.specs.Conditions.{body_refused}
use Rattle.pg_check_rules.proofs.Examples.{at, name, literal, typed, line, set, found, rows}

-- ---- a function with one block before the rest of the program of `rows`, named at place 1

abbrev function : Ty → List Block → Definition
function t bs = record { result = t; name = name 1 (codes "g"); params = record { ty = syntax.I64 (at 2); name = Some (name 3 (codes "x")) } ∷ []; blocks = bs }

abbrev block : List Line → Block
block ls = record { label = None; lines = ls }

abbrev ending : Line
ending = line (syntax.Ret (at 90) (typed (syntax.I32 (at 91)) (syntax.Int (literal 92 (codes "0")))))

abbrev of_blocks : List Block → List (CheckKind × ℕ)
of_blocks bs = found (body_refused rows 0 (numbered rows.types (function (syntax.I32 (at 0)) bs)))

-- one instruction, with a result %r, or without one
abbrev of_value : Op → List (CheckKind × ℕ)
of_value o = of_blocks (block (set (name 10 (codes "r")) o ∷ ending ∷ []) ∷ [])

abbrev of_op : Op → List (CheckKind × ℕ)
of_op o = of_blocks (block (line o ∷ ending ∷ []) ∷ [])

-- one that ends the block
abbrev of_end : Op → List (CheckKind × ℕ)
of_end o = of_blocks (block (line o ∷ []) ∷ [])

-- one that ends a function without a result
abbrev of_last : Op → List (CheckKind × ℕ)
of_last o = found (body_refused rows 0 (numbered rows.types (function (syntax.Void (at 0)) (block (line o ∷ []) ∷ []))))

-- types, at place 12 and 16
abbrev i1 : Ty
i1 = syntax.I1 (at 12)

abbrev i8 : Ty
i8 = syntax.I8 (at 12)

abbrev i32 : Ty
i32 = syntax.I32 (at 12)

abbrev i64 : Ty
i64 = syntax.I64 (at 12)

abbrev ptr : Ty
ptr = syntax.Ptr (at 12)

abbrev aggregate : Ty
aggregate = syntax.Named (name 12 (codes "s"))

abbrev other : Ty
other = syntax.I8 (at 16)

abbrev pointer : Ty
pointer = syntax.Ptr (at 16)

-- values, at place 13 and 14
abbrev one : List ℕ → Val
one text = syntax.Int (literal 13 text)

abbrev two : List ℕ → Val
two text = syntax.Int (literal 14 text)

abbrev global : List ℕ → Val
global text = syntax.Global (name 13 text)

abbrev local : List ℕ → Val
local text = syntax.Local (name 13 text)

abbrev a : Typed
a = typed pointer (syntax.Global (name 17 (codes "a")))

abbrev null : Typed
null = typed pointer (syntax.Null (at 18))

refused :
    of_value (syntax.Binary (at 11) binary.Add i8 (one (codes "-128")) (two (codes "255"))) ∷
    of_value (syntax.Binary (at 11) binary.Add i8 (one (codes "-129")) (two (codes "256"))) ∷
    of_value (syntax.Binary (at 11) binary.Add ptr (one (codes "1")) (syntax.Null (at 14))) ∷
    of_value (syntax.Binary (at 11) binary.Add i64 (local (codes "x")) (syntax.Local (name 14 (codes "y")))) ∷
    of_value (syntax.Binary (at 11) binary.Add i32 (local (codes "x")) (syntax.Undef (at 14))) ∷
    of_value (syntax.Binary (at 11) binary.Add (syntax.Named (name 12 (codes "t"))) (local (codes "x")) (syntax.Undef (at 14))) ∷
    of_value (syntax.Cast (at 11) cast.Trunc (typed i32 (one (codes "1"))) other) ∷
    of_value (syntax.Cast (at 11) cast.Trunc (typed i8 (one (codes "1"))) other) ∷
    of_value (syntax.Cast (at 11) cast.Sext (typed i32 (one (codes "1"))) other) ∷
    of_value (syntax.Cast (at 11) cast.PtrToInt (typed i32 (one (codes "1"))) other) ∷
    of_value (syntax.Select (at 11) (typed i8 (one (codes "1"))) null (typed (syntax.I8 (at 19)) (syntax.Undef (at 20)))) ∷
    of_value (syntax.Load (at 11) aggregate a) ∷
    of_value (syntax.Load (at 11) (syntax.Void (at 12)) a) ∷
    of_op (syntax.Store (at 11) (typed i32 (global (codes "a"))) a) ∷
    of_op (syntax.Store (at 11) (typed ptr (global (codes "f"))) a) ∷
    of_op (syntax.Store (at 11) (typed i32 (global (codes "f"))) a) ∷
    of_op (syntax.Store (at 11) (typed ptr (global (codes "nothing"))) a) ∷
    of_value (syntax.Store (at 11) (typed ptr null.value) a) ∷
    of_value (syntax.Alloca (at 11) (syntax.Array (at 12) (literal 13 (codes "2097152")) other) None) ∷
    of_value (syntax.Alloca (at 11) (syntax.Array (at 12) (literal 13 (codes "2097151")) other) None) ∷
    of_value (syntax.Alloca (at 11) (syntax.Array (at 12) (literal 13 (codes "-1")) other) None) ∷
    of_value (syntax.Alloca (at 11) (syntax.Array (at 12) (literal 13 (codes "1")) (syntax.Void (at 16))) None) ∷
    []
    ≡
    [] ∷
    ((WrongType, 13) ∷ (WrongType, 14) ∷ []) ∷
    ((WrongType, 12) ∷ (WrongType, 13) ∷ []) ∷
    ((UnknownName, 14) ∷ []) ∷
    ((WrongType, 13) ∷ []) ∷
    ((UnknownName, 12) ∷ []) ∷
    [] ∷
    ((WrongType, 16) ∷ []) ∷
    ((WrongType, 16) ∷ []) ∷
    ((WrongType, 12) ∷ []) ∷
    ((WrongType, 12) ∷ (WrongType, 19) ∷ []) ∷
    ((WrongType, 12) ∷ []) ∷
    ((WrongType, 12) ∷ (WrongType, 10) ∷ []) ∷
    ((WrongType, 13) ∷ []) ∷
    ((Unsupported, 13) ∷ []) ∷
    ((WrongType, 13) ∷ (Unsupported, 13) ∷ []) ∷
    ((UnknownName, 13) ∷ []) ∷
    ((WrongType, 10) ∷ []) ∷
    ((TooLarge, 1) ∷ []) ∷
    [] ∷
    ((WrongType, 13) ∷ []) ∷
    ((WrongType, 16) ∷ []) ∷
    []
unfolding body_refused line_refused bad_phis predecessors unknown_types wrong_types any_large resolved type_within type_by fields_by types_within types_within_all doubled size_of alignment_of
    fields_end same_type known_named known_name symbol registers_of register_named label_number inner_uses index_uses operands op_types op_demands label_targets label_sources wrong_use
    wrong_indices numbered gives is_void name_void behind_block block_at decimal_text digits_text after_name
refused = refl

-- ---- calls, paths, labels, phis

abbrev call : Ty → List ℕ → List Typed → Op
call t f all = syntax.Call (at 11) t None (name 15 f) all

abbrev create : Typed → Op
create v = call i32 (codes "pthread_create") (a ∷ null ∷ v ∷ null ∷ [])

abbrev path : Ty → List Typed → Op
path t all = syntax.GetElementPtr (at 11) t a all

abbrev case : ℕ → List ℕ → List ℕ → syntax.Case
case place text to = record { value = typed i8 (syntax.Int (literal place text)); block = name 25 to }

abbrev from : Val → ℕ → List ℕ → syntax.Incoming
from v place text = record { value = v; block = name place text }

-- a block that goes on to itself or to %e, with a phi before or behind another instruction
abbrev looping : List Line → List (CheckKind × ℕ)
looping ls = of_blocks (block (line (syntax.Br (at 30) (name 31 (codes "l"))) ∷ []) ∷ record
    { label = Some (name 32 (codes "l")); lines = ls ++ line (syntax.CondBr (at 33) (typed i1 (syntax.True (at 34))) (name 35 (codes "l")) (name 36 (codes "e"))) ∷ [] } ∷ record
    { label = Some (name 37 (codes "e")); lines = ending ∷ [] } ∷ [])

abbrev sum : Line
sum = set (name 38 (codes "u")) (syntax.Binary (at 39) binary.Add i64 (local (codes "x")) (two (codes "1")))

abbrev phi : List ℕ → List ℕ → Line
phi m n = set (name 40 (codes "v")) (syntax.Phi (at 41) i64 (from (one (codes "0")) 42 m) (from (one (codes "1")) 43 n ∷ []))

refused_more :
    of_value (call ptr (codes "f") (null ∷ [])) ∷
    of_value (call i64 (codes "f") (null ∷ [])) ∷
    of_value (call ptr (codes "f") []) ∷
    of_value (call ptr (codes "f") (null ∷ typed other (one (codes "1")) ∷ [])) ∷
    of_value (call ptr (codes "f") (typed other (one (codes "1")) ∷ [])) ∷
    of_value (call ptr (codes "nothing") []) ∷
    of_value (call aggregate (codes "nothing") []) ∷
    of_value (call (syntax.Array (at 12) (literal 13 (codes "1")) other) (codes "a") []) ∷
    of_value (call ptr (codes "a") []) ∷
    of_value (create (typed pointer (global (codes "f")))) ∷
    of_value (create (typed pointer (global (codes "main")))) ∷
    of_value (create (typed pointer (global (codes "pthread_create")))) ∷
    of_value (create (typed pointer (global (codes "a")))) ∷
    of_value (create (typed pointer (one (codes "5")))) ∷
    of_value (create (typed pointer (local (codes "y")))) ∷
    of_value (path aggregate (typed i64 (local (codes "x")) ∷ typed i32 (two (codes "1")) ∷ [])) ∷
    of_value (path aggregate (typed i64 (local (codes "x")) ∷ typed i32 (two (codes "2")) ∷ [])) ∷
    of_value (path aggregate (typed i64 (two (codes "0")) ∷ typed i1 (syntax.True (at 13)) ∷ [])) ∷
    of_value (path aggregate (typed i64 (two (codes "0")) ∷ typed i64 (local (codes "x")) ∷ [])) ∷
    of_value (path (syntax.I64 (at 22)) (typed i64 (two (codes "0")) ∷ typed other (two (codes "0")) ∷ [])) ∷
    of_end (syntax.Br (at 11) (name 14 (codes "nowhere"))) ∷
    of_end (syntax.Switch (at 11) (typed i8 (one (codes "1"))) (name 14 (codes "0")) (case 23 (codes "-1") (codes "0") ∷ case 24 (codes "255") (codes "0") ∷ [])) ∷
    of_end (syntax.RetVoid (at 11) (at 12)) ∷
    of_end (syntax.Ret (at 11) (typed i8 (one (codes "1")))) ∷
    of_last (syntax.RetVoid (at 11) (at 12)) ∷
    of_last (syntax.Ret (at 11) (typed i8 (one (codes "1")))) ∷
    of_last (syntax.Ret (at 11) (typed (syntax.Void (at 12)) (one (codes "5")))) ∷
    of_last (syntax.Ret (at 11) (typed (syntax.Void (at 12)) (syntax.Undef (at 13)))) ∷
    of_last (syntax.Ret (at 11) (typed (syntax.Void (at 12)) (local (codes "x")))) ∷
    of_blocks [] ∷
    of_blocks (block [] ∷ []) ∷
    looping (phi (codes "0") (codes "l") ∷ sum ∷ []) ∷
    looping (sum ∷ phi (codes "0") (codes "l") ∷ []) ∷
    looping (phi (codes "0") (codes "0") ∷ []) ∷
    looping (phi (codes "0") (codes "e") ∷ []) ∷
    looping (phi (codes "0") (codes "nowhere") ∷ []) ∷
    looping (sum ∷ sum ∷ []) ∷
    []
    ≡
    [] ∷
    ((WrongType, 12) ∷ []) ∷
    ((WrongType, 15) ∷ []) ∷
    ((WrongType, 16) ∷ []) ∷
    ((WrongType, 16) ∷ []) ∷
    ((UnknownName, 15) ∷ []) ∷
    ((UnknownName, 15) ∷ (WrongType, 12) ∷ []) ∷
    ((WrongType, 12) ∷ (WrongType, 15) ∷ []) ∷
    ((WrongType, 15) ∷ []) ∷
    [] ∷
    ((WrongType, 13) ∷ []) ∷
    ((WrongType, 13) ∷ (Unsupported, 13) ∷ []) ∷
    ((Unsupported, 13) ∷ []) ∷
    ((Unsupported, 13) ∷ []) ∷
    ((UnknownName, 13) ∷ []) ∷
    [] ∷
    ((WrongType, 14) ∷ []) ∷
    ((WrongType, 13) ∷ []) ∷
    ((WrongType, 13) ∷ []) ∷
    ((WrongType, 16) ∷ []) ∷
    ((NoBlock, 14) ∷ []) ∷
    ((Doubled, 24) ∷ []) ∷
    ((WrongType, 12) ∷ []) ∷
    ((WrongType, 12) ∷ []) ∷
    [] ∷
    ((WrongType, 12) ∷ []) ∷
    ((WrongType, 13) ∷ []) ∷
    ((WrongType, 13) ∷ []) ∷
    ((WrongType, 13) ∷ []) ∷
    ((NoBlock, 1) ∷ []) ∷
    ((NoBlock, 1) ∷ []) ∷
    [] ∷
    ((BadPhi, 41) ∷ []) ∷
    ((BadPhi, 41) ∷ []) ∷
    ((BadPhi, 41) ∷ []) ∷
    ((NoBlock, 43) ∷ []) ∷
    [] ∷
    []
unfolding body_refused line_refused bad_phis predecessors unknown_types wrong_types any_large resolved type_within type_by fields_by types_within types_within_all doubled size_of alignment_of
    fields_end same_type known_named known_name symbol registers_of register_named label_number inner_uses index_uses operands op_types op_demands label_targets label_sources wrong_use
    wrong_indices numbered gives is_void name_void behind_block block_at decimal_text digits_text after_name
refused_more = refl
