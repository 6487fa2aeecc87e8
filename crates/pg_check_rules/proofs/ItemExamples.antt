-- What is refused in type items, globals and heads.
use Rattle.std.proofs.Common.{◌≡◌, ℕ, ◌+◌, List, [], ◌∷◌, Some, None, refl, codes, map, false}
use Rattle.std.specs.List.{enumerate_from}
use Rattle.pg_read_ast.specs.Syntax as syntax
use Rattle.pg_read_ast.specs.Syntax.{Ty, tys, Val, vals, Const, consts, NamedType, Variable, Declaration, Definition, Tree}
use Rattle.pg_read_ast.specs.Numbers.{numbered, decimal_text, digits_text, after_name, behind_block, block_at}
use Rattle.pg_check_rules.specs.declared.fault.CheckKind.{CheckKind}
use Rattle.pg_check_rules.specs.declared.fault.CheckKind.TheVariants.{UnknownName, Doubled, WrongType, Unsupported, BadSignature, TooLarge}
use Rattle.pg_check_types.specs.Resolved.{resolved, type_within, type_by, fields_by, same_type}
use Rattle.pg_check_types.specs.Layout.{size_of, fields_end, alignment_of}
use Rattle.pg_check_rules.specs.KnownNames.{known_name, known_named}
use Rattle.pg_check_rules.specs.Names.{symbol, register_named, doubled}
use Rattle.pg_check_rules.specs.Written.{inner_uses, index_uses, types_within, types_within_all, const_uses, part_uses, const_types, part_types}
use Rattle.pg_check_rules.specs.TypeConditions.{unknown_types, wrong_counts, wrong_types, any_large}
use Rattle.pg_check_rules.specs.ValueConditions.{wrong_indices, wrong_use, wrong_const, wrong_elements, wrong_fields}
use Rattle.pg_check_rules.specs.Conditions.{all_of, meets, self_contained, item_refused, globals_end, global_refused, declaration_refused, definition_refused, heads_refused}
use Rattle.pg_check_rules.proofs.Examples.{at, name, literal, found}

abbrev named : ℕ → List ℕ → Ty
named a text = syntax.Named (name a text)

abbrev array : ℕ → List ℕ → Ty → Ty
array a count t = syntax.Array (at a) (literal (a + 1) count) t

abbrev struct : ℕ → List Ty → Ty
struct a ts = syntax.Struct (at a) (tys ts)

abbrev item : ℕ → List ℕ → Ty → NamedType
item a text t = record { name = name a text; ty = t }

-- ---- type items

abbrev of_types : List NamedType → List (CheckKind × ℕ)
of_types is = found (all_of (item_refused is) is)

types_refused :
    of_types (item 0 (codes "a") (struct 1 (named 2 (codes "b") ∷ [])) ∷ item 3 (codes "b") (syntax.I8 (at 4)) ∷ []) ∷
    of_types (item 0 (codes "a") (named 2 (codes "b")) ∷ []) ∷
    of_types (item 0 (codes "a") (syntax.I8 (at 1)) ∷ item 2 (codes "a") (syntax.I8 (at 3)) ∷ []) ∷
    of_types (item 0 (codes "a") (struct 1 (named 2 (codes "b") ∷ [])) ∷ item 3 (codes "b") (array 4 (codes "0") (named 6 (codes "a"))) ∷ item 7 (codes "c") (named 8 (codes "a")) ∷ []) ∷
    of_types (item 0 (codes "a") (syntax.Void (at 1)) ∷ item 2 (codes "b") (struct 3 (named 4 (codes "a") ∷ [])) ∷ []) ∷
    of_types (item 0 (codes "a") (array 1 (codes "2097152") (syntax.I8 (at 3))) ∷ []) ∷
    of_types (item 0 (codes "a") (array 1 (codes "0") (array 3 (codes "2097152") (syntax.I8 (at 5)))) ∷ []) ∷
    of_types (item 0 (codes "a") (array 1 (codes "18446744073709551616") (syntax.I8 (at 3))) ∷ []) ∷
    []
    ≡
    [] ∷
    ((UnknownName, 2) ∷ []) ∷
    ((Doubled, 2) ∷ []) ∷
    ((WrongType, 2) ∷ (WrongType, 6) ∷ []) ∷
    ((WrongType, 4) ∷ []) ∷
    ((TooLarge, 0) ∷ []) ∷
    ((TooLarge, 0) ∷ []) ∷
    ((WrongType, 2) ∷ []) ∷
    []
unfolding item_refused self_contained meets unknown_types wrong_types any_large resolved type_within type_by fields_by types_within types_within_all doubled size_of fields_end alignment_of
types_refused = refl

-- ---- globals

abbrev global : ℕ → List ℕ → Ty → Const → Variable
global a text t c = record { name = name a text; is_constant = false; ty = t; value = c }

abbrev val : Val → Const
val v = syntax.ValConst v

abbrev typed_const : Ty → Const → syntax.TypedC
typed_const t c = record { ty = t; value = c }

abbrev function : ℕ → List ℕ → Definition
function a text = record { result = syntax.Void (at a); name = name a text; params = []; blocks = [] }

abbrev with_globals : List Variable → Tree
with_globals gs = record { types = []; globals = gs; declares = []; functions = function 90 (codes "f") ∷ [] }

abbrev of_globals : List Variable → List (CheckKind × ℕ)
of_globals gs = found (all_of (global_refused (with_globals gs)) (enumerate_from 0 gs))

abbrev i8 : ℕ → Ty
i8 a = syntax.I8 (at a)

abbrev int : ℕ → List ℕ → Val
int a text = syntax.Int (literal a text)

globals_refused :
    of_globals (global 0 (codes "a") (i8 1) (val (int 2 (codes "255"))) ∷ global 3 (codes "a") (i8 4) (val (int 5 (codes "256"))) ∷ []) ∷
    of_globals (global 0 (codes "a") (syntax.Ptr (at 1)) (val (syntax.Global (name 2 (codes "b")))) ∷ global 3 (codes "b") (i8 4) (val (syntax.Undef (at 5))) ∷ []) ∷
    of_globals (global 0 (codes "a") (syntax.Ptr (at 1)) (val (syntax.Global (name 2 (codes "f")))) ∷ []) ∷
    of_globals (global 0 (codes "a") (syntax.Ptr (at 1)) (val (syntax.Global (name 2 (codes "b")))) ∷ []) ∷
    of_globals (global 0 (codes "a") (i8 1) (val (syntax.Local (name 2 (codes "b")))) ∷ []) ∷
    of_globals (global 0 (codes "a") (syntax.Void (at 1)) (val (syntax.Undef (at 2))) ∷ []) ∷
    of_globals (global 0 (codes "a") (array 1 (codes "2") (i8 3)) (syntax.BytesConst (literal 4 (97 ∷ []))) ∷ []) ∷
    of_globals (global 0 (codes "a") (array 1 (codes "2") (i8 3))
    (syntax.ArrayConst (at 4) (consts (typed_const (i8 5) (val (int 6 (codes "1"))) ∷ typed_const (syntax.I16 (at 7)) (val (int 8 (codes "1"))) ∷ []))) ∷ []) ∷
    of_globals (global 0 (codes "a") (array 1 (codes "2") (i8 3)) (syntax.ArrayConst (at 4) (consts (typed_const (i8 5) (val (int 6 (codes "1"))) ∷ []))) ∷ []) ∷
    of_globals (global 0 (codes "a") (struct 1 (i8 2 ∷ [])) (syntax.StructConst (at 4) (consts (typed_const (i8 5) (val (int 6 (codes "256"))) ∷ []))) ∷ []) ∷
    of_globals (global 0 (codes "a") (struct 1 []) (syntax.StructConst (at 4) (consts [])) ∷ []) ∷
    of_globals (global 0 (codes "a") (i8 1) (syntax.StructConst (at 4) (consts [])) ∷ []) ∷
    of_globals (global 0 (codes "f") (i8 1) (val (int 2 (codes "1"))) ∷ global 95 (codes "f") (i8 96) (val (int 97 (codes "1"))) ∷ []) ∷
    of_globals (global 0 (codes "a") (syntax.Ptr (at 1)) (val
    (syntax.GepVal (at 2) (i8 3) (syntax.Ptr (at 4)) (syntax.Global (name 5 (codes "a"))) (vals (record { ty = i8 6; value = syntax.Local (name 7 (codes "x")) } ∷ [])))) ∷ []) ∷
    of_globals (global 0 (codes "a") (syntax.Ptr (at 1)) (val (syntax.IntToPtrVal (at 2) (i8 3) (literal 4 (codes "256")) (i8 5))) ∷ []) ∷
    []
    ≡
    ((Doubled, 3) ∷ (WrongType, 5) ∷ []) ∷
    [] ∷
    ((Unsupported, 2) ∷ []) ∷
    ((UnknownName, 2) ∷ []) ∷
    ((UnknownName, 2) ∷ []) ∷
    ((WrongType, 1) ∷ (WrongType, 2) ∷ []) ∷
    ((WrongType, 4) ∷ []) ∷
    ((WrongType, 7) ∷ []) ∷
    ((WrongType, 4) ∷ []) ∷
    ((WrongType, 6) ∷ []) ∷
    [] ∷
    ((WrongType, 4) ∷ []) ∷
    ((Doubled, 95) ∷ []) ∷
    ((UnknownName, 7) ∷ []) ∷
    ((WrongType, 5) ∷ (WrongType, 4) ∷ []) ∷
    []
unfolding global_refused globals_end wrong_const wrong_elements wrong_fields unknown_types wrong_types any_large resolved type_within type_by fields_by types_within types_within_all doubled
    size_of fields_end alignment_of same_type symbol register_named inner_uses index_uses const_uses part_uses const_types part_types wrong_use wrong_indices
globals_refused = refl

-- ---- heads

abbrev param : Ty → syntax.Param
param t = record { ty = t; name = None }

abbrev declare : Ty → List ℕ → List Ty → Declaration
declare t text ts = record { result = t; name = name 1 text; params = map (λ u. syntax.ParamOf (param u)) ts }

abbrev of_declare : Declaration → List (CheckKind × ℕ)
of_declare d = found (heads_refused (record { types = []; globals = []; declares = d ∷ []; functions = [] }))

abbrev of_define : Ty → List ℕ → List syntax.Param → List (CheckKind × ℕ)
of_define t text ps = found (heads_refused (record { types = []; globals = []; declares = []; functions = record { result = t; name = name 1 text; params = ps; blocks = [] } ∷ [] }))

abbrev called : ℕ → List ℕ → syntax.Param
called a text = record { ty = i8 (a + 1); name = Some (name a text) }

heads :
    of_declare (declare (syntax.I64 (at 0)) (codes "pg_in") (syntax.I64 (at 2) ∷ [])) ∷
    of_declare (declare (syntax.I64 (at 0)) (codes "pg_in") (syntax.I32 (at 2) ∷ [])) ∷
    of_declare (declare (syntax.I64 (at 0)) (codes "pg_in") []) ∷
    of_declare (declare (syntax.I64 (at 0)) (codes "pg_in") (named 2 (codes "t") ∷ [])) ∷
    of_declare (declare (struct 0 []) (codes "other") (syntax.Void (at 2) ∷ [])) ∷
    of_declare (declare (array 0 (codes "2097152") (syntax.I8 (at 2))) (codes "other") (array 3 (codes "4") (syntax.Void (at 5)) ∷ [])) ∷
    of_declare (declare (syntax.I64 (at 0)) (codes "other") (array 2 (codes "18446744073709551616") (syntax.I8 (at 4)) ∷ named 5 (codes "t") ∷ [])) ∷
    of_declare (declare (syntax.I64 (at 0)) (codes "pg_in") (array 2 (codes "4") (syntax.Void (at 4)) ∷ [])) ∷
    of_declare (declare (syntax.I64 (at 0)) (codes "pg_in") (array 2 (codes "18446744073709551616") (syntax.I8 (at 4)) ∷ [])) ∷
    of_declare (declare (array 0 (codes "4") (syntax.Void (at 2))) (codes "main") []) ∷
    of_declare (declare (syntax.I64 (at 0)) (codes "main") []) ∷
    of_define (syntax.I32 (at 0)) (codes "main") [] ∷
    of_define (syntax.I32 (at 0)) (codes "main") (called 2 (codes "x") ∷ []) ∷
    of_define (syntax.I64 (at 0)) (codes "pg_in") (record { ty = syntax.I64 (at 2); name = None } ∷ []) ∷
    of_define (struct 0 []) (codes "g") [] ∷
    of_define (syntax.Void (at 0)) (codes "g") (called 2 (codes "x") ∷ called 4 (codes "x") ∷ []) ∷
    of_define (syntax.Void (at 0)) (codes "g") (param (i8 2) ∷ called 4 (codes "0") ∷ []) ∷
    []
    ≡
    [] ∷
    ((BadSignature, 1) ∷ []) ∷
    ((BadSignature, 1) ∷ []) ∷
    ((UnknownName, 2) ∷ []) ∷
    [] ∷
    [] ∷
    ((UnknownName, 5) ∷ (WrongType, 3) ∷ []) ∷
    ((BadSignature, 1) ∷ []) ∷
    ((WrongType, 3) ∷ []) ∷
    ((BadSignature, 1) ∷ []) ∷
    ((BadSignature, 1) ∷ []) ∷
    [] ∷
    ((BadSignature, 1) ∷ []) ∷
    ((BadSignature, 1) ∷ []) ∷
    ((BadSignature, 1) ∷ []) ∷
    ((Doubled, 4) ∷ []) ∷
    ((Doubled, 4) ∷ []) ∷
    []
unfolding heads_refused declaration_refused definition_refused unknown_types wrong_counts wrong_types any_large resolved type_within type_by fields_by types_within types_within_all doubled
    size_of fields_end alignment_of same_type known_named known_name numbered decimal_text digits_text after_name behind_block block_at
heads = refl
