-- The definitions on small programs.
use Rattle.std.proofs.Common.{◌≡◌, ℕ, List, [], ◌∷◌, ◌++◌, Some, None, refl, codes, map, true, false}
use Rattle.pg_read_ast.specs.pg_read_lex.declared.token.Span.{Span}
use Rattle.pg_read_ast.specs.declared.names.Name.{Name}
use Rattle.pg_read_ast.specs.declared.names.Literal.{Literal}
use Rattle.pg_read_ast.specs.declared.ops.BinaryOp.TheVariants as binary
use Rattle.pg_read_ast.specs.Syntax as syntax
use Rattle.pg_read_ast.specs.Syntax.{Ty, tys, Val, vals, Typed, Const, consts, Op, Line, NamedType, Variable, Definition, Tree}
use Rattle.pg_read_ast.specs.Numbers.{numbered, gives, is_void, name_void, decimal_text, digits_text, after_name, behind_block, block_at}
use Rattle.pg_num.specs.declared.operations.Compare.TheVariants as compare
use Rattle.pg_num.specs.declared.width.Width.TheVariants.{W1, W8, W32, W64}
use Rattle.pg_ir.specs.declared.value.Scalar.TheVariants as scalar
use Rattle.pg_ir.specs.declared.value.Value.TheVariants as value
use Rattle.pg_ir.specs.declared.value.Scale.TheVariants as scale
use Rattle.pg_ir.specs.declared.instr.Op.TheVariants as op
use Rattle.pg_ir.specs.declared.library_call.LibraryCall.TheVariants as known
use Rattle.pg_ir.specs.Program.{numbered_program}
use Rattle.pg_check_rules.specs.declared.fault.CheckKind.{CheckKind}
use Rattle.pg_check_rules.specs.declared.fault.CheckKind.TheVariants.{UnknownName, Doubled, WrongType, NoBlock, BadPhi, Unsupported, BadSignature, TooLarge, NoMain}
use Rattle.pg_check_types.specs.Resolved.{ResolvedType, IntegerType, NoFields, MoreFields, resolved, type_within, type_by, fields_by, same_type}
use Rattle.pg_check_types.specs.Layout.{size_of, fields_end, alignment_of, field_offsets}
use Rattle.pg_check_rules.specs.KnownNames.{known_name, known_named}
use Rattle.pg_check_rules.specs.Names.{symbol, registers_of, register_named, register_number, label_number, first_block, first_line, doubled}
use Rattle.pg_check_rules.specs.Written.{inner_uses, index_uses, operands, types_within, types_within_all, op_types, op_demands, const_uses, part_uses, const_types, part_types}
use Rattle.pg_check_rules.specs.Written.{label_targets, label_sources}
use Rattle.pg_check_rules.specs.TypeConditions.{unknown_types, wrong_counts, wrong_types, any_large}
use Rattle.pg_check_rules.specs.ValueConditions.{wrong_indices, wrong_use, wrong_const, wrong_elements, wrong_fields}
use Rattle.pg_check_rules.specs.LineConditions.{line_refused}
use Rattle.pg_check_rules.specs.BlockConditions.{predecessors, bad_phis}
use Rattle.pg_check_rules.specs.Conditions.{RefusedPlaces, meets, self_contained, item_refused, globals_end, global_refused, declaration_refused, definition_refused, body_refused, main_refused}
use Rattle.pg_check_rules.specs.Conditions.{heads_refused, phases}
use Rattle.pg_check_rules.specs.Constants.{start_granule, pointer_word, const_bytes, element_bytes, field_bytes}
use Rattle.pg_check_rules.specs.Numbered.{value_of, op_at, program_of}

-- ---- how the examples are written: a place is where a token begins

abbrev pub at : ℕ → Span
at a = record { start = a; end = a }

abbrev pub name : ℕ → List ℕ → Name
name a text = record { text = text; span = at a }

abbrev pub literal : ℕ → List ℕ → Literal
literal a text = record { text = text; span = at a }

abbrev pub typed : Ty → Val → Typed
typed t v = record { ty = t; value = v }

abbrev pub line : Op → Line
line o = record { name = None; op = o }

abbrev pub set : Name → Op → Line
set n o = record { name = Some n; op = o }

abbrev pub places : CheckKind → List Span → List (CheckKind × ℕ)
places kind spans = map (λ (s : Span). (kind, s.start)) spans

-- all that a part refuses
abbrev pub found : RefusedPlaces → List (CheckKind × ℕ)
found p =
    places UnknownName (p UnknownName) ++ (places Doubled (p Doubled) ++ (places WrongType (p WrongType)
    ++ (places NoBlock (p NoBlock) ++ (places BadPhi (p BadPhi) ++ (places Unsupported (p Unsupported)
    ++ (places BadSignature (p BadSignature) ++ (places TooLarge (p TooLarge) ++ places NoMain (p NoMain))))))))

-- ---- layout

-- { i8, i64, i32 } is 24 bytes, its fields at 0, 8 and 16
abbrev pub mixed : ResolvedType
mixed = MoreFields (MoreFields (MoreFields NoFields (IntegerType W8)) (IntegerType W64)) (IntegerType W32)

mixed_size : size_of mixed ≡ 24
unfolding size_of alignment_of fields_end
mixed_size = refl

mixed_offsets : field_offsets mixed ≡ 0 ∷ 8 ∷ 16 ∷ []
unfolding size_of alignment_of fields_end
mixed_offsets = refl

-- ---- a type that contains itself: %a = type { %a }

abbrev pub circle : Tree
circle = record {
  types = record { name = name 0 (codes "a"); ty = syntax.Struct (at 10) (tys (syntax.Named (name 12 (codes "a")) ∷ [])) } ∷ [];
  globals = [];
  declares = [];
  functions = [];
}

circle_found : map found (phases circle) ≡ ((WrongType, 12) ∷ []) ∷ [] ∷ [] ∷ ((NoMain, 0) ∷ []) ∷ []
unfolding phases item_refused self_contained meets unknown_types wrong_types any_large resolved type_within type_by fields_by types_within types_within_all doubled heads_refused main_refused size_of
circle_found = refl

-- ---- a call of a function that is neither defined nor known
-- declare i32 @printf(ptr, ...)
-- @s = constant [2 x i8] c"a\00"
-- define i32 @main() { %1 = call i32 (ptr, ...) @printf(ptr @s) ret i32 0 }

abbrev pub text_param : syntax.Dparam
text_param = syntax.ParamOf (record { ty = syntax.Ptr (at 2); name = None })

abbrev pub printing : Tree
printing = record {
  types = [];
  globals = record {
    name = name 10 (codes "s");
    is_constant = true;
    ty = syntax.Array (at 11) (literal 12 (codes "2")) (syntax.I8 (at 13));
    value = syntax.BytesConst (literal 14 (97 ∷ 0 ∷ []));
  } ∷ [];
  declares = record { result = syntax.I32 (at 0); name = name 1 (codes "printf"); params = text_param ∷ syntax.Dots (at 3) ∷ [] } ∷ [];
  functions = record {
    result = syntax.I32 (at 20);
    name = name 21 (codes "main");
    params = [];
    blocks = record {
      label = None;
      lines =
          set (name 22 (codes "1")) (syntax.Call (at 23) (syntax.I32 (at 24)) (Some (record { types = syntax.Ptr (at 25) ∷ []; dots = true })) (name 26 (codes "printf"))
          (typed (syntax.Ptr (at 27)) (syntax.Global (name 28 (codes "s"))) ∷ []))
          ∷ line (syntax.Ret (at 29) (typed (syntax.I32 (at 30)) (syntax.Int (literal 31 (codes "0"))))) ∷ [];
    } ∷ [];
  } ∷ [];
}

printing_found : map found (phases printing) ≡ [] ∷ [] ∷ [] ∷ ((Unsupported, 26) ∷ []) ∷ [] ∷ []
unfolding phases global_refused globals_end wrong_const declaration_refused definition_refused body_refused line_refused bad_phis predecessors heads_refused main_refused unknown_types
    wrong_counts wrong_types any_large resolved type_within type_by fields_by types_within types_within_all doubled size_of same_type known_named known_name symbol registers_of register_named
    label_number inner_uses operands op_types op_demands const_uses const_types label_targets label_sources wrong_use numbered gives is_void behind_block block_at decimal_text after_name
printing_found = refl

-- ---- a numbered program
-- %s = type { i8, i64 }
-- @a = global [2 x %s] zeroinitializer
-- @p = global ptr getelementptr (%s, ptr @a, i64 1, i32 1)
-- @n = constant { i8, i32 } { i8 7, i32 -2 }
-- declare i32 @pthread_create(ptr, ptr, ptr, ptr)
-- define ptr @f(ptr %0) { ret ptr %0 }
-- define i32 @main() {
--   %1 = call i32 @pthread_create(ptr @a, ptr null, ptr @f, ptr null)
--   br label %w
-- w:
--   %k = phi i64 [ 0, %0 ], [ %m, %w ]
--   %m = add i64 %k, 1
--   %q = getelementptr %s, ptr @a, i64 %k, i32 1
--   %c = icmp slt i64 %m, 3
--   br i1 %c, label %w, label %o
-- o:
--   ret i32 0
-- }

abbrev pub i8 : Ty
i8 = syntax.I8 (at 500)

abbrev pub i32 : Ty
i32 = syntax.I32 (at 501)

abbrev pub i64 : Ty
i64 = syntax.I64 (at 502)

abbrev pub ptr : Ty
ptr = syntax.Ptr (at 503)

abbrev pub named_s : Ty
named_s = syntax.Named (name 504 (codes "s"))

abbrev pub int : List ℕ → Val
int text = syntax.Int (literal 505 text)

abbrev pub register : List ℕ → Val
register text = syntax.Local (name 506 text)

abbrev pub pointer : List ℕ → Typed
pointer text = typed ptr (syntax.Global (name 507 text))

abbrev pub null : Typed
null = typed ptr (syntax.Null (at 508))

abbrev pub label : List ℕ → Name
label text = name 509 text

abbrev pub pointer_param : syntax.Dparam
pointer_param = syntax.ParamOf (record { ty = ptr; name = None })

abbrev pub rows_types : List NamedType
rows_types = record { name = name 0 (codes "s"); ty = syntax.Struct (at 1) (tys (i8 ∷ i64 ∷ [])) } ∷ []

abbrev pub rows_globals : List Variable
rows_globals =
    record { name = name 2 (codes "a"); is_constant = false; ty = syntax.Array (at 3) (literal 4 (codes "2")) named_s; value = syntax.ValConst (syntax.ZeroInitializer (at 5)) }
    ∷ record {
      name = name 6 (codes "p");
      is_constant = false;
      ty = ptr;
      value = syntax.ValConst (syntax.GepVal (at 7) named_s ptr (syntax.Global (name 8 (codes "a"))) (vals (typed i64 (int (codes "1")) ∷ typed i32 (int (codes "1")) ∷ [])));
    }
    ∷ record {
      name = name 9 (codes "n");
      is_constant = true;
      ty = syntax.Struct (at 10) (tys (i8 ∷ i32 ∷ []));
      value = syntax.StructConst (at 11) (consts (record { ty = i8; value = syntax.ValConst (int (codes "7")) } ∷ record { ty = i32; value = syntax.ValConst (int (codes "-2")) } ∷ []));
    }
    ∷ []

abbrev pub rows_main : Definition
rows_main = record {
  result = i32;
  name = name 100 (codes "main");
  params = [];
  blocks =
      record {
        label = None;
        lines =
            set (name 101 (codes "1")) (syntax.Call (at 102) i32 None (name 103 (codes "pthread_create")) (pointer (codes "a") ∷ null ∷ pointer (codes "f") ∷ null ∷ []))
            ∷ line (syntax.Br (at 104) (label (codes "w"))) ∷ [];
      }
      ∷ record {
        label = Some (name 110 (codes "w"));
        lines =
            set (name 111 (codes "k")) (syntax.Phi (at 112) i64 (record { value = int (codes "0"); block = label (codes "0") })
            (record { value = register (codes "m"); block = label (codes "w") } ∷ []))
            ∷ set (name 113 (codes "m")) (syntax.Binary (at 114) binary.Add i64 (register (codes "k")) (int (codes "1")))
            ∷ set (name 115 (codes "q")) (syntax.GetElementPtr (at 116) named_s (pointer (codes "a")) (typed i64 (register (codes "k")) ∷ typed i32 (int (codes "1")) ∷ []))
            ∷ set (name 117 (codes "c")) (syntax.Icmp (at 118) compare.Slt i64 (register (codes "m")) (int (codes "3")))
            ∷ line (syntax.CondBr (at 119) (typed (syntax.I1 (at 120)) (register (codes "c"))) (label (codes "w")) (label (codes "o"))) ∷ [];
      }
      ∷ record { label = Some (name 130 (codes "o")); lines = line (syntax.Ret (at 131) (typed i32 (int (codes "0")))) ∷ [] }
      ∷ [];
}

abbrev pub rows : Tree
rows = record {
  types = rows_types;
  globals = rows_globals;
  declares = record { result = i32; name = name 20 (codes "pthread_create"); params = pointer_param ∷ pointer_param ∷ pointer_param ∷ pointer_param ∷ [] } ∷ [];
  functions =
      record {
        result = ptr;
        name = name 30 (codes "f");
        params = record { ty = ptr; name = None } ∷ [];
        blocks = record { label = None; lines = line (syntax.Ret (at 31) (typed ptr (register (codes "0")))) ∷ [] } ∷ [];
      }
      ∷ rows_main ∷ [];
}

rows_found : map found (phases rows) ≡ [] ∷ [] ∷ [] ∷ [] ∷ [] ∷ [] ∷ []
unfolding phases item_refused self_contained meets global_refused globals_end wrong_const wrong_elements wrong_fields declaration_refused definition_refused body_refused line_refused bad_phis
    predecessors heads_refused main_refused unknown_types wrong_counts wrong_types any_large resolved type_within type_by fields_by types_within types_within_all doubled size_of alignment_of
    fields_end same_type known_named known_name symbol registers_of register_named label_number inner_uses index_uses operands op_types op_demands const_uses part_uses const_types part_types
    label_targets label_sources wrong_use wrong_indices numbered gives is_void name_void behind_block block_at decimal_text digits_text after_name
rows_found = refl

rows_numbered : program_of rows ≡ numbered_program
    (record { params = 1; registers = scalar.Ptr ∷ []; first_block = record { 0 = 0 }; blocks = 1; result = Some scalar.Ptr }
    ∷ record {
      params = 0;
      registers = scalar.Int W32 ∷ scalar.Int W64 ∷ scalar.Int W64 ∷ scalar.Ptr ∷ scalar.Int W1 ∷ [];
      first_block = record { 0 = 1 };
      blocks = 3;
      result = Some (scalar.Int W32);
    }
    ∷ [])
    (record { function = 0; first = record { 0 = 0 }; count = 1 }
    ∷ record { function = 1; first = record { 0 = 1 }; count = 2 }
    ∷ record { function = 1; first = record { 0 = 3 }; count = 5 }
    ∷ record { function = 1; first = record { 0 = 8 }; count = 1 }
    ∷ [])
    (record { op = op.Ret (Some (value.Register 0)); block = record { 0 = 0 }; result = None }
    ∷ record { op = op.CallLibrary known.PthreadCreate (value.Global 0 ∷ value.Const 0 ∷ value.Function 0 ∷ value.Const 0 ∷ []); block = record { 0 = 1 }; result = Some 0 }
    ∷ record { op = op.Br (record { 0 = 2 }); block = record { 0 = 1 }; result = None }
    ∷ record {
      op = op.Phi (record { block = record { 0 = 1 }; value = value.Const 0 } ∷ record { block = record { 0 = 2 }; value = value.Register 2 } ∷ []);
      block = record { 0 = 2 };
      result = Some 1;
    }
    ∷ record { op = op.Add W64 (value.Register 1) (value.Const 1); block = record { 0 = 2 }; result = Some 2 }
    ∷ record {
      op = op.Gep (value.Global 0) (record { value = value.Register 1; width = W64; scale = scale.Times 16 } ∷ record
          { value = value.Const 1; width = W32; scale = scale.Field 8 } ∷ []);
      block = record { 0 = 2 };
      result = Some 3;
    }
    ∷ record { op = op.Compare compare.Slt W64 (value.Register 2) (value.Const 3); block = record { 0 = 2 }; result = Some 4 }
    ∷ record { op = op.CondBr (value.Register 4) (record { 0 = 2 }) (record { 0 = 3 }); block = record { 0 = 2 }; result = None }
    ∷ record { op = op.Ret (Some (value.Const 0)); block = record { 0 = 3 }; result = None }
    ∷ [])
    (record { start = 1; size = 32; bytes = [] }
    ∷ record { start = 5; size = 8; bytes = 24 ∷ 0 ∷ 0 ∷ 4 ∷ 0 ∷ 4 ∷ [] }
    ∷ record { start = 6; size = 8; bytes = 7 ∷ 0 ∷ 0 ∷ 0 ∷ 254 ∷ 255 ∷ 255 ∷ 255 ∷ [] }
    ∷ [])
    1
unfolding program_of op_at value_of start_granule pointer_word const_bytes element_bytes field_bytes resolved type_within type_by fields_by size_of alignment_of fields_end known_named known_name
    symbol registers_of register_number label_number first_block first_line numbered gives is_void name_void behind_block block_at decimal_text digits_text after_name
rows_numbered = refl
