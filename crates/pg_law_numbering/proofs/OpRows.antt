-- The operations of an accepted tree fit their operands' and results' types, row by row; calls aside.
use Rattle.std.proofs.Common.{◌≡◌, ℕ, suc, ◌+◌, ◌<◌, List, [], ◌∷◌, ◌++◌, map, true, false, not, refl, sym, ap, ◌∙◌, subst, true≢false, arith, inl, inr}
use Rattle.std.specs.Prelude.{slice_get, Option, Some, None, unwrap_or, IsSomeAnd}
use Rattle.std.specs.List.{AllByRecursion}
use Rattle.std.proofs.lemmas.Bool.{ltb-true, and_parts}
use Rattle.std.proofs.lemmas.Option.{slice_get_within, same_Some}
use Rattle.pg_num.specs.Numbers.{modulus, width_bits}
use Rattle.pg_num.specs.declared.width.Width.{Width}
use Rattle.pg_num.specs.declared.width.Width.TheVariants.{W1, W8, W16, W32, W64}
use Rattle.pg_ir.specs.declared.value.Scalar.{Scalar}
use Rattle.pg_ir.specs.declared.value.Scalar.TheVariants as scalar
use Rattle.pg_ir.specs.declared.value.Value.{Value}
use Rattle.pg_ir.specs.declared.value.Scale.{Scale}
use Rattle.pg_ir.specs.declared.edge.Case as numbered_case
use Rattle.pg_ir.specs.Program.{NumberedProgram}
use Rattle.pg_ir.specs.WellFormed.{HasType, BothHaveType, FitsBinary, FitsCompare, FitsStored, HasWidth, IsNarrower, FitsIndex, FitsIncoming, FitsReturn, FitsOp}
use Rattle.pg_read_ast.specs.declared.names.Name.{Name}
use Rattle.pg_read_ast.specs.declared.ops.BinaryOp.{BinaryOp}
use Rattle.pg_read_ast.specs.declared.ops.BinaryOp.TheVariants as binary
use Rattle.pg_read_ast.specs.declared.ops.CastOp.{CastOp}
use Rattle.pg_read_ast.specs.declared.ops.CastOp.TheVariants as cast
use Rattle.pg_read_ast.specs.Syntax.{Ty, Typed, Incoming, Case, Count, Op, Binary, Icmp, Cast, Select, Phi, Br, CondBr, Switch, RetVoid, Ret, Unreachable, Alloca, Load, Store, GetElementPtr}
use Rattle.pg_read_ast.specs.Syntax.{NamedType, Definition, Tree}
use Rattle.pg_read_ast.specs.Numbers.{is_void, gives}
use Rattle.pg_check_types.specs.Resolved.{ResolvedType, IntegerType, PointerType, VoidType, ArrayType, NoFields, MoreFields, resolved, is_integer, is_pointer, is_bit, is_scalar}
use Rattle.pg_check_types.specs.Resolved.{is_void_type, same_type}
use Rattle.pg_check_rules.specs.Names.{result_type, labels_of, first_block}
use Rattle.pg_check_rules.specs.Written.{operand, typed_operand, operands, op_types, asks, asks_typed, is_narrower, is_wider, cast_from, cast_to, op_demands, label_targets, label_sources}
use Rattle.pg_check_rules.specs.ValueConditions.{number_at}
use Rattle.pg_check_rules.specs.CallConditions.{value_operands}
use Rattle.pg_check_rules.specs.LineConditions.{no_block}
use Rattle.pg_check_rules.specs.Constants.{index_scales}
use Rattle.pg_check_rules.specs.Conditions.{scope_of, IsUnrefused}
use Rattle.pg_check_rules.specs.Numbered.{scalar_in, width_in, value_of, binary_op, cast_op, incoming_at, case_at, indices_at, op_at, named_functions, program_of}
use Rattle.pg_check_types.specs.Kinds.{is_as, fails}
use Rattle.pg_law_numbering.specs.Parsed.{IsInOrder}
use Rattle.pg_law_numbering.proofs.FlattenedLists.{in_front}
use Rattle.pg_law_numbering.proofs.UnrefusedParts.{then_none}
use Rattle.pg_check_types.proofs.SameTypes.{same_type_true}
use Rattle.pg_check_types.proofs.Voids.{void_resolved}
use Rattle.pg_law_numbering.proofs.Scalars.{scalar_from, integer_is, pointer_is, void_type_is, isnt_void_type, returnable_or, passes_from}
use Rattle.pg_law_numbering.proofs.NumberedPlaces.{block_there}
use Rattle.pg_law_numbering.proofs.LineOperations.{Passes}
use Rattle.pg_law_numbering.proofs.Registers.{scalars_of}
use Rattle.pg_law_numbering.proofs.ConstantWidths.{constant_below}
use Rattle.pg_law_numbering.proofs.Operands.{operand_fits, no_void_operand}
use Rattle.pg_law_numbering.proofs.ScalarResults.{cast_scalar}
use Rattle.pg_law_numbering.proofs.Labels.{names_from, target}
use Rattle.pg_law_numbering.proofs.Headers.{result_has, result_returnable}
use Rattle.pg_law_numbering.proofs.ChoiceTests.{not_from}
use Rattle.pg_law_numbering.proofs.FilteredLists.{map_there}

-- ---- lists

-- an element of a mapped list before another list
pub mapped_front : {X Y : Type 0} (g : X → Y) (xs : List X) (ys : List Y) (k : ℕ) (x : X) → slice_get xs k ≡ Some x → slice_get (map g xs ++ ys) k ≡ Some (g x)
mapped_front g xs ys k x e = in_front (map g xs) ys k (g x) (map_there g xs k x e)

-- ---- types

bit_is : (r : ResolvedType) → is_bit r ≡ true → r ≡ IntegerType W1
bit_is (IntegerType W1) e = refl
bit_is (IntegerType W8) e = absurd cc
bit_is (IntegerType W16) e = absurd cc
bit_is (IntegerType W32) e = absurd cc
bit_is (IntegerType W64) e = absurd cc
bit_is PointerType e = absurd cc
bit_is VoidType e = absurd cc
bit_is (ArrayType n t) e = absurd cc
bit_is NoFields e = absurd cc
bit_is (MoreFields s t) e = absurd cc

-- a scalar type isn't void
solid : (types : List NamedType) (t : Ty) (r : ResolvedType) → resolved types t ≡ Some r → is_scalar r ≡ true → not (is_void types t) ≡ true
solid types t r e h = not_from (is_void types t) (λ v. let same : r ≡ VoidType = same_Some r VoidType (sym e ∙ void_resolved types t v) in
    true≢false (sym h ∙ ap (λ (q : ResolvedType). is_scalar q) same))

integer_solid : (types : List NamedType) (t : Ty) (w : Width) → resolved types t ≡ Some (IntegerType w) → not (is_void types t) ≡ true
integer_solid types t w e = solid types t (IntegerType w) e refl

-- a narrower integer, and a wider one
narrower_is : (v : Width) (r : ResolvedType) → is_narrower (Some (IntegerType v)) r ≡ true → (w : Width) × (r ≡ IntegerType w) × IsNarrower w v
narrower_is v (IntegerType w) e = (w, refl, ltb-true (width_bits w) (width_bits v) e)
narrower_is v PointerType e = absurd cc
narrower_is v VoidType e = absurd cc
narrower_is v (ArrayType n t) e = absurd cc
narrower_is v NoFields e = absurd cc
narrower_is v (MoreFields s t) e = absurd cc

wider_is : (v : Width) (r : ResolvedType) → is_wider (Some (IntegerType v)) r ≡ true → (w : Width) × (r ≡ IntegerType w) × IsNarrower v w
wider_is v (IntegerType w) e = (w, refl, ltb-true (width_bits v) (width_bits w) e)
wider_is v PointerType e = absurd cc
wider_is v VoidType e = absurd cc
wider_is v (ArrayType n t) e = absurd cc
wider_is v NoFields e = absurd cc
wider_is v (MoreFields s t) e = absurd cc

-- ---- rows over any program

module _ (p : NumberedProgram) (types : List Scalar) (returns : Option Scalar) where
  -- a value that has the type that a type is
  abbrev HasTypeOf : Option ResolvedType → Value → Type 0
  HasTypeOf o v = (s : Scalar) → scalar_in o ≡ Some s → HasType p types s v

  binary_row : (o : BinaryOp) (result : Option Scalar) (w : Width) (a b : Value) → FitsBinary p types result w a b → FitsOp p types returns result (binary_op o w a b)
  binary_row binary.Add result w a b h = h
  binary_row binary.Sub result w a b h = h
  binary_row binary.Mul result w a b h = h
  binary_row binary.Udiv result w a b h = h
  binary_row binary.Sdiv result w a b h = h
  binary_row binary.Urem result w a b h = h
  binary_row binary.Srem result w a b h = h
  binary_row binary.Shl result w a b h = h
  binary_row binary.Lshr result w a b h = h
  binary_row binary.Ashr result w a b h = h
  binary_row binary.And result w a b h = h
  binary_row binary.Or result w a b h = h
  binary_row binary.Xor result w a b h = h

  both_integers : (o : Option ResolvedType) (result : Option Scalar) (w : Width) (a b : Value) → o ≡ Some (IntegerType w) → result ≡ scalar_in o → HasTypeOf o a → HasTypeOf o b
      → FitsBinary p types result (width_in o) a b
  both_integers o result w a b e r ha hb =
      subst (λ (q : Width). FitsBinary p types result q a b) (sym (ap width_in e))
      (r ∙ ap scalar_in e, (ha (scalar.Int w) (ap scalar_in e), hb (scalar.Int w) (ap scalar_in e)))

  compare_row : (o : Option ResolvedType) (r : ResolvedType) (a b : Value) → o ≡ Some r → is_scalar r ≡ true → HasTypeOf o a → HasTypeOf o b → FitsCompare p types (width_in o) a b
  compare_row o (IntegerType w) a b e h ha hb =
      subst (λ (q : Width). FitsCompare p types q a b) (sym (ap width_in e)) (inl (ha (scalar.Int w) (ap scalar_in e), hb (scalar.Int w) (ap scalar_in e)))
  compare_row o PointerType a b e h ha hb =
      inr (ap width_in e, (ha scalar.Ptr (ap scalar_in e), hb scalar.Ptr (ap scalar_in e)))
  compare_row o VoidType a b e h ha hb = absurd cc
  compare_row o (ArrayType n t) a b e h ha hb = absurd cc
  compare_row o NoFields a b e h ha hb = absurd cc
  compare_row o (MoreFields s t) a b e h ha hb = absurd cc

  store_row : (o : Option ResolvedType) (r : ResolvedType) (v : Value) → o ≡ Some r → is_scalar r ≡ true → HasTypeOf o v → FitsStored p types (width_in o) v
  store_row o (IntegerType w) v e h hv = subst (λ (q : Width). FitsStored p types q v) (sym (ap width_in e)) (inl (hv (scalar.Int w) (ap scalar_in e)))
  store_row o PointerType v e h hv = inr (ap width_in e, hv scalar.Ptr (ap scalar_in e))
  store_row o VoidType v e h hv = absurd cc
  store_row o (ArrayType n t) v e h hv = absurd cc
  store_row o NoFields v e h hv = absurd cc
  store_row o (MoreFields s t) v e h hv = absurd cc

  load_row : (o : Option ResolvedType) (r : ResolvedType) (result : Option Scalar) → o ≡ Some r → is_scalar r ≡ true → result ≡ scalar_in o → HasWidth (width_in o) result
  load_row o (IntegerType w) result e h k = subst (HasWidth (width_in o)) (sym (k ∙ ap scalar_in e)) (sym (ap width_in e))
  load_row o PointerType result e h k = subst (HasWidth (width_in o)) (sym (k ∙ ap scalar_in e)) (sym (ap width_in e))
  load_row o VoidType result e h k = absurd cc
  load_row o (ArrayType n t) result e h k = absurd cc
  load_row o NoFields result e h k = absurd cc
  load_row o (MoreFields s t) result e h k = absurd cc

  -- a cast of one type to another
  cast_row : (o : CastOp) (from to : Option ResolvedType) (r t : ResolvedType) (result : Option Scalar) (v : Value) → from ≡ Some r → to ≡ Some t → cast_from o r ≡ true
      → cast_to o from t ≡ true → result ≡ scalar_in to → HasTypeOf from v → FitsOp p types returns result (cast_op o (width_in from) (width_in to) v)
  cast_row cast.Trunc from to r t result v e g a b k h =
      let x = integer_is r a in
      let f : from ≡ Some (IntegerType x.0) = e ∙ ap (λ (q : ResolvedType). Some q) x.1 in
      let y = narrower_is x.0 t (subst (λ (q : Option ResolvedType). is_narrower q t ≡ true) f b) in
      let c : to ≡ Some (IntegerType y.0) = g ∙ ap (λ (q : ResolvedType). Some q) y.1 in
      subst (λ (q : Width). FitsOp p types returns result (cast_op cast.Trunc q (width_in to) v)) (sym (ap width_in f))
      (subst (λ (q : Width). FitsOp p types returns result (cast_op cast.Trunc x.0 q v)) (sym (ap width_in c)) (k ∙ ap scalar_in c, y.2, h (scalar.Int x.0) (ap scalar_in f)))
  cast_row cast.Zext from to r t result v e g a b k h =
      let x = integer_is r a in
      let f : from ≡ Some (IntegerType x.0) = e ∙ ap (λ (q : ResolvedType). Some q) x.1 in
      let y = wider_is x.0 t (subst (λ (q : Option ResolvedType). is_wider q t ≡ true) f b) in
      let c : to ≡ Some (IntegerType y.0) = g ∙ ap (λ (q : ResolvedType). Some q) y.1 in
      subst (λ (q : Width). FitsOp p types returns result (cast_op cast.Zext q (width_in to) v)) (sym (ap width_in f))
      (subst (λ (q : Width). FitsOp p types returns result (cast_op cast.Zext x.0 q v)) (sym (ap width_in c)) (k ∙ ap scalar_in c, y.2, h (scalar.Int x.0) (ap scalar_in f)))
  cast_row cast.Sext from to r t result v e g a b k h =
      let x = integer_is r a in
      let f : from ≡ Some (IntegerType x.0) = e ∙ ap (λ (q : ResolvedType). Some q) x.1 in
      let y = wider_is x.0 t (subst (λ (q : Option ResolvedType). is_wider q t ≡ true) f b) in
      let c : to ≡ Some (IntegerType y.0) = g ∙ ap (λ (q : ResolvedType). Some q) y.1 in
      subst (λ (q : Width). FitsOp p types returns result (cast_op cast.Sext q (width_in to) v)) (sym (ap width_in f))
      (subst (λ (q : Width). FitsOp p types returns result (cast_op cast.Sext x.0 q v)) (sym (ap width_in c)) (k ∙ ap scalar_in c, y.2, h (scalar.Int x.0) (ap scalar_in f)))
  cast_row cast.PtrToInt from to r t result v e g a b k h =
      let f : from ≡ Some PointerType = e ∙ ap (λ (q : ResolvedType). Some q) (pointer_is r a) in
      let y = integer_is t b in
      let c : to ≡ Some (IntegerType y.0) = g ∙ ap (λ (q : ResolvedType). Some q) y.1 in
      subst (λ (q : Width). FitsOp p types returns result (cast_op cast.PtrToInt (width_in from) q v)) (sym (ap width_in c)) (k ∙ ap scalar_in c, ap width_in f, h scalar.Ptr (ap scalar_in f))
  cast_row cast.IntToPtr from to r t result v e g a b k h =
      let x = integer_is r a in
      let f : from ≡ Some (IntegerType x.0) = e ∙ ap (λ (q : ResolvedType). Some q) x.1 in
      let c : to ≡ Some PointerType = g ∙ ap (λ (q : ResolvedType). Some q) (pointer_is t b) in
      subst (λ (q : Width). FitsOp p types returns result (cast_op cast.IntToPtr q (width_in to) v)) (sym (ap width_in f)) (k ∙ ap scalar_in c, ap width_in c, h (scalar.Int x.0) (ap scalar_in f))

  return_row : (s : Scalar) (v : Value) → returns ≡ Some s → HasType p types s v → FitsReturn p types returns (Some v)
  return_row s v e h = subst (λ (q : Option Scalar). FitsReturn p types q (Some v)) (sym e) h

  no_return_row : returns ≡ None → FitsReturn p types returns None
  no_return_row e = subst (λ (q : Option Scalar). FitsReturn p types q None) (sym e) tt

-- the cases of a switch are numbers of its width
cases_row : (m : Tree) (d : Definition) (first : ℕ) (t : Ty) (w : Width) → resolved m.types t ≡ Some (IntegerType w) → (all : List Case)
    → AllByRecursion (λ (c : numbered_case.Case). c.value < modulus (width_in (resolved m.types t))) (map (case_at (scope_of m d) first t) all)
cases_row m d first t w e [] = tt
cases_row m d first t w e (c ∷ cs) =
    (subst (λ (o : Option ResolvedType). unwrap_or (number_at o c.value.value) 0 < modulus (width_in o)) (sym e) (constant_below w c.value.value), cases_row m d first t w e cs)

-- what is returned is of the function's type
returned_is : (o : Option ResolvedType) (r t : ResolvedType) → o ≡ Some r → is_as o t ≡ true → r ≡ t
returned_is o r t e h = same_type_true r t (subst (λ (q : Option ResolvedType). is_as q t ≡ true) e h)

module _ (m : Tree) (accepted : IsUnrefused m) (order : IsInOrder m) (f : ℕ) (d : Definition) (there : slice_get (named_functions m) f ≡ Some d) where
  abbrev TypeOf : Ty → Value → Type 0
  TypeOf t v = (s : Scalar) → scalar_in (resolved m.types t) ≡ Some s → HasType (program_of m) (scalars_of m d) s v

  -- the operation of a line fits, where the register that it sets has its result's type
  abbrev pub Row : Op → Type 0
  Row o = (result : Option Scalar) → (gives m.types o ≡ true → result ≡ scalar_in (result_type m.types o)) → (gives m.types o ≡ false → result ≡ None)
      → FitsOp (program_of m) (scalars_of m d) (scalar_in (resolved m.types d.result)) result (op_at (scope_of m d) (first_block m.functions f) o)

  -- ---- lists of operands

  incoming_row : (s : Op) (t : Ty) (all : List Incoming) (sc : Scalar) → scalar_in (resolved m.types t) ≡ Some sc
      → ((k : ℕ) (j : Incoming) → slice_get all k ≡ Some j → TypeOf t (value_of (scope_of m d) (resolved m.types t) j.value) × (no_block (labels_of d) j.block ≡ []))
      → AllByRecursion (FitsIncoming (program_of m) (scalars_of m d) sc) (map (incoming_at (scope_of m d) (first_block m.functions f) t) all)
  incoming_row s t [] sc e h = tt
  incoming_row s t (j ∷ js) sc e h =
      let own = h 0 j refl in
      let named = names_from m accepted order f d there j.block own.1 in
      let number : target d (first_block m.functions f) j.block ≡ first_block m.functions f + named.number = ap (λ (o : Option ℕ). first_block m.functions f + unwrap_or o 0) named.is in
      let within = slice_get_within (program_of m).blocks (first_block m.functions f + named.number) _ (block_there m f d named.number named.block there named.there) in
      ((omega (arith, within, number), own.0 sc e), incoming_row s t js sc e (λ (k : ℕ) (i : Incoming) g. h (suc k) i g))

  indices_row : (is : List Typed) (ss : List Scale) → ((k : ℕ) (i : Typed) → slice_get is k ≡ Some i
      → HasType (program_of m) (scalars_of m d) (scalar.Int (width_in (resolved m.types i.ty))) (value_of (scope_of m d) (resolved m.types i.ty) i.value))
      → AllByRecursion (FitsIndex (program_of m) (scalars_of m d)) (indices_at (scope_of m d) is ss)
  indices_row [] [] h = tt
  indices_row [] (s ∷ ss) h = tt
  indices_row (i ∷ is) [] h = tt
  indices_row (i ∷ is) (s ∷ ss) h = (h 0 i refl, indices_row is ss (λ (k : ℕ) (j : Typed) g. h (suc k) j g))

  index_fits : (o : Op) → Passes m d o → (k : ℕ) (i : Typed) (r : ResolvedType) → resolved m.types i.ty ≡ Some r → is_integer r ≡ true
      → TypeOf i.ty (value_of (scope_of m d) (resolved m.types i.ty) i.value)
      → HasType (program_of m) (scalars_of m d) (scalar.Int (width_in (resolved m.types i.ty))) (value_of (scope_of m d) (resolved m.types i.ty) i.value)
  index_fits o p k i r e g h =
      let w = integer_is r g in
      let t : resolved m.types i.ty ≡ Some (IntegerType w.0) = e ∙ ap (λ (q : ResolvedType). Some q) w.1 in
      h (scalar.Int (width_in (resolved m.types i.ty))) (ap scalar_in t ∙ ap (λ (q : Width). Some (scalar.Int q)) (sym (ap width_in t)))

  -- ---- rows

  pub binary_fits : (s : _) (o : BinaryOp) (t : Ty) (a b : _) → Passes m d (Binary s o t a b) → Row (Binary s o t a b)
  unfolding gives op_at op_types op_demands operands
  binary_fits s o t a b p result given nothing =
      let r = p.types 0 t refl in
      let w = integer_is r.0 (p.demands 0 (asks is_integer t) refl r.0 r.1) in
      let e : resolved m.types t ≡ Some (IntegerType w.0) = r.1 ∙ ap (λ (q : ResolvedType). Some q) w.1 in
      binary_row (program_of m) (scalars_of m d) (scalar_in (resolved m.types d.result)) o result (width_in (resolved m.types t)) (value_of (scope_of m d) (resolved m.types t) a)
      (value_of (scope_of m d) (resolved m.types t) b)
      (both_integers (program_of m) (scalars_of m d) (scalar_in (resolved m.types d.result)) (resolved m.types t) result w.0 (value_of (scope_of m d) (resolved m.types t) a)
      (value_of (scope_of m d) (resolved m.types t) b) e (given (integer_solid m.types t w.0 e))
      (operand_fits m accepted f d there (Binary s o t a b) p 0 t a refl) (operand_fits m accepted f d there (Binary s o t a b) p 1 t b refl))

  pub compare_fits : (s : _) (o : _) (t : Ty) (a b : _) → Passes m d (Icmp s o t a b) → Row (Icmp s o t a b)
  unfolding gives op_at op_types op_demands operands
  compare_fits s o t a b p result given nothing =
      let r = p.types 0 t refl in (
        given refl,
        compare_row (program_of m) (scalars_of m d) (scalar_in (resolved m.types d.result)) (resolved m.types t) r.0 (value_of (scope_of m d) (resolved m.types t) a)
            (value_of (scope_of m d) (resolved m.types t) b) r.1 (p.demands 0 (asks is_scalar t) refl r.0 r.1)
            (operand_fits m accepted f d there (Icmp s o t a b) p 0 t a refl) (operand_fits m accepted f d there (Icmp s o t a b) p 1 t b refl),
      )

  pub cast_fits : (s : _) (o : CastOp) (v : Typed) (t : Ty) → Passes m d (Cast s o v t) → Row (Cast s o v t)
  unfolding gives op_at op_types op_demands operands
  cast_fits s o v t p result given nothing =
      let r = p.types 0 v.ty refl in
      let c = p.types 1 t refl in
      let to = p.demands 1 (asks (cast_to o (resolved m.types v.ty)) t) refl c.0 c.1 in
      cast_row (program_of m) (scalars_of m d) (scalar_in (resolved m.types d.result)) o (resolved m.types v.ty) (resolved m.types t) r.0 c.0 result
      (value_of (scope_of m d) (resolved m.types v.ty) v.value) r.1 c.1
      (p.demands 0 (asks_typed (cast_from o) v) refl r.0 r.1) to (given (solid m.types t c.0 c.1 (cast_scalar o (resolved m.types v.ty) c.0 to)))
      (operand_fits m accepted f d there (Cast s o v t) p 0 v.ty v.value refl)

  pub select_fits : (s : _) (c a b : Typed) → Passes m d (Select s c a b) → Row (Select s c a b)
  unfolding gives op_at op_types op_demands operands
  select_fits s c a b p result given nothing =
      let rc = p.types 0 c.ty refl in
      let ra = p.types 1 a.ty refl in
      let rb = p.types 2 b.ty refl in
      let bit : resolved m.types c.ty ≡ Some (IntegerType W1) = rc.1 ∙ ap (λ (q : ResolvedType). Some q) (bit_is rc.0 (p.demands 0 (asks_typed is_bit c) refl rc.0 rc.1)) in
      let sa = p.demands 1 (asks_typed is_scalar a) refl ra.0 ra.1 in
      let scalar_a = scalar_from (resolved m.types a.ty) ra.0 ra.1 sa in
      let as_a = p.demands 2 (asks_typed (is_as (resolved m.types a.ty)) b) refl rb.0 rb.1 in
      let same : resolved m.types b.ty ≡ resolved m.types a.ty = rb.1
      ∙ ap (λ (q : ResolvedType). Some q) (sym (same_type_true ra.0 rb.0 (subst (λ (o : Option ResolvedType). is_as o rb.0 ≡ true) ra.1 as_a))) ∙ sym ra.1 in
      let r : result ≡ Some scalar_a.scalar = given (solid m.types a.ty ra.0 ra.1 sa) ∙ scalar_a.is in (
        operand_fits m accepted f d there (Select s c a b) p 0 c.ty c.value refl (scalar.Int W1) (ap scalar_in bit),
        subst (λ (o : Option Scalar). IsSomeAnd o (λ x. BothHaveType (program_of m) (scalars_of m d) x (value_of (scope_of m d) (resolved m.types a.ty) a.value)
            (value_of (scope_of m d) (resolved m.types b.ty) b.value))) (sym r) (
              operand_fits m accepted f d there (Select s c a b) p 1 a.ty a.value refl scalar_a.scalar scalar_a.is,
              operand_fits m accepted f d there (Select s c a b) p 2 b.ty b.value refl scalar_a.scalar (ap scalar_in same ∙ scalar_a.is),
            ),
      )

  pub phi_fits : (s : _) (t : Ty) (i : Incoming) (all : List Incoming) → Passes m d (Phi s t i all) → Row (Phi s t i all)
  unfolding gives op_at op_types op_demands operands label_targets label_sources
  phi_fits s t i all p result given nothing =
      let r = p.types 0 t refl in
      let sc = p.demands 0 (asks is_scalar t) refl r.0 r.1 in
      let scalar_t = scalar_from (resolved m.types t) r.0 r.1 sc in
      let k : result ≡ Some scalar_t.scalar = given (solid m.types t r.0 r.1 sc) ∙ scalar_t.is in
      subst (λ (o : Option Scalar). IsSomeAnd o (λ x. AllByRecursion (FitsIncoming (program_of m) (scalars_of m d) x)
      (map (incoming_at (scope_of m d) (first_block m.functions f) t) (i ∷ all)))) (sym k)
      (incoming_row (Phi s t i all) t (i ∷ all) scalar_t.scalar scalar_t.is
      (λ (n : ℕ) (j : Incoming) e. (
        operand_fits m accepted f d there (Phi s t i all) p n t j.value (map_there (λ (x : Incoming). operand t x.value) (i ∷ all) n j e),
        p.labels n j.block (map_there (λ (x : Incoming). x.block) (i ∷ all) n j e),
      )))

  pub branch_fits : (s : _) (b : Name) → Passes m d (Br s b) → Row (Br s b)
  unfolding gives op_at
  branch_fits s b p result given nothing = nothing refl

  pub choice_fits : (s : _) (c : Typed) (a b : Name) → Passes m d (CondBr s c a b) → Row (CondBr s c a b)
  unfolding gives op_at op_types op_demands operands
  choice_fits s c a b p result given nothing =
      let rc = p.types 0 c.ty refl in
      let bit : resolved m.types c.ty ≡ Some (IntegerType W1) = rc.1 ∙ ap (λ (q : ResolvedType). Some q) (bit_is rc.0 (p.demands 0 (asks_typed is_bit c) refl rc.0 rc.1)) in
      (nothing refl, operand_fits m accepted f d there (CondBr s c a b) p 0 c.ty c.value refl (scalar.Int W1) (ap scalar_in bit))

  pub switch_fits : (s : _) (v : Typed) (b : Name) (all : List Case) → Passes m d (Switch s v b all) → Row (Switch s v b all)
  unfolding gives op_at op_types op_demands operands
  switch_fits s v b all p result given nothing =
      let r = p.types 0 v.ty refl in
      let w = integer_is r.0 (p.demands 0 (asks_typed is_integer v) refl r.0 r.1) in
      let e : resolved m.types v.ty ≡ Some (IntegerType w.0) = r.1 ∙ ap (λ (q : ResolvedType). Some q) w.1 in (
        nothing refl,
        operand_fits m accepted f d there (Switch s v b all) p 0 v.ty v.value refl (scalar.Int (width_in (resolved m.types v.ty)))
            (ap scalar_in e ∙ ap (λ (q : Width). Some (scalar.Int q)) (sym (ap width_in e))),
        cases_row m d (first_block m.functions f) v.ty w.0 e all,
      )

  pub return_void_fits : (s v : _) → Passes m d (RetVoid s v) → Row (RetVoid s v)
  unfolding gives op_at
  return_void_fits s v p result given nothing =
      let r = result_has m accepted f d there in
      let void = void_type_is r.0 (passes_from is_void_type (resolved m.types d.result) r.0 (then_none (fails is_void_type (resolved m.types d.result)) v p.returned) r.1) in
      (nothing refl, no_return_row (program_of m) (scalars_of m d) (scalar_in (resolved m.types d.result)) (ap scalar_in (r.1 ∙ ap (λ (q : ResolvedType). Some q) void)))

  pub return_fits : (s : _) (v : Typed) → Passes m d (Ret s v) → Row (Ret s v)
  unfolding gives op_at op_types op_demands operands
  return_fits s v p result given nothing =
      let r = result_has m accepted f d there in
      let rv = p.types 0 v.ty refl in
      let same = returned_is (resolved m.types d.result) r.0 rv.0 r.1 (p.demands 0 (asks_typed (is_as (resolved m.types d.result)) v) refl rv.0 rv.1) in
      let value = isnt_void_type r.0 (λ e. no_void_operand m accepted f d there (Ret s v) p 0 v.ty v.value refl (rv.1 ∙ ap (λ (q : ResolvedType). Some q) (sym same ∙ e))) in
      let scalar_r = scalar_from (resolved m.types d.result) r.0 r.1 (returnable_or r.0 (result_returnable m accepted f d there r.0 r.1) value) in
      let types : resolved m.types v.ty ≡ resolved m.types d.result = rv.1 ∙ ap (λ (q : ResolvedType). Some q) (sym same) ∙ sym r.1 in (
        nothing refl,
        return_row (program_of m) (scalars_of m d) (scalar_in (resolved m.types d.result)) scalar_r.scalar (value_of (scope_of m d) (resolved m.types v.ty) v.value) scalar_r.is
            (operand_fits m accepted f d there (Ret s v) p 0 v.ty v.value refl scalar_r.scalar (ap scalar_in types ∙ scalar_r.is)),
      )

  pub unreachable_fits : (s : _) → Passes m d (Unreachable s) → Row (Unreachable s)
  unfolding gives op_at
  unreachable_fits s p result given nothing = nothing refl

  pub alloca_fits : (s : _) (t : Ty) (n : Option Count) → Passes m d (Alloca s t n) → Row (Alloca s t n)
  unfolding gives op_at
  alloca_fits s t n p result given nothing = given refl

  pointer_operand : (o : Op) → Passes m d o → (i : ℕ) (t : Ty) (v : _) → slice_get (value_operands (scope_of m d) o) i ≡ Some (record { constant = false; ty = t; value = v })
      → (r : ResolvedType) → resolved m.types t ≡ Some r → is_pointer r ≡ true → HasType (program_of m) (scalars_of m d) scalar.Ptr (value_of (scope_of m d) (resolved m.types t) v)
  pointer_operand o p i t v e r h k = operand_fits m accepted f d there o p i t v e scalar.Ptr (ap scalar_in (h ∙ ap (λ (q : ResolvedType). Some q) (pointer_is r k)))

  pub load_fits : (s : _) (t : Ty) (v : Typed) → Passes m d (Load s t v) → Row (Load s t v)
  unfolding gives op_at op_types op_demands operands
  load_fits s t v p result given nothing =
      let r = p.types 0 t refl in
      let rv = p.types 1 v.ty refl in
      let sc = p.demands 0 (asks is_scalar t) refl r.0 r.1 in (
        load_row (program_of m) (scalars_of m d) (scalar_in (resolved m.types d.result)) (resolved m.types t) r.0 result r.1 sc (given (solid m.types t r.0 r.1 sc)),
        pointer_operand (Load s t v) p 0 v.ty v.value refl rv.0 rv.1 (p.demands 1 (asks_typed is_pointer v) refl rv.0 rv.1),
      )

  pub store_fits : (s : _) (v at : Typed) → Passes m d (Store s v at) → Row (Store s v at)
  unfolding gives op_at op_types op_demands operands
  store_fits s v at p result given nothing =
      let rv = p.types 0 v.ty refl in
      let ra = p.types 1 at.ty refl in (
        nothing refl,
        store_row (program_of m) (scalars_of m d) (scalar_in (resolved m.types d.result)) (resolved m.types v.ty) rv.0 (value_of (scope_of m d) (resolved m.types v.ty) v.value) rv.1
            (p.demands 0 (asks_typed is_scalar v) refl rv.0 rv.1) (operand_fits m accepted f d there (Store s v at) p 0 v.ty v.value refl),
        pointer_operand (Store s v at) p 1 at.ty at.value refl ra.0 ra.1 (p.demands 1 (asks_typed is_pointer at) refl ra.0 ra.1),
      )

  pub element_fits : (s : _) (t : Ty) (v : Typed) (all : List Typed) → Passes m d (GetElementPtr s t v all) → Row (GetElementPtr s t v all)
  unfolding gives op_at op_types op_demands operands
  element_fits s t v all p result given nothing =
      let rv = p.types 1 v.ty refl in (
        given refl,
        pointer_operand (GetElementPtr s t v all) p 0 v.ty v.value refl rv.0 rv.1 (p.demands 1 (asks_typed is_pointer v) refl rv.0 rv.1),
        indices_row all (index_scales m.types t all) (λ (k : ℕ) (i : Typed) e.
            let r = p.types (suc (suc k)) i.ty (mapped_front (λ (x : Typed). x.ty) all _ k i e) in
            index_fits (GetElementPtr s t v all) p k i r.0 r.1 (p.demands (suc (suc k)) (asks_typed is_integer i) (mapped_front (asks_typed is_integer) all _ k i e) r.0 r.1)
            (operand_fits m accepted f d there (GetElementPtr s t v all) p (suc k) i.ty i.value (map_there typed_operand all k i e))),
      )
