-- Values whose types keep within the limit of sizes.
use Rattle.std.proofs.Common.{◌≡◌, zero, suc, List, [], ◌∷◌, ◌++◌, map, subst}
use Rattle.std.specs.List.{flat_map, AllByRecursion}
use Rattle.std.proofs.lemmas.Grind.{flat_map-append}
use Rattle.pg_read_ast.specs.Syntax.{Ty, Val, Int, True, False, Null, Undef, Poison, ZeroInitializer, Local, Global, GepVal, IntToPtrVal, Const, Consts, ValConst, BytesConst, ArrayConst}
use Rattle.pg_read_ast.specs.Syntax.{StructConst, NoConsts, MoreConsts, Incoming, Op, Binary, Icmp, Cast, Select, Phi, Br, CondBr, Switch, Call, RetVoid, Ret, Unreachable, Alloca, Load, Store}
use Rattle.pg_read_ast.specs.Syntax.{GetElementPtr, NamedType}
use Rattle.pg_check_rules.specs.Written.{Use, operand, typed_operand, inner_uses, index_uses, with_inner, operands, own_types, op_types, const_uses, part_uses}
use Rattle.pg_check_rules.specs.LineConditions.{line_types}
use Rattle.pg_law_numbering.proofs.EachElement.{all_front, all_behind, all_both}
use Rattle.pg_check_constants.specs.Sizes.{TypeFits, ValFits, ConstFits, PartsFit}
use Rattle.pg_check_program.specs.Room.{Each, OpFits}

abbrev own_of : Use → List Ty
own_of u = own_types u.value

module _ (types : List NamedType) where
  abbrev Fit : List Ty → Type 0
  Fit ts = AllByRecursion (TypeFits types) ts

  abbrev UseFits : Use → Type 0
  UseFits u = ValFits types u.value

  val_fits : (v : Val) → Fit (own_types v ++ flat_map own_of (inner_uses v)) → ValFits types v
  unfolding ValFits inner_uses index_uses
  val_fits (Int n) h = tt
  val_fits (True s) h = tt
  val_fits (False s) h = tt
  val_fits (Null s) h = tt
  val_fits (Undef s) h = tt
  val_fits (Poison s) h = tt
  val_fits (ZeroInitializer s) h = tt
  val_fits (Local n) h = tt
  val_fits (Global n) h = tt
  val_fits (GepVal s t u p is) h =
      let inner : Fit (own_types p ++ flat_map own_of (inner_uses p ++ index_uses is)) = all_behind (TypeFits types) (own_types (GepVal s t u p is)) _ h in
      let behind : Fit (flat_map own_of (inner_uses p) ++ flat_map own_of (index_uses is)) =
      subst Fit (flat_map-append own_of (inner_uses p) (index_uses is)) (all_behind (TypeFits types) (own_types p) _ inner) in (
        h.0,
        val_fits p (all_both (TypeFits types) (own_types p) (flat_map own_of (inner_uses p)) (all_front (TypeFits types) (own_types p) _ inner)
            (all_front (TypeFits types) (flat_map own_of (inner_uses p)) _ behind)),
      )
  val_fits (IntToPtrVal s t n u) h = tt

  uses_fit : (us : List Use) → Fit (flat_map own_of (flat_map with_inner us)) → AllByRecursion UseFits us
  uses_fit [] h = tt
  uses_fit (u ∷ us) h =
      let split : Fit (flat_map own_of (with_inner u) ++ flat_map own_of (flat_map with_inner us)) = subst Fit (flat_map-append own_of (with_inner u) (flat_map with_inner us)) h in
      (val_fits u.value (all_front (TypeFits types) (flat_map own_of (with_inner u)) _ split), uses_fit us (all_behind (TypeFits types) (flat_map own_of (with_inner u)) _ split))

  each_mapped : {X : Type 0} (g : X → Use) (xs : List X) → AllByRecursion UseFits (map g xs) → Each (λ x. ValFits types (g x).value) xs
  each_mapped g [] h i x e = absurd cc
  each_mapped {X} g (y ∷ ys) h zero x e = let same : y ≡ x = cc in subst (λ (q : X). ValFits types (g q).value) same h.0
  each_mapped g (y ∷ ys) h (suc i) x e = each_mapped g ys h.1 i x e

  -- ---- lines

  op_by : (o : Op) → Fit (op_types o) → AllByRecursion UseFits (operands o) → OpFits types o
  unfolding OpFits operands op_types
  op_by (Binary s o t a b) k h = (h.0, h.1.0)
  op_by (Icmp s p t a b) k h = (h.0, h.1.0)
  op_by (Cast s o v t) k h = h.0
  op_by (Select s c a b) k h = (h.0, h.1.0, h.1.1.0)
  op_by (Phi s t i all) k h = (h.0, each_mapped (λ (j : Incoming). operand t j.value) all h.1)
  op_by (Br s b) k h = tt
  op_by (CondBr s c a b) k h = h.0
  op_by (Switch s v b all) k h = h.0
  op_by (Call s t w f all) k h = each_mapped typed_operand all h
  op_by (RetVoid s v) k h = tt
  op_by (Ret s v) k h = h.0
  op_by (Unreachable s) k h = tt
  op_by (Alloca s t n) k h = k.0
  op_by (Load s t p) k h = h.0
  op_by (Store s v p) k h = (h.0, h.1.0)
  op_by (GetElementPtr s t p all) k h = (k.0, h.0, each_mapped typed_operand all h.1)

  pub op_fits : (o : Op) → Fit (line_types o) → OpFits types o
  op_fits o h = op_by o (all_front (TypeFits types) (op_types o) _ h) (uses_fit (operands o) (all_behind (TypeFits types) (op_types o) _ h))

  -- ---- initialisers

  mutual
    unfolding ConstFits PartsFit const_uses part_uses

    const_by : (t : Ty) (c : Const) → AllByRecursion UseFits (const_uses t c) → ConstFits types c
    const_by t (ValConst v) h = h.0
    const_by t (BytesConst b) h = tt
    const_by t (ArrayConst s cs) h = parts_by cs h
    const_by t (StructConst s cs) h = parts_by cs h

    parts_by : (cs : Consts) → AllByRecursion UseFits (part_uses cs) → PartsFit types cs
    parts_by NoConsts h = tt
    parts_by (MoreConsts t c cs) h =
        (const_by t c (all_front UseFits (const_uses t c) (part_uses cs) h), parts_by cs (all_behind UseFits (const_uses t c) (part_uses cs) h))

  pub const_fits : (t : Ty) (c : Const) → Fit (flat_map own_of (flat_map with_inner (const_uses t c))) → ConstFits types c
  const_fits t c h = const_by t c (uses_fit (const_uses t c) h)
