-- The types of values that instructions give.
use Rattle.std.proofs.Common.{◌≡◌, ℕ, zero, suc, ◌+◌, ◌<◌, ◌≤◌, List, [], ◌∷◌, ◌++◌, length, take, get_or, Option, Some, None, refl, sym, ap, ◌∙◌, arith}
use Rattle.std.specs.List.{filter_map, cons_option}
use Rattle.std.specs.Option.{option_map, option_to_list}
use Rattle.std.proofs.lemmas.List.{take_all}
use Rattle.pg_ir.specs.declared.value.Scalar.{Scalar}
use Rattle.pg_read_ast.specs.declared.names.Name.{Name}
use Rattle.pg_read_ast.specs.declared.nodes.TypeItem.{TypeItem}
use Rattle.pg_check_types.specs.NumberedTypes.{items_of}
use Rattle.pg_read_ast.specs.Syntax.{NamedType}
use Rattle.pg_check_types.specs.Kinds.{kind_of}
use Rattle.pg_check_types.specs.Resolved.{ResolvedType, IntegerType, PointerType, VoidType, ArrayType, NoFields, MoreFields}
use Rattle.pg_check_rules.specs.Names.{Register}
use Rattle.pg_check_rules.specs.Numbered.{scalar_in}
use Rattle.pg_check_names.specs.declared.register_type.RegisterType.{RegisterType}
use Rattle.pg_check_names.specs.Registers.{register_type, registers_by}
use Rattle.pg_check_program.specs.FunctionRows.{kind_scalar}

pub scalar_of_kind : (t : Option ResolvedType) → kind_scalar (option_map kind_of t) ≡ scalar_in t
scalar_of_kind None = refl
scalar_of_kind (Some (IntegerType w)) = refl
scalar_of_kind (Some PointerType) = refl
scalar_of_kind (Some VoidType) = refl
scalar_of_kind (Some (ArrayType n t)) = refl
scalar_of_kind (Some NoFields) = refl
scalar_of_kind (Some (MoreFields s t)) = refl

pub register_scalars : (types : List NamedType) (ns : List Name) (ts : List RegisterType) → length ts ≡ length ns
    → filter_map (λ t. scalar_in (register_type types t)) ts ≡ filter_map (λ (r : Register). scalar_in r.ty) (registers_by types ns ts)
register_scalars types [] [] e = refl
register_scalars types [] (t ∷ ts) e = cc
register_scalars types (n ∷ ns) [] e = cc
register_scalars types (n ∷ ns) (t ∷ ts) e = ap (λ ss. cons_option (scalar_in (register_type types t)) ss) (register_scalars types ns ts (omega (arith, e)))

-- the same of a function's own registers, whose types are read by type items that stay
pub own_scalars : (its : List TypeItem) (ns : List Name) (ts slice : List RegisterType) (rs : List Register) (found : List Scalar)
    → slice ≡ ts → length ts ≡ length ns → registers_by (items_of its) ns ts ≡ rs
    → found ≡ filter_map (λ t. scalar_in (register_type (items_of its) t)) slice → found ≡ filter_map (λ (r : Register). scalar_in r.ty) rs
own_scalars its ns ts slice rs found s l r f =
    f
    ∙ ap (λ us. filter_map (λ t. scalar_in (register_type (items_of its) t)) us) s
    ∙ register_scalars (items_of its) ns ts l
    ∙ ap (λ xs. filter_map (λ (r : Register). scalar_in r.ty) xs) r

-- ---- the types of registers' values, one more and all

one_kept : {Y : Type 0} (o : Option Y) → cons_option o [] ≡ option_to_list o
one_kept None = refl
one_kept (Some y) = refl

kept_behind : {Y : Type 0} (o : Option Y) (xs ys : List Y) → cons_option o (xs ++ ys) ≡ cons_option o xs ++ ys
kept_behind None xs ys = refl
kept_behind (Some y) xs ys = refl

kept_more : {X Y : Type 0} (h : X → Option Y) (xs : List X) (k : ℕ) (x d : X) → k < length xs → x ≡ get_or xs k d
    → filter_map h (take (k + 1) xs) ≡ filter_map h (take k xs) ++ option_to_list (h x)
kept_more h [] k x d l e = absurd (omega (arith, l))
kept_more h (y ∷ ys) zero x d l e = one_kept (h y) ∙ ap (λ z. option_to_list (h z)) (sym e)
kept_more h (y ∷ ys) (suc k) x d l e =
    let more : suc k + 1 ≡ suc (k + 1) = omega arith in
    ap (λ m. filter_map h (take m (y ∷ ys))) more
    ∙ ap (λ zs. cons_option (h y) zs) (kept_more h ys k x d (omega (arith, l)) e)
    ∙ kept_behind (h y) (filter_map h (take k ys)) (option_to_list (h x))

pub kept_step : {X Y : Type 0} (h : X → Option Y) (xs : List X) (k : ℕ) (x d : X) (front found : List Y) (o : Option Y) → k < length xs → x ≡ get_or xs k d
    → found ≡ front ++ option_to_list o → front ≡ filter_map h (take k xs) → o ≡ h x → found ≡ filter_map h (take (k + 1) xs)
kept_step h xs k x d front found o l e f b s =
    f ∙ ap (λ ys. ys ++ option_to_list o) b ∙ ap (λ p. filter_map h (take k xs) ++ option_to_list p) s ∙ sym (kept_more h xs k x d l e)

pub kept_all : {X Y : Type 0} (h : X → Option Y) (xs : List X) (k : ℕ) (front : List Y) → length xs ≤ k → front ≡ filter_map h (take k xs) → front ≡ filter_map h xs
kept_all h xs k front l b = b ∙ ap (λ ys. filter_map h ys) (take_all k xs l)
