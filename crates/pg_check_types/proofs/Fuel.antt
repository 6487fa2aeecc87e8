-- A type that is resolved stays so where more names are.
use Rattle.std.proofs.Common.{◌≡◌, ℕ, zero, suc, ◌+◌, ◌-◌, ◌≤◌, List, Option, Some, None, refl, ap, subst, ◌∙◌, arith}
use Rattle.std.specs.Option.{option_and_then}
use Rattle.pg_read_ast.specs.Syntax.{Ty, Tys, I1, I8, I16, I32, I64, Ptr, Void, Array, Struct, Named, NoTys, MoreTys, NamedType}
use Rattle.pg_read_ast.specs.Numbers.{type_named}
use Rattle.pg_check_types.specs.Resolved.{ResolvedType, IntegerType, PointerType, VoidType, ArrayType, NoFields, MoreFields, part_type, array_type, with_field, element_count, type_by, fields_by}
use Rattle.pg_check_types.specs.Resolved.{type_within}

-- what one gives, the other gives too
abbrev pub Keeps : Option ResolvedType → Option ResolvedType → Type 0
Keeps a b = (r : ResolvedType) → a ≡ Some r → b ≡ Some r

abbrev pub Below : (List ℕ → Option ResolvedType) → (List ℕ → Option ResolvedType) → Type 0
Below f g = (text : List ℕ) → Keeps (f text) (g text)

keeps_some : (r : ResolvedType) (b : Option ResolvedType) → Keeps (Some r) b → b ≡ Some r
keeps_some r b k = k r refl

keeps_part : (a b : Option ResolvedType) → Keeps a b → Keeps (part_type a) (part_type b)
keeps_part None b k r e = cc
keeps_part (Some (IntegerType w)) b k r e = ap (λ o. part_type o) (k (IntegerType w) refl) ∙ e
keeps_part (Some PointerType) b k r e = ap (λ o. part_type o) (k PointerType refl) ∙ e
keeps_part (Some VoidType) b k r e = cc
keeps_part (Some (ArrayType n t)) b k r e = ap (λ o. part_type o) (k (ArrayType n t) refl) ∙ e
keeps_part (Some NoFields) b k r e = ap (λ o. part_type o) (k NoFields refl) ∙ e
keeps_part (Some (MoreFields s t)) b k r e = ap (λ o. part_type o) (k (MoreFields s t) refl) ∙ e

keeps_array : (n : Option ℕ) (a b : Option ResolvedType) → Keeps a b → Keeps (array_type n a) (array_type n b)
keeps_array None a b k r e = cc
keeps_array (Some n) None b k r e = cc
keeps_array (Some n) (Some t) b k r e = ap (λ o. array_type (Some n) o) (k t refl) ∙ e

keeps_field : (a b c d : Option ResolvedType) → Keeps a b → Keeps c d → Keeps (with_field a c) (with_field b d)
keeps_field None b c d k h r e = cc
keeps_field (Some s) b None d k h r e = cc
keeps_field (Some s) b (Some t) d k h r e = ap (λ o. with_field o d) (k s refl) ∙ ap (λ o. with_field (Some s) o) (h t refl) ∙ e

mutual
  unfolding type_by fields_by

  pub type_keeps : (f g : List ℕ → Option ResolvedType) → Below f g → (t : Ty) → Keeps (type_by f t) (type_by g t)
  type_keeps f g h (I1 s) r e = e
  type_keeps f g h (I8 s) r e = e
  type_keeps f g h (I16 s) r e = e
  type_keeps f g h (I32 s) r e = e
  type_keeps f g h (I64 s) r e = e
  type_keeps f g h (Ptr s) r e = e
  type_keeps f g h (Void s) r e = e
  type_keeps f g h (Array s n t) r e = keeps_array (element_count n.text) (part_type (type_by f t)) (part_type (type_by g t)) (keeps_part (type_by f t) (type_by g t) (type_keeps f g h t)) r e
  type_keeps f g h (Struct s ts) r e = fields_keep f g h ts (Some NoFields) (Some NoFields) (λ q k. k) r e
  type_keeps f g h (Named n) r e = h n.text r e

  fields_keep : (f g : List ℕ → Option ResolvedType) → Below f g → (ts : Tys) (a b : Option ResolvedType) → Keeps a b → Keeps (fields_by f a ts) (fields_by g b ts)
  fields_keep f g h NoTys a b k r e = k r e
  fields_keep f g h (MoreTys t ts) a b k r e =
      fields_keep f g h ts (with_field a (part_type (type_by f t))) (with_field b (part_type (type_by g t)))
      (keeps_field a b (part_type (type_by f t)) (part_type (type_by g t)) k (keeps_part (type_by f t) (type_by g t) (type_keeps f g h t))) r e

-- one item more to go through
pub within_suc : (n : ℕ) (types : List NamedType) → Below (type_within n types) (type_within (suc n) types)
unfolding type_within
within_suc zero types text r e = cc
within_suc (suc n) types text r e = by (within_suc n types) (type_named types text) e
  where
    by : Below (type_within n types) (type_within (suc n) types) → (o : Option Ty) → option_and_then (λ t. type_by (type_within n types) t) o ≡ Some r
        → option_and_then (λ t. type_by (type_within (suc n) types) t) o ≡ Some r
    by b None h = cc
    by b (Some t) h = type_keeps (type_within n types) (type_within (suc n) types) b t r h

pub within_plus : (k n : ℕ) (types : List NamedType) → Below (type_within n types) (type_within (n + k) types)
within_plus zero n types text r e = ap (λ m. type_within m types text) (omega arith) ∙ e
within_plus (suc k) n types text r e =
    let s : n + suc k ≡ suc (n + k) = omega arith in
    ap (λ m. type_within m types text) s ∙ within_suc (n + k) types text r (within_plus k n types text r e)

-- any number of items more to go through
pub within_less : (n k : ℕ) (types : List NamedType) → n ≤ k → Below (type_within n types) (type_within k types)
within_less n k types l text r e =
    let z : n + (k - n) ≡ k = omega (arith, l) in
    subst (λ (q : ℕ). type_within q types text ≡ Some r) z (within_plus (k - n) n types text r e)
