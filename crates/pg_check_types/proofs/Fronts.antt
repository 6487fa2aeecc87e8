-- The structures of the first fields of another, and how many fields there are.
use Rattle.std.proofs.Common.{◌≡◌, ℕ, zero, suc, ◌+◌, ◌≤◌, List, [], ◌∷◌, length, Option, Some, None, IfSome, unwrap_or, refl, sym, ap, subst, ◌∙◌}
use Rattle.std.proofs.Common.{length-append, arith}
use Rattle.pg_check_types.specs.Resolved.{ResolvedType, IntegerType, PointerType, VoidType, ArrayType, NoFields, MoreFields}
use Rattle.pg_check_types.specs.Layout.{field_list}
use Rattle.pg_check_types.specs.Table.{type_at, without_last, IsBeginning, IsShorter}

pub own_front : (t : ResolvedType) → IsBeginning t t
own_front t = (zero, refl)

pub one_shorter : (r s t : ResolvedType) → IsBeginning r s → IsBeginning r (MoreFields s t)
one_shorter r s t f = (suc f.0, f.1)

without_both : (m n : ℕ) (t : ResolvedType) → (k : ℕ) × (without_last m (without_last n t) ≡ without_last k t)
without_both m zero t = (m, refl)
without_both m (suc n) (MoreFields s t) = let r = without_both m n s in (suc r.0, r.1)
without_both m (suc n) (IntegerType w) = (m, refl)
without_both m (suc n) PointerType = (m, refl)
without_both m (suc n) VoidType = (m, refl)
without_both m (suc n) (ArrayType k t) = (m, refl)
without_both m (suc n) NoFields = (m, refl)

pub front_of_front : (r s t : ResolvedType) → IsBeginning r s → IsBeginning s t → IsBeginning r t
front_of_front r s t f g = let b = without_both f.0 g.0 t in (b.0, f.1 ∙ ap (λ u. without_last f.0 u) g.1 ∙ b.1)

pub field_count : (s t : ResolvedType) → length (field_list (MoreFields s t)) ≡ length (field_list s) + 1
field_count s t = length-append (field_list s) (t ∷ [])

fewer : (n : ℕ) (t : ResolvedType) → length (field_list (without_last n t)) ≤ length (field_list t)
fewer zero t = omega arith
fewer (suc n) (MoreFields s t) = omega (arith, fewer n s, field_count s t)
fewer (suc n) (IntegerType w) = omega arith
fewer (suc n) PointerType = omega arith
fewer (suc n) VoidType = omega arith
fewer (suc n) (ArrayType k t) = omega arith
fewer (suc n) NoFields = omega arith

pub front_fields : (s t : ResolvedType) → IsBeginning s t → length (field_list s) ≤ length (field_list t)
front_fields s t f = subst (λ u. length (field_list u) ≤ length (field_list t)) (sym f.1) (fewer f.0 t)

-- one that is shorter than a front, or the front itself
pub shorter_or : (types : List ResolvedType) (front next : ℕ) (o : Option ℕ) → IsBeginning (type_at types next) (type_at types front)
    → IfSome o (IsShorter types (type_at types next) next) → IsBeginning (type_at types (unwrap_or o front)) (type_at types front)
shorter_or types front next None f s = own_front (type_at types front)
shorter_or types front next (Some n) f s = front_of_front (type_at types n) (type_at types next) (type_at types front) s.beginning f
