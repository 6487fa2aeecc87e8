-- The fields of a structure by their places.
use Rattle.std.proofs.Common.{◌≡◌, ℕ, zero, suc, ◌+◌, List, [], ◌∷◌, map, drop, get_or, slice_get, unwrap_or, Option, Some, None, IfSome, refl, sym, ap}
use Rattle.std.proofs.Common.{◌∙◌, arith}
use Rattle.std.proofs.lemmas.Option.{slice_get_within, same_Some}
use Rattle.pg_check_types.specs.Resolved.{ResolvedType, VoidType}
use Rattle.pg_check_types.specs.Layout.{field_list}
use Rattle.pg_check_types.specs.Known.{IsWithin}
use Rattle.pg_check_types.specs.Table.{type_at}
use Rattle.pg_check_rules.specs.Fields.{AreFields, field_type}
use Rattle.pg_check_constants.specs.Initialisers.{IsFieldAt}

type_found : (table : List ResolvedType) (fs : List ℕ) (ts : List ResolvedType) (k f : ℕ)
    → map (field_type table) fs ≡ map (λ u. Some u) ts → slice_get fs k ≡ Some f → IsFieldAt table ts k f
type_found table [] ts k f e s = cc
type_found table (g ∷ fs) [] k f e s = cc
type_found table (g ∷ fs) (u ∷ ts) zero f e s =
    let same : g ≡ f = same_Some g f s in
    let found : slice_get table f ≡ Some u = ap (λ x. slice_get table x) (sym same) ∙ ap (λ xs. get_or xs 0 None) e in
    record {
      within = slice_get_within table f u found;
      rest = ap (λ x. x ∷ ts) (sym (ap (λ o. unwrap_or o VoidType) found));
    }
type_found table (g ∷ fs) (u ∷ ts) (suc k) f e s =
    let more : suc k + 1 ≡ suc (k + 1) = omega arith in
    let h = type_found table fs ts k f (ap (λ xs. drop 1 xs) e) s in
    record {
      within = h.within;
      rest = h.rest ∙ ap (λ n. type_at table f ∷ drop n (u ∷ ts)) (sym more);
    }

-- the field at a place, if there is one
pub field_found : (table : List ResolvedType) (t : ResolvedType) (fs : List ℕ) (k : ℕ) (o : Option ℕ) → AreFields table t fs → o ≡ slice_get fs k
    → IfSome o (IsFieldAt table (field_list t) k)
field_found table t fs k None a s = tt
field_found table t fs k (Some f) a s = type_found table fs (field_list t) k f a (sym s)

pub number_within : (table : List ResolvedType) (ts : List ResolvedType) (k : ℕ) (o : Option ℕ) → IfSome o (IsFieldAt table ts k) → IsWithin table o
number_within table ts k None h = tt
number_within table ts k (Some f) h = h.within

types_over : (table : List ResolvedType) (fs : List ℕ) (ts : List ResolvedType) (k : ℕ) → map (field_type table) fs ≡ map (λ u. Some u) ts → slice_get fs k ≡ None → drop k ts ≡ []
types_over table [] [] zero e s = refl
types_over table [] [] (suc k) e s = refl
types_over table [] (u ∷ ts) k e s = cc
types_over table (g ∷ fs) ts zero e s = cc
types_over table (g ∷ fs) [] (suc k) e s = refl
types_over table (g ∷ fs) (u ∷ ts) (suc k) e s = types_over table fs ts k (ap (λ xs. drop 1 xs) e) s

-- there is no field behind the last
pub fields_over : (table : List ResolvedType) (t : ResolvedType) (fs : List ℕ) (k : ℕ) → AreFields table t fs → slice_get fs k ≡ None → drop k (field_list t) ≡ []
fields_over table t fs k a s = types_over table fs (field_list t) k a s
