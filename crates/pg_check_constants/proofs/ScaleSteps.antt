-- How indices move within a type, one after the other.
use Rattle.std.proofs.Common.{◌≡◌, ℕ, zero, suc, ◌+◌, ◌<◌, ◌≤◌, List, [], ◌∷◌, ◌++◌, length, map, drop, get_or, Option, Some, None, ℤ}
use Rattle.std.proofs.Common.{◌+ℤ◌, refl, sym, ap, ◌∙◌, arith}
use Rattle.std.proofs.lemmas.List.{append_assoc, append-nil}
use Rattle.pg_read_ast.specs.declared.values.TypedVal.{TypedVal}
use Rattle.pg_read_ast.specs.Views.{typed_of}
use Rattle.pg_read_ast.specs.Syntax.{Ty, Typed, NamedType}
use Rattle.pg_ir.specs.declared.value.Scale.{Scale}
use Rattle.pg_ir.specs.declared.value.Scale.TheVariants.{Times}
use Rattle.pg_check_types.specs.Resolved.{ResolvedType, IntegerType, PointerType, VoidType, ArrayType, NoFields, MoreFields, resolved}
use Rattle.pg_check_types.specs.Layout.{size_or_none}
use Rattle.pg_check_rules.specs.ValueConditions.{field_at}
use Rattle.pg_check_rules.specs.Constants.{step_scales, index_scales, moves, index_move}
use Rattle.pg_check_rules.specs.Integers.{index_number}
use Rattle.pg_check_constants.specs.Indices.{scale_within, type_within, scales_within, scales_of, moves_of}

-- ---- a row of indices

-- one index more
pub scale_step : (t u : Option ResolvedType) (front : List Scale) (s : Scale) (is : List (Option ℤ)) (k : ℕ) (i d : Option ℤ)
    → k < length is → i ≡ get_or is k d → s ≡ scale_within t i → u ≡ type_within t i
    → (front ++ s ∷ []) ++ scales_within u (drop (k + 1) is) ≡ front ++ scales_within t (drop k is)
unfolding scales_within
scale_step t u front s [] k i d l e a b = absurd (omega (arith, l))
scale_step t u front s (j ∷ is) zero i d l e a b =
    append_assoc front (s ∷ []) (scales_within u is)
    ∙ ap (λ x. front ++ x ∷ scales_within u is) a
    ∙ ap (λ x. front ++ scale_within t i ∷ scales_within x is) b
    ∙ ap (λ x. front ++ scale_within t x ∷ scales_within (type_within t x) is) e
scale_step t u front s (j ∷ is) (suc k) i d l e a b =
    let more : suc k + 1 ≡ suc (k + 1) = omega arith in
    ap (λ m. (front ++ s ∷ []) ++ scales_within u (drop m (j ∷ is))) more
    ∙ scale_step t u front s is k i d (omega (arith, l)) e a b

-- no index left
pub scales_end : (t : Option ResolvedType) (front : List Scale) (is : List (Option ℤ)) (k : ℕ) → length is ≤ k → front ≡ front ++ scales_within t (drop k is)
unfolding scales_within
scales_end t front [] zero l = sym (append-nil front)
scales_end t front [] (suc k) l = sym (append-nil front)
scales_end t front (i ∷ is) zero l = absurd (omega (arith, l))
scales_end t front (i ∷ is) (suc k) l = scales_end t front is k (omega (arith, l))

-- ---- the definitions over indices as they are written

scales_written : (types : List NamedType) (t : Option ResolvedType) (is : List Typed) → scales_within t (map (index_number types) is) ≡ step_scales types t is
unfolding scales_within
scales_written types t [] = refl
scales_written types None (i ∷ is) = ap (λ ss. Times 0 ∷ ss) (scales_written types None is)
scales_written types (Some (IntegerType w)) (i ∷ is) = ap (λ ss. Times 0 ∷ ss) (scales_written types None is)
scales_written types (Some PointerType) (i ∷ is) = ap (λ ss. Times 0 ∷ ss) (scales_written types None is)
scales_written types (Some VoidType) (i ∷ is) = ap (λ ss. Times 0 ∷ ss) (scales_written types None is)
scales_written types (Some (ArrayType n e)) (i ∷ is) = ap (λ ss. scale_within (Some (ArrayType n e)) (index_number types i) ∷ ss) (scales_written types (Some e) is)
scales_written types (Some NoFields) (i ∷ is) = ap (λ ss. Times 0 ∷ ss) (scales_written types None is)
scales_written types (Some (MoreFields s t)) (i ∷ is) = ap (λ ss. scale_within (Some (MoreFields s t)) (index_number types i) ∷ ss)
    (scales_written types (field_at (MoreFields s t) (index_number types i)) is)

pub index_scales_are : (types : List NamedType) (t : Ty) (is : List Typed) → scales_of (resolved types t) (map (index_number types) is) ≡ index_scales types t is
index_scales_are types t [] = refl
index_scales_are types t (i ∷ is) = ap (λ ss. Times (size_or_none (resolved types t)) ∷ ss) (scales_written types (resolved types t) is)

pub moves_are : (types : List NamedType) (ss : List Scale) (is : List Typed) → moves_of ss (map (index_number types) is) ≡ moves types ss is
unfolding moves_of
moves_are types [] is = refl
moves_are types (s ∷ ss) [] = refl
moves_are types (s ∷ ss) (i ∷ is) = ap (λ z. index_move s (index_number types i) +ℤ z) (moves_are types ss is)

-- ---- each index has its scale

count_within : (t : Option ResolvedType) (is : List (Option ℤ)) → length (scales_within t is) ≡ length is
unfolding scales_within
count_within t [] = refl
count_within t (i ∷ is) = ap (λ n. suc n) (count_within (type_within t i) is)

pub scale_count : (t : Option ResolvedType) (is : List (Option ℤ)) → length (scales_of t is) ≡ length is
scale_count t [] = refl
scale_count t (i ∷ is) = ap (λ n. suc n) (count_within t is)

map_count : {X Y : Type 0} (f : X → Y) (xs : List X) → length (map f xs) ≡ length xs
map_count f [] = refl
map_count f (x ∷ xs) = ap (λ n. suc n) (map_count f xs)

pub written_count : (types : List NamedType) (t : Ty) (is : List TypedVal) → length (index_scales types t (map typed_of is)) ≡ length is
written_count types t is =
    ap (λ ss. length ss) (sym (index_scales_are types t (map typed_of is)))
    ∙ scale_count (resolved types t) (map (index_number types) (map typed_of is))
    ∙ map_count (index_number types) (map typed_of is)
    ∙ map_count typed_of is
