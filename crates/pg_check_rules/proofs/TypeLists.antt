-- The fields of a structure type.
use Rattle.std.proofs.Common.{◌≡◌, ℕ, zero, suc, ◌+◌, ◌<◌, ◌≤◌, List, [], ◌∷◌, ◌++◌, length, map, drop, get_or, refl, ap, ◌∙◌, append_assoc, append-nil, arith}
use Rattle.pg_read_ast.specs.declared.types.TypeNode.{TypeNode}
use Rattle.pg_read_ast.specs.Syntax.{Ty, tys}
use Rattle.pg_read_ast.specs.Views.{ty_of}
use Rattle.pg_check_rules.specs.Written.{type_list, types_within, types_within_all}

pub list_of_tys : (ts : List Ty) → type_list (tys ts) ≡ ts
list_of_tys [] = refl
list_of_tys (t ∷ ts) = ap (λ us. t ∷ us) (list_of_tys ts)

-- the types within one field more
pub within_step : (front : List Ty) (fs : List TypeNode) (i : ℕ) (f : TypeNode) → i < length fs → f ≡ get_or fs i f
    → (front ++ types_within (ty_of f)) ++ types_within_all (tys (map ty_of (drop (i + 1) fs))) ≡ front ++ types_within_all (tys (map ty_of (drop i fs)))
unfolding types_within types_within_all
within_step front [] i f l e = absurd (omega (arith, l))
within_step front (g ∷ fs) zero f l e =
    append_assoc front (types_within (ty_of f)) (types_within_all (tys (map ty_of fs)))
    ∙ ap (λ x. front ++ (types_within (ty_of x) ++ types_within_all (tys (map ty_of fs)))) e
within_step front (g ∷ fs) (suc i) f l e =
    let s : suc i + 1 ≡ suc (i + 1) = omega arith in
    ap (λ n. (front ++ types_within (ty_of f)) ++ types_within_all (tys (map ty_of (drop n (g ∷ fs))))) s
    ∙ within_step front fs i f (omega (arith, l)) e

-- no field left
pub within_done : (front : List Ty) (fs : List TypeNode) (i : ℕ) → length fs ≤ i → front ++ types_within_all (tys (map ty_of (drop i fs))) ≡ front
unfolding types_within_all
within_done front [] zero l = append-nil front
within_done front [] (suc i) l = append-nil front
within_done front (f ∷ fs) zero l = absurd (omega (arith, l))
within_done front (f ∷ fs) (suc i) l = within_done front fs i (omega (arith, l))
