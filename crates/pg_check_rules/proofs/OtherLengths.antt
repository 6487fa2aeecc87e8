-- Parameters that are more or fewer than the types they have to have.
use Rattle.std.proofs.Common.{◌≡◌, suc, Bool, true, false, ◌&&◌, List, [], ◌∷◌, length, map, refl, ap}
use Rattle.pg_read_ast.specs.declared.nodes.DparamNode.{DparamNode}
use Rattle.pg_read_ast.specs.Syntax.{Dparam, ParamOf, Metadata, Dots, NamedType}
use Rattle.pg_read_ast.specs.Views.{dparam_of}
use Rattle.pg_ir.specs.declared.value.Scalar.{Scalar}
use Rattle.pg_check_types.specs.Resolved.{resolved}
use Rattle.pg_check_rules.specs.Conditions.{is_scalar_type, are_params}

and_false : (a b : Bool) → false ≡ b → false ≡ (a && b)
and_false true b e = e
and_false false b e = refl

pub other_lengths : (types : List NamedType) (ss : List Scalar) (ps : List DparamNode) → (length ss ≡ length ps → ⊥) → false ≡ are_params types ss (map dparam_of ps)
other_lengths types [] [] h = absurd (h refl)
other_lengths types [] (p ∷ ps) h = refl
other_lengths types (s ∷ ss) [] h = refl
other_lengths types (s ∷ ss) (p ∷ ps) h = by (dparam_of p) (other_lengths types ss ps (λ e. h (ap suc e)))
  where
    by : (d : Dparam) → false ≡ are_params types ss (map dparam_of ps) → false ≡ are_params types (s ∷ ss) (d ∷ map dparam_of ps)
    by (ParamOf q) e = and_false (is_scalar_type s (resolved types q.ty)) (are_params types ss (map dparam_of ps)) e
    by (Metadata x) e = refl
    by (Dots x) e = refl
