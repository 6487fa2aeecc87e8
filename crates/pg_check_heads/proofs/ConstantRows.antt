-- The parts of constants in a row.
use Rattle.std.proofs.Common.{◌≡◌, List, [], ◌∷◌, ◌++◌, map, refl, sym, ap, ◌∙◌, Vec, Global, Bor}
use Rattle.std.specs.List.{flat_map}
use Rattle.std.proofs.lemmas.List.{append_assoc, map-append}
use Rattle.pg_read_lex.specs.declared.token.Span.{Span}
use Rattle.pg_read_ast.specs.declared.types.TypeNode.{TypeNode}
use Rattle.pg_check_rules.specs.Nodes.{ty_behind, tys_behind}
use Rattle.pg_read_ast.specs.declared.values.TypedConst.{TypedConst, fold_out-TypedConst}
use Rattle.pg_read_ast.specs.declared.values.ConstNode.TheViews as node
use Rattle.pg_read_ast.specs.Syntax.{Ty, Const, TypedC, consts}
use Rattle.pg_read_ast.specs.Views.{ty_of, const_of, typed_const_of, const_step, typed_const_step}
use Rattle.pg_check_rules.proofs.ConstantViews.{array_view, struct_view}
use Rattle.pg_check_rules.specs.Written.{const_uses, part_uses, const_types, part_types}
use Rattle.pg_check_heads.specs.Initialisers.{use_row, type_row}

pub part_ty : (t : TypedConst) → (typed_const_of t).ty ≡ ty_of t.ty
part_ty t = ap (λ (x : TypedC). x.ty) (fold_out-TypedConst Const TypedC const_step typed_const_step t)

pub part_value : (t : TypedConst) → (typed_const_of t).value ≡ const_of t.value
part_value t = ap (λ (x : TypedC). x.value) (fold_out-TypedConst Const TypedC const_step typed_const_step t)

use_rows : (ts : List TypedC) → part_uses (consts ts) ≡ flat_map use_row ts
unfolding part_uses
use_rows [] = refl
use_rows (t ∷ ts) = ap (λ us. const_uses t.ty t.value ++ us) (use_rows ts)

type_rows : (ts : List TypedC) → part_types (consts ts) ≡ flat_map type_row ts
unfolding part_types
type_rows [] = refl
type_rows (t ∷ ts) = ap (λ us. t.ty ∷ (const_types t.value ++ us)) (type_rows ts)

pub array_uses : (t : Ty) (s : Span) (v : Vec TypedConst Global) → flat_map use_row (map typed_const_of v.items) ≡ const_uses t (const_of (node.Array s v))
unfolding const_uses
array_uses t s v = sym (ap (λ c. const_uses t c) (array_view s v) ∙ use_rows (map typed_const_of v.items))

pub struct_uses : (t : Ty) (s : Span) (v : Vec TypedConst Global) → flat_map use_row (map typed_const_of v.items) ≡ const_uses t (const_of (node.Struct s v))
unfolding const_uses
struct_uses t s v = sym (ap (λ c. const_uses t c) (struct_view s v) ∙ use_rows (map typed_const_of v.items))

pub array_types : (s : Span) (v : Vec TypedConst Global) → flat_map type_row (map typed_const_of v.items) ≡ const_types (const_of (node.Array s v))
unfolding const_types
array_types s v = sym (ap (λ c. const_types c) (array_view s v) ∙ type_rows (map typed_const_of v.items))

pub struct_types : (s : Span) (v : Vec TypedConst Global) → flat_map type_row (map typed_const_of v.items) ≡ const_types (const_of (node.Struct s v))
unfolding const_types
struct_types s v = sym (ap (λ c. const_types c) (struct_view s v) ∙ type_rows (map typed_const_of v.items))

-- one type and then others
pub one_and_others : (all more : List (Bor TypeNode)) (x : Bor TypeNode) (others new : List Ty) → more ≡ all ++ x ∷ [] → new ≡ tys_behind more ++ others
    → new ≡ tys_behind all ++ (ty_of x.now ∷ others)
one_and_others all more x others new e f =
    f ∙ ap (λ ts. tys_behind ts ++ others) e ∙ ap (λ ts. ts ++ others) (map-append ty_behind all (x ∷ [])) ∙ append_assoc (tys_behind all) (ty_of x.now ∷ []) others
