-- The texts of rows, as texts of lists.
use Rattle.std.proofs.Common.{◌≡◌, ◌<◌, arith, length, List, [], ◌∷◌, ◌++◌, refl, ap, ◌∙◌, sym, append_assoc, flat_map, map, codes}
use Rattle.pg_read_ast.specs.Syntax.{Ty, tys, Typed, Val, vals, GepVal, TypedC, consts}
use Rattle.pg_read_lex.specs.declared.token.Span.{Span}
use Rattle.pg_read_ast.specs.declared.values.TypedConst.{TypedConst}
use Rattle.pg_read_ast.specs.Text.{type_text, fields_text, more_fields_text, val_text, more_vals_text, typed_text, more_typed_text, gep_head, const_text, consts_text, more_consts_text}
use Rattle.pg_read_ast.specs.Text.{typed_const_text, more_const_text, padding_text}
use Rattle.pg_read_ast.specs.Views.{typed_const_of}

more_fields_are : (ts : List Ty) → more_fields_text (tys ts) ≡ flat_map (λ t. codes ", " ++ type_text t) ts
unfolding type_text
more_fields_are [] = refl
more_fields_are (t ∷ ts) = ap (λ x. codes ", " ++ (type_text t ++ x)) (more_fields_are ts) ∙ sym (append_assoc (codes ", ") (type_text t) (flat_map (λ u. codes ", " ++ type_text u) ts))

pub fields_are : (t : Ty) (ts : List Ty) → codes "{" ++ fields_text (tys (t ∷ ts)) ≡ codes "{ " ++ (type_text t ++ (flat_map (λ u. codes ", " ++ type_text u) ts ++ codes " }"))
unfolding type_text
fields_are t ts = ap (λ x. codes "{ " ++ (type_text t ++ (x ++ codes " }"))) (more_fields_are ts)

pub more_vals_are : (ts : List Typed) → more_vals_text (vals ts) ≡ flat_map more_typed_text ts
unfolding val_text typed_text
more_vals_are [] = refl
more_vals_are (t ∷ ts) = ap (λ x. more_typed_text t ++ x) (more_vals_are ts)

pub gep_is : (s : Span) (t u : Ty) (p : Val) (ts : List Typed) → gep_head t u ++ (val_text p ++ (flat_map more_typed_text ts ++ codes ")")) ≡ val_text (GepVal s t u p (vals ts))
unfolding val_text
gep_is s t u p ts = ap (λ x. gep_head t u ++ (val_text p ++ (x ++ codes ")"))) (sym (more_vals_are ts))

more_consts_are : (ts : List TypedC) → more_consts_text (consts ts) ≡ flat_map more_const_text ts
unfolding const_text typed_const_text
more_consts_are [] = refl
more_consts_are (t ∷ ts) = ap (λ x. more_const_text t ++ x) (more_consts_are ts)

pub consts_are : (t : TypedC) (ts : List TypedC) → consts_text (consts (t ∷ ts)) ≡ typed_const_text t ++ flat_map more_const_text ts
unfolding const_text typed_const_text
consts_are t ts = ap (λ x. typed_const_text t ++ x) (more_consts_are ts)

pub padding_some : (ts : List TypedConst) → 0 < length ts → padding_text (consts (map typed_const_of ts)) ≡ codes " "
unfolding padding_text
padding_some [] h = absurd (omega (arith, h))
padding_some (t ∷ ts) h = refl
