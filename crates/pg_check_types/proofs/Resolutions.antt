-- Types by their numbers, where the table grows.
use Rattle.std.proofs.Common.{◌≡◌, ℕ, zero, suc, ◌+◌, ◌<◌, ◌≤◌, List, [], ◌∷◌, ◌++◌, length, map, drop, get_or, slice_get, Option, Some, None, Result, Ok}
use Rattle.std.proofs.Common.{Err, IfOk, refl, sym, ap, ◌∙◌, append_assoc, length-append, arith}
use Rattle.pg_read_ast.specs.declared.types.TypeNode.{TypeNode}
use Rattle.pg_read_ast.specs.Syntax.{tys}
use Rattle.pg_read_ast.specs.Views.{ty_of}
use Rattle.pg_check_types.specs.Resolved.{ResolvedType, part_type, with_field, type_by, fields_by}
use Rattle.pg_check_types.specs.Table.{Grows}
use Rattle.pg_check_types.specs.Known.{denoted, IsWithin, AreWithin, Names}
use Rattle.pg_check_types.proofs.TableTypes.{front_kept}

pub grows_again : (a b c : List ResolvedType) → Grows a b → Grows b c → Grows a c
grows_again a b c g h = (g.0 ++ h.0, h.1 ∙ ap (λ x. x ++ h.0) g.1 ∙ append_assoc a g.0 h.0)

longer : (a b : List ResolvedType) (t : ℕ) → Grows a b → t < length a → t < length b
longer a b t g l =
    let e = ap (λ x. length x) g.1 ∙ length-append a g.0 in
    omega (arith, e, l)

pub within_more : (a b : List ResolvedType) (o : Option ℕ) → Grows a b → IsWithin a o → IsWithin b o
within_more a b None g w = w
within_more a b (Some t) g w = longer a b t g w

pub all_within_more : (a b : List ResolvedType) (number : List ℕ → Option ℕ) → Grows a b → AreWithin a number → AreWithin b number
all_within_more a b number g w = λ text. within_more a b (number text) g (w text)

pub denoted_more : (a b : List ResolvedType) (o : Option ℕ) → Grows a b → IsWithin a o → denoted b o ≡ denoted a o
denoted_more a b None g w = refl
denoted_more a b (Some t) g w = ap (λ x. slice_get x t) g.1 ∙ front_kept a g.0 t w

pub names_more : (a b : List ResolvedType) (number : List ℕ → Option ℕ) (named : List ℕ → Option ResolvedType) → Grows a b → AreWithin a number → Names a number named
    → Names b number named
names_more a b number named g w n = λ text. n text ∙ sym (denoted_more a b (number text) g (w text))

-- one field more
pub field_step : (named : List ℕ → Option ResolvedType) (front : Option ResolvedType) (fs : List TypeNode) (i : ℕ) (f : TypeNode) → i < length fs → f ≡ get_or fs i f
    → fields_by named front (tys (map ty_of (drop i fs))) ≡ fields_by named (with_field front (part_type (type_by named (ty_of f)))) (tys (map ty_of (drop (i + 1) fs)))
unfolding fields_by
field_step named front [] i f l e = absurd (omega (arith, l))
field_step named front (g ∷ fs) zero f l e = ap (λ x. fields_by named (with_field front (part_type (type_by named (ty_of x)))) (tys (map ty_of fs))) (sym e)
field_step named front (g ∷ fs) (suc i) f l e =
    let s : suc i + 1 ≡ suc (i + 1) = omega arith in
    field_step named front fs i f (omega (arith, l)) e
    ∙ ap (λ n. fields_by named (with_field front (part_type (type_by named (ty_of f)))) (tys (map ty_of (drop n (g ∷ fs))))) (sym s)

-- no field left
pub fields_done : (named : List ℕ → Option ResolvedType) (front : Option ResolvedType) (fs : List TypeNode) (i : ℕ) → length fs ≤ i
    → fields_by named front (tys (map ty_of (drop i fs))) ≡ front
unfolding fields_by
fields_done named front [] zero l = refl
fields_done named front [] (suc i) l = refl
fields_done named front (f ∷ fs) zero l = absurd (omega (arith, l))
fields_done named front (f ∷ fs) (suc i) l = fields_done named front fs i (omega (arith, l))

-- what holds of a value, where there is one
pub if_ok : {X E : Type 0} {P Q : X → Type 0} (o : Result X E) → ((x : X) → P x → Q x) → IfOk o P → IfOk o Q
if_ok (Ok x) f h = f x h
if_ok (Err e) f h = tt
