-- Places of the names in types, one type after the other.
use Rattle.std.proofs.Common.{◌≡◌, ℕ, zero, suc, ◌+◌, ◌<◌, List, [], ◌∷◌, ◌++◌, length, take, get_or, Option, Some, None, refl, sym, ap, ◌∙◌, arith}
use Rattle.std.specs.List.{filter_map, flat_map, cons_option}
use Rattle.std.proofs.lemmas.List.{append_assoc, append-nil}
use denote.Ref.{Bor}
use Rattle.pg_read_ast.specs.declared.names.Name.{Name}
use Rattle.pg_read_ast.specs.declared.types.TypeNode.{TypeNode}
use Rattle.pg_read_ast.specs.Syntax.{Ty, I1, I8, I16, I32, I64, Ptr, Void, Array, Struct, Named, NamedType}
use Rattle.pg_check_rules.specs.Nodes.{ty_behind, tys_behind}
use Rattle.pg_check_rules.specs.Conditions.{names_in_types}
use Rattle.pg_check_heads.specs.Circles.{place_of_name}
use Rattle.pg_check_heads.proofs.Reaching.{take_step}

abbrev pub placed : List NamedType → List Ty → List ℕ
placed types ts = filter_map (place_of_name types) (names_in_types ts)

named_more : (types : List NamedType) (n : Name) (ts : List Ty) → placed types (Named n ∷ ts) ≡ placed types (Named n ∷ []) ++ placed types ts
named_more types n ts = by (place_of_name types n)
  where
    by : (o : Option ℕ) → cons_option o (placed types ts) ≡ cons_option o [] ++ placed types ts
    by None = refl
    by (Some p) = refl

pub placed_first : (types : List NamedType) (t : Ty) (ts : List Ty) → placed types (t ∷ ts) ≡ placed types (t ∷ []) ++ placed types ts
placed_first types (Named n) ts = named_more types n ts
placed_first types (I1 s) ts = refl
placed_first types (I8 s) ts = refl
placed_first types (I16 s) ts = refl
placed_first types (I32 s) ts = refl
placed_first types (I64 s) ts = refl
placed_first types (Ptr s) ts = refl
placed_first types (Void s) ts = refl
placed_first types (Array s n t) ts = refl
placed_first types (Struct s us) ts = refl

pub placed_more : (types : List NamedType) (ts us : List Ty) → placed types (ts ++ us) ≡ placed types ts ++ placed types us
placed_more types [] us = refl
placed_more types (t ∷ ts) us =
    placed_first types t (ts ++ us)
    ∙ ap (λ xs. placed types (t ∷ []) ++ xs) (placed_more types ts us)
    ∙ sym (append_assoc (placed types (t ∷ [])) (placed types ts) (placed types us))
    ∙ ap (λ xs. xs ++ placed types us) (sym (placed_first types t ts))

behind_step : (ts : List (Bor TypeNode)) (i : ℕ) (d x : Bor TypeNode) → i < length ts → x ≡ get_or ts i d → tys_behind (take (i + 1) ts) ≡ tys_behind (take i ts) ++ ty_behind x ∷ []
behind_step [] i d x l e = absurd (omega (arith, l))
behind_step (t ∷ ts) zero d x l e = ap (λ y. ty_behind y ∷ []) (sym e)
behind_step (t ∷ ts) (suc i) d x l e =
    let s : suc i + 1 ≡ suc (i + 1) = omega arith in
    ap (λ k. tys_behind (take k (t ∷ ts))) s ∙ ap (λ xs. ty_behind t ∷ xs) (behind_step ts i d x (omega (arith, l)) e)

-- one type more
pub placed_step : (types : List NamedType) (front found after : List ℕ) (ts : List (Bor TypeNode)) (i : ℕ) (d x : Bor TypeNode) → i < length ts → x ≡ get_or ts i d
    → found ≡ front ++ placed types (tys_behind (take i ts)) → after ≡ found ++ placed types (ty_behind x ∷ []) → after ≡ front ++ placed types (tys_behind (take (i + 1) ts))
placed_step types front found after ts i d x l e f g =
    g
    ∙ ap (λ xs. xs ++ placed types (ty_behind x ∷ [])) f
    ∙ append_assoc front (placed types (tys_behind (take i ts))) (placed types (ty_behind x ∷ []))
    ∙ ap (λ xs. front ++ xs) (sym (placed_more types (tys_behind (take i ts)) (ty_behind x ∷ [])) ∙ ap (λ us. placed types us) (sym (behind_step ts i d x l e)))

flat_more : (f : ℕ → List ℕ) (xs ys : List ℕ) → flat_map f (xs ++ ys) ≡ flat_map f xs ++ flat_map f ys
flat_more f [] ys = refl
flat_more f (x ∷ xs) ys = ap (λ zs. f x ++ zs) (flat_more f xs ys) ∙ sym (append_assoc (f x) (flat_map f xs) (flat_map f ys))

-- one place more
pub flat_step : (f : ℕ → List ℕ) (found after xs : List ℕ) (i d : ℕ) → i < length xs → found ≡ flat_map f (take i xs) → after ≡ found ++ f (get_or xs i d)
    → after ≡ flat_map f (take (i + 1) xs)
flat_step f found after xs i d l e g =
    g
    ∙ ap (λ ys. ys ++ f (get_or xs i d)) e
    ∙ ap (λ ys. flat_map f (take i xs) ++ ys) (sym (append-nil (f (get_or xs i d))))
    ∙ sym (flat_more f (take i xs) (get_or xs i d ∷ []))
    ∙ ap (λ ys. flat_map f ys) (sym (take_step xs i d (get_or xs i d) l refl))
