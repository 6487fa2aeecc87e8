-- Types that are added one after the other.
use Rattle.std.proofs.Common.{◌≡◌, ℕ, zero, suc, ◌+◌, ◌<◌, List, [], ◌∷◌, ◌++◌, length, map, take, get_or, Result, Ok, Err, OnOk, sym, ap, ◌∙◌, arith}
use Rattle.std.specs.List.{flat_map}
use Rattle.std.proofs.lemmas.List.{append-nil, append_assoc}
use Rattle.pg_read_ast.specs.Syntax.{Ty}

pub on_ok : {X E : Type 0} {P Q : Type 0} (o : Result X E) → (P → Q) → OnOk o P → OnOk o Q
on_ok (Ok x) f h = f h
on_ok (Err e) f h = tt

-- two types and then others
pub with_others : (front a b : List Ty) (s t : Ty) (more : List Ty) → a ≡ front ++ (s ∷ t ∷ []) → b ≡ a ++ more → b ≡ front ++ (s ∷ t ∷ more)
with_others front a b s t more e f = f ∙ ap (λ ts. ts ++ more) e ∙ append_assoc front (s ∷ t ∷ []) more

pub three_rows : (front a b c w x y : List Ty) → w ≡ front ++ a → x ≡ w ++ b → y ≡ x ++ c → y ≡ front ++ ((a ++ b) ++ c)
three_rows front a b c w x y e f g =
    g ∙ ap (λ ts. ts ++ c) (f ∙ ap (λ ts. ts ++ b) e ∙ append_assoc front a b) ∙ append_assoc front (a ++ b) c

pub two_rows : (front a b w x : List Ty) → w ≡ front ++ a → x ≡ w ++ b → x ≡ front ++ (a ++ b)
two_rows front a b w x e f = f ∙ ap (λ ts. ts ++ b) e ∙ append_assoc front a b

flat_take : {X Y Z : Type 0} (f : Y → List Z) (g : X → Y) (xs : List X) (i : ℕ) (x d : X) → i < length xs → x ≡ get_or xs i d
    → flat_map f (map g (take (i + 1) xs)) ≡ flat_map f (map g (take i xs)) ++ f (g x)
flat_take f g [] i x d l e = absurd (omega (arith, l))
flat_take f g (y ∷ xs) zero x d l e = append-nil (f (g y)) ∙ ap (λ z. f (g z)) (sym e)
flat_take f g (y ∷ xs) (suc i) x d l e =
    let s : suc i + 1 ≡ suc (i + 1) = omega arith in
    ap (λ k. flat_map f (map g (take k (y ∷ xs)))) s
    ∙ ap (λ zs. f (g y) ++ zs) (flat_take f g xs i x d (omega (arith, l)) e)
    ∙ sym (append_assoc (f (g y)) (flat_map f (map g (take i xs))) (f (g x)))

-- a row of one thing more
pub row_added : {X Y Z : Type 0} (f : Y → List Z) (g : X → Y) (xs : List X) (i : ℕ) (x d : X) (front all new : List Z) → i < length xs → x ≡ get_or xs i d
    → all ≡ front ++ flat_map f (map g (take i xs)) → new ≡ all ++ f (g x) → new ≡ front ++ flat_map f (map g (take (i + 1) xs))
row_added f g xs i x d front all new l e a n =
    n ∙ ap (λ ts. ts ++ f (g x)) a ∙ append_assoc front (flat_map f (map g (take i xs))) (f (g x))
    ∙ ap (λ ts. front ++ ts) (sym (flat_take f g xs i x d l e))
