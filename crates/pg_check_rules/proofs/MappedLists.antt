-- What is made of each thing of a list, one more and all of them.
use Rattle.std.proofs.Common.{◌≡◌, ℕ, ◌+◌, ◌<◌, ◌≤◌, List, [], ◌∷◌, ◌++◌, length, map, take, get_or, sym, ap, ◌∙◌}
use Rattle.std.proofs.lemmas.List.{append_assoc, map-append, take_more, take_all}

pub mapped_more : {X Y Z : Type 0} (f : Y → Z) (g : X → Y) (front : List Z) (xs : List X) (i : ℕ) (x d : X) (found pushed : List Z) (one : Z)
    → i < length xs → x ≡ get_or xs i d → found ≡ front ++ map f (map g (take i xs)) → one ≡ f (g x) → pushed ≡ found ++ one ∷ []
    → pushed ≡ front ++ map f (map g (take (i + 1) xs))
mapped_more f g front xs i x d found pushed one l e h o p =
    p
    ∙ ap (λ zs. zs ++ one ∷ []) h
    ∙ append_assoc front (map f (map g (take i xs))) (one ∷ [])
    ∙ ap (λ z. front ++ (map f (map g (take i xs)) ++ z ∷ [])) (o ∙ ap (λ y. f (g y)) e)
    ∙ ap (λ zs. front ++ zs) (sym (map-append f (map g (take i xs)) (g (get_or xs i d) ∷ [])))
    ∙ ap (λ ys. front ++ map f ys) (sym (map-append g (take i xs) (get_or xs i d ∷ [])))
    ∙ ap (λ ys. front ++ map f (map g ys)) (sym (take_more xs i d l))

pub mapped_all : {X Y Z : Type 0} (f : Y → Z) (g : X → Y) (front : List Z) (xs : List X) (i : ℕ) (found : List Z)
    → length xs ≤ i → found ≡ front ++ map f (map g (take i xs)) → found ≡ front ++ map f (map g xs)
mapped_all f g front xs i found l h = h ∙ ap (λ ys. front ++ map f (map g ys)) (take_all i xs l)
