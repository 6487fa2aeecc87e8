-- What is read behind each part of a list, one more.
use Rattle.std.proofs.Common.{◌≡◌, ℕ, ◌+◌, ◌<◌, List, [], ◌∷◌, ◌++◌, length, map, take, get_or, ap, ◌∙◌}
use Rattle.std.proofs.lemmas.List.{map-append}
use Rattle.pg_check_rules.proofs.MappedLists.{mapped_more}

pub listed_more : {N X Y Z : Type 0} (view : N → Z) (f : Y → Z) (g : X → Y) (front : List Z) (xs : List X) (i : ℕ) (x d : X) (found pushed : List N) (one : N)
    → i < length xs → x ≡ get_or xs i d → map view found ≡ front ++ map f (map g (take i xs)) → view one ≡ f (g x) → pushed ≡ found ++ one ∷ []
    → map view pushed ≡ front ++ map f (map g (take (i + 1) xs))
listed_more view f g front xs i x d found pushed one l e h o p =
    mapped_more f g front xs i x d (map view found) (map view pushed) (view one) l e h o (ap (λ ns. map view ns) p ∙ map-append view found (one ∷ []))
