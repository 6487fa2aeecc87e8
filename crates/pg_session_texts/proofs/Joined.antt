-- Six texts, one behind the other.
use Rattle.std.proofs.Common.{◌≡◌, ℕ, List, ◌++◌, ap, ◌∙◌, append_assoc}

pub joined : (a b c p e r : List ℕ) → (((a ++ (b ++ c)) ++ p) ++ e) ++ r ≡ a ++ (b ++ (c ++ (p ++ (e ++ r))))
joined a b c p e r =
    append_assoc ((a ++ (b ++ c)) ++ p) e r
    ∙ append_assoc (a ++ (b ++ c)) p (e ++ r)
    ∙ append_assoc a (b ++ c) (p ++ (e ++ r))
    ∙ ap (λ l. a ++ l) (append_assoc b c (p ++ (e ++ r)))
