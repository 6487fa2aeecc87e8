-- Members of lists.
use Rattle.std.specs.Prelude.{◌≡◌, ◌⊎◌, List, [], ◌∷◌}

-- x is one of the list
abbrev pub Has : {A : Type 0} → List A → A → Type 0
Has {A} [] x = ⊥
Has {A} (y ∷ ys) x = (y ≡ x) ⊎ Has ys x
