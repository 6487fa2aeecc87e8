-- Marks of two lists joined.
use Rattle.std.specs.Prelude.{◌||◌, List, [], ◌∷◌, Bool}

-- set where one of the two is set
abbrev pub or_each : List Bool → List Bool → List Bool
or_each [] bs = []
or_each (a ∷ xs) [] = []
or_each (a ∷ xs) (b ∷ bs) = (a || b) ∷ or_each xs bs
