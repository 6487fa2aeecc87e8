-- Lists in which repetitions are left out.
use Rattle.std.specs.Prelude.{◌≡◌, ℕ, List, [], ◌∷◌, map, slice_get, Some}

-- the one list is the other, some of whose members are left out
pub data IsPart {A : Type 0} : List A → List A → Type 0 where
  none : IsPart [] []
  skips : {xs ys : List A} (y : A) → IsPart xs ys → IsPart xs (y ∷ ys)
  keeps : {xs ys : List A} (y : A) → IsPart xs ys → IsPart (y ∷ xs) (y ∷ ys)

-- at these numbers of xs stand the members of ys, one after another
abbrev pub StandAt : {A : Type 0} → List A → List ℕ → List A → Type 0
StandAt xs numbers ys = map (slice_get xs) numbers ≡ map Some ys

-- a part of a list, and of each member of the list the number of one of the part that is equal to it
pub record IsMerged {A : Type 0} (xs kept : List A) (numbers : List ℕ) : Type 0 where
  pub part : IsPart kept xs
  pub each : StandAt kept numbers xs
