-- The cells from which the loads of a path read.
use Rattle.std.specs.Prelude.{◌≡◌, ℕ, pos, List, [], ◌∷◌}
use Rattle.pg_num.specs.Places.{ByteRange}
use Rattle.pg_num.specs.Pointers.{byte_place, moved_by}

-- by the offsets of loads and the pointers from which they read, where each cell begins
abbrev pub AreCells : List ℕ → List ℕ → List ByteRange → Type 0
AreCells [] ws cells = Unit {0}
AreCells (k ∷ ks) (w ∷ ws) (c ∷ cells) = (c.start ≡ byte_place (moved_by w (pos k))) × AreCells ks ws cells
AreCells (k ∷ ks) ws cells = ⊥
