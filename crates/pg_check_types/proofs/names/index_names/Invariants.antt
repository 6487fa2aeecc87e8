use Rattle.std.proofs.Common.{◌≡◌, ℕ, List, take}
use Rattle.pg_check_types.specs.NameIndex.{known_place, first_place, texts_of}
use Rattle.pg_check_types.proofs.names.index_names.Given as goal

abbrev pub invariant-loop-place : goal.invariant-loop-place
invariant-loop-place l = (text : List ℕ) → known_place l.places text ≡ first_place (texts_of (take l.place l.names)) text
