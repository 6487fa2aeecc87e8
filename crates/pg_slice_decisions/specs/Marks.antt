-- Sets of numbers below a bound, as tables.
use Rattle.std.specs.Prelude.{ℕ, suc, List, [], ◌∷◌, Bool, true, false, slice_index_or}

abbrev pub in_set : List Bool → ℕ → Bool
in_set set n = slice_index_or set n false

-- the numbers of a set, ascending, the first test being that of n
abbrev pub members_from : ℕ → List Bool → List ℕ
members_from n [] = []
members_from n (true ∷ set) = n ∷ members_from (suc n) set
members_from n (false ∷ set) = members_from (suc n) set

-- how many numbers aren't in the set
abbrev pub left_in : List Bool → ℕ
left_in [] = 0
left_in (true ∷ set) = left_in set
left_in (false ∷ set) = suc (left_in set)
