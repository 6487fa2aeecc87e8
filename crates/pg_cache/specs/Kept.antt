-- What a bounded cache keeps, and which of its values answers an input.
use Rattle.std.specs.Prelude.{ℕ, ◌-◌, ◌+◌, suc, Bool, true, false, if◌then◌else◌, List, [], ◌∷◌, ◌++◌, length, drop, Option, None, Some, nat_lt, slice_get}

pub record Kept (V : Type 0) : Type 0 where
  -- the most values that are kept
  pub size : ℕ
  -- how many values were inserted so far
  pub inserted : ℕ
  -- the youngest of these, oldest first
  pub values : List V

-- the cache of this size that nothing was inserted into
abbrev pub nothing : {V : Type 0} → ℕ → Kept V
nothing n = record { size = n; inserted = 0; values = [] }

-- the last so many things of a list
abbrev pub youngest : {V : Type 0} → ℕ → List V → List V
youngest n xs = drop (length xs - n) xs

-- the cache after an insertion: where it was full, the oldest value is dropped
abbrev pub with_value : {V : Type 0} → V → Kept V → Kept V
with_value v c = record { size = c.size; inserted = c.inserted + 1; values = youngest c.size (c.values ++ v ∷ []) }

-- the number of the oldest value that is kept
abbrev pub oldest : {V : Type 0} → Kept V → ℕ
oldest c = c.inserted - length c.values

-- the value of a number, where it is kept
abbrev pub value_of : {V : Type 0} → Kept V → ℕ → Option V
value_of c n = if nat_lt n (oldest c) then None else slice_get c.values (n - oldest c)

-- of answers that are numbered from `n` on, the least number of one that is true
unfoldable pub first_from : ℕ → List Bool → Option ℕ
first_from n [] = None
first_from n (b ∷ bs) = if b then Some n else first_from (suc n) bs
