-- The steps that access a byte, in order, as links that lead from one to the next.
use Rattle.std.specs.Prelude.{◌≡◌, ℕ, zero, suc, ◌+◌, ◌<◌, ◌≤◌, List, [], ◌∷◌, length, Bool, false, Option, Some, None, min, nat_eq, slice_get, if◌then◌else◌}
use Rattle.std.specs.Option.{unwrap_or}
use Rattle.indexmap.specs.IndexMap.{get}
use Rattle.pg_law_threads.specs.Intervals.{Timed}
use Rattle.pg_run_trace.specs.declared.step.Access.{Access}
use Rattle.pg_run_trace.specs.declared.step.Step.{Step}
use Rattle.pg_run_trace.specs.Steps.{access_of, range_of}
use Rattle.pg_run_trace.specs.Races.{is_in, is_unordered}
use Rattle.pg_schedule.specs.declared.links.Link.{Link}
use Rattle.pg_schedule.specs.declared.links.Links.{Links}

-- ---- the steps that access a byte

abbrev pub holds_byte : ℕ → Option Access → Bool
holds_byte b None = false
holds_byte b (Some a) = is_in (range_of a) b

abbrev pub accesses_byte : ℕ → Step → Bool
accesses_byte b x = holds_byte b (access_of x)

-- the numbers of those that pass a test, where the first has number k
abbrev pub numbers_of : {A : Type 0} → (A → Bool) → ℕ → List A → List ℕ
numbers_of test k [] = []
numbers_of test k (x ∷ xs) = if test x then k ∷ numbers_of test (k + 1) xs else numbers_of test (k + 1) xs

-- ---- links

abbrev pub on_link : Option Link → (ℕ → List ℕ) → List ℕ
on_link None more = []
on_link (Some l) more = l.step ∷ more l.next

-- at most so many steps, of the links from one on; link n stands at place n - 1, and 0 is no link
unfoldable pub steps_from : ℕ → List Link → ℕ → List ℕ
steps_from zero ls n = []
steps_from (suc k) ls zero = []
steps_from (suc k) ls (suc i) = on_link (slice_get ls i) (steps_from k ls)

-- the steps of the links from one on
abbrev pub linked : List Link → ℕ → List ℕ
linked ls n = steps_from n ls n

-- the first link of a byte
abbrev pub head_at : Links → ℕ → ℕ
head_at t b = unwrap_or (get nat_eq t.heads b) 0

-- a link at place i leads to one before it, and its step is one of n
pub record IsLink (n i : ℕ) (l : Link) : Type 0 where
  pub next : l.next ≤ i
  pub step : l.step < n

abbrev pub AreLinks : ℕ → List Link → Type 0
AreLinks n ls = (i : ℕ) (l : Link) → slice_get ls i ≡ Some l → IsLink n i l

-- the links of each byte have these of n steps
pub record AreListed (n : ℕ) (t : Links) (steps : ℕ → List ℕ) : Type 0 where
  pub chains : (b : ℕ) → linked t.links.items (head_at t b) ≡ steps b
  pub heads : (b : ℕ) → head_at t b ≤ length t.links.items
  pub links : AreLinks n t.links.items

-- a step more before those of each byte of an access
abbrev pub with_step : ℕ → (ℕ → List ℕ) → ℕ → Bool → List ℕ
with_step i steps b holds = if holds then i ∷ steps b else steps b

-- ---- the first that is unordered

abbrev pub is_unordered_with : Timed Step → Option (Timed Step) → Bool
is_unordered_with x None = false
is_unordered_with x (Some y) = is_unordered x y

-- step j is unordered with x
abbrev pub is_unordered_at : List (Timed Step) → Timed Step → ℕ → Bool
is_unordered_at ys x j = is_unordered_with x (slice_get ys j)

abbrev pub lesser : Option ℕ → Option ℕ → Option ℕ
lesser None b = b
lesser (Some n) None = Some n
lesser (Some n) (Some m) = Some (min n m)
