-- Which threads own turns.
use Rattle.std.proofs.Common.{◌≡◌, ℕ, zero, suc, ◌+◌, ◌<◌, ◌≤◌, ◌⊎◌, inl, inr, List, [], ◌∷◌, length, get_or, Some, refl, sym, ◌∙◌, ap, subst, arith}
use Rattle.std.specs.Prelude.{slice_get}
use Rattle.std.proofs.lemmas.Bool.{cases_lt}
use Rattle.std.proofs.lemmas.Option.{slice_get_within}
use Rattle.pg_crew.specs.pg_num.declared.limits.TheConstants.{THREAD_LIMIT}
use Rattle.pg_crew.specs.pg_run_trace.declared.turn.Turn.{Turn}
use Rattle.pg_crew.specs.pg_law_runs.Deeds.{owners_of}

owner_at : (turns : List Turn) (g t : ℕ) (d : Turn) → slice_get (owners_of turns) g ≡ Some t → (get_or turns g d).thread.0 ≡ t
owner_at [] g t d e = absurd cc
owner_at (u ∷ us) zero t d e = cc
owner_at (u ∷ us) (suc g) t d e = owner_at us g t d e

-- the owners of the first n turns are below this number, but for those past the limit
abbrev pub HasOwners : List Turn → ℕ → ℕ → Type 0
HasOwners turns n count = (g t : ℕ) → g < n → slice_get (owners_of turns) g ≡ Some t → t < THREAD_LIMIT → t < count

pub no_owner : (turns : List Turn) (count : ℕ) → HasOwners turns 0 count
no_owner turns count g t lt e few = absurd (omega (arith, lt))

pub one_owner : (turns : List Turn) (n count more : ℕ) (d : Turn) → HasOwners turns n count → count ≤ more → ((get_or turns n d).thread.0 < THREAD_LIMIT → (get_or turns n d).thread.0 < more)
    → HasOwners turns (n + 1) more
one_owner turns n count more d h le owner g t lt e few = go (cases_lt g n)
  where
    go : (g < n) ⊎ (n ≤ g) → t < more
    go (inl l) = (let k = h g t l e few in omega (arith, k, le))
    go (inr l) =
        let q : g ≡ n = omega (arith, lt, l) in
        let is : (get_or turns n d).thread.0 ≡ t = ap (λ (k : ℕ). (get_or turns k d).thread.0) (sym q) ∙ owner_at turns g t d e in
        subst (λ (k : ℕ). k < more) is (owner (subst (λ (k : ℕ). k < THREAD_LIMIT) (sym is) few))

length_owners : (turns : List Turn) → length (owners_of turns) ≡ length turns
length_owners [] = refl
length_owners (u ∷ us) = ap suc (length_owners us)

pub all_owners : (turns : List Turn) (n count : ℕ) → HasOwners turns n count → length turns ≤ n → (g t : ℕ) → slice_get (owners_of turns) g ≡ Some t → t < THREAD_LIMIT → t < count
all_owners turns n count h all g t e few = (let w = slice_get_within (owners_of turns) g t e in let l = length_owners turns in h g t (omega (arith, w, l, all)) e few)
