-- Where threads stand in a plan: at a cut, by how many of its steps each has done.
use Rattle.std.specs.Prelude.{◌≡◌, ℕ, suc, ◌==◌, ◌++◌, ◌∷◌, List, Bool, true, Some, slice_get}
use Rattle.std.specs.List.{filter}
use Rattle.pg_law_threads.specs.Steps.{touches}
use Rattle.pg_law_threads.specs.Intervals.{Timed, times, did_of, done_after}
use Rattle.pg_law_threads.specs.Cuts.{Mark, kept, whole, IsCut, IsBelow, count_done}
use Rattle.pg_law_threads.specs.Effects.{State, Deed, deeds, effect, effects, Same}
use Rattle.pg_law_threads.specs.Plans.{IsPlan}

-- the steps of thread u, each with its interval
abbrev pub own : {L B Y E : Type 0} → ℕ → List (Timed (Deed L B Y E)) → List (Timed (Deed L B Y E))
own u xs = filter (λ x. u == x.did.thread) xs

-- g turns are done, and of each thread so many steps as the marks say
pub record Stands {L B Y E : Type 0} (T : List ℕ) (plan : List (Deed L B Y E)) (g : ℕ) : Type 0 where
  pub marks : List (Mark (Timed (Deed L B Y E)))
  pub is_whole : whole marks ≡ times deeds T 0 plan
  pub is_cut : IsCut deeds marks
  pub below : IsBelow g marks

-- how many steps of thread u are done
abbrev pub done_of : {L B Y E : Type 0} {T : List ℕ} {plan : List (Deed L B Y E)} {g : ℕ} → Stands T plan g → ℕ → ℕ
done_of c u = count_done deeds c.marks u

-- what the steps that are done leave, in the plan's order
abbrev pub left_by : {L B Y E : Type 0} {T : List ℕ} {plan : List (Deed L B Y E)} {g : ℕ} → State L B Y → Stands T plan g → State L B Y
left_by z c = effects z (did_of (kept c.marks))

-- the thread of x does it now: it finds what the plan has there, and what it leaves is the state of a cut with this one step more, behind which
-- so many turns are done
pub record Goes {L B Y E : Type 0} (T : List ℕ) (z : State L B Y) (plan : List (Deed L B Y E)) (g behind : ℕ) (c : Stands T plan g) (u : ℕ) (x : Timed (Deed L B Y E)) : Type 0 where
  pub thread_is : x.did.thread ≡ u
  -- what stands before it in the plan
  pub front : List (Deed L B Y E)
  pub rest : List (Deed L B Y E)
  pub split : plan ≡ front ++ x.did ∷ rest
  -- a cell that it reads or writes is as the plan has it there
  pub finds : (b : ℕ) → touches deeds x.did b ≡ true → (left_by z c).cells b ≡ (effects z front).cells b
  pub stands : Stands T plan behind
  pub leaves : Same (effect (left_by z c) x.did) (left_by z stands)
  pub one_more : done_of stands x.did.thread ≡ suc (done_of c x.did.thread)
  pub others : (u : ℕ) → (u ≡ x.did.thread → ⊥) → done_of stands u ≡ done_of c u

-- a deed of numbers
abbrev pub NumberDeed : Type 0
NumberDeed = Deed ℕ ℕ ℕ ℕ

abbrev pub ArePlans : Type 0
ArePlans = (T : List ℕ) (plan : List NumberDeed) (chosen : NumberDeed → Bool)
    → ((d : NumberDeed) → deeds.is_event d ≡ true → chosen d ≡ true) → IsPlan deeds T plan → IsPlan deeds T (filter chosen plan)

-- the m-th step of thread u, where m are done: an event only where it is the next turn
abbrev pub FindAndLeave : Type 0
FindAndLeave = (T : List ℕ) (z : State ℕ ℕ ℕ) (plan : List NumberDeed) (g : ℕ) (c : Stands T plan g) (u : ℕ) (x : Timed NumberDeed)
    → IsPlan deeds T plan → slice_get (own u (times deeds T 0 plan)) (done_of c u) ≡ Some x → (deeds.is_event x.did ≡ true → x.high ≡ g)
    → Goes T z plan g (done_after (deeds.is_event x.did) g) c u x
