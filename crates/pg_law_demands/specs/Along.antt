-- What is known before each step of a run, and what has to be known there under all larger closed decisions.
use Rattle.std.specs.Prelude.{◌≡◌, ℕ, suc, List, [], ◌∷◌, Contains, take, true, Some, slice_get}
use Rattle.std.specs.List.{AllByRecursion}
use Rattle.pg_law_least.specs.pg_slice_rules.declared.decision.Decision.{Decision}
use Rattle.pg_law_least.specs.pg_slice_rules.Closed.{AreWithin, IsClosed}
use Rattle.pg_law_least.specs.pg_slice_rules.Known.{Reference, SymbolicState, Seen, Taken, after_step, has, start_of}
use Rattle.pg_law_least.specs.pg_slice_rules.Moments.{Moment}
use Rattle.pg_law_least.specs.Keeps.{steps_of}
use Rattle.pg_law_demands.specs.Cells.{Demand, IsMet}
use Rattle.pg_law_demands.specs.Back.{Asked}
use Rattle.pg_law_demands.specs.Demands.{and_those, before_step, demanded}

-- after these steps, of which the first has number n
unfoldable pub known_from : Reference → Taken → ℕ → SymbolicState → List Moment → SymbolicState
known_from R d n s [] = s
known_from R d n s (m ∷ ms) = known_from R d (suc n) (after_step R d n m s) ms

-- before step n
abbrev pub known_at : Reference → Taken → ℕ → SymbolicState
known_at R d n = known_from R d 0 (start_of R.program) (take n R.moments)

-- under each larger closed set the demands are met before step n, and the decisions are taken
abbrev pub AreDue : Reference → Taken → ℕ → Asked → Type 0
AreDue R d n a =
    (e : Taken) → IsClosed R e → AreWithin d e → AllByRecursion (IsMet (known_at R e n)) a.demands × AllByRecursion (λ (x : Decision). has e x ≡ true) a.decisions

-- ---- what the laws say

-- what is due after step n makes what is due before it
abbrev pub DueBefore : Reference → Type 0
DueBefore R = (d : Taken) (n : ℕ) (y : Seen) (a : Asked) → slice_get (steps_of R) n ≡ Some y → AreDue R d (suc n) a → AreDue R d n (before_step R d y a)

-- some of what is due is due
abbrev pub SomeAreDue : Reference → Type 0
SomeAreDue R = (d : Taken) (n : ℕ) (a b : Asked) → ((q : Demand) → Contains b.demands q → Contains a.demands q) → ((x : Decision) → Contains b.decisions x → Contains a.decisions x) →
    AreDue R d n a → AreDue R d n b

-- with the decisions that are due, what is due stays so
abbrev pub MoreAreDue : Reference → Type 0
MoreAreDue R = (d : Taken) (n : ℕ) (a b : Asked) → AreDue R d n a → AreDue R (and_those d a.decisions) n b → AreDue R d n b

-- with the decisions that are demanded, decisions stay within each closed set that they were within
abbrev pub DemandedStayWithin : Reference → Type 0
DemandedStayWithin R = (d e : Taken) → IsClosed R e → AreWithin d e → AreWithin (and_those d (demanded R d)) e
