-- What a run on an input has in common with a plan: its numbers are like what is known of them.
use Rattle.std.specs.Prelude.{◌≡◌, ℕ, ℤ, List, [], ◌∷◌, Option, Some, None, ⊤}
use Rattle.pg_num.specs.Pointers.{pointer_of}
use Rattle.pg_law_threads.specs.Plans.{Likeness}
use Rattle.pg_run_thread.specs.LocalState.{Frame, LocalState}
use Rattle.pg_run_trace.specs.declared.step.Step.{Step}
use Rattle.pg_run_trace.specs.Races.{reply_in}
use Rattle.pg_run_trace.specs.Steps.{event_of}
use Rattle.pg_slice_rules.specs.SymbolicValues.{Symbolic, Known, Bounded, Unknown}

-- ---- numbers

-- two words have the same bounds: the same start, and the same length
pub record HaveSameBounds (word n : ℕ) : Type 0 where
  pub start : (pointer_of n).start ≡ (pointer_of word).start
  pub length : (pointer_of n).length ≡ (pointer_of word).length

-- a number that is there has the bounds of this word, which is there too
abbrev pub HasBoundsOf : Option ℕ → Option ℕ → Type 0
HasBoundsOf (Some word) (Some n) = HaveSameBounds word n
HasBoundsOf _ _ = ⊥

-- the same of a number that may not be there, where the word isn't there either
abbrev pub HasBoundsIfAny : Option ℕ → Option ℕ → Type 0
HasBoundsIfAny word None = word ≡ None
HasBoundsIfAny word (Some n) = HasBoundsOf word (Some n)

-- on this input a value, none where it was never set, is like what is known of it: a known one is that number, with those bounds; of
-- another, which is set, its bounds may be known, and else it may be any or none
abbrev pub IsLike : List ℤ → Symbolic → Option ℕ → Type 0
IsLike input (Known f g) v = (v ≡ f input) × HasBoundsIfAny (g input) v
IsLike input (Bounded f x) v = HasBoundsOf (f input) v
IsLike input (Unknown x) v = ⊤

abbrev pub IsCellLike : List ℤ → Symbolic → ℕ → Type 0
IsCellLike input s n = IsLike input s (Some n)

-- registers, one by one
abbrev pub AreLike : List ℤ → List Symbolic → List (Option ℕ) → Type 0
AreLike input [] [] = ⊤
AreLike input [] (v ∷ vs) = ⊥
AreLike input (s ∷ ss) [] = ⊥
AreLike input (s ∷ ss) (v ∷ vs) = IsLike input s v × AreLike input ss vs

-- ---- threads

-- where a thread of a plan stands: its local state in the reference run, and what is known of the registers of its calls. The
-- reference run's own numbers in them aren't looked at
pub record Standing : Type 0 where
  pub local : LocalState
  pub known : List (List Symbolic)

-- a thread of a plan: none where it isn't made or hasn't begun; and how many units it has done
pub record PlanThread : Type 0 where
  pub standing : Option Standing
  pub units : ℕ

-- a thread of a run: none where it isn't made or hasn't begun; and how many moves it has done
pub record MovedThread : Type 0 where
  pub local : Option LocalState
  pub moves : ℕ

-- a call g of the run is in the function of f, at its place and with its stack height, and its registers are like these
pub record IsCallLike (input : List ℤ) (f : Frame) (known : List Symbolic) (g : Frame) : Type 0 where
  pub function : g.function ≡ f.function
  pub place : g.place ≡ f.place
  pub height : g.height ≡ f.height
  pub registers : AreLike input known g.registers

abbrev pub AreCallsLike : List ℤ → List Frame → List (List Symbolic) → List Frame → Type 0
AreCallsLike input [] [] [] = ⊤
AreCallsLike input (f ∷ fs) (known ∷ more) (g ∷ gs) = IsCallLike input f known g × AreCallsLike input fs more gs
AreCallsLike input _ _ _ = ⊥

-- the same calls, halfway in a wait or not, with the same height of the heap
pub record IsStandingLike (input : List ℤ) (z : Standing) (l : LocalState) : Type 0 where
  pub thread : l.thread ≡ z.local.thread
  pub halfway : l.halfway ≡ z.local.halfway
  pub heap : l.heap ≡ z.local.heap
  pub calls : AreCallsLike input z.local.frames z.known l.frames

abbrev pub StandLike : List ℤ → Option Standing → Option LocalState → Type 0
StandLike input None None = ⊤
StandLike input None (Some l) = ⊥
StandLike input (Some z) None = ⊥
StandLike input (Some z) (Some l) = IsStandingLike input z l

-- a thread stands as the plan's does, and has done as many moves as that has done units: an instance is one move and one unit, so
-- nothing is said here of a thread that is inside of one
pub record IsThreadLike (input : List ℤ) (z : PlanThread) (l : MovedThread) : Type 0 where
  pub moves : l.moves ≡ z.units
  pub stands : StandLike input z.standing l.local

-- ---- what is told

-- the same instruction of the same thread; where one is an event both are the same turn, with the same reply
pub record IsToldLike (x y : Step) : Type 0 where
  pub thread : y.thread ≡ x.thread
  pub instr : y.instr ≡ x.instr
  pub turn : event_of y ≡ event_of x
  pub reply : reply_in y.kind ≡ reply_in x.kind

-- how a plan is like a run on an input. Printed bytes are no part of it: no step reads them
abbrev pub like : List ℤ → Likeness PlanThread Symbolic Step MovedThread ℕ Step
like input = record { local = IsThreadLike input; cell = IsCellLike input; told = IsToldLike }
