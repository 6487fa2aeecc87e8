-- What the laws say of a reference run and its decisions.
use Rattle.std.specs.Prelude.{◌≡◌, ◌↔◌, ℕ, ◌<◌, ℤ, List, [], length, Contains, true, false, None, slice_index_or}
use Rattle.std.specs.List.{AllZip, AllByRecursion}
use Rattle.pg_run_trace.specs.Steps.{happening_in}
use Rattle.pg_slice_rules.specs.declared.decision.Decision.{Decision}
use Rattle.pg_slice_rules.specs.declared.decision.Decision.TheVariants.{Pinned, Exact}
use Rattle.pg_slice_rules.specs.Closed.{AreWithin, IsClosed, IsSlice, admits, asks}
use Rattle.pg_slice_rules.specs.Known.{Reference, Seen, Taken, has, seen_in}
use Rattle.pg_slice_rules.specs.Rules.{kind_in, registers_before}
use Rattle.pg_slice_rules.specs.SymbolicValues.{OnInput, Known, unset}
use Rattle.pg_law_least.specs.Keeps.{every, open_in, steps_of}

-- the number of the step that a decision fixes
abbrev pub step_in : Decision → ℕ
step_in (Pinned n) = n
step_in (Exact n) = n

-- no decision that is asked for is taken
abbrev pub AsksAreNew : Reference → Type 0
AsksAreNew R = (d : Taken) (x : Decision) → Contains (asks R d) x → has d x ≡ false

-- and each fixes a step of the run
abbrev pub AsksAreOfSteps : Reference → Type 0
AsksAreOfSteps R = (d : Taken) (x : Decision) → Contains (asks R d) x → step_in x < length R.moments

-- decisions are closed where they ask for nothing
abbrev pub ClosedAskNothing : Reference → Type 0
ClosedAskNothing R = (d : Taken) → IsClosed R d ↔ (asks R d ≡ [])

-- all decisions together are closed
abbrev pub AllAreClosed : Reference → Type 0
AllAreClosed R = IsClosed R every

-- each decision that is asked for is in each larger set that is closed
abbrev pub AsksAreAbove : Reference → Type 0
AsksAreAbove R = (d e : Taken) → IsClosed R e → AreWithin d e → (x : Decision) → Contains (asks R d) x → has e x ≡ true

-- some closed decisions are contained in all that are closed
abbrev pub HasSlice : Reference → Type 0
HasSlice R = (d : Taken) × IsSlice R d

-- two such have the same decisions
abbrev pub SliceIsOne : Reference → Type 0
SliceIsOne R = (d e : Taken) → IsSlice R d → IsSlice R e → (x : Decision) → has d x ≡ has e x

-- what some decisions admit fewer of them admit too
abbrev pub SmallerAdmitsMore : Reference → Type 0
SmallerAdmitsMore R = (d e : Taken) → AreWithin d e → (input : List ℤ) → admits R e input ≡ true → admits R d input ≡ true

-- what is known before the first step is known before the second, with the same number and the same bounds on each input: of registers of the
-- thread, where the first step is live, of bytes and of words
pub record StayKnown (x y : Seen) : Type 0 where
  pub registers : x.live ≡ true → (r : ℕ) (f g : OnInput) → slice_index_or (registers_before x) r unset ≡ Known f g → slice_index_or (registers_before y) r unset ≡ Known f g
  pub bytes : (b : ℕ) (f g : OnInput) → x.before.bytes b ≡ Known f g → y.before.bytes b ≡ Known f g
  pub words : (t : ℕ) (f g : OnInput) → slice_index_or x.before.words t unset ≡ Known f g → slice_index_or y.before.words t unset ≡ Known f g

-- what is known before each step under some decisions is known under more of them
abbrev pub KnownStays : Reference → Type 0
KnownStays R = (d e : Taken) → AreWithin d e → AllZip StayKnown (seen_in R d) (seen_in R e)

-- a step that is left out, since it lies in an extent whose branch step isn't pinned, is no event
abbrev pub IsPlain : Seen → Type 0
IsPlain x = x.live ≡ false → happening_in (kind_in x) ≡ None

abbrev pub LeftOutArePlain : Reference → Type 0
LeftOutArePlain R = (d : Taken) → AllByRecursion IsPlain (seen_in R d)

-- the extents that are open before a step rest on no decision
abbrev pub SameExtents : Seen → Seen → Type 0
SameExtents x y = (t : ℕ) → open_in x t ≡ open_in y t

abbrev pub ExtentsStay : Reference → Type 0
ExtentsStay R = (d : Taken) → AllZip SameExtents (seen_in R d) (steps_of R)
