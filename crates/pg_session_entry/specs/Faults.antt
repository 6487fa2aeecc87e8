-- Why turns give no entry.
use Rattle.std.specs.Prelude.{◌≡◌, Option, Some, None}
use Rattle.pg_run_trace.specs.Races.{first_unordered}
use Rattle.pg_run.specs.Follow.{Breaks, Exits, Following, Strays}
use Rattle.pg_session_entry.specs.declared.turns.FromFault.{FromFault}
use Rattle.pg_session_entry.specs.declared.turns.FromFault.TheVariants.{OutOfMemory, Strayed, Unfinished, Unordered}

-- the fault of what following the turns gives by itself: the run strays at this turn, or is unfinished
abbrev pub fault_of : Following → Option FromFault
fault_of (Exits steps printed value) = None
fault_of (Strays k) = Some (Strayed k)
fault_of Breaks = Some Unfinished

-- a fault by what following the turns gives: the run strays at this turn; it is unfinished; or it exits, and its first two steps
-- that conflict and aren't ordered are these
abbrev pub IsFault : FromFault → Following → Type 0
IsFault OutOfMemory f = Unit {0}
IsFault (Strayed k) (Strays j) = j ≡ k
IsFault (Strayed k) f = ⊥
IsFault Unfinished Breaks = Unit {0}
IsFault Unfinished f = ⊥
IsFault (Unordered i j) (Exits steps printed value) = first_unordered steps ≡ Some (i, j)
IsFault (Unordered i j) f = ⊥
