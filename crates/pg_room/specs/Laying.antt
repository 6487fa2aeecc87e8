-- What memory begins with, laid granule by granule.
use Rattle.std.specs.Prelude.{◌≡◌, ℕ, zero, suc, ◌+◌, ◌*◌, ◌/◌, ◌<◌, ◌≤◌, List, [], ◌∷◌, false, length, slice_index}
use Rattle.pg_crew.specs.pg_ir.declared.function.GlobalInfo.{GlobalInfo}
use Rattle.pg_crew.specs.pg_ir.WellFormed.{granules_for}
use Rattle.pg_crew.specs.pg_run_memory.Initial.{initial_byte}
use Rattle.pg_crew.specs.pg_seats.declared.run.Run.{Run}
use Rattle.pg_crew.specs.pg_seats.declared.run.View.TheVariants.{Laying}
use Rattle.pg_crew.specs.pg_seats.Plays.{Place}
use Rattle.pg_crew.specs.pg_worker.Pages.{is_marked, page_of}

-- how many granules hold these bytes
abbrev pub granules_of : List ℕ → ℕ
granules_of bytes = (length bytes + 7) / 8

-- each byte of memory below granule g with which a global begins and that isn't 0 lies in a page that is marked
abbrev pub HasMarked : List GlobalInfo → ℕ → List ℕ → Type 0
HasMarked globals g marks = (b : ℕ) → b < 8 * g → is_marked marks (page_of b) ≡ false → initial_byte globals b ≡ 0

-- what the run begins with is laid below granule g, and marked
pub record IsLaidBelow (r : Run) (g : ℕ) (me : Place) (marks : List ℕ) : Type 0 where
  pub laid : ℕ
  pub view : me ≡ (Laying r laid, [])
  pub low : laid ≤ g
  pub zeros : (b : ℕ) → 8 * laid ≤ b → b < 8 * g → initial_byte r.program.globals b ≡ 0
  pub marked : HasMarked r.program.globals g marks

-- memory begins with these bytes from granule g on, and zeros behind them to the end of their last granule
abbrev pub BeginsWith : Run → ℕ → List ℕ → Type 0
BeginsWith r g bytes = (i : ℕ) → i < 8 * granules_of bytes → initial_byte r.program.globals (8 * g + i) ≡ slice_index bytes i

-- the granule at which global k begins, where they lie one after another from granule `at` on, and behind the last one the granule
-- at which they end
abbrev pub begin_of : ℕ → List GlobalInfo → ℕ → ℕ
begin_of at [] k = at
begin_of at (g ∷ gs) zero = at
begin_of at (g ∷ gs) (suc k) = begin_of (at + granules_for g.size) gs k
