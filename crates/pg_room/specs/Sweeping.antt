-- Words that are made 0 again behind a run.
use Rattle.std.specs.Prelude.{◌≡◌, ℕ, ◌+◌, ◌/◌, ◌<◌, ◌≤◌, List, [], false}
use Rattle.pg_crew.specs.pg_num.declared.layout.TheConstants.{GRANULE_COUNT}
use Rattle.pg_crew.specs.pg_seats.declared.run.Run.{Run}
use Rattle.pg_crew.specs.pg_seats.declared.run.View.TheVariants.{Sweeping}
use Rattle.pg_crew.specs.pg_seats.Plays.{Place}
use Rattle.pg_crew.specs.pg_seats.Views.{IsClean}
use Rattle.pg_crew.specs.pg_words.declared.layout.TheConstants.{GRANULE_WORDS}
use Rattle.pg_crew.specs.pg_worker.Pages.{is_marked}

-- the words of threads, and the granules below granule g that the run wrote, are 0 again
pub record IsSweptBelow (r : Run) (g : ℕ) (me : Place) : Type 0 where
  pub swept : ℕ
  pub view : me ≡ (Sweeping r swept, [])
  pub low : GRANULE_WORDS ≤ swept
  pub high : swept ≤ GRANULE_WORDS + g
  pub clean : (i : ℕ) → swept ≤ GRANULE_WORDS + i → i < g → IsClean r i

-- the run never writes a granule of a page that isn't marked, and begins with zeros there
abbrev pub AreWritten : Run → List ℕ → Type 0
AreWritten r marks = (g : ℕ) → g < GRANULE_COUNT → is_marked marks (g / 64) ≡ false → IsClean r g
