-- What a program text gives: its program, or the line that refuses it.
use Rattle.std.specs.Prelude.{ℕ, ℤ, ◌<◌, ◌^◌, List, length, Option, Some, None}
use Rattle.pg_io.specs.declared.shelf.FetchFault.{FetchFault}
use Rattle.pg_io.specs.declared.shelf.FetchFault.TheVariants as fetches
use Rattle.pg_session_book.specs.pg_law_runs.Cuts.{CanRun}
use Rattle.pg_commands.specs.declared.programs.Loaded.{Loaded}
use Rattle.pg_commands.specs.declared.programs.Loaded.TheVariants.{Accepted, Refused}
use Rattle.pg_commands.specs.declared.programs.NoProgram.{NoProgram}
use Rattle.pg_commands.specs.declared.programs.NoProgram.TheVariants.{OutOfMemory, ShelfFault}
use Rattle.pg_commands.specs.Texts.{IsAccepted, IsRefusalLine}

-- why there is no program text where a fetch gave none; none where the text is too long, since that is refused
abbrev pub unfetched : FetchFault → Option NoProgram
unfetched fetches.Failed = Some ShelfFault
unfetched fetches.TooLong = None
unfetched fetches.OutOfMemory = Some OutOfMemory

abbrev pub IsLoaded : List ℕ → Loaded → Type 0
IsLoaded text (Accepted program) = IsAccepted text program × ((input : List ℤ) → length input < 2 ^ 64 → CanRun program input)
IsLoaded text (Refused line) = IsRefusalLine text line.items
