-- Words of threads that have to be known.
use Rattle.std.specs.Prelude.{◌≡◌, ◌<◌, ℕ, List, Bool, true, Option, Some, None, slice_index_or}
use Rattle.pg_ir.specs.Program.{NumberedProgram, parameter_count}
use Rattle.pg_run_trace.specs.declared.step.Write.{Write}
use Rattle.pg_run_trace.specs.Steps.{range_of, write_by}
use Rattle.pg_slice_rules.specs.SymbolicValues.{is_within}
use Rattle.pg_slice_rules.specs.Known.{SymbolicState}
use Rattle.pg_slice_back.specs.pg_law_demands.Cells.{IsMet}
use Rattle.pg_slice_back.specs.pg_law_demands.Back.{word_demand}
use Rattle.pg_slice_demands.specs.declared.demanded.Demanded.{Demanded}
use Rattle.pg_slice_demands.specs.Asked.{asked_of, asks_byte}
use Rattle.pg_slice_demands.specs.declared.call.Call.{Call}
use Rattle.pg_slice_walk.specs.declared.words.AskedWord.{AskedWord}

-- of each thread's word is known what is asked of it: the whole of it, or its bounds
pub record AreWordsMet (s : SymbolicState) (words : List (Option Bool)) : Type 0 where
  pub by : (t : ℕ) (whole : Bool) → slice_index_or words t None ≡ Some whole → IsMet s (word_demand t whole)

abbrev pub IsWordMet : SymbolicState → AskedWord → Type 0
IsWordMet s w = IsMet s (word_demand w.thread w.whole)

-- of the bytes that are written one has to be known
abbrev pub WritesAsked : Demanded → Write → Type 0
WritesAsked w x = (b : ℕ) × (is_within (range_of (write_by x)) b ≡ true) × (asks_byte w b ≡ true)

-- the first register of a call, which has so many, has to be known, whole or its bounds, and its function has parameters
abbrev pub AsksArgument : NumberedProgram → Demanded → ℕ → Call → ℕ → Bool → Type 0
AsksArgument p w f at count whole = (parameter_count p f ≡ 0 → ⊥) × (0 < count) × (asked_of w at.thread.0 at.depth 0 ≡ Some whole)
