-- How the functions of a program are worked: in the order of how many functions their calls reach.
use Rattle.std.specs.Prelude.{◌≡◌, ℕ, ◌<◌, ◌==◌, ◌&&◌, ◌||◌, not, List, length, nat_lt, Bool, true, false, Option, None}
use Rattle.pg_ir.specs.Program.{NumberedProgram}
use Rattle.pg_region_accesses.specs.Accesses.{RootedList}
use Rattle.pg_region_accesses.specs.Tables.{in_table}
use Rattle.pg_region_summaries.specs.declared.span.Span.{Span}
use Rattle.pg_region_summaries.specs.declared.reaches.Reach.{Reach}
use Rattle.pg_region_summaries.specs.Callees.{calls_of}
use Rattle.pg_region_summaries.specs.Creates.{is_started}
use Rattle.pg_region_summaries.specs.Spans.{span_at, Covers}
use Rattle.pg_region_summaries.specs.Reaches.{AreReaches, reach_at}
use Rattle.pg_region_summaries.specs.Summaries.{summary_by}

-- neither main, nor named by a create, nor reached by its own calls
abbrev pub may_be_quiet : NumberedProgram → List Bool → List Reach → ℕ → Bool
may_be_quiet p started reaches f = not (f == p.main) && (not (in_table started f) && not (reach_at reaches f).is_recursive)

-- what is prepared of a program
pub record IsPrepared (p : NumberedProgram) (is_gated : ℕ → Bool) (gated : List Bool) (spans : List Span) (started : List Bool) (reaches : List Reach) : Type 0 where
  pub table : (i : ℕ) → in_table gated i ≡ is_gated i
  pub covers : (f : ℕ) → f < length p.functions → Covers p (length p.blocks) f (span_at spans f)
  pub named : (f : ℕ) → f < length p.functions → in_table started f ≡ is_started p f
  pub reach_count : length reaches ≡ length p.functions
  pub reached : AreReaches (calls_of p) (length p.functions) reaches

-- a function is done if its calls reach fewer than so many, or just as many and it stands before this function
abbrev pub is_done : NumberedProgram → List Bool → List Reach → ℕ → ℕ → ℕ → Bool
is_done p started reaches size f g =
    may_be_quiet p started reaches g && (nat_lt (reach_at reaches g).size size || (((reach_at reaches g).size == size) && nat_lt g f))

-- the functions that are done have their summaries, and the others none
pub record AreWorked (p : NumberedProgram) (gated : ℕ → Bool) (sums : ℕ → Option RootedList) (done : ℕ → Bool) : Type 0 where
  pub worked : (f : ℕ) → f < length p.functions → done f ≡ true → sums f ≡ summary_by p gated sums f
  pub others : (f : ℕ) → f < length p.functions → done f ≡ false → sums f ≡ None
