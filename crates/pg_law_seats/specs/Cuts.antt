-- Seats of a run, and the words at a cut of it.
use Rattle.std.specs.Prelude.{◌≡◌, ℕ, ◌==◌, ◌≤◌, List, ◌∷◌, ◌++◌, false, true, replicate, slice_get, slice_index, if◌then◌else◌}
use Rattle.std.specs.List.{AllByRecursion}
use Rattle.pg_law_threads.specs.Effects.{deeds}
use Rattle.pg_law_threads.specs.Intervals.{turns_done}
use Rattle.pg_law_threads.specs.Standing.{Stands, done_of, left_by}
use Rattle.pg_words.specs.declared.layout.TheConstants.{TURN_WORD}
use Rattle.pg_seats.specs.declared.run.Run.{Run}
use Rattle.pg_seats.specs.declared.run.Standing.{Standing}
use Rattle.pg_seats.specs.declared.run.View.{View}
use Rattle.pg_seats.specs.declared.run.View.TheVariants.{Worker}
use Rattle.pg_seats.specs.Plan.{first_of, plan_of, turns_in}
use Rattle.pg_seats.specs.Rule.{cell_in, over_turn}

-- what the seat of thread t knows that has done so many of the thread's shared steps
abbrev pub standing : Run → ℕ → ℕ → Standing
standing r t done = record { run = r; thread = t; done = done; due = false; parts = 0; seen = 0; looks = 0 }

abbrev pub seat : Run → ℕ → ℕ → View
seat r t done = Worker (standing r t done)

-- and that is due, with so many parts of its turn done
abbrev pub due_standing : Run → ℕ → ℕ → ℕ → Standing
due_standing r t done parts = record { run = r; thread = t; done = done; due = true; parts = parts; seen = 0; looks = 0 }

abbrev pub due_seat : Run → ℕ → ℕ → ℕ → View
due_seat r t done parts = Worker (due_standing r t done parts)

-- thread t has done so many parts of its next turn, and no other thread any
abbrev pub parts_of : ℕ → ℕ → ℕ → ℕ
parts_of t parts u = if u == t then parts else 0

-- the turn word, those of threads 0 and 1, and the granules from granule 1 on
abbrev pub words_of : ℕ → ℕ → ℕ → List ℕ → List ℕ
words_of turns main first granules = turns ∷ main ∷ first ∷ (replicate 62 0 ++ 0 ∷ granules)

-- so many turns are done, main has done so many of its shared steps and thread 1 so many, thread t so many parts of the next turn, and at
-- these cells the words are as the rule wants them
pub record StandsAt (r : Run) (g main first t parts : ℕ) (words cells : List ℕ) : Type 0 where
  pub clock : slice_index words TURN_WORD ≡ g
  pub bound : g ≤ turns_done deeds 0 (plan_of r)
  pub stands : Stands (turns_in r) (plan_of r) g
  pub main_done : done_of stands 0 ≡ main
  pub first_done : done_of stands 1 ≡ first
  pub memory : AllByRecursion (λ b. cell_in words b ≡ over_turn r (done_of stands) (parts_of t parts) (slice_get (turns_in r) g) b ((left_by (first_of r) stands).cells b)) cells
