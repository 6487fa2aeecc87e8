-- What is computed on rows is what is said of a run whose shared steps they are.
use Rattle.std.proofs.Common.{◌≡◌, ℕ, List, refl, ap}
use Rattle.std.specs.Prelude.{slice_get}
use Rattle.pg_law_threads.specs.Effects.{deeds, effects}
use Rattle.pg_law_threads.specs.Intervals.{times}
use Rattle.pg_law_threads.specs.Standing.{own}
use Rattle.pg_law_runs.specs.Deeds.{Did}
use Rattle.pg_seats.specs.declared.run.Run.{Run}
use Rattle.pg_seats.specs.declared.run.Standing.{Standing}
use Rattle.pg_seats.specs.Plan.{before, cells_there, first_of, plan_of, turns_in}
use Rattle.pg_seats.specs.Views.{next_of}

-- the next shared step of a seat, by its plan
pub next_in : (owners : List ℕ) (plan : List Did) (w : Standing) → turns_in w.run ≡ owners → plan_of w.run ≡ plan
    → next_of w ≡ slice_get (own w.thread (times deeds owners 0 plan)) w.done
unfolding next_of
next_in owners plan w t p = rw (t, p) refl

-- the cells that a shared step finds, by its plan
pub cells_in : (r : Run) (plan : List Did) (t m c : ℕ) → plan_of r ≡ plan → cells_there r t m c ≡ (effects (first_of r) (before t m plan)).cells c
unfolding cells_there
cells_in r plan t m c p = ap (λ ds. (effects (first_of r) (before t m ds)).cells c) p

pub cells_all : (r : Run) (plan : List Did) (t m : ℕ) → plan_of r ≡ plan → cells_there r t m ≡ (effects (first_of r) (before t m plan)).cells
unfolding cells_there
cells_all r plan t m p = ap (λ ds. (effects (first_of r) (before t m ds)).cells) p
