-- The greatest rank among those of other threads, of which a table keeps two.
use Rattle.std.specs.Prelude.{ℕ, ◌==◌, ◌≤◌, if◌then◌else◌}
use Rattle.pg_run_trace.specs.declared.best.Best.{Best}

-- the greatest rank of a thread other than u
abbrev pub other : Best → ℕ → ℕ
other b u = if b.thread.0 == u then b.second else b.first

-- the second isn't greater than the first
abbrev pub IsBest : Best → Type 0
IsBest b = b.second ≤ b.first

abbrev pub no_best : Best
no_best = record { first = 0; thread = record { 0 = 0 }; second = 0 }
