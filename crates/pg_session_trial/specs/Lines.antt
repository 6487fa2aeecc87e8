-- The lines of input of a trial.
use Rattle.std.specs.Prelude.{ℕ, zero, suc, ◌+◌, ◌*◌, ◌%◌, ℤ, pos, List, [], ◌∷◌}
use Rattle.pg_session_trial.specs.declared.line.TheConstants.{TRIAL_LINES}

-- so many numbers one after another, from this one on
abbrev pub numbers_from : ℕ → ℕ → List ℤ
numbers_from first zero = []
numbers_from first (suc count) = pos first ∷ numbers_from (first + 1) count

-- line i of trial n
abbrev pub trial_line : ℕ → ℕ → List ℤ
trial_line n i = numbers_from n ((37 * i + n) % TRIAL_LINES + 1)

-- so many lines one after another, from line i on
abbrev pub lines_from : ℕ → ℕ → ℕ → List (List ℤ)
lines_from n i zero = []
lines_from n i (suc count) = trial_line n i ∷ lines_from n (i + 1) count

-- all lines of trial n
abbrev pub trial_lines : ℕ → List (List ℤ)
trial_lines n = lines_from n 0 TRIAL_LINES
