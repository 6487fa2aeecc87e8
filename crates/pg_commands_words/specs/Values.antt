-- The values that words write.
use Rattle.std.specs.Prelude.{ℕ, ℤ, Bool, true, false, pos, negsuc, ◌^◌, ◌-◌, ◌&&◌, nat_le, if◌then◌else◌, [], Option, Some, None}
use Rattle.std.specs.Option.{option_map}
use Rattle.pg_num.specs.Decimal.{are_digits, natural_of, decimal_between, digits_up_to}
use Rattle.pg_num.specs.declared.limits.TheConstants.{QUANTUM_LIMIT}
use Rattle.pg_session_trial.specs.declared.line.TheConstants.{TRIAL_LIMIT}
use Rattle.pg_commands_words.specs.Pieces.{Given, Word}
use Rattle.pg_commands_words.specs.declared.commands.RecordingWay.{RecordingWay}
use Rattle.pg_commands_words.specs.declared.commands.RecordingWay.TheVariants.{Rotating, Free, Seeded}
use Rattle.pg_commands_words.specs.declared.values.TheConstants.{DEFAULT_QUANTUM}

-- a number: an optional `-` and one or more digits, with a value in 64 bits with a sign
abbrev pub number_of : Word → Option ℤ
number_of word = decimal_between (negsuc (2 ^ 63 - 1)) (pos (2 ^ 63 - 1)) word

-- a quantum: one or more digits, with a value from 1 to the limit
abbrev pub quantum_of : Word → Option ℕ
quantum_of word =
    if are_digits word && (nat_le 1 (natural_of word) && nat_le (natural_of word) QUANTUM_LIMIT)
    then Some (natural_of word) else None

-- a seed: one or more digits, with a value in 64 bits
abbrev pub seed_of : Word → Option ℕ
seed_of word = digits_up_to (2 ^ 64 - 1) word

-- the number of a trial: one or more digits, with a value up to the limit
abbrev pub trial_of : Word → Option ℕ
trial_of word = if are_digits word && nat_le (natural_of word) TRIAL_LIMIT then Some (natural_of word) else None

-- the way of recording that the texts of `--quantum` and `--seed` and the flag `--free` choose: at most one of these is given
abbrev pub way_of : Option Word → Option Word → Bool → Option RecordingWay
way_of None None false = Some (Rotating DEFAULT_QUANTUM)
way_of (Some quantum) None false = option_map Rotating (quantum_of quantum)
way_of None (Some seed) false = option_map Seeded (seed_of seed)
way_of None None true = Some Free
way_of _ _ _ = None

abbrev pub chosen_way : Given → Option RecordingWay
chosen_way given = way_of given.quantum given.seed given.free

-- the name of a book isn't empty
abbrev pub is_book_name : Option Word → Bool
is_book_name (Some []) = false
is_book_name _ = true
