-- The text of a trial: what comes of a session over its lines.
use Rattle.std.specs.Prelude.{◌≡◌, ℕ, ℤ, Bool, true, false, List, [], ◌∷◌, ◌++◌, codes, count_by, flat_map, map, Option, Some, None}
use Rattle.std.specs.List.{filter_map, sum_by}
use Rattle.std.specs.Fmt.{decimal, signed_decimal}
use Rattle.pg_cache.specs.Kept.{Kept}
use Rattle.pg_num.specs.Numbers.{residue, signed, sum_of}
use Rattle.pg_num.specs.declared.width.Width.TheVariants.{W64}
use Rattle.pg_session_texts.specs.declared.reply.ReplyKind.{ReplyKind}
use Rattle.pg_session_texts.specs.declared.reply.ReplyKind.TheVariants.{Recorded, Reused}
use Rattle.pg_session_texts.specs.declared.reply.EndLine.{EndLine}
use Rattle.pg_session_texts.specs.declared.reply.EndLine.TheVariants.{Exit, Trap, Budget}
use Rattle.pg_session_trial.specs.Lines.{trial_lines}
use Rattle.pg_session_trial.specs.declared.line.TheConstants.{TRIAL_LINES}
use Rattle.pg_session.specs.Lines.{ended_lines, number_of}
use Rattle.pg_session.specs.Sessions.{Answer, AnswersAll, Runs, begin}

abbrev pub is_recorded : ReplyKind → Bool
is_recorded (Recorded entry) = true
is_recorded _ = false

abbrev pub is_reused : ReplyKind → Bool
is_reused (Reused entry) = true
is_reused _ = false

abbrev pub is_refused : ReplyKind → Bool
is_refused (Recorded entry) = false
is_refused (Reused entry) = false
is_refused _ = true

-- how many turns the run along a schedule did, 0 where there was none
abbrev pub turns_of : Option EndLine → ℕ
turns_of None = 0
turns_of (Some (Exit value turns)) = turns
turns_of (Some (Trap name id turns)) = turns
turns_of (Some (Budget thread turns)) = turns

-- the numbers that were printed, each on a line of its own
abbrev pub numbers_printed : List ℕ → List ℤ
numbers_printed output = filter_map number_of (ended_lines output)

-- the sum of a total and of numbers, modulo 2 ^ 64
abbrev pub sum_from : ℕ → List ℤ → ℕ
sum_from total [] = total
sum_from total (number ∷ numbers) = sum_from (sum_of W64 total (residue W64 number)) numbers

-- a word, a number and a line feed
abbrev pub count_line : List ℕ → ℕ → List ℕ
count_line word count = word ++ (codes " " ++ (decimal count ++ codes "\n"))

-- the line of a sum modulo 2 ^ 64, as a number with a sign
abbrev pub sum_line : ℕ → List ℕ
sum_line sum = codes "sum " ++ (signed_decimal (signed W64 sum) ++ codes "\n")

-- the seven lines, where the sum is one modulo 2 ^ 64
abbrev pub counts_text : ℕ → ℕ → ℕ → ℕ → ℕ → ℕ → List ℕ
counts_text number recorded reused refused turns sum =
    count_line (codes "trial") number ++ (count_line (codes "lines") TRIAL_LINES ++
    (count_line (codes "recorded") recorded ++ (count_line (codes "reused") reused ++ (count_line (codes "refused") refused ++
    (count_line (codes "turns") turns ++ sum_line sum)))))

-- the text that tells what comes of these answers
abbrev pub trial_text : ℕ → List Answer → List ℕ
trial_text number answers =
    counts_text number
    (count_by (λ (a : Answer). is_recorded a.kind) answers)
    (count_by (λ (a : Answer). is_reused a.kind) answers)
    (count_by (λ (a : Answer). is_refused a.kind) answers)
    (sum_by (λ (a : Answer). turns_of a.end) answers)
    (sum_from 0 (flat_map (λ (a : Answer). numbers_printed a.output) answers))

-- the text of a trial of this number, over a session of its lines
pub record IsTrialText {M : Type 0} (admits : M → List ℤ → Bool) (runs : Runs M) (number : ℕ) (text : List ℕ) : Type 0 where
  pub answers : List Answer
  pub kept : Kept M
  pub session : AnswersAll admits runs begin (map Some (trial_lines number)) answers kept
  pub whole : text ≡ trial_text number answers
