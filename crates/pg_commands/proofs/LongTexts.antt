-- Texts that are too long.
use Rattle.std.proofs.Common.{◌≡◌, ◌<◌, ◌+◌, ℕ, List, [], ◌∷◌, length, Option, Some, None, IfSome, refl, ◌∙◌, arith}
use Rattle.std.specs.Prelude.{zero, suc}
use Rattle.pg_num.specs.declared.limits.TheConstants.{PROGRAM_TEXT_LIMIT}
use Rattle.pg_commands.specs.declared.refusals.TextRefusal.TheVariants.{TooLong}
use Rattle.pg_commands.specs.Refusals.{refusal_line}
use Rattle.pg_commands.specs.Texts.{IsRefusalLine}

-- a text that is too long, by the line that is written before its bytes are known
too_long_line : (text : List ℕ) → refusal_line [] TooLong ≡ refusal_line text TooLong
unfolding refusal_line
too_long_line [] = refl
too_long_line (b ∷ bs) = refl

pub too_long_is_refused : (text written : List ℕ) → PROGRAM_TEXT_LIMIT < length text → written ≡ refusal_line [] TooLong → IsRefusalLine text written
too_long_is_refused text written long e = record { refusal = TooLong; cause = long; whole = e ∙ too_long_line text }

-- so many blanks
blanks : ℕ → List ℕ
blanks zero = []
blanks (suc n) = 32 ∷ blanks n

so_many : (n : ℕ) → length (blanks n) ≡ n
unfolding blanks
so_many zero = refl
so_many (suc n) = rw (so_many n) refl

some_long : (n : ℕ) → (text : List ℕ) × (n < length text)
some_long n = (blanks (n + 1), (let h = so_many (n + 1) in omega (arith, h)))

-- bytes that are told or not, and are more than a limit: some that are as told, if they are told, and of which this holds
pub long_bytes : (told : Option (List ℕ)) (limit : ℕ) (Says : List ℕ → Type 0) → IfSome told (λ t. limit < length t) → ((bytes : List ℕ) → limit < length bytes → Says bytes)
    → (bytes : List ℕ) × IfSome told (λ t. bytes ≡ t) × Says bytes
long_bytes None limit Says long says = let t = some_long limit in (t.0, tt, says t.0 t.1)
long_bytes (Some t) limit Says long says = (t, refl, says t long)

-- a text that is too long is refused
pub long_text : (told : Option (List ℕ)) (line : List ℕ) → IfSome told (λ t. PROGRAM_TEXT_LIMIT < length t)
    → ((text : List ℕ) → PROGRAM_TEXT_LIMIT < length text → IsRefusalLine text line)
    → (text : List ℕ) × IfSome told (λ t. text ≡ t) × IsRefusalLine text line
long_text told line = long_bytes told PROGRAM_TEXT_LIMIT (λ text. IsRefusalLine text line)
