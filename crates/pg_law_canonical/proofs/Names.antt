-- A name is read from its text.
use Rattle.std.proofs.Common.{◌≡◌, ℕ, zero, suc, ◌+◌, ◌-◌, ◌*◌, ◌/◌, ◌%◌, ◌<◌, List, [], ◌∷◌, ◌++◌, length, take_at, refl, sym, ap, subst}
use Rattle.std.proofs.Common.{◌∙◌, arith, Bool, true, false, not, ◌||◌, ◌&&◌, ◌==◌, eqb-true, ltb-true, ◌≢◌, if◌then◌else◌, nat_lt, nat_le}
use Rattle.std.specs.List.{list_all}
use Rattle.std.proofs.lemmas.Bool.{eqb-false}
use Rattle.pg_read_lex.specs.Bytes.{is_quote, begins}
use Rattle.pg_read_lex.specs.Names.{is_hexadecimal, hexadecimal_value, Escape, escape_of, unescaped_from, unescaped, name_of}
use Rattle.pg_read_ast.specs.Text.{hexadecimal, is_escaped, escaped_byte, quoted, is_bare, name_text}
use Rattle.pg_law_canonical.proofs.FirstTokens.{if_true, if_false, fore, aft, both, none_left, none_right, is_not, inside, quoted_length, bare_unquoted}

abbrev pub is_byte : ℕ → Bool
is_byte b = nat_lt b 256

-- ---- hexadecimal digits

abbrev all_below : (ℕ → Bool) → ℕ → Bool
all_below p zero = true
all_below p (suc n) = p n && all_below p n

holds_below : (p : ℕ → Bool) (n : ℕ) → all_below p n ≡ true → (d : ℕ) → d < n → p d ≡ true
holds_below p zero h d l = absurd (omega (arith, l))
holds_below p (suc n) h d l = by (d == n) refl (λ k. holds_below p n (aft (p n) (all_below p n) h) d k)
  where
    by : (c : Bool) → (d == n) ≡ c → (d < n → p d ≡ true) → p d ≡ true
    by true e k = let z : d ≡ n = eqb-true d n e in subst (λ m. p m ≡ true) (sym z) (fore (p n) (all_below p n) h)
    by false e k = let apart : d ≢ n = eqb-false d n e in k (omega (arith, l, apart))

abbrev is_digit_text : ℕ → Bool
is_digit_text d = is_hexadecimal (hexadecimal d) && (hexadecimal_value (hexadecimal d) == d && not (hexadecimal d == 92))

digit_text : (d : ℕ) → d < 16 → is_digit_text d ≡ true
digit_text d l = holds_below is_digit_text 16 refl d l

-- ---- escapes

escape_is : (b : ℕ) (rest : List ℕ) → b < 256 → escape_of 92 (hexadecimal (b / 16) ∷ hexadecimal (b % 16) ∷ rest) ≡ record { byte = b; size = 3 }
escape_is b rest l =
    let c = hexadecimal (b / 16) in
    let d = hexadecimal (b % 16) in
    let h : is_digit_text (b / 16) ≡ true = digit_text (b / 16) (omega (arith, l)) in
    let k : is_digit_text (b % 16) ≡ true = digit_text (b % 16) (omega (arith, l)) in
    let h1 = aft (is_hexadecimal c) (hexadecimal_value c == b / 16 && not (c == 92)) h in
    let k1 = aft (is_hexadecimal d) (hexadecimal_value d == b % 16 && not (d == 92)) k in
    let x : hexadecimal_value c ≡ b / 16 = eqb-true (hexadecimal_value c) (b / 16) (fore (hexadecimal_value c == b / 16) (not (c == 92)) h1) in
    let y : hexadecimal_value d ≡ b % 16 = eqb-true (hexadecimal_value d) (b % 16) (fore (hexadecimal_value d == b % 16) (not (d == 92)) k1) in
    if_false (c == 92) _ _ (is_not (c == 92) (aft (hexadecimal_value c == b / 16) (not (c == 92)) h1))
    ∙ if_true (is_hexadecimal c
    && is_hexadecimal d) _ _ (both (is_hexadecimal c) (is_hexadecimal d) (fore (is_hexadecimal c) (hexadecimal_value c == b / 16 && not (c == 92)) h)
    (fore (is_hexadecimal d) (hexadecimal_value d == b % 16 && not (d == 92)) k))
    ∙ ap (λ n. record { byte = n; size = 3 }) (sum x y)
  where
    sum : {m n : ℕ} → m ≡ b / 16 → n ≡ b % 16 → m * 16 + n ≡ b
    sum x y = omega (arith, x, y)

plain_escape : (b : ℕ) (rest : List ℕ) → (b == 92) ≡ false → escape_of b rest ≡ record { byte = b; size = 1 }
plain_escape b [] h = refl
plain_escape b (c ∷ []) h = rw h refl
plain_escape b (c ∷ d ∷ rest) h = rw h refl

reads_byte : (b : ℕ) (rest : List ℕ) → b < 256 → unescaped_from 0 (escaped_byte b ++ rest) ≡ b ∷ unescaped_from 0 rest
unfolding unescaped_from
reads_byte b rest l = by (is_escaped b) refl
  where
    by : (c : Bool) → is_escaped b ≡ c → unescaped_from 0 ((if c then 92 ∷ hexadecimal (b / 16) ∷ hexadecimal (b % 16) ∷ [] else b ∷ []) ++ rest) ≡ b ∷ unescaped_from 0 rest
    by true e = ap (λ (x : Escape). x.byte ∷ unescaped_from (x.size - 1) (hexadecimal (b / 16) ∷ hexadecimal (b % 16) ∷ rest)) (escape_is b rest l)
    by false e = ap (λ (x : Escape). x.byte ∷ unescaped_from (x.size - 1) rest)
        (plain_escape b rest (none_right (b == 34) (b == 92) (none_left (b == 34 || b == 92) (not (nat_le 32 b && nat_le b 126)) e)))

reads_bytes : (s : List ℕ) → list_all is_byte s ≡ true → unescaped_from 0 (inside s) ≡ s
unfolding unescaped_from
reads_bytes [] h = refl
reads_bytes (b ∷ s) h = let i : nat_lt b 256 ≡ true = fore (is_byte b) (list_all is_byte s) h in
    reads_byte b (inside s) (ltb-true b 256 i) ∙ ap (λ xs. b ∷ xs) (reads_bytes s (aft (is_byte b) (list_all is_byte s) h))

-- ---- names

pub quoted_name : (s : List ℕ) → list_all is_byte s ≡ true → name_of (quoted s) ≡ s
quoted_name s h = ap unescaped (take_at (inside s) (34 ∷ []) (length (quoted s) - 2) (omega (arith, quoted_length s))) ∙ reads_bytes s h

pub text_name : (s : List ℕ) → list_all is_byte s ≡ true → name_of (name_text s) ≡ s
unfolding name_text
text_name s h = by (is_bare s) refl
  where
    by : (c : Bool) → is_bare s ≡ c → name_of (if c then s else quoted s) ≡ s
    by true e = if_false (begins is_quote s) _ _ (bare_unquoted s e)
    by false e = quoted_name s h
