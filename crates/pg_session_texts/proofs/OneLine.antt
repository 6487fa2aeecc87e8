-- What is written of a value without blanks has no line feed.
use Rattle.std.proofs.Common.{◌≡◌, ◌+◌, ◌<◌, ◌/◌, ◌%◌, ◌==◌, ◌||◌, ◌⊎◌, inl, inr, ℕ, zero, suc, ℤ, pos, negsuc, List, [], ◌∷◌, ◌++◌, Bool, true, false, cond, refl, sym, subst, arith, decimal}
use Rattle.std.specs.Fmt.{digit_glyph, digits, digits_onto, signed_decimal}
use Rattle.std.specs.Char.{digit_char}
use Rattle.std.specs.Prelude.{nat_lt, if◌then◌else◌}
use Rattle.std.proofs.lemmas.Bool.{eqb-true, or_cases, or_from, or_parts, true≢false}
use Rattle.json.specs.Print.{escape, escape_byte, escape_letter, quoted}
use Rattle.serde_json.specs.Data.{Num, unsigned, negative, float, Data, null, boolean, number, string, array, object, Items, no_items, item, Members, no_members, member}
use Rattle.serde_json.specs.Written.{number_text, comma_if, compact_text, items_text, members_text}
use Rattle.pg_session_texts.specs.JsonReplies.{has_line_feed}

joined : (xs ys : List ℕ) → has_line_feed xs ≡ false → has_line_feed ys ≡ false → has_line_feed (xs ++ ys) ≡ false
joined [] ys h k = k
joined (x ∷ xs) ys h k =
    let p = or_parts (x == 10) (has_line_feed xs) h in
    or_from (x == 10) (has_line_feed (xs ++ ys)) p.0 (joined xs ys p.1 k)

either : (b : Bool) (xs ys : List ℕ) → (b ≡ true → has_line_feed xs ≡ false) → (b ≡ false → has_line_feed ys ≡ false) → has_line_feed (cond b xs ys) ≡ false
either true xs ys f g = f refl
either false xs ys f g = g refl

-- ---- numbers

above_by : (m : ℕ) (b : Bool) → 10 < m → (m == 10) ≡ b → (m == 10) ≡ false
above_by m false l e = e
above_by m true l e = let is = eqb-true m 10 e in absurd (omega (arith, is, l))

far : (n k : ℕ) → 10 < k → (k + n == 10) ≡ false
far n k h = above_by (k + n) (k + n == 10) (omega (arith, h)) refl

glyph : (b : Bool) (d : ℕ) → ((if b then 48 + d else 87 + d) == 10) ≡ false
glyph true d = far d 48 (omega arith)
glyph false d = far d 87 (omega arith)

onto : (k n : ℕ) (acc : List ℕ) → has_line_feed acc ≡ false → has_line_feed (digits_onto k 10 false n acc) ≡ false
onto zero n acc h = h
onto (suc k) n acc h =
    let d = digit_glyph false (n % 10) in
    let more : has_line_feed (d ∷ acc) ≡ false = or_from (d == 10) (has_line_feed acc) (glyph (nat_lt (n % 10) 10) (n % 10)) h in
    either (n / 10 == 0) (d ∷ acc) (digits_onto k 10 false (n / 10) (d ∷ acc)) (λ e. more) (λ e. onto k (n / 10) (d ∷ acc) more)

of_decimal : (n : ℕ) → has_line_feed (decimal n) ≡ false
unfolding digits
of_decimal n = onto 64 n [] refl

of_signed : (z : ℤ) → has_line_feed (signed_decimal z) ≡ false
of_signed (pos n) = of_decimal n
of_signed (negsuc n) = of_decimal (suc n)

of_number : (n : Num) → has_line_feed (number_text n) ≡ false
of_number (unsigned n) = of_decimal n
of_number (negative z) = of_signed z
of_number (float x) = refl

-- ---- strings

either_byte : (b : Bool) (x y : ℕ) → (b ≡ true → (x == 10) ≡ false) → (b ≡ false → (y == 10) ≡ false) → (cond b x y == 10) ≡ false
either_byte true x y f g = f refl
either_byte false x y f g = g refl

same : (x y : ℕ) → (x == y) ≡ true → (y == 10) ≡ false → (x == 10) ≡ false
same x y e h = subst (λ z. (z == 10) ≡ false) (sym (eqb-true x y e)) h

itself_by : (x : ℕ) → ((x == 34) ≡ true) ⊎ ((x == 92) ≡ true) → (x == 10) ≡ false
itself_by x (inl h) = same x 34 h refl
itself_by x (inr h) = same x 92 h refl

abbrev of_tab : ℕ → ℕ
of_tab x = cond (x == 9) 116 0

abbrev of_return : ℕ → ℕ
of_return x = cond (x == 13) 114 (of_tab x)

abbrev of_line_feed : ℕ → ℕ
of_line_feed x = cond (x == 10) 110 (of_return x)

abbrev of_form_feed : ℕ → ℕ
of_form_feed x = cond (x == 12) 102 (of_line_feed x)

abbrev of_backspace : ℕ → ℕ
of_backspace x = cond (x == 8) 98 (of_form_feed x)

letter : (x : ℕ) → (escape_letter x == 10) ≡ false
letter x =
    let tab = either_byte (x == 9) 116 0 (λ e. refl) (λ e. refl) in
    let back = either_byte (x == 13) 114 (of_tab x) (λ e. refl) (λ e. tab) in
    let line_feed = either_byte (x == 10) 110 (of_return x) (λ e. refl) (λ e. back) in
    let form_feed = either_byte (x == 12) 102 (of_line_feed x) (λ e. refl) (λ e. line_feed) in
    let backspace = either_byte (x == 8) 98 (of_form_feed x) (λ e. refl) (λ e. form_feed) in
    either_byte ((x == 34) || (x == 92)) x (of_backspace x) (λ e. itself_by x (or_cases (x == 34) (x == 92) e)) (λ e. backspace)

hex_digit : (d : ℕ) → (digit_char d == 10) ≡ false
hex_digit d = either_byte (nat_lt d 10) (48 + d) (87 + d) (λ e. far d 48 (omega arith)) (λ e. far d 87 (omega arith))

not_control_by : (x : ℕ) (b : Bool) → nat_lt x 32 ≡ false → (x == 10) ≡ b → (x == 10) ≡ false
not_control_by x false h e = e
not_control_by x true h e = absurd (true≢false (subst (λ y. nat_lt y 32 ≡ false) (eqb-true x 10 e) h))

not_control : (x : ℕ) → nat_lt x 32 ≡ false → (x == 10) ≡ false
not_control x h = not_control_by x (x == 10) h refl

abbrev of_control : ℕ → List ℕ
of_control x = cond (nat_lt x 32) (92 ∷ 117 ∷ 48 ∷ 48 ∷ digit_char (x / 16) ∷ digit_char (x % 16) ∷ []) (x ∷ [])

control : (x : ℕ) → has_line_feed (of_control x) ≡ false
control x =
    either (nat_lt x 32) (92 ∷ 117 ∷ 48 ∷ 48 ∷ digit_char (x / 16) ∷ digit_char (x % 16) ∷ []) (x ∷ [])
    (λ h. or_from (digit_char (x / 16) == 10) ((digit_char (x % 16) == 10) || false) (hex_digit (x / 16)) (or_from (digit_char (x % 16) == 10) false (hex_digit (x % 16)) refl))
    (λ h. or_from (x == 10) false (not_control x h) refl)

of_byte : (x : ℕ) → has_line_feed (escape_byte x) ≡ false
unfolding escape_byte
of_byte x = either (nat_lt 0 (escape_letter x)) (92 ∷ escape_letter x ∷ []) (of_control x) (λ e. or_from (escape_letter x == 10) false (letter x) refl) (λ e. control x)

of_escape : (s : List ℕ) → has_line_feed (escape s) ≡ false
of_escape [] = refl
of_escape (x ∷ s) = joined (escape_byte x) (escape s) (of_byte x) (of_escape s)

of_quoted : (s : List ℕ) → has_line_feed (quoted s) ≡ false
of_quoted s = joined (escape s) (34 ∷ []) (of_escape s) refl

-- ---- values

of_comma : (later : Bool) → has_line_feed (comma_if later) ≡ false
of_comma true = refl
of_comma false = refl

mutual
  pub of_value : (d : Data) → has_line_feed (compact_text d) ≡ false
  of_value null = refl
  of_value (boolean true) = refl
  of_value (boolean false) = refl
  of_value (number n) = of_number n
  of_value (string s) = of_quoted s
  of_value (array ds) = of_items false ds
  of_value (object ms) = of_members false ms

  of_items : (later : Bool) (ds : Items) → has_line_feed (items_text later ds) ≡ false
  of_items later no_items = refl
  of_items later (item d ds) = joined (comma_if later) _ (of_comma later) (joined (compact_text d) _ (of_value d) (of_items true ds))

  of_members : (later : Bool) (ms : Members) → has_line_feed (members_text later ms) ≡ false
  of_members later no_members = refl
  of_members later (member k d ms) =
      joined (comma_if later) _ (of_comma later) (joined (quoted k) _ (of_quoted k) (joined (compact_text d) _ (of_value d) (of_members true ms)))
