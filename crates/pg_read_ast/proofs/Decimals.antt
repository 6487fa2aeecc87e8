-- Decimal digits without leading zeros: the digits of a number, of one more, and which of two is less.
use Rattle.std.proofs.Common.{◌≡◌, ℕ, zero, suc, ◌+◌, ◌-◌, ◌*◌, ◌/◌, ◌%◌, ◌<◌, ◌≤◌, List, [], ◌∷◌, ◌++◌, length, map, take, drop, get_or}
use Rattle.std.proofs.Common.{replicate, max, refl, sym, ap, subst, ◌∙◌, arith, append_assoc, append-nil, length-drop, length-append, Bool, true, false, ◌&&◌, ◌||◌, ◌==◌}
use Rattle.std.proofs.Common.{nat_lt, codes, if◌then◌else◌}
use Rattle.std.specs.List.{list_all}
use Rattle.std.proofs.lemmas.List.{map-append, take_more, take_all}
use Rattle.std.proofs.lemmas.List.Folds.{list_all-append}
use Rattle.std.proofs.Math.Seq.{drop-cons}
use Rattle.std.proofs.Math.Numerals.{add-one}
use Rattle.std.proofs.lemmas.Bool.Decides.{nat_tests}
use Rattle.std.specs.Int.Digits.{digits_of, number_from_digits_after, AllBelowBase}
use Rattle.std.proofs.lemmas.Int.Digits.{digits_of_step, number_digits_of, all_below_base_digits_of}
use Rattle.pg_read_lex.specs.pg_num.Decimal.{is_digit, digits_after, natural_of}
use Rattle.pg_read_ast.specs.Numbers.{digits_text, decimal_text}
use Rattle.pg_read_ast.specs.Digits.{IsPlain, padded}
use Rattle.pg_read_lex.specs.Bytes.{is_name_byte}
use Rattle.pg_read_ast.specs.Text.{name_text, is_bare, quoted}

-- one more digit at the end
pub text_step : (n d : ℕ) → d < 10 → 0 < n * 10 + d → digits_text (n * 10 + d) ≡ digits_text n ++ (48 + d) ∷ []
unfolding digits_text
text_step n d h p =
    let q : (n * 10 + d) / 10 ≡ n = omega arith in
    let r : (n * 10 + d) % 10 ≡ d = omega arith in
    ap (map (λ d. 48 + d)) (digits_of_step 10 (n * 10 + d) (omega arith) p ∙ ap (λ m. digits_of 10 m ++ ((n * 10 + d) % 10) ∷ []) q ∙ ap (λ m. digits_of 10 n ++ m ∷ []) r)
    ∙ map-append (λ d. 48 + d) (digits_of 10 n) (d ∷ [])

pub text_zero : digits_text 0 ≡ []
unfolding digits_text
text_zero = refl

after_text : (n : ℕ) (ds : List ℕ) → digits_after n (map (λ d. 48 + d) ds) ≡ number_from_digits_after 10 n ds
after_text n [] = refl
after_text n (d ∷ ds) =
    let e : n * 10 + (48 + d - 48) ≡ n * 10 + d = omega arith in
    ap (λ m. digits_after m (map (λ d. 48 + d) ds)) e ∙ after_text (n * 10 + d) ds

pub natural_text : (n : ℕ) → natural_of (digits_text n) ≡ n
unfolding digits_text
natural_text n = after_text 0 (digits_of 10 n) ∙ number_digits_of 10 n (omega arith)

pub plain_text : (n : ℕ) → IsPlain (digits_text n)
plain_text n = record { same = sym (ap digits_text (natural_text n)) }

pub plain_none : IsPlain []
plain_none = record { same = sym text_zero }

some_text : (n : ℕ) → 0 < n → decimal_text n ≡ digits_text n
unfolding decimal_text
some_text n h = let e : (n == 0) ≡ false = grind (arith, nat_tests) in ap (λ t. if t then codes "0" else digits_text n) e

zero_text : decimal_text 0 ≡ codes "0"
unfolding decimal_text
zero_text = refl

pub decimal_of : (ds : List ℕ) → IsPlain ds → decimal_text (natural_of ds) ≡ (if length ds == 0 then codes "0" else ds)
decimal_of [] p = zero_text
decimal_of (c ∷ cs) p = let e : (length (c ∷ cs) == 0) ≡ false = grind (arith, nat_tests) in choose (natural_of (c ∷ cs)) refl ∙ ap (λ t. if t then codes "0" else c ∷ cs) (sym e)
  where
    choose : (n : ℕ) → natural_of (c ∷ cs) ≡ n → decimal_text (natural_of (c ∷ cs)) ≡ c ∷ cs
    choose zero e = absurd (omega (arith, ap length (p.same ∙ ap digits_text e ∙ text_zero)))
    choose (suc n) e = some_text (natural_of (c ∷ cs)) (omega (arith, e)) ∙ sym p.same

-- the number of digits with one more behind them
pub natural_more : (n c : ℕ) (ds : List ℕ) → digits_after n (ds ++ c ∷ []) ≡ digits_after n ds * 10 + (c - 48)
natural_more n c [] = refl
natural_more n c (d ∷ ds) = natural_more (n * 10 + (d - 48)) c ds

-- ---- digits

digit_of : (d : ℕ) → d < 10 → is_digit (48 + d) ≡ true
digit_of d h = grind (arith, nat_tests)

pub digit_bounds : (c : ℕ) → is_digit c ≡ true → (48 ≤ c) × (c ≤ 57)
digit_bounds c h = grind (arith, nat_tests)

both : (a b : Bool) → a ≡ true → b ≡ true → (a && b) ≡ true
both true true e f = refl
both true false e f = f
both false b e f = e

pub left : (a b : Bool) → (a && b) ≡ true → a ≡ true
left true b e = refl
left false b e = e

pub right : (a b : Bool) → (a && b) ≡ true → b ≡ true
right true b e = e
right false b e = absurd cc

below_digits : (ds : List ℕ) → AllBelowBase 10 ds → list_all is_digit (map (λ d. 48 + d) ds) ≡ true
below_digits [] h = refl
below_digits (d ∷ ds) h = both (is_digit (48 + d)) (list_all is_digit (map (λ d. 48 + d) ds)) (digit_of d h.0) (below_digits ds h.1)

pub digits_plain : (n : ℕ) → list_all is_digit (digits_text n) ≡ true
unfolding digits_text
digits_plain n = below_digits (digits_of 10 n) (all_below_base_digits_of 10 n (omega arith))

pub plain_digits : (ds : List ℕ) → IsPlain ds → list_all is_digit ds ≡ true
plain_digits ds p = ap (list_all is_digit) p.same ∙ digits_plain (natural_of ds)

snoc_front : (xs ys : List ℕ) (a b : ℕ) → xs ++ a ∷ [] ≡ ys ++ b ∷ [] → xs ≡ ys
snoc_front [] [] a b e = refl
snoc_front [] (y ∷ []) a b e = absurd cc
snoc_front [] (y ∷ z ∷ ys) a b e = absurd cc
snoc_front (x ∷ []) [] a b e = absurd cc
snoc_front (x ∷ z ∷ xs) [] a b e = absurd cc
snoc_front (x ∷ xs) (y ∷ ys) a b e =
    let h : x ≡ y = cc in
    let t : xs ++ a ∷ [] ≡ ys ++ b ∷ [] = cc in
    let r : xs ≡ ys = snoc_front xs ys a b t in cc

-- what all but the last digit are, and the last
pub record Parts (ds : List ℕ) (c : ℕ) : Type 0 where
  pub plain : IsPlain ds
  pub low : 48 ≤ c
  pub high : c ≤ 57
  pub number : natural_of (ds ++ c ∷ []) ≡ natural_of ds * 10 + (c - 48)
  pub some : 0 < natural_of ds * 10 + (c - 48)

pub parts_of : (ds : List ℕ) (c : ℕ) → IsPlain (ds ++ c ∷ []) → Parts ds c
parts_of ds c p =
    let n : natural_of (ds ++ c ∷ []) ≡ natural_of ds * 10 + (c - 48) = natural_more 0 c ds in
    let all : list_all is_digit (ds ++ c ∷ []) ≡ true = ap (list_all is_digit) p.same ∙ digits_plain (natural_of (ds ++ c ∷ [])) in
    let last : (is_digit c && true) ≡ true = right (list_all is_digit ds) (is_digit c && true) (sym (list_all-append is_digit ds (c ∷ [])) ∙ all) in
    let b : (48 ≤ c) × (c ≤ 57) = digit_bounds c (left (is_digit c) true last) in
    let whole : ds ++ c ∷ [] ≡ digits_text (natural_of ds * 10 + (c - 48)) = p.same ∙ ap digits_text n in
    choose n b whole (natural_of ds * 10 + (c - 48)) refl
  where
    choose : natural_of (ds ++ c ∷ []) ≡ natural_of ds * 10 + (c - 48) → (48 ≤ c) × (c ≤ 57) → ds ++ c ∷ [] ≡ digits_text (natural_of ds * 10 + (c - 48)) → (m : ℕ)
        → natural_of ds * 10 + (c - 48) ≡ m → Parts ds c
    choose n b whole zero e = absurd (none ds (whole ∙ ap digits_text e ∙ text_zero))
      where
        none : (xs : List ℕ) → xs ++ c ∷ [] ≡ [] → ⊥
        none [] h = cc
        none (x ∷ xs) h = cc
    choose n b whole (suc m) e =
        let low : 48 ≤ c = b.0 in
        let high : c ≤ 57 = b.1 in
        let s : 0 < natural_of ds * 10 + (c - 48) = omega arith in
        record {
          plain = record { same = snoc_front ds (digits_text (natural_of ds)) c (48 + (c - 48)) (whole ∙ text_step (natural_of ds) (c - 48) (omega arith) s) };
          low = b.0;
          high = b.1;
          number = n;
          some = s;
        }

-- ---- one more

last_of : (ds : List ℕ) (end : ℕ) → 0 < end → end ≤ length ds → take end ds ≡ take (end - 1) ds ++ get_or ds (end - 1) 0 ∷ []
last_of ds end p h =
    let e : end ≡ end - 1 + 1 = omega arith in
    ap (λ n. take n ds) e ∙ take_more ds (end - 1) 0 (omega arith)

pub record Nines (ds : List ℕ) (end : ℕ) : Type 0 where
  pub within : end ≤ length ds
  pub plain : IsPlain (take end ds)
  pub number : digits_text (natural_of ds + 1) ≡ digits_text (natural_of (take end ds) + 1) ++ replicate (length ds - end) 48

pub nines_begin : (ds : List ℕ) → IsPlain ds → Nines ds (length ds)
nines_begin ds p =
    let e : take (length ds) ds ≡ ds = take_all (length ds) ds (omega arith) in
    let z : length ds - length ds ≡ 0 = omega arith in
    record {
      within = omega arith;
      plain = subst IsPlain (sym e) p;
      number = sym (ap (λ k. digits_text (natural_of (take (length ds) ds) + 1) ++ replicate k 48) z ∙ append-nil (digits_text (natural_of (take (length ds) ds) + 1))
          ∙ ap (λ xs. digits_text (natural_of xs + 1)) e);
    }

nine_parts : (ds : List ℕ) (end : ℕ) → 0 < end → Nines ds end → Parts (take (end - 1) ds) (get_or ds (end - 1) 0)
nine_parts ds end p h = parts_of (take (end - 1) ds) (get_or ds (end - 1) 0) (subst IsPlain (last_of ds end p h.within) h.plain)

pub nines_step : (ds : List ℕ) (end : ℕ) → 0 < end → get_or ds (end - 1) 0 ≡ 57 → Nines ds end → Nines ds (end - 1)
nines_step ds end p e h =
    let q : Parts (take (end - 1) ds) (get_or ds (end - 1) 0) = nine_parts ds end p h in
    let n : natural_of (take end ds) + 1 ≡ (natural_of (take (end - 1) ds) + 1) * 10 + 0 = omega (arith, ap natural_of (last_of ds end p h.within), q.number, e) in
    let t : digits_text (natural_of (take end ds) + 1) ≡ digits_text (natural_of (take (end - 1) ds) + 1) ++ 48 ∷ [] =
    ap digits_text n ∙ text_step (natural_of (take (end - 1) ds) + 1) 0 (omega arith) (omega arith) in
    let l : length ds - (end - 1) ≡ suc (length ds - end) = omega (arith, h.within) in
    record {
      within = omega (arith, h.within);
      plain = q.plain;
      number = h.number ∙ ap (λ xs. xs ++ replicate (length ds - end) 48) t ∙ append_assoc (digits_text (natural_of (take (end - 1) ds) + 1)) (48 ∷ []) (replicate (length ds - end) 48)
          ∙ ap (λ k. digits_text (natural_of (take (end - 1) ds) + 1) ++ replicate k 48) (sym l);
    }

pub nines_stop : (ds : List ℕ) (end : ℕ) → Nines ds end → 0 < end → (get_or ds (end - 1) 0 ≡ 57 → ⊥) → get_or ds (end - 1) 0 < 57
nines_stop ds end h p e = let q : Parts (take (end - 1) ds) (get_or ds (end - 1) 0) = nine_parts ds end p h in omega (arith, q.high, e)

pub raised_none : (ds : List ℕ) → length ds ≡ 0 → 49 ∷ [] ≡ digits_text (natural_of ds + 1)
raised_none [] h = sym (text_step 0 1 (omega arith) (omega arith) ∙ ap (λ xs. xs ++ 49 ∷ []) text_zero)
raised_none (d ∷ ds) h = absurd (omega (arith, h))

pub raised_some : (ds : List ℕ) → IsPlain ds → 0 < length ds → get_or ds (length ds - 1) 0 < 57
    → take (length ds - 1) ds ++ (get_or ds (length ds - 1) 0 + 1) ∷ [] ≡ digits_text (natural_of ds + 1)
raised_some ds p s h =
    let n : Nines ds (length ds) = nines_begin ds p in
    let q : Parts (take (length ds - 1) ds) (get_or ds (length ds - 1) 0) = nine_parts ds (length ds) s n in
    let whole : ds ≡ take (length ds - 1) ds ++ get_or ds (length ds - 1) 0 ∷ [] = sym (take_all (length ds) ds (omega arith)) ∙ last_of ds (length ds) s (omega arith) in
    let e : natural_of ds + 1 ≡ natural_of (take (length ds - 1) ds) * 10 + (get_or ds (length ds - 1) 0 - 48 + 1) = omega (arith, ap natural_of whole, q.number) in
    let f : 48 + (get_or ds (length ds - 1) 0 - 48 + 1) ≡ get_or ds (length ds - 1) 0 + 1 = omega (arith, q.low) in
    sym (ap digits_text e ∙ text_step (natural_of (take (length ds - 1) ds)) (get_or ds (length ds - 1) 0 - 48 + 1) (omega (arith, h, q.low)) (omega arith)
    ∙ ap (λ m. digits_text (natural_of (take (length ds - 1) ds)) ++ m ∷ []) f ∙ ap (λ xs. xs ++ (get_or ds (length ds - 1) 0 + 1) ∷ []) (sym q.plain.same))

pub zeros_more : (n : ℕ) → replicate {A = ℕ} (n + 1) 48 ≡ replicate n 48 ++ 48 ∷ []
zeros_more zero = refl
zeros_more (suc n) = let e : suc n + 1 ≡ suc (n + 1) = omega arith in ap (λ k. replicate k 48) e ∙ ap (λ xs. 48 ∷ xs) (zeros_more n)

-- ---- leading zeros

long_text : (n : ℕ) (ds : List ℕ) → 0 < n → list_all is_digit ds ≡ true → digits_text (digits_after n ds) ≡ digits_text n ++ ds
long_text n [] p h = sym (append-nil (digits_text n))
long_text n (c ∷ cs) p h =
    let b : (48 ≤ c) × (c ≤ 57) = digit_bounds c (left (is_digit c) (list_all is_digit cs) h) in
    let low : 48 ≤ c = b.0 in
    let high : c ≤ 57 = b.1 in
    let f : 48 + (c - 48) ≡ c = omega arith in
    long_text (n * 10 + (c - 48)) cs (omega arith) (right (is_digit c) (list_all is_digit cs) h)
    ∙ ap (λ xs. xs ++ cs) (text_step n (c - 48) (omega arith) (omega arith) ∙ ap (λ m. digits_text n ++ m ∷ []) f)
    ∙ append_assoc (digits_text n) (c ∷ []) cs

strip_done : (ds : List ℕ) → list_all is_digit ds ≡ true → (0 < length ds → get_or ds 0 0 ≡ 48 → ⊥) → IsPlain ds
strip_done [] h e = plain_none
strip_done (c ∷ cs) h e =
    let b : (48 ≤ c) × (c ≤ 57) = digit_bounds c (left (is_digit c) (list_all is_digit cs) h) in
    let low : 48 ≤ c = b.0 in
    let high : c ≤ 57 = b.1 in
    let other : c ≡ 48 → ⊥ = e (omega arith) in
    let some : 0 < c - 48 = omega arith in
    let f : 48 + (c - 48) ≡ c = omega arith in
    let g : 0 * 10 + (c - 48) ≡ c - 48 = omega arith in
    let one : digits_text (c - 48) ≡ c ∷ [] = ap digits_text (sym g) ∙ text_step 0 (c - 48) (omega arith) (omega arith) ∙ ap (λ xs. xs ++ (48 + (c - 48)) ∷ []) text_zero
    ∙ ap (λ m. m ∷ []) f in
    record { same = sym (ap (λ m. digits_text (digits_after m cs)) g ∙ long_text (c - 48) cs some (right (is_digit c) (list_all is_digit cs) h) ∙ ap (λ xs. xs ++ cs) one) }

pub record Stripped (ds : List ℕ) (at : ℕ) : Type 0 where
  pub within : at ≤ length ds
  pub digits : list_all is_digit (drop at ds) ≡ true
  pub number : natural_of (drop at ds) ≡ natural_of ds

pub stripped_begin : (ds : List ℕ) → list_all is_digit ds ≡ true → Stripped ds 0
stripped_begin ds h = record { within = omega arith; digits = h; number = refl }

behind : (ds : List ℕ) (at : ℕ) → at < length ds → drop at ds ≡ get_or ds at 0 ∷ drop (at + 1) ds
behind ds at h = drop-cons ds at 0 h ∙ ap (λ n. get_or ds at 0 ∷ drop n ds) (sym (add-one at))

pub stripped_step : (ds : List ℕ) (at : ℕ) → at < length ds → get_or ds at 0 ≡ 48 → Stripped ds at → Stripped ds (at + 1)
stripped_step ds at l e h =
    let b : drop at ds ≡ 48 ∷ drop (at + 1) ds = behind ds at l ∙ ap (λ c. c ∷ drop (at + 1) ds) e in
    record {
      within = omega arith;
      digits = right (is_digit 48) (list_all is_digit (drop (at + 1) ds)) (sym (ap (list_all is_digit) b) ∙ h.digits);
      number = sym (ap natural_of b) ∙ h.number;
    }

pub stripped_stop : (ds : List ℕ) (at : ℕ) → Stripped ds at → (at < length ds → get_or ds at 0 ≡ 48 → ⊥) → IsPlain (drop at ds)
stripped_stop ds at h e = choose (drop at ds) refl
  where
    choose : (xs : List ℕ) → drop at ds ≡ xs → IsPlain (drop at ds)
    choose [] k = subst IsPlain (sym k) plain_none
    choose (x ∷ xs) k =
        let l : at < length ds = omega (arith, length-drop at ds, ap length k) in
        let f : x ≡ get_or ds at 0 = cc (k, behind ds at l) in
        subst IsPlain (sym k) (strip_done (x ∷ xs) (sym (ap (list_all is_digit) k) ∙ h.digits) (λ s q. e l (sym f ∙ q)))

pub stripped_slice : (ds : List ℕ) (at : ℕ) → Stripped ds at → (at < length ds → get_or ds at 0 ≡ 48 → ⊥) → IsPlain (take (length ds - at) (drop at ds))
stripped_slice ds at h e = subst IsPlain (sym (take_all (length ds - at) (drop at ds) (omega (arith, length-drop at ds)))) (stripped_stop ds at h e)

-- ---- which is less

natural_zeros : (k : ℕ) (ds : List ℕ) → natural_of (replicate k 48 ++ ds) ≡ natural_of ds
natural_zeros zero ds = refl
natural_zeros (suc k) ds = natural_zeros k ds

length_zeros : (k : ℕ) → length (replicate {A = ℕ} k 48) ≡ k
length_zeros zero = refl
length_zeros (suc k) = let e = length_zeros k in omega (arith, e)

pub record Compared (left right : List ℕ) (width at : ℕ) (less same : Bool) : Type 0 where
  pub within : at ≤ width
  pub is_less : less ≡ nat_lt (natural_of (take at (padded width left))) (natural_of (take at (padded width right)))
  pub is_same : same ≡ (natural_of (take at (padded width left)) == natural_of (take at (padded width right)))

pub compared_begin : (xs ys : List ℕ) (width : ℕ) → Compared xs ys width 0 false true
compared_begin xs ys width = record { within = omega arith; is_less = refl; is_same = refl }

less_step : (a b x y : ℕ) → x < 10 → y < 10 → nat_lt (a * 10 + x) (b * 10 + y) ≡ (nat_lt a b || ((a == b) && nat_lt x y))
less_step a b x y h k = grind (arith, nat_tests)

same_step : (a b x y : ℕ) → x < 10 → y < 10 → (a * 10 + x == b * 10 + y) ≡ ((a == b) && (x == y))
same_step a b x y h k = grind (arith, nat_tests)

length_padded : (ds : List ℕ) (width : ℕ) → length ds ≤ width → length (padded width ds) ≡ width
length_padded ds width h = let a = length_zeros (width - length ds) in omega (arith, length-append (replicate {A = ℕ} (width - length ds) 48) ds, a)

natural_next : (ds : List ℕ) (width at c : ℕ) → at < width → length ds ≤ width → c ≡ get_or (padded width ds) at 0
    → natural_of (take (at + 1) (padded width ds)) ≡ natural_of (take at (padded width ds)) * 10 + (c - 48)
natural_next ds width at c h l e =
    let n = length_padded ds width l in
    ap natural_of (take_more (padded width ds) at 0 (omega (arith, n, h)))
    ∙ natural_more 0 (get_or (padded width ds) at 0) (take at (padded width ds))
    ∙ ap (λ x. natural_of (take at (padded width ds)) * 10 + (x - 48)) (sym e)

digit_less : (x y : ℕ) → 48 ≤ x → 48 ≤ y → nat_lt (x - 48) (y - 48) ≡ nat_lt x y
digit_less x y h k = grind (arith, nat_tests)

digit_same : (x y : ℕ) → 48 ≤ x → 48 ≤ y → (x - 48 == y - 48) ≡ (x == y)
digit_same x y h k = grind (arith, nat_tests)

pub compared_step : (xs ys : List ℕ) (width at : ℕ) (less same : Bool) (x y : ℕ) → at < width → length xs ≤ width → length ys ≤ width
    → x ≡ get_or (padded width xs) at 0 → y ≡ get_or (padded width ys) at 0 → is_digit x ≡ true → is_digit y ≡ true
    → Compared xs ys width at less same → Compared xs ys width (at + 1) (less || (same && nat_lt x y)) (same && (x == y))
compared_step xs ys width at less same x y h l m e f d g c =
    let a = natural_of (take at (padded width xs)) in
    let b = natural_of (take at (padded width ys)) in
    let p : natural_of (take (at + 1) (padded width xs)) ≡ natural_of (take at (padded width xs)) * 10 + (x - 48) = natural_next xs width at x h l e in
    let q : natural_of (take (at + 1) (padded width ys)) ≡ natural_of (take at (padded width ys)) * 10 + (y - 48) = natural_next ys width at y h m f in
    let xb : (48 ≤ x) × (x ≤ 57) = digit_bounds x d in
    let yb : (48 ≤ y) × (y ≤ 57) = digit_bounds y g in
    record {
      within = omega arith;
      is_less = sym (ap (λ n. nat_lt n (natural_of (take (at + 1) (padded width ys)))) p ∙ ap (λ n. nat_lt (natural_of (take at (padded width xs)) * 10 + (x - 48)) n) q
          ∙ less_step (natural_of (take at (padded width xs))) (natural_of (take at (padded width ys))) (x - 48) (y - 48) (omega (arith, xb.0, xb.1)) (omega (arith, yb.0, yb.1))
          ∙ ap (λ t. nat_lt (natural_of (take at (padded width xs))) (natural_of (take at (padded width ys)))
          || ((natural_of (take at (padded width xs)) == natural_of (take at (padded width ys))) && t)) (digit_less x y xb.0 yb.0)
          ∙ ap (λ t. t || ((natural_of (take at (padded width xs)) == natural_of (take at (padded width ys))) && nat_lt x y)) (sym c.is_less)
          ∙ ap (λ t. less || (t && nat_lt x y)) (sym c.is_same));
      is_same = sym (ap (λ n. n == natural_of (take (at + 1) (padded width ys))) p ∙ ap (λ n. natural_of (take at (padded width xs)) * 10 + (x - 48) == n) q
          ∙ same_step (natural_of (take at (padded width xs))) (natural_of (take at (padded width ys))) (x - 48) (y - 48) (omega (arith, xb.0, xb.1)) (omega (arith, yb.0, yb.1))
          ∙ ap (λ t. (natural_of (take at (padded width xs)) == natural_of (take at (padded width ys))) && t) (digit_same x y xb.0 yb.0)
          ∙ ap (λ t. t && (x == y)) (sym c.is_same));
    }

pub compared_end : (xs ys : List ℕ) (width at : ℕ) (less same : Bool) → width ≤ at → length xs ≤ width → length ys ≤ width → Compared xs ys width at less same
    → less ≡ nat_lt (natural_of xs) (natural_of ys)
compared_end xs ys width at less same h l m c =
    let a = length_padded xs width l in
    let b = length_padded ys width m in
    c.is_less
    ∙ ap (λ n. nat_lt n (natural_of (take at (padded width ys)))) (ap natural_of (take_all at (padded width xs) (omega (arith, a, h))) ∙ natural_zeros (width - length xs) xs)
    ∙ ap (λ n. nat_lt (natural_of xs) n) (ap natural_of (take_all at (padded width ys) (omega (arith, b, h))) ∙ natural_zeros (width - length ys) ys)

pub greater_old : (ds : List ℕ) (n v : ℕ) → IsPlain ds → natural_of ds ≡ n → nat_lt v n ≡ true → ds ≡ digits_text (max (natural_of ds) (v + 1))
greater_old ds n v p e h = let l : v < n = grind (arith, nat_tests) in let m : max (natural_of ds) (v + 1) ≡ natural_of ds = omega (arith, l, e) in p.same ∙ ap digits_text (sym m)

pub greater_new : (n v w : ℕ) → v ≡ w → nat_lt w n ≡ false → digits_text (v + 1) ≡ digits_text (max n (w + 1))
greater_new n v w e h = let l : n ≤ w = grind (arith, nat_tests) in let m : v + 1 ≡ max n (w + 1) = omega (arith, l, e) in ap digits_text m

pub compared_next : (xs ys : List ℕ) (width at : ℕ) (less same less' same' : Bool) (x y : ℕ) → at < width → length xs ≤ width → length ys ≤ width
    → x ≡ get_or (padded width xs) at 0 → y ≡ get_or (padded width ys) at 0 → is_digit x ≡ true → is_digit y ≡ true
    → less' ≡ (less || (same && nat_lt x y)) → same' ≡ (same && (x == y))
    → Compared xs ys width at less same → Compared xs ys width (at + 1) less' same'
compared_next xs ys width at less same less' same' x y h l m e f d g u v c =
    rw (u, v) (compared_step xs ys width at less same x y h l m e f d g c)

-- ---- names of digits

digit_name : (c : ℕ) → is_digit c ≡ true → is_name_byte c ≡ true
digit_name c h = let b = digit_bounds c h in grind (arith, nat_tests)

digits_names : (ds : List ℕ) → list_all is_digit ds ≡ true → list_all is_name_byte ds ≡ true
digits_names [] h = refl
digits_names (c ∷ cs) h = both (is_name_byte c) (list_all is_name_byte cs) (digit_name c (left (is_digit c) (list_all is_digit cs) h)) (digits_names cs (right (is_digit c) (list_all is_digit cs) h))

-- a number has no quotes
pub decimal_bare : (n : ℕ) → name_text (decimal_text n) ≡ decimal_text n
unfolding name_text
decimal_bare n = bare (decimal_text n) (digits n)
  where
    bare : (ds : List ℕ) → (0 < length ds) × (list_all is_digit ds ≡ true) → (if is_bare ds then ds else quoted ds) ≡ ds
    bare [] h = absurd (omega (arith, h.0))
    bare (c ∷ cs) h = ap (λ t. if t then c ∷ cs else quoted (c ∷ cs)) (digits_names (c ∷ cs) h.1)

    some : (n : ℕ) → 0 < n → 0 < length (digits_text n)
    some n h = choose (digits_text n) refl
      where
        choose : (xs : List ℕ) → digits_text n ≡ xs → 0 < length (digits_text n)
        choose [] e = absurd (omega (arith, h, sym (natural_text n) ∙ ap natural_of e))
        choose (x ∷ xs) e = omega (arith, ap length e)

    digits : (n : ℕ) → (0 < length (decimal_text n)) × (list_all is_digit (decimal_text n) ≡ true)
    digits zero = (omega (arith, ap length zero_text), ap (list_all is_digit) zero_text)
    digits (suc n) =
        let e : decimal_text (suc n) ≡ digits_text (suc n) = some_text (suc n) (omega arith) in
        let s : 0 < length (digits_text (suc n)) = some (suc n) (omega arith) in
        (omega (arith, ap length e, s), ap (list_all is_digit) e ∙ digits_plain (suc n))
