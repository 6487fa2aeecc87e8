-- The words of a line, read from its front.
use Rattle.std.proofs.Common.{◌≡◌, ℕ, ℤ, zero, suc, ◌+◌, ◌-◌, ◌<◌, ◌≤◌, true, false, cond, List, [], ◌∷◌, ◌++◌, length, drop, take, get_or, refl, sym}
use Rattle.std.proofs.Common.{ap, ◌∙◌, subst, arith, Option, Some, None, append_assoc, length-drop, take_all}
use Rattle.std.specs.Prelude.{◌==◌, slice_range}
use Rattle.std.specs.Option.{option_map}
use Rattle.std.proofs.Math.Seq.{drop-cons, take-suc}
use Rattle.pg_session.specs.Lines.{is_blank, number_before, number_of, numbers_of, words_behind, words_of}

-- numbers before others, where those are there
abbrev pub numbers_then : List ℤ → Option (List ℤ) → Option (List ℤ)
numbers_then numbers more = option_map (λ ns. numbers ++ ns) more

-- the numbers before the word that begins at `start` are these, and what is left from `at` on leads to the whole
pub record Told (line : List ℕ) (numbers : List ℤ) (start at : ℕ) : Type 0 where
  pub within : start ≤ at
  pub leads : numbers_then numbers (numbers_of (words_behind (slice_range line start at) (drop at line))) ≡ numbers_of (words_behind [] line)

none-first : (line : List ℕ) → numbers_then [] (numbers_of (words_behind [] line)) ≡ numbers_of (words_behind [] line)
none-first line = go (numbers_of (words_behind [] line))
  where
    go : (o : Option (List ℤ)) → option_map (λ (ns : List ℤ). [] ++ ns) o ≡ o
    go None = refl
    go (Some ns) = refl

pub told_first : (line : List ℕ) → Told line [] 0 0
told_first line = record { within = omega arith; leads = none-first line }

get-drop : (xs : List ℕ) (a k : ℕ) → get_or (drop a xs) k 0 ≡ get_or xs (a + k) 0
get-drop xs zero k = let z : 0 + k ≡ k = omega arith in rw z refl
get-drop [] (suc a) zero = refl
get-drop [] (suc a) (suc k) = refl
get-drop (x ∷ xs) (suc a) k = let z : suc a + k ≡ suc (a + k) = omega arith in rw z (get-drop xs a k)

-- a part of a list, and one thing more
pub range_more : (xs : List ℕ) (a b : ℕ) → a ≤ b → b < length xs → slice_range xs a (b + 1) ≡ slice_range xs a b ++ get_or xs b 0 ∷ []
range_more xs a b within below =
    let one : b + 1 - a ≡ suc (b - a) = omega (arith, within) in
    let inside : b - a < length (drop a xs) = omega (arith, length-drop a xs) in
    let at : a + (b - a) ≡ b = omega (arith, within) in
    ap (λ n. take n (drop a xs)) one ∙ take-suc (drop a xs) (b - a) 0 inside
    ∙ ap (λ x. take (b - a) (drop a xs) ++ x ∷ []) (get-drop xs a (b - a) ∙ ap (λ n. get_or xs n 0) at)

pub range_none : (xs : List ℕ) (a : ℕ) → slice_range xs a a ≡ []
range_none xs a = let z : a - a ≡ 0 = omega arith in ap (λ n. take n (drop a xs)) z

-- the words from here on, byte by byte
words-plain : (line begun : List ℕ) (at : ℕ) → at < length line → is_blank (get_or line at 0) ≡ false
    → words_behind begun (drop at line) ≡ words_behind (begun ++ get_or line at 0 ∷ []) (drop (at + 1) line)
words-plain line begun at below plain =
    let one : suc at ≡ at + 1 = omega arith in
    ap (words_behind begun) (drop-cons line at 0 below ∙ ap (λ n. get_or line at 0 ∷ drop n line) one)
    ∙ ap (λ b. cond b (begun ∷ words_behind [] (drop (at + 1) line)) (words_behind (begun ++ get_or line at 0 ∷ []) (drop (at + 1) line))) plain

words-blank : (line begun : List ℕ) (at : ℕ) → at < length line → is_blank (get_or line at 0) ≡ true
    → words_behind begun (drop at line) ≡ begun ∷ words_behind [] (drop (at + 1) line)
words-blank line begun at below blank =
    let one : suc at ≡ at + 1 = omega arith in
    ap (words_behind begun) (drop-cons line at 0 below ∙ ap (λ n. get_or line at 0 ∷ drop n line) one)
    ∙ ap (λ b. cond b (begun ∷ words_behind [] (drop (at + 1) line)) (words_behind (begun ++ get_or line at 0 ∷ []) (drop (at + 1) line))) blank

pub told_plain : (line : List ℕ) (numbers : List ℤ) (start at : ℕ) → at < length line → is_blank (get_or line at 0) ≡ false
    → Told line numbers start at → Told line numbers start (at + 1)
told_plain line numbers start at below plain t = record {
  within = omega (arith, t.within);
  leads = ap (λ ws. numbers_then numbers (numbers_of ws))
      (ap (λ w. words_behind w (drop (at + 1) line)) (range_more line start at t.within below) ∙ sym (words-plain line (slice_range line start at) at below plain)) ∙ t.leads;
}

pushed : (numbers : List ℤ) (n : ℤ) (more : Option (List ℤ)) → numbers_then (numbers ++ n ∷ []) more ≡ numbers_then numbers (number_before (Some n) more)
pushed numbers n None = refl
pushed numbers n (Some ns) = ap Some (append_assoc numbers (n ∷ []) ns)

pub told_blank : (line : List ℕ) (numbers : List ℤ) (start at : ℕ) (n : ℤ) → at < length line → is_blank (get_or line at 0) ≡ true
    → number_of (slice_range line start at) ≡ Some n → Told line numbers start at → Told line (numbers ++ n ∷ []) (at + 1) (at + 1)
told_blank line numbers start at n below blank is t = record {
  within = omega arith;
  leads = ap (λ w. numbers_then (numbers ++ n ∷ []) (numbers_of (words_behind w (drop (at + 1) line)))) (range_none line (at + 1))
      ∙ pushed numbers n (numbers_of (words_behind [] (drop (at + 1) line)))
      ∙ ap (λ o. numbers_then numbers (number_before o (numbers_of (words_behind [] (drop (at + 1) line))))) (sym is)
      ∙ ap (λ ws. numbers_then numbers (numbers_of ws)) (sym (words-blank line (slice_range line start at) at below blank)) ∙ t.leads;
}

-- the last word
last-word : (line : List ℕ) (start : ℕ) → start ≤ length line → words_behind (slice_range line start (length line)) (drop (length line) line) ≡ drop start line ∷ []
last-word line start within =
    let all : slice_range line start (length line) ≡ drop start line = take_all (length line - start) (drop start line) (omega (arith, length-drop start line)) in
    ap (λ w. words_behind w (drop (length line) line)) all ∙ ap (words_behind (drop start line)) (nothing line)
  where
    nothing : (xs : List ℕ) → drop (length xs) xs ≡ []
    nothing [] = refl
    nothing (x ∷ xs) = nothing xs

pub told_last : (line : List ℕ) (numbers : List ℤ) (start at : ℕ) (n : ℤ) → length line ≤ at → at ≤ length line
    → number_of (drop start line) ≡ Some n → Told line numbers start at → numbers_of (words_behind [] line) ≡ Some (numbers ++ n ∷ [])
told_last line numbers start at n above below is t =
    let e : at ≡ length line = omega (arith, above, below) in
    let u : Told line numbers start (length line) = subst (Told line numbers start) e t in
    sym u.leads ∙ ap (λ ws. numbers_then numbers (numbers_of ws)) (last-word line start u.within)
    ∙ ap (λ o. numbers_then numbers (number_before o (Some []))) is

-- a line that has a byte
pub words_some : (line : List ℕ) → (length line == 0) ≡ false → words_behind [] line ≡ words_of line
words_some [] h = absurd cc
words_some (x ∷ xs) h = refl

-- what stands from here to the end is all that is left
pub to_end : (line : List ℕ) (start : ℕ) → slice_range line start (length line) ≡ drop start line
to_end line start = take_all (length line - start) (drop start line) (omega (arith, length-drop start line))
