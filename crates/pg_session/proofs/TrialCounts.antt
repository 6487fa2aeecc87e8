-- The counts of a trial, line by line.
use Rattle.std.proofs.Common.{◌≡◌, ℕ, ℤ, zero, suc, ◌+◌, ◌*◌, ◌%◌, ◌^◌, ◌<◌, ◌≤◌, Bool, true, false, cond, List, [], ◌∷◌, ◌++◌, length, drop}
use Rattle.std.proofs.Common.{map, get_or, refl, sym, ap, ◌∙◌, subst, arith, Option, Some, append-nil, length-append, append_assoc}
use Rattle.std.specs.Prelude.{◌==◌, count_by, flat_map, slice_range, IfOk, Result, Ok, Err}
use Rattle.std.specs.List.{filter_map, sum_by}
use Rattle.std.proofs.Math.Seq.{drop-cons}
use Rattle.std.proofs.lemmas.Grind.{flat_map-append}
use Rattle.std.proofs.lemmas.List.{map-append}
use Rattle.std.proofs.lemmas.List.Sums.{sum_by-append}
use Rattle.std.proofs.lemmas.List.Elements.{filter_map-append}
use Rattle.pg_cache.specs.Kept.{Kept}
use Rattle.pg_num.specs.Numbers.{residue, sum_of}
use Rattle.pg_num.specs.declared.width.Width.TheVariants.{W64}
use Rattle.pg_num.specs.declared.limits.TheConstants.{NUMBERS_LIMIT}
use Rattle.pg_session_trial.specs.Lines.{lines_from, numbers_from, trial_line}
use Rattle.pg_session_trial.specs.declared.line.TheConstants.{TRIAL_LINES}
use Rattle.pg_session.specs.Lines.{ended_behind, number_of}
use Rattle.pg_session.specs.Sessions.{Answer, Answers, AnswersAll, AnswersLine, Runs, begin}
use Rattle.pg_session.specs.Trials.{IsTrialText, counts_text, is_recorded, is_refused, is_reused, numbers_printed, sum_from, turns_of}
use Rattle.pg_session.specs.Counts.{AreCounted, Counts, TrialCounted}
use Rattle.pg_session.specs.Progress.{Stands}
use Rattle.pg_session.proofs.KeptEntries.{grows_line, stands_begin, stands_line}
use Rattle.pg_session.proofs.LineNumbers.{range_more, range_none}
use Rattle.pg_session.proofs.SessionSteps.{counted_none, counted_then}

-- ---- the numbers that were printed

-- the sum of the lines before the one that begins at `start` is the total, and what is left from `at` on leads to the whole
pub record Summed (before : ℕ) (output : List ℕ) (total start at : ℕ) : Type 0 where
  pub within : start ≤ at
  pub leads : sum_from total (filter_map number_of (ended_behind (slice_range output start at) (drop at output))) ≡ sum_from before (numbers_printed output)

pub sum-append : (total : ℕ) (xs ys : List ℤ) → sum_from total (xs ++ ys) ≡ sum_from (sum_from total xs) ys
sum-append total [] ys = refl
sum-append total (x ∷ xs) ys = sum-append (sum_of W64 total (residue W64 x)) xs ys

one-first : (word : List ℕ) (words : List (List ℕ)) → filter_map number_of (word ∷ words) ≡ filter_map number_of (word ∷ []) ++ filter_map number_of words
one-first word words = filter_map-append number_of (word ∷ []) words

sum-first : (total : ℕ) (word : List ℕ) (words : List (List ℕ))
    → sum_from total (filter_map number_of (word ∷ words)) ≡ sum_from (sum_from total (filter_map number_of (word ∷ []))) (filter_map number_of words)
sum-first total word words = ap (sum_from total) (one-first word words) ∙ sum-append total (filter_map number_of (word ∷ [])) (filter_map number_of words)

lines-plain : (output begun : List ℕ) (at : ℕ) → at < length output → (get_or output at 0 == 10) ≡ false
    → ended_behind begun (drop at output) ≡ ended_behind (begun ++ get_or output at 0 ∷ []) (drop (at + 1) output)
lines-plain output begun at below plain =
    let one : suc at ≡ at + 1 = omega arith in
    ap (ended_behind begun) (drop-cons output at 0 below ∙ ap (λ n. get_or output at 0 ∷ drop n output) one)
    ∙ ap (λ b. cond b (begun ∷ ended_behind [] (drop (at + 1) output)) (ended_behind (begun ++ get_or output at 0 ∷ []) (drop (at + 1) output))) plain

lines-ended : (output begun : List ℕ) (at : ℕ) → at < length output → (get_or output at 0 == 10) ≡ true
    → ended_behind begun (drop at output) ≡ begun ∷ ended_behind [] (drop (at + 1) output)
lines-ended output begun at below ended =
    let one : suc at ≡ at + 1 = omega arith in
    ap (ended_behind begun) (drop-cons output at 0 below ∙ ap (λ n. get_or output at 0 ∷ drop n output) one)
    ∙ ap (λ b. cond b (begun ∷ ended_behind [] (drop (at + 1) output)) (ended_behind (begun ++ get_or output at 0 ∷ []) (drop (at + 1) output))) ended

is-ten : (n : ℕ) → n ≡ 10 → (n == 10) ≡ true
is-ten n e = rw e refl

not-ten : (n : ℕ) → (n ≡ 10 → ⊥) → (n == 10) ≡ false
not-ten n h = grind (arith, h)

pub summed_plain : (before : ℕ) (output : List ℕ) (total start at : ℕ) → at < length output → (get_or output at 0 ≡ 10 → ⊥)
    → Summed before output total start at → Summed before output total start (at + 1)
summed_plain before output total start at below plain s = record {
  within = omega (arith, s.within);
  leads = ap (λ ws. sum_from total (filter_map number_of ws))
      (ap (λ w. ended_behind w (drop (at + 1) output)) (range_more output start at s.within below)
      ∙ sym (lines-plain output (slice_range output start at) at below (not-ten (get_or output at 0) plain))) ∙ s.leads;
}

pub summed_line : (before : ℕ) (output : List ℕ) (total next start at : ℕ) → at < length output → get_or output at 0 ≡ 10
    → next ≡ sum_from total (filter_map number_of (slice_range output start at ∷ [])) → Summed before output total start at → Summed before output next (at + 1) (at + 1)
summed_line before output total next start at below ended is s =
    let rest = ended_behind [] (drop (at + 1) output) in
    record {
      within = omega arith;
      leads = ap (λ w. sum_from next (filter_map number_of (ended_behind w (drop (at + 1) output)))) (range_none output (at + 1))
          ∙ ap (λ t. sum_from t (filter_map number_of rest)) is
          ∙ sym (sum-first total (slice_range output start at) rest)
          ∙ ap (λ ws. sum_from total (filter_map number_of ws)) (sym (lines-ended output (slice_range output start at) at below (is-ten (get_or output at 0) ended))) ∙ s.leads;
    }

-- ---- the answers so far

push-answer : {M : Type 0} (admits : M → List ℤ → Bool) (runs : Runs M) (kept mid last : Kept M) (xs : List (Option (List ℤ))) (x : Option (List ℤ)) (cs : List Answer) (a : Answer)
    → AnswersAll admits runs kept xs cs mid → AnswersLine admits runs mid x a last → AnswersAll admits runs kept (xs ++ x ∷ []) (cs ++ a ∷ []) last
push-answer admits runs kept mid last [] x cs a h g =
    record { first = a; next = last; rest = []; all = ap (λ l. l ++ a ∷ []) h.0; is_first = subst (λ k. AnswersLine admits runs k x a last) h.1 g; are_rest = (refl, refl) }
push-answer admits runs kept mid last (y ∷ ys) x cs a h g = record {
  first = h.first;
  next = h.next;
  rest = h.rest ++ a ∷ [];
  all = ap (λ l. l ++ a ∷ []) h.all;
  is_first = h.is_first;
  are_rest = push-answer admits runs h.next mid last ys x h.rest a h.are_rest g;
}

lines-push : (n first count : ℕ) → lines_from n first (suc count) ≡ lines_from n first count ++ trial_line n (first + count) ∷ []
lines-push n first zero = let z : first + 0 ≡ first = omega arith in ap (λ i. trial_line n i ∷ []) (sym z)
lines-push n first (suc count) =
    let e : first + 1 + count ≡ first + suc count = omega arith in
    ap (λ l. trial_line n first ∷ l) (lines-push n (first + 1) count ∙ ap (λ i. lines_from n (first + 1) count ++ trial_line n i ∷ []) e)

inputs-push : (n i : ℕ) → map Some (lines_from n 0 (i + 1)) ≡ map Some (lines_from n 0 i) ++ Some (trial_line n i) ∷ []
inputs-push n i =
    let one : i + 1 ≡ suc i = omega arith in
    let none : 0 + i ≡ i = omega arith in
    ap (λ k. map Some (lines_from n 0 k)) one ∙ ap (map Some) (lines-push n 0 i ∙ ap (λ k. lines_from n 0 i ++ trial_line n k ∷ []) none)
    ∙ map-append Some (lines_from n 0 i) (trial_line n i ∷ [])

-- the answers to the first `i` lines of a trial, and the counts of them
pub record Tallied {M : Type 0} (admits : M → List ℤ → Bool) (runs : Runs M) (number i : ℕ) (kept : Kept M) (recorded reused refused turns sum : ℕ) (before now : Counts) : Type 0 where
  pub answers : List Answer
  pub session : AnswersAll admits runs begin (map Some (lines_from number 0 i)) answers kept
  pub lines : length answers ≡ i
  pub recorded_is : recorded ≡ count_by (λ (a : Answer). is_recorded a.kind) answers
  pub reused_is : reused ≡ count_by (λ (a : Answer). is_reused a.kind) answers
  pub refused_is : refused ≡ count_by (λ (a : Answer). is_refused a.kind) answers
  pub turns_is : turns ≡ sum_by (λ (a : Answer). turns_of a.end) answers
  pub sum_is : sum ≡ sum_from 0 (flat_map (λ (a : Answer). numbers_printed a.output) answers)
  pub few_turns : turns ≤ i * 2 ^ 32
  pub few_kept : kept.inserted ≤ i
  pub stands : Stands runs kept
  pub counted : AreCounted answers before now

-- a trial's lines have few numbers
length-numbers : (first count : ℕ) → length (numbers_from first count) ≡ count
length-numbers first zero = refl
length-numbers first (suc count) = ap suc (length-numbers (first + 1) count)

rest-few : (k : ℕ) → k % 500 + 1 ≤ NUMBERS_LIMIT
rest-few k = omega arith

pub few_numbers : (n i : ℕ) → length (trial_line n i) ≤ NUMBERS_LIMIT
few_numbers n i = subst (λ k. k ≤ NUMBERS_LIMIT) (sym (length-numbers n ((37 * i + n) % 500 + 1))) (rest-few (37 * i + n))

module _ {M : Type 0} (admits : M → List ℤ → Bool) (runs : Runs M) (number : ℕ) where
  pub tallied_first : (before : Counts) → Tallied admits runs number 0 begin 0 0 0 0 0 before before
  tallied_first before = record {
    answers = [];
    session = (refl, refl);
    lines = refl;
    recorded_is = refl;
    reused_is = refl;
    refused_is = refl;
    turns_is = refl;
    sum_is = refl;
    few_turns = omega arith;
    few_kept = omega arith;
    stands = stands_begin runs;
    counted = counted_none before;
  }

  pub tallied_more : (i : ℕ) (kept next : Kept M) (a : Answer) (r1 r2 r3 r4 r5 n1 n2 n3 n4 n5 : ℕ) (before mid now : Counts) → Answers admits runs kept (trial_line number i) a next
      → n1 ≡ r1 + count_by is_recorded (a.kind ∷ []) → n2 ≡ r2 + count_by is_reused (a.kind ∷ []) → n3 ≡ r3 + count_by is_refused (a.kind ∷ [])
      → n4 ≡ r4 + turns_of a.end → n4 < r4 + 2 ^ 32 → n5 ≡ sum_from r5 (numbers_printed a.output)
      → AreCounted (a ∷ []) mid now → Tallied admits runs number i kept r1 r2 r3 r4 r5 before mid → Tallied admits runs number (i + 1) next n1 n2 n3 n4 n5 before now
  tallied_more i kept next a r1 r2 r3 r4 r5 n1 n2 n3 n4 n5 before mid now h e1 e2 e3 e4 few e5 n t = record {
    answers = t.answers ++ a ∷ [];
    session = subst (λ l. AnswersAll admits runs begin l (t.answers ++ a ∷ []) next) (sym (inputs-push number i))
        (push-answer admits runs begin kept next (map Some (lines_from number 0 i)) (Some (trial_line number i)) t.answers a t.session h);
    lines = length-append t.answers (a ∷ []) ∙ ap (λ n. n + 1) t.lines;
    recorded_is = e1 ∙ ap (λ n. n + count_by is_recorded (a.kind ∷ [])) t.recorded_is ∙ sym (sum_by-append (λ (a : Answer). cond (is_recorded a.kind) 1 0) t.answers (a ∷ []));
    reused_is = e2 ∙ ap (λ n. n + count_by is_reused (a.kind ∷ [])) t.reused_is ∙ sym (sum_by-append (λ (a : Answer). cond (is_reused a.kind) 1 0) t.answers (a ∷ []));
    refused_is = e3 ∙ ap (λ n. n + count_by is_refused (a.kind ∷ [])) t.refused_is ∙ sym (sum_by-append (λ (a : Answer). cond (is_refused a.kind) 1 0) t.answers (a ∷ []));
    turns_is = let zero-more : sum_by (λ (a : Answer). turns_of a.end) (a ∷ []) ≡ turns_of a.end = omega arith in
        omega (arith, e4, t.turns_is, zero-more, sum_by-append (λ (a : Answer). turns_of a.end) t.answers (a ∷ []));
    sum_is = e5 ∙ ap (λ s. sum_from s (numbers_printed a.output)) t.sum_is
        ∙ sym (ap (sum_from 0) (flat_map-append (λ (a : Answer). numbers_printed a.output) t.answers (a ∷ [])
        ∙ ap (λ l. flat_map (λ (a : Answer). numbers_printed a.output) t.answers ++ l) (append-nil (numbers_printed a.output)))
        ∙ sum-append 0 (flat_map (λ (a : Answer). numbers_printed a.output) t.answers) (numbers_printed a.output));
    few_turns = let b = t.few_turns in omega (arith, b, few);
    few_kept = let b = t.few_kept in let g = grows_line admits runs kept next (Some (trial_line number i)) a h in omega (arith, b, g);
    stands = stands_line admits runs kept next (Some (trial_line number i)) a h t.stands;
    counted = counted_then t.answers (a ∷ []) before mid now t.counted n;
  }

  pub tallied_all : (i : ℕ) (kept : Kept M) (recorded reused refused turns sum : ℕ) (text : List ℕ) (before now : Counts) → i ≡ TRIAL_LINES
      → Tallied admits runs number i kept recorded reused refused turns sum before now → text ≡ counts_text number recorded reused refused turns sum → TrialCounted admits runs number before now text
  tallied_all i kept recorded reused refused turns sum text before now e t is = record {
    tells = record {
      answers = t.answers;
      kept = kept;
      session = subst (λ n. AnswersAll admits runs begin (map Some (lines_from number 0 n)) t.answers kept) e t.session;
      whole = is ∙ ap (λ n. counts_text number n reused refused turns sum) t.recorded_is
          ∙ ap (λ n. counts_text number (count_by (λ (a : Answer). is_recorded a.kind) t.answers) n refused turns sum) t.reused_is
          ∙ ap (λ n. counts_text number (count_by (λ (a : Answer). is_recorded a.kind) t.answers) (count_by (λ (a : Answer). is_reused a.kind) t.answers) n turns sum) t.refused_is
          ∙ ap (λ n. counts_text number (count_by (λ (a : Answer). is_recorded a.kind) t.answers) (count_by (λ (a : Answer). is_reused a.kind) t.answers)
          (count_by (λ (a : Answer). is_refused a.kind) t.answers) n sum) t.turns_is
          ∙ ap (λ n. counts_text number (count_by (λ (a : Answer). is_recorded a.kind) t.answers) (count_by (λ (a : Answer). is_reused a.kind) t.answers)
          (count_by (λ (a : Answer). is_refused a.kind) t.answers) (sum_by (λ (a : Answer). turns_of a.end) t.answers) n) t.sum_is;
    };
    counted = t.counted;
  }

-- ---- the lines of a trial's text

pub seven_joined : (a b c d e f g : List ℕ) → (((((a ++ b) ++ c) ++ d) ++ e) ++ f) ++ g ≡ a ++ (b ++ (c ++ (d ++ (e ++ (f ++ g)))))
seven_joined a b c d e f g = simp append_assoc refl

-- what follows from a value follows where there is one
pub if_ok : {A E : Type 0} (P Q : A → Type 0) → ((a : A) → P a → Q a) → (result : Result A E) → IfOk result P → IfOk result Q
if_ok P Q f (Ok a) h = f a h
if_ok P Q f (Err e) h = tt
