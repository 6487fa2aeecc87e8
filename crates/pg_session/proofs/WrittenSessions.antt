-- What a session wrote, told of the input that the source told.
use Rattle.std.proofs.Common.{◌≡◌, ℕ, ℤ, zero, suc, ◌+◌, ◌<◌, ◌≤◌, Bool, false, true, List, [], ◌∷◌, ◌++◌, length, take, map, refl, sym, ap, ◌∙◌}
use Rattle.std.proofs.Common.{subst, arith, Option, Some, None, append-nil, append_assoc, length-append}
use Rattle.std.specs.Prelude.{◌==◌, IfSome, flat_map}
use Rattle.std.specs.Io.KnownBytes.{Consumes, IsAtEnd}
use Rattle.std.proofs.Math.Seq.{take-append_seam}
use Rattle.std.proofs.lemmas.List.{map-append, take-append-le, take-map}
use Rattle.pg_io.specs.Streams.{TakesAtMost}
use Rattle.pg_io.proofs.Known.{consumes-append}
use Rattle.pg_cache.specs.Kept.{Kept}
use Rattle.pg_num.specs.declared.limits.TheConstants.{LINE_LIMIT, SESSION_INPUT_LIMIT}
use Rattle.pg_session_texts.specs.declared.forms.ReplyForm.{ReplyForm}
use Rattle.pg_session.specs.Counts.{KeepsCounted, ServesCounted, Told}
use Rattle.pg_session.specs.Lines.{begun_behind, ended_lines, input_of, last_line, lines_of}
use Rattle.pg_session.specs.Progress.{Answered, CutShort, HasAll, HasAnswered, HasCut, HasTaken, Stands, begun_after, inputs_after}
use Rattle.pg_session.specs.Sessions.{AnswersAll, Runs, answer_text}
use Rattle.pg_session.specs.Texts.{HasBytes, Serves, ServesFront, ServesLimit, ServesTaken, inputs_of}
use Rattle.pg_session.proofs.PieceBytes.{inserted_within, stands_answered}
use Rattle.pg_session.proofs.SessionSteps.{answered_then, begun_kept, cut_then, input_cut, inputs_ended, inputs_more}

-- the input of a line that the end of the input ends
last_some : (b : List ℕ) → (take (LINE_LIMIT + 1) b ≡ [] → ⊥) → map input_of (last_line b) ≡ input_of (take (LINE_LIMIT + 1) b) ∷ []
last_some [] h = absurd (h refl)
last_some (x ∷ xs) h = ap (λ i. i ∷ []) (sym (input_cut (x ∷ xs)))

no_front : (n x : ℕ) (xs : List ℕ) → 0 < n → take n (x ∷ xs) ≡ [] → ⊥
no_front zero x xs some e = omega (arith, some)
no_front (suc n) x xs some e = cc

last_none : (b : List ℕ) → take (LINE_LIMIT + 1) b ≡ [] → map input_of (last_line b) ≡ []
last_none [] h = refl
last_none (x ∷ xs) h = absurd (no_front (LINE_LIMIT + 1) x xs (omega arith) h)

pub all_inputs : (bytes : List ℕ) → (begun_after [] bytes ≡ [] → ⊥) → inputs_after [] bytes ++ input_of (begun_after [] bytes) ∷ [] ≡ inputs_of (lines_of bytes)
all_inputs bytes h =
    ap (λ l. l ++ input_of (begun_after [] bytes) ∷ []) (inputs_ended bytes)
    ∙ ap (λ l. map input_of (ended_lines bytes) ++ l) (ap (λ b. input_of b ∷ []) (begun_kept bytes) ∙ sym (last_some (begun_behind [] bytes) (λ e. h (begun_kept bytes ∙ e))))
    ∙ sym (map-append input_of (ended_lines bytes) (last_line (begun_behind [] bytes)))

pub all_inputs_ended : (bytes : List ℕ) → begun_after [] bytes ≡ [] → inputs_after [] bytes ≡ inputs_of (lines_of bytes)
all_inputs_ended bytes h =
    inputs_ended bytes ∙ sym (append-nil (map input_of (ended_lines bytes)))
    ∙ ap (λ l. map input_of (ended_lines bytes) ++ l) (sym (last_none (begun_behind [] bytes) (sym (begun_kept bytes) ∙ h)))
    ∙ sym (map-append input_of (ended_lines bytes) (last_line (begun_behind [] bytes)))

-- the lines that end in a front of the input, and then the others
pub all_inputs_front : (bytes rest : List ℕ)
    → inputs_after [] bytes ++ (inputs_after (begun_after [] bytes) rest ++ map input_of (last_line (begun_behind [] (bytes ++ rest)))) ≡ inputs_of (lines_of (bytes ++ rest))
all_inputs_front bytes rest =
    sym (append_assoc (inputs_after [] bytes) (inputs_after (begun_after [] bytes) rest) (map input_of (last_line (begun_behind [] (bytes ++ rest)))))
    ∙ ap (λ l. l ++ map input_of (last_line (begun_behind [] (bytes ++ rest)))) (sym (inputs_more [] bytes rest) ∙ inputs_ended (bytes ++ rest))
    ∙ sym (map-append input_of (ended_lines (bytes ++ rest)) (last_line (begun_behind [] (bytes ++ rest))))

-- ---- whether a line has begun

is_none : (line : List ℕ) → length line ≡ 0 → line ≡ []
is_none [] e = refl
is_none (x ∷ xs) e = absurd (omega (arith, e))

is_zero : (n : ℕ) → (n == 0) ≡ true → n ≡ 0
is_zero n e = grind (arith, e)

apart : true ≡ false → ⊥
apart e = cc

pub no_line : (line : List ℕ) (n : ℕ) → n ≡ length line → (n == 0) ≡ true → line ≡ []
no_line line n is e = is_none line (sym is ∙ is_zero n e)

pub some_line : (line : List ℕ) (n : ℕ) → n ≡ length line → (n == 0) ≡ false → line ≡ [] → ⊥
some_line line n is e none =
    let zero : n ≡ 0 = is ∙ ap length none in
    apart (sym (ap (λ k. k == 0) zero) ∙ e)

-- ---- the end of a source

at_end_if : (rest : Option (List ℕ)) → IfSome rest (λ bytes. bytes ≡ []) → IsAtEnd rest
at_end_if None h = tt
at_end_if (Some ys) h = h

whole_of : (left rest : Option (List ℕ)) (bytes : List ℕ) → Consumes left rest bytes → IsAtEnd rest → IfSome left (λ input. bytes ≡ input)
whole_of None rest bytes h e = tt
whole_of (Some xs) None bytes h e = absurd h
whole_of (Some xs) (Some ys) bytes h e = sym (h ∙ ap (λ l. bytes ++ l) e ∙ append-nil bytes)

-- a call that takes none leaves what was taken
consumes_still : (left rest next : Option (List ℕ)) (bytes : List ℕ) → Consumes left rest bytes → TakesAtMost rest next 0 → Consumes left next bytes
consumes_still left rest next bytes h t =
    let w = t.2 in
    let none : t.0 ≡ [] = is_none t.0 (omega (arith, w)) in
    subst (Consumes left next) (ap (λ l. bytes ++ l) none ∙ append-nil bytes) (consumes-append left rest next bytes t.0 h t.1)

module _ {M : Type 0} {form : ReplyForm} (admits : M → List ℤ → Bool) (runs : Runs M) (first : Kept M) (before after : Option (List ℕ)) where
  -- a front of the answers to the first lines
  pub front : (lines : List (List ℕ)) (inputs others : List (Option (List ℤ))) → inputs ++ others ≡ inputs_of lines → CutShort form admits runs first inputs before after
      → ServesFront form admits runs first lines before after
  front lines inputs others e h =
      let these : take h.count inputs ≡ inputs_of (take h.count lines) =
      sym (take-append-le h.count inputs others h.within) ∙ ap (take h.count) e ∙ take-map input_of h.count lines in
      record {
        count = h.count;
        text = flat_map (answer_text form) h.answers;
        session = record { answers = h.answers; kept = h.next; session = subst (λ l. AnswersAll admits runs first l h.answers h.next) these h.session; whole = refl };
        appended = h.written;
      }

  front_of_lines : (bytes ys : List ℕ) → CutShort form admits runs first (inputs_after [] bytes) before after → ServesFront form admits runs first (lines_of (bytes ++ ys)) before after
  front_of_lines bytes ys g =
      front (lines_of (bytes ++ ys)) (inputs_after [] bytes) (inputs_after (begun_after [] bytes) ys ++ map input_of (last_line (begun_behind [] (bytes ++ ys)))) (all_inputs_front bytes ys) g

  front_of_bytes : (left rest : Option (List ℕ)) (bytes : List ℕ) → Consumes left rest bytes → CutShort form admits runs first (inputs_after [] bytes) before after
      → HasBytes left (λ input. ServesFront form admits runs first (lines_of input) before after)
  front_of_bytes None rest bytes h g = (bytes ++ [], tt, front_of_lines bytes [] g)
  front_of_bytes (Some xs) None bytes h g = absurd h
  front_of_bytes (Some xs) (Some ys) bytes h g = (bytes ++ ys, sym h, front_of_lines bytes ys g)

  pub front_of : (left rest : Option (List ℕ)) → HasCut form admits runs first left rest before after → HasBytes left (λ input. ServesFront form admits runs first (lines_of input) before after)
  front_of left rest h = front_of_bytes left rest h.bytes h.consumed h.cut

  -- another byte is there behind as many as a session takes
  limited : (bytes ys : List ℕ) → 0 < length ys → length bytes ≡ SESSION_INPUT_LIMIT → Serves form admits runs first (ended_lines bytes) before after
      → ServesLimit form admits runs first before after (bytes ++ ys)
  limited bytes ys more n s =
      let front : take SESSION_INPUT_LIMIT (bytes ++ ys) ≡ bytes = ap (λ k. take k (bytes ++ ys)) (sym n) ∙ take-append_seam bytes ys in
      record {
        beyond = omega (arith, more, n, length-append bytes ys);
        serves = subst (λ l. Serves form admits runs first (ended_lines l) before after) (sym front) s;
      }

  pub serves_limit : (left rest : Option (List ℕ)) (bytes : List ℕ) → Consumes left rest bytes → IfSome rest (λ ys. 0 < length ys) → length bytes ≡ SESSION_INPUT_LIMIT
      → Serves form admits runs first (ended_lines bytes) before after → HasBytes left (ServesLimit form admits runs first before after)
  serves_limit None rest bytes h more n s = (bytes ++ 0 ∷ [], tt, limited bytes (0 ∷ []) (omega arith) n s)
  serves_limit (Some xs) None bytes h more n s = absurd h
  serves_limit (Some xs) (Some ys) bytes h more n s = (bytes ++ ys, sym h, limited bytes ys more n s)

  pub serves_taken : (left rest : Option (List ℕ)) (bytes : List ℕ) → Consumes left rest bytes → length bytes ≤ SESSION_INPUT_LIMIT
      → Serves form admits runs first (ended_lines bytes) before after → ServesTaken form admits runs first left rest before after
  serves_taken left rest bytes h w s = record { taken = bytes; consumed = h; within = w; serves = s }

module _ {M : Type 0} {form : ReplyForm} (admits : M → List ℤ → Bool) (runs : Runs M) (first : Kept M) (before after : Told) where
  -- inputs that were answered are a session
  pub serves : (lines : List (List ℕ)) (inputs : List (Option (List ℤ))) (kept : Kept M) → inputs ≡ inputs_of lines → Answered form admits runs first inputs kept before after
      → Serves form admits runs first lines before.taken after.taken
  serves lines inputs kept e h = record {
    text = flat_map (answer_text form) h.answers;
    session = record { answers = h.answers; kept = kept; session = subst (λ l. AnswersAll admits runs first l h.answers kept) e h.session; whole = refl };
    appended = h.written;
  }

  -- ---- what was taken from the source

  pub all_of : (left rest : Option (List ℕ)) (kept : Kept M) (line : List ℕ) (ended : Bool) → ended ≡ true → HasTaken form admits runs first left rest before after kept line ended
      → HasAll form admits runs first left before after kept line
  all_of left rest kept line ended e h = record {
    bytes = h.bytes;
    whole = whole_of left rest h.bytes h.consumed (h.at_end e);
    within = h.within;
    answered = h.answered;
    begun = h.begun;
  }

  -- the source has no byte behind as many as a session takes
  pub all_of_full : (left rest : Option (List ℕ)) (kept : Kept M) (line : List ℕ) (ended : Bool) → IfSome rest (λ bytes. bytes ≡ [])
      → HasTaken form admits runs first left rest before after kept line ended → HasAll form admits runs first left before after kept line
  all_of_full left rest kept line ended e h = record {
    bytes = h.bytes;
    whole = whole_of left rest h.bytes h.consumed (at_end_if rest e);
    within = h.within;
    answered = h.answered;
    begun = h.begun;
  }

  pub limit_of : (left rest : Option (List ℕ)) (kept : Kept M) (line : List ℕ) (ended : Bool) → ended ≡ false → IfSome rest (λ ys. 0 < length ys)
      → HasTaken form admits runs first left rest before after kept line ended
      → HasBytes left (ServesLimit form admits runs first before.taken after.taken)
  limit_of left rest kept line ended e more h =
      serves_limit admits runs first before.taken after.taken left rest h.bytes h.consumed more (h.full e) (serves (ended_lines h.bytes) (inputs_after [] h.bytes) kept (inputs_ended h.bytes) h.answered)

  -- the read that failed took none
  pub taken_of : (left rest next : Option (List ℕ)) (kept : Kept M) (line : List ℕ) (ended : Bool) → TakesAtMost rest next 0 → HasTaken form admits runs first left rest before after kept line ended
      → ServesTaken form admits runs first left next before.taken after.taken
  taken_of left rest next kept line ended none h =
      serves_taken admits runs first before.taken after.taken left next h.bytes (consumes_still left rest next h.bytes h.consumed none) h.within
      (serves (ended_lines h.bytes) (inputs_after [] h.bytes) kept (inputs_ended h.bytes) h.answered)

  pub answered_of : (left rest : Option (List ℕ)) → HasAnswered form admits runs first left rest before after → ServesTaken form admits runs first left rest before.taken after.taken
  answered_of left rest h =
      serves_taken admits runs first before.taken after.taken left rest h.bytes h.consumed h.within (serves (ended_lines h.bytes) (inputs_after [] h.bytes) h.kept (inputs_ended h.bytes) h.answered)

  -- ---- the last line

  -- no line has begun
  pub served : (left : Option (List ℕ)) (kept : Kept M) (line : List ℕ) → line ≡ [] → HasAll form admits runs first left before after kept line → HasBytes left (ServesCounted form admits runs first before after)
  unfolding serves
  served left kept line e h = (
    h.bytes,
    h.whole,
    record {
      all = record {
        within = h.within;
        serves = serves (lines_of h.bytes) (inputs_after [] h.bytes) kept (all_inputs_ended h.bytes (sym h.begun ∙ e)) h.answered;
      };
      counted = h.answered.counted;
    },
  )

  -- what is kept then
  pub keeps : (left : Option (List ℕ)) (kept : Kept M) (line : List ℕ) → line ≡ [] → HasAll form admits runs first left before after kept line → HasBytes left (KeepsCounted admits runs first kept before.counts after.counts)
  keeps left kept line e h = (
    h.bytes,
    h.whole,
    record {
      all = record {
        within = h.within;
        answers = h.answered.answers;
        session = subst (λ l. AnswersAll admits runs first l h.answered.answers kept) (all_inputs_ended h.bytes (sym h.begun ∙ e)) h.answered.session;
      };
      counted = h.answered.counted;
    },
  )

module _ {M : Type 0} {form : ReplyForm} (admits : M → List ℤ → Bool) (runs : Runs M) (first : Kept M) where
  -- the end of the input ends the line that has begun, and this is kept then
  pub keeps_last : (others : Runs M) (left : Option (List ℕ)) (before mid after : Told) (kept next : Kept M) (line : List ℕ) → others ≡ runs → (line ≡ [] → ⊥)
      → HasAll form admits runs first left before mid kept line → Answered form admits others kept (input_of line ∷ []) next mid after → HasBytes left (KeepsCounted admits runs first next before.counts after.counts)
  keeps_last others left before mid after kept next line same some h g =
      let both : Answered form admits runs first (inputs_after [] h.bytes ++ input_of line ∷ []) next before after =
      answered_then admits runs first kept next _ _ before mid after h.answered (subst (λ r. Answered form admits r kept (input_of line ∷ []) next mid after) same g) in (
        h.bytes,
        h.whole,
        record {
          all = record {
            within = h.within;
            answers = both.answers;
            session = subst (λ l. AnswersAll admits runs first l both.answers next)
                (ap (λ l. inputs_after [] h.bytes ++ input_of l ∷ []) h.begun ∙ all_inputs h.bytes (λ e. some (h.begun ∙ e))) both.session;
          };
          counted = both.counted;
        },
      )

  -- the end of the input ends the line that has begun
  pub served_last : (others : Runs M) (left : Option (List ℕ)) (before mid after : Told) (kept next : Kept M) (line : List ℕ) → others ≡ runs → (line ≡ [] → ⊥)
      → HasAll form admits runs first left before mid kept line → Answered form admits others kept (input_of line ∷ []) next mid after → HasBytes left (ServesCounted form admits runs first before after)
  unfolding serves
  served_last others left before mid after kept next line same some h g =
      let both : Answered form admits runs first (inputs_after [] h.bytes ++ input_of line ∷ []) next before after =
      answered_then admits runs first kept next _ _ before mid after h.answered (subst (λ r. Answered form admits r kept (input_of line ∷ []) next mid after) same g) in (
        h.bytes,
        h.whole,
        record {
          all = record {
            within = h.within;
            serves = serves admits runs first before after (lines_of h.bytes) (inputs_after [] h.bytes ++ input_of line ∷ []) next
                (ap (λ l. inputs_after [] h.bytes ++ input_of l ∷ []) h.begun ∙ all_inputs h.bytes (λ e. some (h.begun ∙ e))) both;
          };
          counted = both.counted;
        },
      )

  pub served_cut : (others : Runs M) (left : Option (List ℕ)) (before mid : Told) (after : Option (List ℕ)) (kept : Kept M) (line : List ℕ) → others ≡ runs → (line ≡ [] → ⊥)
      → HasAll form admits runs first left before mid kept line → CutShort form admits others kept (input_of line ∷ []) mid.taken after
      → HasBytes left (λ input. ServesFront form admits runs first (lines_of input) before.taken after)
  served_cut others left before mid after kept line same some h g =
      let both : CutShort form admits runs first (inputs_after [] h.bytes ++ input_of line ∷ []) before.taken after =
      cut_then admits runs first kept _ _ before mid after h.answered (subst (λ r. CutShort form admits r kept (input_of line ∷ []) mid.taken after) same g) in
      let all : (inputs_after [] h.bytes ++ input_of line ∷ []) ++ [] ≡ inputs_of (lines_of h.bytes) =
      append-nil (inputs_after [] h.bytes ++ input_of line ∷ []) ∙ ap (λ l. inputs_after [] h.bytes ++ input_of l ∷ []) h.begun ∙ all_inputs h.bytes (λ e. some (h.begun ∙ e)) in
      (h.bytes, h.whole, front admits runs first before.taken after (lines_of h.bytes) (inputs_after [] h.bytes ++ input_of line ∷ []) [] all both)

  -- no more entries are kept than bytes were taken
  pub few_all : (left : Option (List ℕ)) (before after : Told) (kept : Kept M) (line : List ℕ) → HasAll form admits runs first left before after kept line → kept.inserted ≤ first.inserted + SESSION_INPUT_LIMIT
  few_all left before after kept line h =
      let n : kept.inserted ≤ first.inserted + length h.bytes = inserted_within admits runs first kept [] h.bytes before after h.answered in
      let w = h.within in
      omega (arith, n, w)

  pub stands_after_all : (others : Runs M) (left : Option (List ℕ)) (before after : Told) (kept : Kept M) (line : List ℕ) → others ≡ runs → Stands runs first
      → HasAll form admits runs first left before after kept line → Stands others kept
  stands_after_all others left before after kept line same s h =
      subst (λ r. Stands r kept) (sym same) (stands_answered admits runs first kept (inputs_after [] h.bytes) before after h.answered s)
