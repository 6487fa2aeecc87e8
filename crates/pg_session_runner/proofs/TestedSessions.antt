-- A session that records nothing answers each line by itself.
use Rattle.std.proofs.Common.{◌≡◌, ℕ, ℤ, zero, suc, List, [], ◌∷◌, ◌++◌, Option, Some, None, refl, sym, ap, ◌∙◌, subst}
use Rattle.std.specs.Prelude.{flat_map, slice_get}
use Rattle.std.proofs.lemmas.Grind.{flat_map-append}
use Rattle.pg_cache.specs.Kept.{Kept, value_of}
use Rattle.pg_go.specs.pg_ir.Program.{NumberedProgram}
use Rattle.pg_law_reuse.specs.pg_law_order.Served.{guided_along}
use Rattle.pg_law_reuse.specs.Entries.{EntryParts}
use Rattle.pg_session.specs.pg_session_texts.declared.reply.EndLine.{EndLine}
use Rattle.pg_session.specs.pg_session_texts.declared.reply.ReplyKind.{ReplyKind}
use Rattle.pg_session.specs.pg_session_texts.declared.reply.ReplyKind.TheVariants.{Reused, RefusedUntested}
use Rattle.pg_session.specs.pg_session_texts.declared.forms.ReplyForm.{ReplyForm}
use Rattle.pg_session.specs.Sessions.{Answer, Answers, AnswersAll, AnswersLine, IsSessionText, answer_text}
use Rattle.pg_session.specs.Sessions.Answers.{by_reuse, by_recording, by_refusal, by_untested}
use Rattle.pg_session_runner.specs.Runs.{end_line_of, entry_admits, runs_by, tested}
use Rattle.pg_session_runner.specs.Tested.{IsTestedAnswer, IsTestedInput, reused, untested}
use Rattle.pg_session_runner.proofs.ReusedEntries.{none_answered, same_value, told_so}

abbrev answer_of : ReplyKind → List ℕ → Option EndLine → Answer
answer_of kind output end = record { kind = kind; output = output; end = end }

same_answer : (a : Answer) (kind : ReplyKind) (output : List ℕ) (end : Option EndLine) → a.kind ≡ kind → a.output ≡ output → a.end ≡ end → a ≡ answer_of kind output end
same_answer a kind output end k o e =
    ap (λ (n : ReplyKind). answer_of n a.output a.end) k ∙ ap (λ (l : List ℕ). answer_of kind l a.end) o ∙ ap (λ (m : Option EndLine). answer_of kind output m) e

same_number : (m n : ℕ) → Some m ≡ Some n → m ≡ n
same_number m n e = cc

no_number : (n : ℕ) → Some n ≡ None → ⊥
no_number n e = absurd cc

module _ (p : NumberedProgram) (first : Kept EntryParts) where
  -- from these entries the lines are answered so, and these are kept then
  abbrev pub Tests : List (Option (List ℤ)) → List Answer → Kept EntryParts → Type 0
  Tests inputs answers kept = AnswersAll entry_admits (runs_by p tested) first inputs answers kept

  -- ---- a line

  input_answer : (input : List ℤ) (a : Answer) (next : Kept EntryParts) → Answers entry_admits (runs_by p tested) first input a next → (next ≡ first) × IsTestedInput p first input a
  input_answer input a next (by_reuse h) = (
    h.stays,
    reused (record {
      number = h.number;
      entry = h.entry;
      output = a.output;
      end = h.end;
      least = h.least;
      is_first = h.is_kept;
      run = h.run;
      is_answer = told_so a (Reused h.number) h.end h.kind h.ends;
    }),
  )
  input_answer input a next (by_recording h) = absurd h.recording.exits
  input_answer input a next (by_refusal h) = absurd h.recording.ends
  input_answer input a next (by_untested h) = (h.stays, untested h.none (same_answer a RefusedUntested [] None h.kind h.prints h.ends))

  line_answer : (x : Option (List ℤ)) (a : Answer) (next : Kept EntryParts) → AnswersLine entry_admits (runs_by p tested) first x a next → (next ≡ first) × IsTestedAnswer p first x a
  line_answer None a next h = (h.1, h.0)
  line_answer (Some input) a next h = input_answer input a next h

  -- the others are answered from the same entries
  others : (x : Option (List ℤ)) (xs : List (Option (List ℤ))) (answers : List Answer) (kept : Kept EntryParts) → (h : Tests (x ∷ xs) answers kept) → Tests xs h.rest kept
  others x xs answers kept h =
      subst (λ (k : Kept EntryParts). AnswersAll entry_admits (runs_by p tested) k xs h.rest kept) (line_answer x h.first h.next h.is_first).0 h.are_rest

  -- ---- all lines

  pub stays : (inputs : List (Option (List ℤ))) (answers : List Answer) (kept : Kept EntryParts) → Tests inputs answers kept → kept ≡ first
  stays [] answers kept h = h.1
  stays (x ∷ xs) answers kept h = stays xs h.rest kept (others x xs answers kept h)

  pub answer_at : (inputs : List (Option (List ℤ))) (answers : List Answer) (kept : Kept EntryParts) → Tests inputs answers kept
      → (line : ℕ) (input : Option (List ℤ)) (a : Answer) → slice_get inputs line ≡ Some input → slice_get answers line ≡ Some a → IsTestedAnswer p first input a
  answer_at [] answers kept h line input a i j = absurd (none_answered answers line a h.0 j)
  answer_at (x ∷ xs) answers kept h zero input a i j =
      let e : x ≡ input = same_value x input i in
      let f : h.first ≡ a = same_value h.first a (ap (λ (l : List Answer). slice_get l 0) (sym h.all) ∙ j) in
      subst (λ (y : Option (List ℤ)). IsTestedAnswer p first y a) e (subst (λ (b : Answer). IsTestedAnswer p first x b) f (line_answer x h.first h.next h.is_first).1)
  answer_at (x ∷ xs) answers kept h (suc line) input a i j =
      answer_at xs h.rest kept (others x xs answers kept h) line input a i (ap (λ (l : List Answer). slice_get l (suc line)) (sym h.all) ∙ j)

  none_there : (line : ℕ) (input : Option (List ℤ)) → Path (Option (Option (List ℤ))) (slice_get [] line) (Some input) → ⊥
  none_there zero input i = absurd cc
  none_there (suc line) input i = absurd cc

  -- each line has an answer
  there : (inputs : List (Option (List ℤ))) (answers : List Answer) (kept : Kept EntryParts) → Tests inputs answers kept
      → (line : ℕ) (input : Option (List ℤ)) → slice_get inputs line ≡ Some input → (a : Answer) × (slice_get answers line ≡ Some a)
  there [] answers kept h line input i = absurd (none_there line input i)
  there (x ∷ xs) answers kept h zero input i = (h.first, ap (λ (l : List Answer). slice_get l 0) h.all)
  there (x ∷ xs) answers kept h (suc line) input i =
      let r = there xs h.rest kept (others x xs answers kept h) line input i in
      (r.0, ap (λ (l : List Answer). slice_get l (suc line)) h.all ∙ r.1)

  -- ---- one answer

  one_input : (input : List ℤ) (a b : Answer) → IsTestedInput p first input a → IsTestedInput p first input b → a ≡ b
  one_input input a b (reused h) (reused i) =
      let numbers = same_number h.number i.number (sym h.least ∙ i.least) in
      let entries : h.entry ≡ i.entry = same_value h.entry i.entry (sym h.is_first ∙ ap (value_of first) numbers ∙ i.is_first) in
      let outputs : h.output ≡ i.output = h.run.printed ∙ ap (λ (e : EntryParts). (guided_along p input e.schedule).state.printed) entries ∙ sym i.run.printed in
      let ends : Some h.end ≡ Some i.end =
      sym h.run.ends ∙ ap (λ (e : EntryParts). end_line_of (guided_along p input e.schedule).turns (guided_along p input e.schedule).end) entries ∙ i.run.ends in
      h.is_answer ∙ ap (λ (n : ℕ). answer_of (Reused n) h.output (Some h.end)) numbers ∙ ap (λ (o : List ℕ). answer_of (Reused i.number) o (Some h.end)) outputs
      ∙ ap (λ (d : Option EndLine). answer_of (Reused i.number) i.output d) ends ∙ sym i.is_answer
  one_input input a b (reused h) (untested n e) = absurd (no_number h.number (sym h.least ∙ n))
  one_input input a b (untested n e) (reused i) = absurd (no_number i.number (sym i.least ∙ n))
  one_input input a b (untested n e) (untested m f) = e ∙ sym f

  one : (x : Option (List ℤ)) (a b : Answer) → IsTestedAnswer p first x a → IsTestedAnswer p first x b → a ≡ b
  one None a b h i = h ∙ sym i
  one (Some input) a b h i = one_input input a b h i

  pub alone : (inputs others : List (Option (List ℤ))) (answers replies : List Answer) (kept last : Kept EntryParts) → Tests inputs answers kept → Tests others replies last
      → (line place : ℕ) (input : Option (List ℤ)) → slice_get inputs line ≡ Some input → slice_get others place ≡ Some input
      → slice_get answers line ≡ slice_get replies place
  alone inputs others answers replies kept last h g line place input i j =
      let a = there inputs answers kept h line input i in
      let b = there others replies last g place input j in
      let same : a.0 ≡ b.0 = one input a.0 b.0 (answer_at inputs answers kept h line input a.0 i a.1) (answer_at others replies last g place input b.0 j b.1) in
      a.1 ∙ ap (λ (x : Answer). Some x) same ∙ sym b.1

  pub one_session : (inputs : List (Option (List ℤ))) (answers replies : List Answer) (kept last : Kept EntryParts) → Tests inputs answers kept → Tests inputs replies last → answers ≡ replies
  one_session [] answers replies kept last h i = h.0 ∙ sym i.0
  one_session (x ∷ xs) answers replies kept last h i =
      let a = one x h.first i.first (line_answer x h.first h.next h.is_first).1 (line_answer x i.first i.next i.is_first).1 in
      let rest = one_session xs h.rest i.rest kept last (others x xs answers kept h) (others x xs replies last i) in
      h.all ∙ ap (λ (y : Answer). y ∷ h.rest) a ∙ ap (λ (l : List Answer). i.first ∷ l) rest ∙ sym i.all

  -- ---- lines in two parts

  joined : (xs ys : List (Option (List ℤ))) (answers replies : List Answer) (kept last : Kept EntryParts) → Tests xs answers kept → Tests ys replies last
      → Tests (xs ++ ys) (answers ++ replies) last
  joined [] ys answers replies kept last h g = subst (λ (l : List Answer). Tests ys (l ++ replies) last) (sym h.0) g
  joined (x ∷ xs) ys answers replies kept last h g = record {
    first = h.first;
    next = h.next;
    rest = h.rest ++ replies;
    all = ap (λ (l : List Answer). l ++ replies) h.all;
    is_first = h.is_first;
    are_rest = subst (λ (k : Kept EntryParts). AnswersAll entry_admits (runs_by p tested) k (xs ++ ys) (h.rest ++ replies) last) (sym (line_answer x h.first h.next h.is_first).0)
        (joined xs ys h.rest replies kept last (others x xs answers kept h) g);
  }

  pub parts : {form : ReplyForm} (xs ys : List (Option (List ℤ))) (text before behind : List ℕ) → IsSessionText form entry_admits (runs_by p tested) first (xs ++ ys) text
      → IsSessionText form entry_admits (runs_by p tested) first xs before → IsSessionText form entry_admits (runs_by p tested) first ys behind → text ≡ before ++ behind
  parts {form} xs ys text before behind h i j =
      let same = one_session (xs ++ ys) h.answers (i.answers ++ j.answers) h.kept j.kept h.session (joined xs ys i.answers j.answers i.kept j.kept i.session j.session) in
      h.whole ∙ ap (λ (l : List Answer). flat_map (answer_text form) l) same ∙ flat_map-append (answer_text form) i.answers j.answers
      ∙ ap (λ (t : List ℕ). t ++ flat_map (answer_text form) j.answers) (sym i.whole) ∙ ap (λ (t : List ℕ). before ++ t) (sym j.whole)

  pub one_text : {form : ReplyForm} (inputs : List (Option (List ℤ))) (text other : List ℕ) → IsSessionText form entry_admits (runs_by p tested) first inputs text
      → IsSessionText form entry_admits (runs_by p tested) first inputs other → text ≡ other
  one_text {form} inputs text other h i = h.whole ∙ ap (λ (l : List Answer). flat_map (answer_text form) l) (one_session inputs h.answers i.answers h.kept i.kept h.session i.session) ∙ sym i.whole
