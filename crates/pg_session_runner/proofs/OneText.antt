-- A session in rotation has one text: each line has one answer, and what is kept is alike.
use Rattle.std.proofs.Common.{◌≡◌, ℕ, ℤ, zero, suc, ◌+◌, ◌-◌, Bool, List, [], ◌∷◌, ◌++◌, length, map, drop, Option, Some, None, refl, sym, ap, ◌∙◌, subst, arith}
use Rattle.std.specs.Prelude.{Contains, slice_get}
use Rattle.std.proofs.lemmas.List.Elements.{Contains-append_right}
use Rattle.pg_cache.specs.Kept.{Kept, first_from, oldest, value_of, with_value, youngest}
use Rattle.pg_go.specs.pg_ir.Program.{NumberedProgram}
use Rattle.pg_go.specs.pg_run.State.{State}
use Rattle.pg_go.specs.pg_run.declared.outcome.Refusal.{Refusal}
use Rattle.pg_go.specs.pg_run_trace.declared.schedule.Schedule.{Schedule}
use Rattle.pg_go.specs.pg_run_trace.declared.step.Step.{Step}
use Rattle.pg_law_reuse.specs.pg_law_runs.Cuts.{CanRun}
use Rattle.pg_law_reuse.specs.pg_law_order.Served.{guided_along}
use Rattle.pg_law_reuse.specs.Entries.{AreAlike, EntryParts, IsEntry}
use Rattle.pg_law_reuse.proofs.EntriesOfOneRun.{one_entry}
use Rattle.pg_session.specs.pg_session_texts.declared.reply.EndLine.{EndLine}
use Rattle.pg_session.specs.pg_session_texts.declared.reply.EndLine.TheVariants as ends
use Rattle.pg_session.specs.pg_session_texts.declared.reply.ReplyKind.{ReplyKind}
use Rattle.pg_session.specs.pg_session_texts.declared.reply.ReplyKind.TheVariants.{Recorded, Reused}
use Rattle.pg_session.specs.pg_session_texts.Replies.{kind_of}
use Rattle.pg_session.specs.Sessions.{Answer, Answers, AnswersAll, AnswersLine, found}
use Rattle.pg_session.specs.Sessions.Answers.{by_reuse, by_recording, by_refusal, by_untested}
use Rattle.pg_session_runner.specs.Runs.{IsKept, end_line_of, entry_admits, rotating, runs_by}
use Rattle.pg_session_runner.proofs.KeptInsertions.{from_oldest}

-- ---- entries that are alike, pair by pair

abbrev AlikeLists : List EntryParts → List EntryParts → Type 0
AlikeLists [] [] = Unit {0}
AlikeLists (e ∷ es) (k ∷ ks) = AreAlike e k × AlikeLists es ks
AlikeLists es ks = ⊥

pub record AlikeKept (a b : Kept EntryParts) : Type 0 where
  pub size : a.size ≡ b.size
  pub inserted : a.inserted ≡ b.inserted
  pub values : AlikeLists a.values b.values

lengths : (es ks : List EntryParts) → AlikeLists es ks → length es ≡ length ks
lengths [] [] h = refl
lengths [] (k ∷ ks) h = absurd h
lengths (e ∷ es) [] h = absurd h
lengths (e ∷ es) (k ∷ ks) h = ap suc (lengths es ks h.1)

abbrev admissions : List ℤ → List EntryParts → List Bool
admissions input es = map (λ (e : EntryParts). entry_admits e input) es

same_admissions : (input : List ℤ) (es ks : List EntryParts) → AlikeLists es ks → admissions input es ≡ admissions input ks
same_admissions input [] [] h = refl
same_admissions input [] (k ∷ ks) h = absurd h
same_admissions input (e ∷ es) [] h = absurd h
same_admissions input (e ∷ es) (k ∷ ks) h =
    ap (λ (b : Bool). b ∷ admissions input es) (h.0.admitted input) ∙ ap (λ (bs : List Bool). entry_admits k input ∷ bs) (same_admissions input es ks h.1)

got_alike : (es ks : List EntryParts) → AlikeLists es ks → (n : ℕ) (e k : EntryParts) → slice_get es n ≡ Some e → slice_get ks n ≡ Some k → AreAlike e k
got_alike [] [] h zero e k i j = absurd cc
got_alike [] [] h (suc n) e k i j = absurd cc
got_alike [] (y ∷ ks) h n e k i j = absurd h
got_alike (x ∷ es) [] h n e k i j = absurd h
got_alike (x ∷ es) (y ∷ ks) h zero e k i j =
    let a : x ≡ e = cc in
    let b : y ≡ k = cc in
    subst (λ (z : EntryParts). AreAlike z k) a (subst (λ (z : EntryParts). AreAlike x z) b h.0)
got_alike (x ∷ es) (y ∷ ks) h (suc n) e k i j = got_alike es ks h.1 n e k i j

appended : (es ks : List EntryParts) (e k : EntryParts) → AlikeLists es ks → AreAlike e k → AlikeLists (es ++ e ∷ []) (ks ++ k ∷ [])
appended [] [] e k h a = (a, tt)
appended [] (y ∷ ks) e k h a = absurd h
appended (x ∷ es) [] e k h a = absurd h
appended (x ∷ es) (y ∷ ks) e k h a = (h.0, appended es ks e k h.1 a)

dropped : (n : ℕ) (es ks : List EntryParts) → AlikeLists es ks → AlikeLists (drop n es) (drop n ks)
dropped zero es ks h = h
dropped (suc n) [] [] h = tt
dropped (suc n) [] (y ∷ ks) h = absurd h
dropped (suc n) (x ∷ es) [] h = absurd h
dropped (suc n) (x ∷ es) (y ∷ ks) h = dropped n es ks h.1

module _ (a b : Kept EntryParts) (alike : AlikeKept a b) where
  same_oldest : oldest a ≡ oldest b
  same_oldest = ap (λ (n : ℕ). n - length a.values) alike.inserted ∙ ap (λ (n : ℕ). b.inserted - n) (lengths a.values b.values alike.values)

  same_found : (input : List ℤ) → found entry_admits a input ≡ found entry_admits b input
  same_found input =
      ap (λ (n : ℕ). first_from n (admissions input a.values)) same_oldest ∙ ap (λ (bs : List Bool). first_from (oldest b) bs) (same_admissions input a.values b.values alike.values)

  value_alike : (n : ℕ) (e k : EntryParts) → value_of a n ≡ Some e → value_of b n ≡ Some k → AreAlike e k
  value_alike n e k i j =
      got_alike a.values b.values alike.values (n - oldest a) e k (from_oldest a n e i).1
      (subst (λ (o : ℕ). slice_get b.values (n - o) ≡ Some k) (sym same_oldest) (from_oldest b n k j).1)

  with_alike : (e k : EntryParts) → AreAlike e k → AlikeKept (with_value e a) (with_value k b)
  with_alike e k h =
      let more = appended a.values b.values e k alike.values h in
      let cut : length (a.values ++ e ∷ []) - a.size ≡ length (b.values ++ k ∷ []) - b.size =
      ap (λ (n : ℕ). n - a.size) (lengths (a.values ++ e ∷ []) (b.values ++ k ∷ []) more) ∙ ap (λ (n : ℕ). length (b.values ++ k ∷ []) - n) alike.size in
      record {
        size = alike.size;
        inserted = ap (λ (n : ℕ). n + 1) alike.inserted;
        values = subst (λ (n : ℕ). AlikeLists (youngest a.size (a.values ++ e ∷ [])) (drop n (b.values ++ k ∷ []))) cut
            (dropped (length (a.values ++ e ∷ []) - a.size) (a.values ++ e ∷ []) (b.values ++ k ∷ []) more);
      }

-- ---- answers

abbrev answer_of : ReplyKind → List ℕ → Option EndLine → Answer
answer_of kind output end = record { kind = kind; output = output; end = end }

same_answer : (x y : Answer) → x.kind ≡ y.kind → x.output ≡ y.output → x.end ≡ y.end → x ≡ y
same_answer x y k o e =
    ap (λ (kind : ReplyKind). answer_of kind x.output x.end) k ∙ ap (λ (output : List ℕ). answer_of y.kind output x.end) o
    ∙ ap (λ (end : Option EndLine). answer_of y.kind y.output end) e

same_number : (m n : ℕ) → Some m ≡ Some n → m ≡ n
same_number m n e = cc

no_number : (n : ℕ) → Some n ≡ None → ⊥
no_number n e = absurd cc

record OneAnswer (x y : Answer) (next other : Kept EntryParts) : Type 0 where
  pub same : x ≡ y
  pub kept : AlikeKept next other

module _ (p : NumberedProgram) (quantum : ℕ) (a b : Kept EntryParts) (alike : AlikeKept a b) where
  -- two recordings of an input
  two_entries : (input : List ℤ) → CanRun p input → (e k : EntryParts) (output printed : List ℕ) (end last : EndLine)
      → IsKept p (rotating quantum) input e output end → IsKept p (rotating quantum) input k printed last → AreAlike e k × (output ≡ printed) × (end ≡ last)
  two_entries input can e k output printed end last h i =
      let steps : i.steps ≡ h.steps = i.exits.0 ∙ sym h.exits.0 in
      let states : i.state ≡ h.state = i.exits.1 ∙ sym h.exits.1 in
      let left = h.exits.2 in
      let right = i.exits.2 in
      let values : h.value ≡ i.value = cc in
      let entry : IsEntry p input h.steps h.state k =
      subst (λ (xs : List Step). IsEntry p input xs h.state k) steps (subst (λ (z : State). IsEntry p input i.steps z k) states i.is_entry) in
      let both = one_entry p input h.steps h.state e k can h.is_entry entry in (
        both,
        h.printed ∙ ap (λ (z : State). z.printed) (sym states) ∙ sym i.printed,
        h.ends ∙ ap (λ (v : ℤ). ends.Exit v (length e.schedule.turns)) values ∙ ap (λ (s : Schedule). ends.Exit i.value (length s.turns)) both.schedule ∙ sym i.ends,
      )

  one_answer : (input : List ℤ) → CanRun p input → (x y : Answer) (next other : Kept EntryParts)
      → Answers entry_admits (runs_by p (rotating quantum)) a input x next → Answers entry_admits (runs_by p (rotating quantum)) b input y other → OneAnswer x y next other
  one_answer input can x y next other (by_reuse h) (by_reuse i) =
      let numbers = same_number h.number i.number (sym h.least ∙ same_found a b alike input ∙ i.least) in
      let entries = value_alike a b alike h.number h.entry i.entry h.is_kept (subst (λ (n : ℕ). value_of b n ≡ Some i.entry) (sym numbers) i.is_kept) in
      record {
        same = same_answer x y (h.kind ∙ ap (λ (n : ℕ). Reused n) numbers ∙ sym i.kind)
            (h.run.printed ∙ ap (λ (s : Schedule). (guided_along p input s).state.printed) entries.schedule ∙ sym i.run.printed)
            (h.ends ∙ sym h.run.ends ∙ ap (λ (s : Schedule). end_line_of (guided_along p input s).turns (guided_along p input s).end) entries.schedule ∙ i.run.ends ∙ sym i.ends);
        kept = subst (λ (k : Kept EntryParts). AlikeKept k other) (sym h.stays) (subst (λ (k : Kept EntryParts). AlikeKept a k) (sym i.stays) alike);
      }
  one_answer input can x y next other (by_reuse h) (by_recording i) = absurd (no_number h.number (sym h.least ∙ same_found a b alike input ∙ i.none))
  one_answer input can x y next other (by_reuse h) (by_refusal i) = absurd (no_number h.number (sym h.least ∙ same_found a b alike input ∙ i.none))
  one_answer input can x y next other (by_reuse h) (by_untested i) = absurd i.untested
  one_answer input can x y next other (by_recording h) (by_reuse i) = absurd (no_number i.number (sym i.least ∙ sym (same_found a b alike input) ∙ h.none))
  one_answer input can x y next other (by_recording h) (by_recording i) =
      let both = two_entries input can h.entry i.entry x.output y.output h.end i.end h.recording i.recording in
      record {
        same = same_answer x y (h.kind ∙ ap (λ (n : ℕ). Recorded n) alike.inserted ∙ sym i.kind) both.1 (h.ends ∙ ap (λ (e : EndLine). Some e) both.2 ∙ sym i.ends);
        kept = subst (λ (k : Kept EntryParts). AlikeKept k other) (sym h.grows)
            (subst (λ (k : Kept EntryParts). AlikeKept (with_value h.entry a) k) (sym i.grows) (with_alike a b alike h.entry i.entry both.0));
      }
  one_answer input can x y next other (by_recording h) (by_refusal i) =
      let left = h.recording.exits.2 in
      let right = i.recording.ends.2 in
      absurd cc
  one_answer input can x y next other (by_recording h) (by_untested i) = absurd i.untested
  one_answer input can x y next other (by_refusal h) (by_reuse i) = absurd (no_number i.number (sym i.least ∙ sym (same_found a b alike input) ∙ h.none))
  one_answer input can x y next other (by_refusal h) (by_recording i) =
      let left = h.recording.ends.2 in
      let right = i.recording.exits.2 in
      absurd cc
  one_answer input can x y next other (by_refusal h) (by_refusal i) =
      let left = h.recording.ends.2 in
      let right = i.recording.ends.2 in
      let why : h.refusal ≡ i.refusal = cc in
      record {
        same = same_answer x y (h.kind ∙ ap (λ (r : Refusal). kind_of r) why ∙ sym i.kind)
            (h.recording.printed ∙ ap (λ (z : State). z.printed) (h.recording.ends.1 ∙ sym i.recording.ends.1) ∙ sym i.recording.printed) (h.ends ∙ sym i.ends);
        kept = subst (λ (k : Kept EntryParts). AlikeKept k other) (sym h.stays) (subst (λ (k : Kept EntryParts). AlikeKept a k) (sym i.stays) alike);
      }
  one_answer input can x y next other (by_refusal h) (by_untested i) = absurd i.untested
  one_answer input can x y next other (by_untested h) i = absurd h.untested

  one_line : (line : Option (List ℤ)) → ((input : List ℤ) → line ≡ Some input → CanRun p input) → (x y : Answer) (next other : Kept EntryParts)
      → AnswersLine entry_admits (runs_by p (rotating quantum)) a line x next → AnswersLine entry_admits (runs_by p (rotating quantum)) b line y other → OneAnswer x y next other
  one_line None can x y next other h i = record {
    same = h.0 ∙ sym i.0;
    kept = subst (λ (k : Kept EntryParts). AlikeKept k other) (sym h.1) (subst (λ (k : Kept EntryParts). AlikeKept a k) (sym i.1) alike);
  }
  one_line (Some input) can x y next other h i = one_answer input (can input refl) x y next other h i

-- ---- sessions

pub one_session : (p : NumberedProgram) (quantum : ℕ) (inputs : List (Option (List ℤ))) → ((input : List ℤ) → Contains inputs (Some input) → CanRun p input) → (a b : Kept EntryParts)
    → AlikeKept a b → (xs ys : List Answer) (last other : Kept EntryParts) → AnswersAll entry_admits (runs_by p (rotating quantum)) a inputs xs last
    → AnswersAll entry_admits (runs_by p (rotating quantum)) b inputs ys other → xs ≡ ys
one_session p quantum [] can a b alike xs ys last other h i = h.0 ∙ sym i.0
one_session p quantum (line ∷ inputs) can a b alike xs ys last other h i =
    let first = one_line p quantum a b alike line (λ input e. can input (0, omega arith, e)) h.first i.first h.next i.next h.is_first i.is_first in
    let rest = one_session p quantum inputs (λ input c. can input (Contains-append_right (line ∷ []) inputs (Some input) c)) h.next i.next first.kept h.rest i.rest last other h.are_rest i.are_rest in
    h.all ∙ ap (λ (x : Answer). x ∷ h.rest) first.same ∙ ap (λ (l : List Answer). i.first ∷ l) rest ∙ sym i.all

alike_itself : (es : List EntryParts) → AlikeLists es es
alike_itself [] = tt
alike_itself (e ∷ es) = (record { input = refl; schedule = refl; races = refl; admitted = λ input. refl }, alike_itself es)

pub kept_alike : (a : Kept EntryParts) → AlikeKept a a
kept_alike a = record { size = refl; inserted = refl; values = alike_itself a.values }
