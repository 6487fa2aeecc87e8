-- The entry of a line that is answered by reuse: an earlier line of the session was recorded, and left it.
use Rattle.std.proofs.Common.{◌≡◌, ◌⊎◌, ℕ, ℤ, zero, suc, ◌+◌, ◌<◌, Bool, true, false, cond, List, [], ◌∷◌}
use Rattle.std.proofs.Common.{take, Option, Some, None, refl, sym, ap, ◌∙◌, subst, arith, inl, inr}
use Rattle.std.specs.Prelude.{count_by, slice_get}
use Rattle.std.proofs.lemmas.List.Sums.{sum_by-cons}
use Rattle.pg_cache.specs.Kept.{Kept, value_of}
use Rattle.pg_session.specs.pg_session_texts.declared.reply.EndLine.{EndLine}
use Rattle.pg_session.specs.pg_session_texts.declared.reply.ReplyKind.{ReplyKind}
use Rattle.pg_session.specs.pg_session_texts.declared.reply.ReplyKind.TheVariants.{Recorded, Reused, RefusedLine, RefusedUntested}
use Rattle.pg_go.specs.pg_run.declared.outcome.Refusal.{Refusal}
use Rattle.pg_go.specs.pg_run.declared.outcome.Refusal.TheVariants as refusals
use Rattle.pg_session.specs.pg_session_texts.Replies.{kind_of}
use Rattle.pg_session.specs.Sessions.{Answer, AnswersAll, AnswersLine, Runs, by_recording, by_refusal, by_reuse, by_untested}
use Rattle.pg_session.specs.Trials.{is_recorded}
use Rattle.pg_session.proofs.KeptEntries.{kept_value}
use Rattle.pg_session_runner.proofs.KeptInsertions.{Fits, fits_with, value_with}

-- ---- answers

abbrev pub told : ReplyKind → List ℕ → EndLine → Answer
told kind output end = record { kind = kind; output = output; end = Some end }

pub told_so : (a : Answer) (kind : ReplyKind) (end : EndLine) → a.kind ≡ kind → a.end ≡ Some end → a ≡ told kind a.output end
told_so a kind end k e =
    ap (λ (n : ReplyKind). record { kind = n; output = a.output; end = a.end }) k
    ∙ ap (λ (o : Option EndLine). record { kind = kind; output = a.output; end = o }) e

abbrev pub is_new : Answer → Bool
is_new a = is_recorded a.kind

same_number : (m n : ℕ) → Path ReplyKind (Reused m) (Reused n) → m ≡ n
same_number m n e = cc

not_recorded : (m n : ℕ) → Path ReplyKind (Recorded m) (Reused n) → ⊥
not_recorded m n e = absurd cc

not_refused : (r : Refusal) (n : ℕ) → kind_of r ≡ Reused n → ⊥
not_refused (refusals.Trap name id) n e = absurd cc
not_refused refusals.Budget n e = absurd cc

not_no_input : (n : ℕ) → Path ReplyKind RefusedLine (Reused n) → ⊥
not_no_input n e = absurd cc

not_untested : (n : ℕ) → Path ReplyKind RefusedUntested (Reused n) → ⊥
not_untested n e = absurd cc

refused_is_old : (r : Refusal) → is_recorded (kind_of r) ≡ false
refused_is_old (refusals.Trap name id) = refl
refused_is_old refusals.Budget = refl

pub same_value : {V : Type 0} (x y : V) → Some x ≡ Some y → x ≡ y
same_value x y e = cc

pub none_answered : (answers : List Answer) (line : ℕ) (a : Answer) → answers ≡ [] → slice_get answers line ≡ Some a → ⊥
none_answered [] line a e g = absurd cc
none_answered (b ∷ answers) line a e g = absurd cc

-- ---- what is said of a line

-- this line was this input, and the answer to it was of this kind
pub record Replied (inputs : List (Option (List ℤ))) (answers : List Answer) (line : ℕ) (kind : ReplyKind) : Type 0 where
  pub input : List ℤ
  pub is_input : slice_get inputs line ≡ Some (Some input)
  pub output : List ℕ
  pub end : EndLine
  pub is_answer : slice_get answers line ≡ Some (told kind output end)

-- the same behind one line more
abbrev pub replied_behind : (inputs : List (Option (List ℤ))) (answers : List Answer) (x : Option (List ℤ)) (a : Answer) (line : ℕ) (kind : ReplyKind)
    → Replied inputs answers line kind → Replied (x ∷ inputs) (a ∷ answers) (suc line) kind
replied_behind inputs answers x a line kind r = record { input = r.input; is_input = r.is_input; output = r.output; end = r.end; is_answer = r.is_answer }

module _ {M : Type 0} (admits : M → List ℤ → Bool) (runs : Runs M) where
  -- before this line one of the lines left this entry under this number, where so many were inserted before the first line
  pub record Made (from : ℕ) (inputs : List (Option (List ℤ))) (answers : List Answer) (line number : ℕ) (entry : M) : Type 0 where
    pub earlier : ℕ
    pub before : earlier < line
    pub reply : Replied inputs answers earlier (Recorded number)
    pub numbered : number ≡ from + count_by is_new (take earlier answers)
    pub recording : runs.recorded reply.input entry reply.output reply.end

  -- this line was answered by the entry of this number, which was kept before the first line or left by one of them
  pub record Reuses (kept : Kept M) (inputs : List (Option (List ℤ))) (answers : List Answer) (line number : ℕ) : Type 0 where
    pub reply : Replied inputs answers line (Reused number)
    pub entry : M
    pub admitted : admits entry reply.input ≡ true
    pub run : runs.along entry reply.input reply.output reply.end
    pub origin : (value_of kept number ≡ Some entry) ⊎ Made kept.inserted inputs answers line number entry

  -- a line left this entry under this number
  record Leaves (kept : Kept M) (x : Option (List ℤ)) (a : Answer) (number : ℕ) (entry : M) : Type 0 where
    input : List ℤ
    is_input : x ≡ Some input
    end : EndLine
    is_answer : a ≡ told (Recorded number) a.output end
    numbered : number ≡ kept.inserted
    recording : runs.recorded input entry a.output end

  -- ---- one line

  first : (kept next : Kept M) (x : Option (List ℤ)) (xs : List (Option (List ℤ))) (a : Answer) (rest : List Answer) (number : ℕ)
      → AnswersLine admits runs kept x a next → a.kind ≡ Reused number → Reuses kept (x ∷ xs) (a ∷ rest) 0 number
  first kept next None xs a rest number h k = absurd (not_no_input number (ap (λ (b : Answer). b.kind) (sym h.0) ∙ k))
  first kept next (Some input) xs a rest number (by_reuse h) k =
      let v = kept_value admits kept input h.number h.least in
      let same : v.value ≡ h.entry = same_value v.value h.entry (sym v.is_value ∙ h.is_kept) in
      let n : h.number ≡ number = same_number h.number number (sym h.kind ∙ k) in
      record {
        reply = record { input = input; is_input = refl; output = a.output; end = h.end; is_answer = ap (λ (b : Answer). Some b) (told_so a (Reused number) h.end k h.ends) };
        entry = h.entry;
        admitted = ap (λ (m : M). admits m input) (sym same) ∙ v.admitted;
        run = h.run;
        origin = inl (ap (value_of kept) (sym n) ∙ h.is_kept);
      }
  first kept next (Some input) xs a rest number (by_recording h) k = absurd (not_recorded kept.inserted number (sym h.kind ∙ k))
  first kept next (Some input) xs a rest number (by_refusal h) k = absurd (not_refused h.refusal number (sym h.kind ∙ k))
  first kept next (Some input) xs a rest number (by_untested h) k = absurd (not_untested number (sym h.kind ∙ k))

  -- a value that is kept then was kept before, or is left by the line
  left : (kept next : Kept M) (x : Option (List ℤ)) (a : Answer) (number : ℕ) (entry : M) → Fits kept → AnswersLine admits runs kept x a next
      → value_of next number ≡ Some entry → (value_of kept number ≡ Some entry) ⊎ Leaves kept x a number entry
  left kept next None a number entry f h e = inl (ap (λ (c : Kept M). value_of c number) (sym h.1) ∙ e)
  left kept next (Some input) a number entry f (by_reuse h) e = inl (ap (λ (c : Kept M). value_of c number) (sym h.stays) ∙ e)
  left kept next (Some input) a number entry f (by_recording h) e = go (value_with h.entry kept f number entry (ap (λ (c : Kept M). value_of c number) (sym h.grows) ∙ e))
    where
      go : (value_of kept number ≡ Some entry) ⊎ ((number ≡ kept.inserted) × (entry ≡ h.entry)) → (value_of kept number ≡ Some entry) ⊎ Leaves kept (Some input) a number entry
      go (inl v) = inl v
      go (inr v) = inr (record {
        input = input;
        is_input = refl;
        end = h.end;
        is_answer = told_so a (Recorded number) h.end (h.kind ∙ ap (λ (n : ℕ). Recorded n) (sym v.0)) h.ends;
        numbered = v.0;
        recording = subst (λ (m : M). runs.recorded input m a.output h.end) (sym v.1) h.recording;
      })
  left kept next (Some input) a number entry f (by_refusal h) e = inl (ap (λ (c : Kept M). value_of c number) (sym h.stays) ∙ e)
  left kept next (Some input) a number entry f (by_untested h) e = inl (ap (λ (c : Kept M). value_of c number) (sym h.stays) ∙ e)

  fits_line : (kept next : Kept M) (x : Option (List ℤ)) (a : Answer) → Fits kept → AnswersLine admits runs kept x a next → Fits next
  fits_line kept next None a f h = subst Fits (sym h.1) f
  fits_line kept next (Some input) a f (by_reuse h) = subst Fits (sym h.stays) f
  fits_line kept next (Some input) a f (by_recording h) = subst Fits (sym h.grows) (fits_with h.entry kept f)
  fits_line kept next (Some input) a f (by_refusal h) = subst Fits (sym h.stays) f
  fits_line kept next (Some input) a f (by_untested h) = subst Fits (sym h.stays) f

  -- a line that was recorded, and no other, inserts an entry
  pub inserts : (kept next : Kept M) (x : Option (List ℤ)) (a : Answer) → AnswersLine admits runs kept x a next → next.inserted ≡ kept.inserted + cond (is_new a) 1 0
  inserts kept next None a h =
      let new : is_new a ≡ false = ap is_new h.0 in
      let e = ap (λ (c : Kept M). c.inserted) h.1 in
      rw new (omega (arith, e))
  inserts kept next (Some input) a (by_reuse h) =
      let new : is_new a ≡ false = ap is_recorded h.kind in
      let e = ap (λ (c : Kept M). c.inserted) h.stays in
      rw new (omega (arith, e))
  inserts kept next (Some input) a (by_recording h) =
      let new : is_new a ≡ true = ap is_recorded h.kind in
      let e = ap (λ (c : Kept M). c.inserted) h.grows in
      rw new (omega (arith, e))
  inserts kept next (Some input) a (by_refusal h) =
      let new : is_new a ≡ false = ap is_recorded h.kind ∙ refused_is_old h.refusal in
      let e = ap (λ (c : Kept M). c.inserted) h.stays in
      rw new (omega (arith, e))
  inserts kept next (Some input) a (by_untested h) =
      let new : is_new a ≡ false = ap is_recorded h.kind in
      let e = ap (λ (c : Kept M). c.inserted) h.stays in
      rw new (omega (arith, e))

  later : (kept next : Kept M) (x : Option (List ℤ)) (xs : List (Option (List ℤ))) (a : Answer) (rest : List Answer) (line number : ℕ)
      → Fits kept → AnswersLine admits runs kept x a next → Reuses next xs rest line number → Reuses kept (x ∷ xs) (a ∷ rest) (suc line) number
  later kept next x xs a rest line number f h r = record {
    reply = replied_behind xs rest x a line (Reused number) r.reply;
    entry = r.entry;
    admitted = r.admitted;
    run = r.run;
    origin = go r.origin;
  }
    where
      by : (value_of kept number ≡ Some r.entry) ⊎ Leaves kept x a number r.entry
          → (value_of kept number ≡ Some r.entry) ⊎ Made kept.inserted (x ∷ xs) (a ∷ rest) (suc line) number r.entry
      by (inl v) = inl v
      by (inr l) = inr (record {
        earlier = 0;
        before = omega arith;
        reply = record {
          input = l.input;
          is_input = ap (λ (i : Option (List ℤ)). Some i) l.is_input;
          output = a.output;
          end = l.end;
          is_answer = ap (λ (b : Answer). Some b) l.is_answer;
        };
        numbered = let n = l.numbered in omega (arith, n);
        recording = l.recording;
      })

      go : (value_of next number ≡ Some r.entry) ⊎ Made next.inserted xs rest line number r.entry
          → (value_of kept number ≡ Some r.entry) ⊎ Made kept.inserted (x ∷ xs) (a ∷ rest) (suc line) number r.entry
      go (inl v) = by (left kept next x a number r.entry f h v)
      go (inr m) = inr (record {
        earlier = suc m.earlier;
        before = let b = m.before in omega (arith, b);
        reply = replied_behind xs rest x a m.earlier (Recorded number) m.reply;
        numbered = let n = m.numbered in let i = inserts kept next x a h in let k = sum_by-cons (λ (b : Answer). cond (is_new b) 1 0) a (take m.earlier rest) in omega (arith, n, i, k);
        recording = m.recording;
      })

  -- ---- all lines

  pub reuses : (kept last : Kept M) (inputs : List (Option (List ℤ))) (answers : List Answer) → Fits kept → AnswersAll admits runs kept inputs answers last
      → (line number : ℕ) (a : Answer) → slice_get answers line ≡ Some a → a.kind ≡ Reused number → Reuses kept inputs answers line number
  reuses kept last [] answers f h line number a g k = absurd (none_answered answers line a h.0 g)
  reuses kept last (x ∷ xs) answers f h zero number a g k =
      let same : h.first ≡ a = same_value h.first a (ap (λ (l : List Answer). slice_get l 0) (sym h.all) ∙ g) in
      subst (λ (l : List Answer). Reuses kept (x ∷ xs) l 0 number) (sym h.all) (first kept h.next x xs h.first h.rest number h.is_first (ap (λ (b : Answer). b.kind) same ∙ k))
  reuses kept last (x ∷ xs) answers f h (suc line) number a g k =
      let there : slice_get h.rest line ≡ Some a = ap (λ (l : List Answer). slice_get l (suc line)) (sym h.all) ∙ g in
      subst (λ (l : List Answer). Reuses kept (x ∷ xs) l (suc line) number) (sym h.all)
      (later kept h.next x xs h.first h.rest line number f h.is_first (reuses h.next last xs h.rest (fits_line kept h.next x h.first f h.is_first) h.are_rest line number a there k))
