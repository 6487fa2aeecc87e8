-- The entry of a line that was recorded.
use Rattle.std.proofs.Common.{◌≡◌, ℕ, ℤ, zero, suc, ◌+◌, Bool, cond, List, [], ◌∷◌, take, Option, Some, None, refl, sym, ap, ◌∙◌, subst, arith}
use Rattle.std.specs.Prelude.{count_by, slice_get}
use Rattle.std.proofs.lemmas.List.Sums.{sum_by-cons}
use Rattle.pg_cache.specs.Kept.{Kept}
use Rattle.pg_session.specs.pg_session_texts.declared.reply.ReplyKind.{ReplyKind}
use Rattle.pg_session.specs.pg_session_texts.declared.reply.ReplyKind.TheVariants.{Recorded, Reused, RefusedLine, RefusedUntested}
use Rattle.pg_go.specs.pg_run.declared.outcome.Refusal.{Refusal}
use Rattle.pg_go.specs.pg_run.declared.outcome.Refusal.TheVariants as refusals
use Rattle.pg_session.specs.pg_session_texts.Replies.{kind_of}
use Rattle.pg_session.specs.Sessions.{Answer, AnswersAll, AnswersLine, Runs, by_recording, by_refusal, by_reuse, by_untested}
use Rattle.pg_session_runner.proofs.ReusedEntries.{Replied, inserts, is_new, none_answered, replied_behind, same_value, told_so}

same_number : (m n : ℕ) → Path ReplyKind (Recorded m) (Recorded n) → m ≡ n
same_number m n e = cc

not_reused : (m n : ℕ) → Path ReplyKind (Reused m) (Recorded n) → ⊥
not_reused m n e = absurd cc

not_refused : (r : Refusal) (n : ℕ) → kind_of r ≡ Recorded n → ⊥
not_refused (refusals.Trap name id) n e = absurd cc
not_refused refusals.Budget n e = absurd cc

not_no_input : (n : ℕ) → Path ReplyKind RefusedLine (Recorded n) → ⊥
not_no_input n e = absurd cc

not_untested : (n : ℕ) → Path ReplyKind RefusedUntested (Recorded n) → ⊥
not_untested n e = absurd cc

module _ {M : Type 0} (admits : M → List ℤ → Bool) (runs : Runs M) where
  -- this line left this entry under this number, where so many were inserted before the first line
  pub record Records (from : ℕ) (inputs : List (Option (List ℤ))) (answers : List Answer) (line number : ℕ) : Type 0 where
    pub reply : Replied inputs answers line (Recorded number)
    pub numbered : number ≡ from + count_by is_new (take line answers)
    pub entry : M
    pub recording : runs.recorded reply.input entry reply.output reply.end

  first : (kept next : Kept M) (x : Option (List ℤ)) (xs : List (Option (List ℤ))) (a : Answer) (rest : List Answer) (number : ℕ)
      → AnswersLine admits runs kept x a next → a.kind ≡ Recorded number → Records kept.inserted (x ∷ xs) (a ∷ rest) 0 number
  first kept next None xs a rest number h k = absurd (not_no_input number (ap (λ (b : Answer). b.kind) (sym h.0) ∙ k))
  first kept next (Some input) xs a rest number (by_reuse h) k = absurd (not_reused h.number number (sym h.kind ∙ k))
  first kept next (Some input) xs a rest number (by_recording h) k =
      let n : kept.inserted ≡ number = same_number kept.inserted number (sym h.kind ∙ k) in
      record {
        reply = record { input = input; is_input = refl; output = a.output; end = h.end; is_answer = ap (λ (b : Answer). Some b) (told_so a (Recorded number) h.end k h.ends) };
        numbered = omega (arith, n);
        entry = h.entry;
        recording = h.recording;
      }
  first kept next (Some input) xs a rest number (by_refusal h) k = absurd (not_refused h.refusal number (sym h.kind ∙ k))
  first kept next (Some input) xs a rest number (by_untested h) k = absurd (not_untested number (sym h.kind ∙ k))

  later : (kept next : Kept M) (x : Option (List ℤ)) (xs : List (Option (List ℤ))) (a : Answer) (rest : List Answer) (line number : ℕ)
      → AnswersLine admits runs kept x a next → Records next.inserted xs rest line number → Records kept.inserted (x ∷ xs) (a ∷ rest) (suc line) number
  later kept next x xs a rest line number h r =
      let n = r.numbered in
      let i = inserts admits runs kept next x a h in
      let k = sum_by-cons (λ (b : Answer). cond (is_new b) 1 0) a (take line rest) in
      record {
        reply = replied_behind xs rest x a line (Recorded number) r.reply;
        numbered = omega (arith, n, i, k);
        entry = r.entry;
        recording = r.recording;
      }

  pub records : (kept last : Kept M) (inputs : List (Option (List ℤ))) (answers : List Answer) → AnswersAll admits runs kept inputs answers last
      → (line number : ℕ) (a : Answer) → slice_get answers line ≡ Some a → a.kind ≡ Recorded number → Records kept.inserted inputs answers line number
  records kept last [] answers h line number a g k = absurd (none_answered answers line a h.0 g)
  records kept last (x ∷ xs) answers h zero number a g k =
      let same : h.first ≡ a = same_value h.first a (ap (λ (l : List Answer). slice_get l 0) (sym h.all) ∙ g) in
      subst (λ (l : List Answer). Records kept.inserted (x ∷ xs) l 0 number) (sym h.all)
      (first kept h.next x xs h.first h.rest number h.is_first (ap (λ (b : Answer). b.kind) same ∙ k))
  records kept last (x ∷ xs) answers h (suc line) number a g k =
      let there : slice_get h.rest line ≡ Some a = ap (λ (l : List Answer). slice_get l (suc line)) (sym h.all) ∙ g in
      subst (λ (l : List Answer). Records kept.inserted (x ∷ xs) l (suc line) number) (sym h.all)
      (later kept h.next x xs h.first h.rest line number h.is_first (records h.next last xs h.rest h.are_rest line number a there k))
