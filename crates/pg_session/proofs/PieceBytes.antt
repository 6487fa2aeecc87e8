-- A session, byte by byte of a piece.
use Rattle.std.proofs.Common.{◌≡◌, ℕ, ℤ, ◌+◌, ◌<◌, ◌≤◌, Bool, List, [], ◌∷◌, ◌++◌, length, get_or, take, drop, sym, ap, ◌∙◌, subst, arith, Option}
use Rattle.std.proofs.Common.{add-one, length-take, take-append-drop, take-suc}
use Rattle.std.proofs.lemmas.List.{length-map}
use Rattle.pg_cache.specs.Kept.{Kept}
use Rattle.pg_num.specs.declared.limits.TheConstants.{LINE_LIMIT}
use Rattle.pg_session_texts.specs.declared.forms.ReplyForm.{ReplyForm}
use Rattle.pg_session.specs.Counts.{Told}
use Rattle.pg_session.specs.Lines.{input_of}
use Rattle.pg_session.specs.Progress.{Answered, CutShort, Stands, begun_after, ended_after, inputs_after, keep}
use Rattle.pg_session.specs.Sessions.{Runs}
use Rattle.pg_session.proofs.KeptEntries.{grows_all, stands_all}
use Rattle.pg_session.proofs.SessionSteps.{answered_then, begun_end, begun_keep, cut_more, cut_none, cut_then, few_end, inputs_end, inputs_keep, inputs_more}

-- the next byte of a piece stands behind those before it
next-byte : (piece : List ℕ) (i d : ℕ) → i < length piece → take (i + 1) piece ≡ take i piece ++ get_or piece i d ∷ []
next-byte piece i d lt = rw add-one (take-suc piece i d lt)

pub begun_ended : (begun piece : List ℕ) (i d : ℕ) → i < length piece → get_or piece i d ≡ 10 → begun_after begun (take (i + 1) piece) ≡ []
begun_ended begun piece i d lt ten = ap (begun_after begun) (next-byte piece i d lt) ∙ begun_end begun (take i piece) (get_or piece i d) ten

pub begun_longer : (begun line piece : List ℕ) (i d : ℕ) → i < length piece → (get_or piece i d ≡ 10 → ⊥) → line ≡ begun_after begun (take i piece)
    → keep line (get_or piece i d) ≡ begun_after begun (take (i + 1) piece)
begun_longer begun line piece i d lt other is =
    ap (λ l. keep l (get_or piece i d)) is
    ∙ sym (ap (begun_after begun) (next-byte piece i d lt) ∙ begun_keep begun (take i piece) (get_or piece i d) other)

pub keep_within : (line : List ℕ) (x : ℕ) → length (keep line x) ≤ LINE_LIMIT + 1
keep_within line x = omega (arith, length-take (LINE_LIMIT + 1) (line ++ x ∷ []))

module _ {M : Type 0} {form : ReplyForm} (admits : M → List ℤ → Bool) (runs : Runs M) where
  pub stands_answered : (kept next : Kept M) (inputs : List (Option (List ℤ))) (a b : Told) → Answered form admits runs kept inputs next a b → Stands runs kept → Stands runs next
  stands_answered kept next inputs a b h s = stands_all admits runs kept next inputs h.answers h.session s

  -- no more entries than bytes
  pub inserted_within : (kept next : Kept M) (begun bytes : List ℕ) (a b : Told) → Answered form admits runs kept (inputs_after begun bytes) next a b
      → next.inserted ≤ kept.inserted + length bytes
  inserted_within kept next begun bytes a b h =
      let n = grows_all admits runs kept next (inputs_after begun bytes) h.answers h.session in
      let m = length-map (ended_after begun bytes) input_of in
      let k = few_end begun bytes in
      omega (arith, n, m, k)

  pub line_ends : (others : Runs M) (kept mid last : Kept M) (begun line piece : List ℕ) (i d : ℕ) (a b c : Told) → others ≡ runs → i < length piece
      → get_or piece i d ≡ 10 → line ≡ begun_after begun (take i piece) → Answered form admits runs kept (inputs_after begun (take i piece)) mid a b
      → Answered form admits others mid (input_of line ∷ []) last b c → Answered form admits runs kept (inputs_after begun (take (i + 1) piece)) last a c
  line_ends others kept mid last begun line piece i d a b c same lt ten is h g =
      subst (λ l. Answered form admits runs kept l last a c)
      (sym (ap (inputs_after begun) (next-byte piece i d lt) ∙ inputs_end begun (take i piece) (get_or piece i d) ten))
      (answered_then admits runs kept mid last _ _ a b c h
      (subst (λ l. Answered form admits runs mid (input_of l ∷ []) last b c) is (subst (λ r. Answered form admits r mid (input_of line ∷ []) last b c) same g)))

  pub line_cut : (others : Runs M) (kept mid : Kept M) (begun line piece : List ℕ) (i d : ℕ) (a b : Told) (c : Option (List ℕ)) → others ≡ runs → i < length piece
      → get_or piece i d ≡ 10 → line ≡ begun_after begun (take i piece) → Answered form admits runs kept (inputs_after begun (take i piece)) mid a b
      → CutShort form admits others mid (input_of line ∷ []) b.taken c → CutShort form admits runs kept (inputs_after begun piece) a.taken c
  line_cut others kept mid begun line piece i d a b c same lt ten is h g =
      let whole : inputs_after begun piece
      ≡ (inputs_after begun (take i piece) ++ input_of (begun_after begun (take i piece)) ∷ []) ++ inputs_after (begun_after begun (take (i + 1) piece)) (drop (i + 1) piece) =
      ap (inputs_after begun) (sym (take-append-drop (i + 1) piece)) ∙ inputs_more begun (take (i + 1) piece) (drop (i + 1) piece)
      ∙ ap (λ l. l ++ inputs_after (begun_after begun (take (i + 1) piece)) (drop (i + 1) piece))
      (ap (inputs_after begun) (next-byte piece i d lt) ∙ inputs_end begun (take i piece) (get_or piece i d) ten) in
      subst (λ l. CutShort form admits runs kept l a.taken c) (sym whole) (cut_more admits runs kept _ _ a.taken c (cut_then admits runs kept mid _ _ a b c h
      (subst (λ l. CutShort form admits runs mid (input_of l ∷ []) b.taken c) is (subst (λ r. CutShort form admits r mid (input_of line ∷ []) b.taken c) same g))))

  pub byte_kept : (kept mid : Kept M) (begun piece : List ℕ) (i d : ℕ) (a b : Told) → i < length piece → (get_or piece i d ≡ 10 → ⊥)
      → Answered form admits runs kept (inputs_after begun (take i piece)) mid a b → Answered form admits runs kept (inputs_after begun (take (i + 1) piece)) mid a b
  byte_kept kept mid begun piece i d a b lt other h =
      subst (λ l. Answered form admits runs kept l mid a b)
      (sym (ap (inputs_after begun) (next-byte piece i d lt) ∙ inputs_keep begun (take i piece) (get_or piece i d) other)) h

  pub piece_cut : (kept mid : Kept M) (begun piece : List ℕ) (i : ℕ) (a b : Told) → Answered form admits runs kept (inputs_after begun (take i piece)) mid a b
      → CutShort form admits runs kept (inputs_after begun piece) a.taken b.taken
  piece_cut kept mid begun piece i a b h =
      subst (λ l. CutShort form admits runs kept l a.taken b.taken)
      (sym (ap (inputs_after begun) (sym (take-append-drop i piece)) ∙ inputs_more begun (take i piece) (drop i piece)))
      (cut_then admits runs kept mid _ _ a b b.taken h (cut_none admits runs mid _ b.taken))
