-- A session over a source: the bytes that it took so far.
use Rattle.std.proofs.Common.{◌≡◌, ℕ, ℤ, ◌+◌, ◌≤◌, Bool, true, false, List, [], ◌++◌, length, length-take, take, refl, sym, ap, ◌∙◌, subst, arith, Ok, IsErrOf}
use Rattle.std.proofs.Common.{Option, Some, None, is_some, append-nil, length-append, length-take-le, ◌⊎◌, inl, inr}
use Rattle.std.specs.Io.KnownBytes.{Consumes, IsAtEnd, Keeps}
use Rattle.pg_io.specs.Streams.{TakesAtMost}
use Rattle.pg_io.proofs.Known.{consumes-append}
use Rattle.pg_cache.specs.Kept.{Kept}
use Rattle.pg_num.specs.declared.limits.TheConstants.{LINE_LIMIT, SESSION_INPUT_LIMIT}
use Rattle.pg_session_texts.specs.declared.forms.ReplyForm.{ReplyForm}
use Rattle.pg_session.specs.Counts.{Told}
use Rattle.pg_session.specs.Lines.{begun_behind}
use Rattle.pg_session.specs.Progress.{Answered, CutShort, HasAnswered, HasCut, HasTaken, Stands, begun_after, inputs_after}
use Rattle.pg_session.specs.Sessions.{Runs}
use Rattle.pg_session.proofs.PieceBytes.{inserted_within, stands_answered}
use Rattle.pg_session.proofs.SessionSteps.{answered_none, answered_then, begun_kept, begun_more, cut_then, inputs_more}

-- there is no fault at an `Ok`
pub not-fault : {T E P : Type 0} (x : T) (fault : E) → IsErrOf (Ok x) fault ⊎ P → P
not-fault x fault (inl e) = absurd cc
not-fault x fault (inr p) = p

consumes_none : (a : Option (List ℕ)) → Consumes a a []
consumes_none None = tt
consumes_none (Some xs) = refl

consumes_kept : (a b c : Option (List ℕ)) (bytes : List ℕ) → Consumes a b bytes → Keeps b c → Consumes a c bytes
consumes_kept None b c bytes h k = tt
consumes_kept (Some xs) None c bytes h k = absurd h
consumes_kept (Some xs) (Some ys) None bytes h k = absurd k
consumes_kept (Some xs) (Some ys) (Some zs) bytes h k = h ∙ ap (λ l. bytes ++ l) (sym k)

pub none_taken : (a b : Option (List ℕ)) (n : ℕ) (buf : List ℕ) → n ≡ 0 → Consumes a b (take n buf) → Consumes a b []
none_taken a b n buf e h = subst (λ k. Consumes a b (take k buf)) e h

at_end_after : (b c : Option (List ℕ)) → IsAtEnd b → is_some c ≡ is_some b → Consumes b c [] → IsAtEnd c
at_end_after None None e t h = tt
at_end_after None (Some zs) e t h = absurd cc
at_end_after (Some ys) None e t h = absurd h
at_end_after (Some ys) (Some zs) e t h = sym h ∙ e

-- these bytes were taken, and the lines that end in them were answered; this one has begun
pub record SoFar {M : Type 0} (form : ReplyForm) (admits : M → List ℤ → Bool) (runs : Runs M) (first : Kept M) (left rest : Option (List ℕ)) (before after : Told) (kept : Kept M) (line : List ℕ) (taken : ℕ) : Type 0 where
  pub bytes : List ℕ
  pub consumed : Consumes left rest bytes
  pub count : length bytes ≡ taken
  pub answered : Answered form admits runs first (inputs_after [] bytes) kept before after
  pub begun : line ≡ begun_after [] bytes

module _ {M : Type 0} {form : ReplyForm} (admits : M → List ℤ → Bool) (runs : Runs M) (first : Kept M) where
  pub far_begin : (left : Option (List ℕ)) (before : Told) (kept : Kept M) (line : List ℕ) → kept ≡ first → line ≡ [] → SoFar form admits runs first left left before before kept line 0
  far_begin left before kept line e is = record {
    bytes = [];
    consumed = consumes_none left;
    count = refl;
    answered = subst (λ k. Answered form admits runs first [] k before before) (sym e) (answered_none admits runs first before);
    begun = is;
  }

  pub far_more : (others : Runs M) (left rest next : Option (List ℕ)) (before mid after : Told) (kept new : Kept M) (line now : List ℕ) (taken n : ℕ) (piece buf : List ℕ)
      → others ≡ runs → n ≤ length buf → SoFar form admits runs first left rest before mid kept line taken → Consumes rest next (take n buf)
      → Answered form admits others kept (inputs_after line piece) new mid after → now ≡ begun_after line piece → piece ≡ take n buf
      → SoFar form admits runs first left next before after new now (taken + n)
  far_more others left rest next before mid after kept new line now taken n piece buf same le h eats g b is = record {
    bytes = h.bytes ++ piece;
    consumed = consumes-append left rest next h.bytes piece h.consumed (subst (Consumes rest next) (sym is) eats);
    count = let s = h.count in let l = ap length is ∙ length-take-le n buf le in omega (arith, s, l, length-append h.bytes piece);
    answered = subst (λ l. Answered form admits runs first l new before after) (sym (inputs_more [] h.bytes piece))
        (answered_then admits runs first kept new _ _ before mid after h.answered
        (subst (λ l. Answered form admits runs kept (inputs_after l piece) new mid after) h.begun (subst (λ r. Answered form admits r kept (inputs_after line piece) new mid after) same g)));
    begun = b ∙ ap (λ l. begun_after l piece) h.begun ∙ sym (begun_more [] h.bytes piece);
  }

  pub far_cut : (others : Runs M) (left rest next : Option (List ℕ)) (before mid : Told) (after : Option (List ℕ)) (kept : Kept M) (line : List ℕ) (taken n : ℕ) (piece buf : List ℕ)
      → others ≡ runs → SoFar form admits runs first left rest before mid kept line taken → Consumes rest next (take n buf)
      → CutShort form admits others kept (inputs_after line piece) mid.taken after → piece ≡ take n buf → HasCut form admits runs first left next before.taken after
  far_cut others left rest next before mid after kept line taken n piece buf same h eats g is = record {
    bytes = h.bytes ++ piece;
    consumed = consumes-append left rest next h.bytes piece h.consumed (subst (Consumes rest next) (sym is) eats);
    cut = subst (λ l. CutShort form admits runs first l before.taken after) (sym (inputs_more [] h.bytes piece))
        (cut_then admits runs first kept _ _ before mid after h.answered
        (subst (λ l. CutShort form admits runs kept (inputs_after l piece) mid.taken after) h.begun (subst (λ r. CutShort form admits r kept (inputs_after line piece) mid.taken after) same g)));
  }

  pub far_takes : (left rest next : Option (List ℕ)) (before after : Told) (kept : Kept M) (line : List ℕ) (taken n : ℕ) (buf : List ℕ)
      → SoFar form admits runs first left rest before after kept line taken → Consumes rest next (take n buf) → n ≤ length buf → taken + n ≤ SESSION_INPUT_LIMIT
      → TakesAtMost left next SESSION_INPUT_LIMIT
  far_takes left rest next before after kept line taken n buf h eats le room =
      let s = h.count in
      (h.bytes ++ take n buf, consumes-append left rest next h.bytes (take n buf) h.consumed eats, omega (arith, s, room, length-append h.bytes (take n buf), length-take-le n buf le))

  pub far_read : (left rest next : Option (List ℕ)) (before after : Told) (kept : Kept M) (line : List ℕ) (taken : ℕ) → SoFar form admits runs first left rest before after kept line taken
      → taken ≤ SESSION_INPUT_LIMIT → Keeps rest next → HasAnswered form admits runs first left next before after
  far_read left rest next before after kept line taken h le k = record {
    bytes = h.bytes;
    consumed = consumes_kept left rest next h.bytes h.consumed k;
    within = let s = h.count in omega (arith, s, le);
    kept = kept;
    answered = h.answered;
  }

  pub far_kept : (left rest next : Option (List ℕ)) (before after : Told) (kept : Kept M) (line : List ℕ) (taken : ℕ) → SoFar form admits runs first left rest before after kept line taken
      → taken ≤ SESSION_INPUT_LIMIT → Keeps rest next → TakesAtMost left next SESSION_INPUT_LIMIT
  far_kept left rest next before after kept line taken h le k = let s = h.count in (h.bytes, consumes_kept left rest next h.bytes h.consumed k, omega (arith, s, le))

  -- no more of a line is kept than shows that it is too long
  pub far_line : (left rest : Option (List ℕ)) (before after : Told) (kept : Kept M) (line : List ℕ) (taken : ℕ) → SoFar form admits runs first left rest before after kept line taken
      → length line ≤ LINE_LIMIT + 1
  far_line left rest before after kept line taken h =
      let n = ap length (h.begun ∙ begun_kept h.bytes) in
      omega (arith, n, length-take (LINE_LIMIT + 1) (begun_behind [] h.bytes))

  -- no more entries are kept than bytes were taken
  pub far_few : (left rest : Option (List ℕ)) (before after : Told) (kept : Kept M) (line : List ℕ) (taken : ℕ) → SoFar form admits runs first left rest before after kept line taken → kept.inserted ≤ first.inserted + taken
  far_few left rest before after kept line taken h =
      let n : kept.inserted ≤ first.inserted + length h.bytes = inserted_within admits runs first kept [] h.bytes before after h.answered in
      let s = h.count in
      omega (arith, n, s)

  pub far_stands : (others : Runs M) (left rest : Option (List ℕ)) (before after : Told) (kept : Kept M) (line : List ℕ) (taken : ℕ) → others ≡ runs
      → Stands runs first → SoFar form admits runs first left rest before after kept line taken → Stands others kept
  far_stands others left rest before after kept line taken same s h =
      subst (λ r. Stands r kept) (sym same) (stands_answered admits runs first kept (inputs_after [] h.bytes) before after h.answered s)

  pub far_ended : (left rest next : Option (List ℕ)) (before after : Told) (kept : Kept M) (line : List ℕ) (taken : ℕ) → SoFar form admits runs first left rest before after kept line taken
      → taken ≤ SESSION_INPUT_LIMIT → IsAtEnd rest → is_some next ≡ is_some rest → Consumes rest next [] → HasTaken form admits runs first left next before after kept line true
  far_ended left rest next before after kept line taken h le e t eats = record {
    bytes = h.bytes;
    consumed = subst (Consumes left next) (append-nil h.bytes) (consumes-append left rest next h.bytes [] h.consumed eats);
    within = let s = h.count in omega (arith, s, le);
    at_end = λ _. at_end_after rest next e t eats;
    full = λ x. absurd cc;
    answered = h.answered;
    begun = h.begun;
  }

  pub far_full : (left rest : Option (List ℕ)) (before after : Told) (kept : Kept M) (line : List ℕ) (taken : ℕ) → SoFar form admits runs first left rest before after kept line taken
      → taken ≤ SESSION_INPUT_LIMIT → SESSION_INPUT_LIMIT ≤ taken → HasTaken form admits runs first left rest before after kept line false
  far_full left rest before after kept line taken h le ge = record {
    bytes = h.bytes;
    consumed = h.consumed;
    within = let s = h.count in omega (arith, s, le);
    at_end = λ x. absurd cc;
    full = λ _. let s = h.count in omega (arith, s, le, ge);
    answered = h.answered;
    begun = h.begun;
  }
