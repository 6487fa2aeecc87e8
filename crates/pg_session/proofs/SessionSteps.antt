-- A session, step by step.
use Rattle.std.proofs.Common.{◌≡◌, Result, Ok, Err, OnErr, ℕ, ℤ, zero, suc, ◌+◌, ◌-◌, ◌^◌, ◌<◌, ◌≤◌, ◌⊎◌, inl, inr, Bool, true, false, cond, List, [], ◌∷◌, ◌++◌, length, take, map}
use Rattle.std.proofs.Common.{refl, sym, ap, ◌∙◌, subst, arith, Option, Some, None, length-append, append-nil}
use Rattle.std.specs.Prelude.{◌==◌, flat_map, nat_le}
use Rattle.std.specs.Io.KnownBytes.{Appends}
use Rattle.std.proofs.Math.Seq.{take-append-add, take-append_seam}
use Rattle.std.proofs.lemmas.Bool.{leb-true, leb-false}
use Rattle.std.proofs.lemmas.Grind.{flat_map-append}
use Rattle.std.proofs.lemmas.List.{map-append, take-append-le}
use Rattle.std.proofs.lemmas.List.Sums.{sum_by-append}
use Rattle.pg_io.specs.Streams.{AppendsFront}
use Rattle.pg_io.proofs.Known.{appends-append}
use Rattle.pg_cache.specs.Kept.{Kept}
use Rattle.pg_num.specs.declared.limits.TheConstants.{LINE_LIMIT}
use Rattle.pg_session_texts.specs.declared.forms.ReplyForm.{ReplyForm}
use Rattle.pg_session.specs.Lines.{begun_behind, ended_behind, input_of}
use Rattle.pg_session.specs.Counts.{AreCounted, Counts, RoseBy, Told, is_of_recording, reused_turns}
use Rattle.pg_session.specs.Progress.{Answered, CutShort, IsReplyTo, begun_after, ended_after, inputs_after, keep}
use Rattle.pg_session.specs.Sessions.{Answer, AnswersAll, AnswersLine, Runs, answer_text}

-- what holds anyway holds where there is an error
pub on_any_err : {T E P : Type 0} (r : Result T E) → P → OnErr r P
on_any_err (Ok a) p = tt
on_any_err (Err e) p = p

-- ---- counts

rose_none : (n : ℕ) → RoseBy 0 n n
rose_none n = record { stays = omega arith; rose = inl (omega arith) }

pub rose_then : (i j a b c : ℕ) → RoseBy i a b → RoseBy j b c → RoseBy (i + j) a c
rose_then i j a b c h g = record { stays = omega (arith, h.stays, g.stays); rose = go h.rose g.rose }
  where
    go : (a + i ≤ b) ⊎ (2 ^ 64 - 1 ≤ b) → (b + j ≤ c) ⊎ (2 ^ 64 - 1 ≤ c) → (a + (i + j) ≤ c) ⊎ (2 ^ 64 - 1 ≤ c)
    go k (inr m) = inr m
    go (inl k) (inl m) = inl (omega (arith, k, m))
    go (inr k) (inl m) = inr (omega (arith, k, g.stays))

pub counted_none : (counts : Counts) → AreCounted [] counts counts
counted_none counts = record { turns_rose = rose_none counts.turns; recordings_rose = rose_none counts.recordings }

-- what is counted of answers, and then of others
pub counted_then : (xs ys : List Answer) (a b c : Counts) → AreCounted xs a b → AreCounted ys b c → AreCounted (xs ++ ys) a c
counted_then xs ys a b c h g = record {
  turns_rose = subst (λ n. RoseBy n a.turns c.turns) (sym (sum_by-append reused_turns xs ys)) (rose_then _ _ a.turns b.turns c.turns h.turns_rose g.turns_rose);
  recordings_rose = subst (λ n. RoseBy n a.recordings c.recordings) (sym (sum_by-append (λ (x : Answer). cond (is_of_recording x.kind) 1 0) xs ys))
      (rose_then _ _ a.recordings b.recordings c.recordings h.recordings_rose g.recordings_rose);
}

module _ {M : Type 0} (admits : M → List ℤ → Bool) (runs : Runs M) where
  -- lines, and then others
  answers_append : (kept : Kept M) (xs ys : List (Option (List ℤ))) (cs bs : List Answer) (mid last : Kept M)
      → AnswersAll admits runs kept xs cs mid → AnswersAll admits runs mid ys bs last → AnswersAll admits runs kept (xs ++ ys) (cs ++ bs) last
  answers_append kept [] ys cs bs mid last h g =
      subst (λ l. AnswersAll admits runs kept ys (l ++ bs) last) (sym h.0) (subst (λ k. AnswersAll admits runs k ys bs last) h.1 g)
  answers_append kept (x ∷ xs) ys cs bs mid last h g = record {
    first = h.first;
    next = h.next;
    rest = h.rest ++ bs;
    all = ap (λ l. l ++ bs) h.all;
    is_first = h.is_first;
    are_rest = answers_append h.next xs ys h.rest bs mid last h.are_rest g;
  }

  answers_one : (kept : Kept M) (x : Option (List ℤ)) (a : Answer) (next : Kept M) → AnswersLine admits runs kept x a next → AnswersAll admits runs kept (x ∷ []) (a ∷ []) next
  answers_one kept x a next h = record { first = a; next = next; rest = []; all = refl; is_first = h; are_rest = (refl, refl) }

-- what a sink tells stays where nothing is written
appends_none : (told : Option (List ℕ)) → Appends told told []
appends_none None = tt
appends_none (Some bytes) = sym (append-nil bytes)

one-text : (form : ReplyForm) (a : Answer) → flat_map (answer_text form) (a ∷ []) ≡ answer_text form a
one-text form a = append-nil (answer_text form a)

module _ {M : Type 0} {form : ReplyForm} (admits : M → List ℤ → Bool) (runs : Runs M) where
  pub answered_none : (kept : Kept M) (told : Told) → Answered form admits runs kept [] kept told told
  answered_none kept told = record { answers = []; session = (refl, refl); written = appends_none told.taken; counted = counted_none told.counts }

  pub answered_one : (kept : Kept M) (x : Option (List ℤ)) (a : Answer) (next : Kept M) (old new : Told) → AnswersLine admits runs kept x a next
      → Appends old.taken new.taken (answer_text form a) → AreCounted (a ∷ []) old.counts new.counts → Answered form admits runs kept (x ∷ []) next old new
  answered_one kept x a next old new h w n =
      record { answers = a ∷ []; session = answers_one admits runs kept x a next h; written = subst (Appends old.taken new.taken) (sym (one-text form a)) w; counted = n }

  pub answered_then : (kept mid last : Kept M) (xs ys : List (Option (List ℤ))) (a b c : Told)
      → Answered form admits runs kept xs mid a b → Answered form admits runs mid ys last b c → Answered form admits runs kept (xs ++ ys) last a c
  answered_then kept mid last xs ys a b c h g = record {
    answers = h.answers ++ g.answers;
    session = answers_append admits runs kept xs ys h.answers g.answers mid last h.session g.session;
    written = subst (Appends a.taken c.taken) (sym (flat_map-append (answer_text form) h.answers g.answers)) (appends-append a.taken b.taken c.taken _ _ h.written g.written);
    counted = counted_then h.answers g.answers a.counts b.counts c.counts h.counted g.counted;
  }

  pub cut_none : (kept : Kept M) (xs : List (Option (List ℤ))) (told : Option (List ℕ)) → CutShort form admits runs kept xs told told
  cut_none kept xs told = record { count = 0; within = omega arith; answers = []; next = kept; session = (refl, refl); written = (0, appends_none told) }

  pub cut_one : (kept : Kept M) (x : Option (List ℤ)) (a : Answer) (next : Kept M) (old new : Option (List ℕ)) → AnswersLine admits runs kept x a next
      → AppendsFront old new (answer_text form a) → CutShort form admits runs kept (x ∷ []) old new
  cut_one kept x a next old new h w = record {
    count = 1;
    within = omega arith;
    answers = a ∷ [];
    next = next;
    session = answers_one admits runs kept x a next h;
    written = subst (AppendsFront old new) (sym (one-text form a)) w;
  }

  pub cut_then : (kept mid : Kept M) (xs ys : List (Option (List ℤ))) (a b : Told) (c : Option (List ℕ))
      → Answered form admits runs kept xs mid a b → CutShort form admits runs mid ys b.taken c → CutShort form admits runs kept (xs ++ ys) a.taken c
  cut_then kept mid xs ys a b c h g = record {
    count = length xs + g.count;
    within = omega (arith, g.within, length-append xs ys);
    answers = h.answers ++ g.answers;
    next = g.next;
    session = subst (λ l. AnswersAll admits runs kept l (h.answers ++ g.answers) g.next) (sym (take-append-add xs ys g.count))
        (answers_append admits runs kept xs (take g.count ys) h.answers g.answers mid g.next h.session g.session);
    written = (
      length (flat_map (answer_text form) h.answers) + g.written.0,
      subst (Appends a.taken c) (sym (ap (take (length (flat_map (answer_text form) h.answers) + g.written.0)) (flat_map-append (answer_text form) h.answers g.answers)
          ∙ take-append-add (flat_map (answer_text form) h.answers) (flat_map (answer_text form) g.answers) g.written.0))
          (appends-append a.taken b.taken c _ _ h.written g.written.1),
    );
  }

  pub cut_more : (kept : Kept M) (xs ys : List (Option (List ℤ))) (a c : Option (List ℕ)) → CutShort form admits runs kept xs a c → CutShort form admits runs kept (xs ++ ys) a c
  cut_more kept xs ys a c g = record {
    count = g.count;
    within = omega (arith, g.within, length-append xs ys);
    answers = g.answers;
    next = g.next;
    session = subst (λ l. AnswersAll admits runs kept l g.answers g.next) (sym (take-append-le g.count xs ys g.within)) g.session;
    written = g.written;
  }

  -- the reply to a line was written, or a front of it
  pub answered_reply : (kept : Kept M) (line seen : List ℕ) (next : Kept M) (text sent : List ℕ) (old new : Told) → seen ≡ line → sent ≡ text
      → IsReplyTo form admits runs kept seen next text old.counts new.counts → Appends old.taken new.taken sent → Answered form admits runs kept (input_of line ∷ []) next old new
  answered_reply kept line seen next text sent old new is same r w =
      answered_one kept (input_of line) r.answer next old new (subst (λ l. AnswersLine admits runs kept (input_of l) r.answer next) is r.answered)
      (subst (Appends old.taken new.taken) (same ∙ r.whole) w) r.counted

  pub cut_reply : (kept : Kept M) (line seen : List ℕ) (next : Kept M) (text sent : List ℕ) (old new : Option (List ℕ)) (before after : Counts) → seen ≡ line → sent ≡ text
      → IsReplyTo form admits runs kept seen next text before after → AppendsFront old new sent → CutShort form admits runs kept (input_of line ∷ []) old new
  cut_reply kept line seen next text sent old new before after is same r w =
      cut_one kept (input_of line) r.answer next old new (subst (λ l. AnswersLine admits runs kept (input_of l) r.answer next) is r.answered)
      (subst (AppendsFront old new) (same ∙ r.whole) w)

-- ---- lines that end in bytes, and then in others

pub ended_more : (begun xs ys : List ℕ) → ended_after begun (xs ++ ys) ≡ ended_after begun xs ++ ended_after (begun_after begun xs) ys
ended_more begun [] ys = refl
ended_more begun (x ∷ xs) ys = go (x == 10) (ended_more [] xs ys) (ended_more (keep begun x) xs ys)
  where
    go : (b : Bool) → ended_after [] (xs ++ ys) ≡ ended_after [] xs ++ ended_after (begun_after [] xs) ys
        → ended_after (keep begun x) (xs ++ ys) ≡ ended_after (keep begun x) xs ++ ended_after (begun_after (keep begun x) xs) ys
        → cond b (begun ∷ ended_after [] (xs ++ ys)) (ended_after (keep begun x) (xs ++ ys))
        ≡ cond b (begun ∷ ended_after [] xs) (ended_after (keep begun x) xs) ++ ended_after (cond b (begun_after [] xs) (begun_after (keep begun x) xs)) ys
    go true ended begins = ap (λ l. begun ∷ l) ended
    go false ended begins = begins

pub begun_more : (begun xs ys : List ℕ) → begun_after begun (xs ++ ys) ≡ begun_after (begun_after begun xs) ys
begun_more begun [] ys = refl
begun_more begun (x ∷ xs) ys = go (x == 10) (begun_more [] xs ys) (begun_more (keep begun x) xs ys)
  where
    go : (b : Bool) → begun_after [] (xs ++ ys) ≡ begun_after (begun_after [] xs) ys
        → begun_after (keep begun x) (xs ++ ys) ≡ begun_after (begun_after (keep begun x) xs) ys
        → cond b (begun_after [] (xs ++ ys)) (begun_after (keep begun x) (xs ++ ys)) ≡ begun_after (cond b (begun_after [] xs) (begun_after (keep begun x) xs)) ys
    go true ended begins = ended
    go false ended begins = begins

pub inputs_more : (begun xs ys : List ℕ) → inputs_after begun (xs ++ ys) ≡ inputs_after begun xs ++ inputs_after (begun_after begun xs) ys
inputs_more begun xs ys = ap (map input_of) (ended_more begun xs ys) ∙ map-append input_of (ended_after begun xs) (ended_after (begun_after begun xs) ys)

-- no more lines end than there are bytes
pub few_end : (begun xs : List ℕ) → length (ended_after begun xs) ≤ length xs
few_end begun [] = omega arith
few_end begun (x ∷ xs) = go (x == 10) (few_end [] xs) (few_end (keep begun x) xs)
  where
    go : (b : Bool) → length (ended_after [] xs) ≤ length xs → length (ended_after (keep begun x) xs) ≤ length xs
        → length (cond b (begun ∷ ended_after [] xs) (ended_after (keep begun x) xs)) ≤ suc (length xs)
    go true ended begins = omega (arith, ended)
    go false ended begins = omega (arith, begins)

-- ---- of a line that is too long its first bytes tell as much

take-cut : (n : ℕ) (xs ys : List ℕ) → take n (take n xs ++ ys) ≡ take n (xs ++ ys)
take-cut zero xs ys = refl
take-cut (suc n) [] ys = refl
take-cut (suc n) (x ∷ xs) ys = ap (λ l. x ∷ l) (take-cut n xs ys)

length-cut : (n : ℕ) (xs : List ℕ) → length xs ≤ n → take n xs ≡ xs
length-cut zero [] h = refl
length-cut zero (x ∷ xs) h = absurd (omega (arith, h))
length-cut (suc n) [] h = refl
length-cut (suc n) (x ∷ xs) h = ap (λ l. x ∷ l) (length-cut n xs (omega (arith, h)))

long-cut : (n : ℕ) (xs : List ℕ) → n ≤ length xs → length (take n xs) ≡ n
long-cut zero xs h = refl
long-cut (suc n) [] h = absurd (omega (arith, h))
long-cut (suc n) (x ∷ xs) h = ap suc (long-cut n xs (omega (arith, h)))

no-input : (line : List ℕ) → nat_le (length line) LINE_LIMIT ≡ false → input_of line ≡ None
no-input line e = rw e refl

-- what is kept of a line is the same input, or none
pub input_cut : (line : List ℕ) → input_of (take (LINE_LIMIT + 1) line) ≡ input_of line
input_cut line = go (nat_le (length line) LINE_LIMIT) refl
  where
    go : (b : Bool) → nat_le (length line) LINE_LIMIT ≡ b → input_of (take (LINE_LIMIT + 1) line) ≡ input_of line
    go true e = let short : length line ≤ LINE_LIMIT + 1 = grind (arith, leb-true (length line) LINE_LIMIT e) in ap input_of (length-cut (LINE_LIMIT + 1) line short)
    go false e =
        let long : LINE_LIMIT + 1 ≤ length line = grind (arith, leb-false (length line) LINE_LIMIT e) in
        let is : length (take (LINE_LIMIT + 1) line) ≡ LINE_LIMIT + 1 = long-cut (LINE_LIMIT + 1) line long in
        no-input (take (LINE_LIMIT + 1) line) (ap (λ n. nat_le n LINE_LIMIT) is) ∙ sym (no-input line e)

keep-cut : (begun : List ℕ) (x : ℕ) → keep (take (LINE_LIMIT + 1) begun) x ≡ take (LINE_LIMIT + 1) (begun ++ x ∷ [])
keep-cut begun x = take-cut (LINE_LIMIT + 1) begun (x ∷ [])

-- the lines that end are the same inputs
inputs-cut : (begun bytes : List ℕ) → map input_of (ended_after (take (LINE_LIMIT + 1) begun) bytes) ≡ map input_of (ended_behind begun bytes)
inputs-cut begun [] = refl
inputs-cut begun (x ∷ xs) = go (x == 10) (inputs-cut [] xs) (inputs-cut (begun ++ x ∷ []) xs)
  where
    go : (b : Bool) → map input_of (ended_after (take (LINE_LIMIT + 1) []) xs) ≡ map input_of (ended_behind [] xs)
        → map input_of (ended_after (take (LINE_LIMIT + 1) (begun ++ x ∷ [])) xs) ≡ map input_of (ended_behind (begun ++ x ∷ []) xs)
        → map input_of (cond b (take (LINE_LIMIT + 1) begun ∷ ended_after [] xs) (ended_after (keep (take (LINE_LIMIT + 1) begun) x) xs))
        ≡ map input_of (cond b (begun ∷ ended_behind [] xs) (ended_behind (begun ++ x ∷ []) xs))
    go true ended begins = ap (λ i. i ∷ map input_of (ended_after [] xs)) (input_cut begun) ∙ ap (λ l. input_of begun ∷ l) ended
    go false ended begins = ap (λ b. map input_of (ended_after b xs)) (keep-cut begun x) ∙ begins

pub inputs_ended : (bytes : List ℕ) → inputs_after [] bytes ≡ map input_of (ended_behind [] bytes)
inputs_ended bytes = inputs-cut [] bytes

-- the line that has begun is kept as far as it tells what input it is
begun-cut : (begun bytes : List ℕ) → begun_after (take (LINE_LIMIT + 1) begun) bytes ≡ take (LINE_LIMIT + 1) (begun_behind begun bytes)
begun-cut begun [] = refl
begun-cut begun (x ∷ xs) = go (x == 10) (begun-cut [] xs) (begun-cut (begun ++ x ∷ []) xs)
  where
    go : (b : Bool) → begun_after (take (LINE_LIMIT + 1) []) xs ≡ take (LINE_LIMIT + 1) (begun_behind [] xs)
        → begun_after (take (LINE_LIMIT + 1) (begun ++ x ∷ [])) xs ≡ take (LINE_LIMIT + 1) (begun_behind (begun ++ x ∷ []) xs)
        → cond b (begun_after [] xs) (begun_after (keep (take (LINE_LIMIT + 1) begun) x) xs)
        ≡ take (LINE_LIMIT + 1) (cond b (begun_behind [] xs) (begun_behind (begun ++ x ∷ []) xs))
    go true ended begins = ended
    go false ended begins = ap (λ b. begun_after b xs) (keep-cut begun x) ∙ begins

pub begun_kept : (bytes : List ℕ) → begun_after [] bytes ≡ take (LINE_LIMIT + 1) (begun_behind [] bytes)
begun_kept bytes = begun-cut [] bytes

-- ---- a byte more

pub keep_short : (line : List ℕ) (x : ℕ) → length line ≤ LINE_LIMIT → line ++ x ∷ [] ≡ keep line x
keep_short line x h = sym (length-cut (LINE_LIMIT + 1) (line ++ x ∷ []) (omega (arith, h, length-append line (x ∷ []))))

pub keep_long : (line : List ℕ) (x : ℕ) → length line ≤ LINE_LIMIT + 1 → LINE_LIMIT < length line → line ≡ keep line x
keep_long line x within long =
    let n : length line ≡ LINE_LIMIT + 1 = omega (arith, within, long) in
    sym (ap (λ k. take k (line ++ x ∷ [])) (sym n) ∙ take-append_seam line (x ∷ []))

-- ---- a byte more of a piece

-- a line feed ends the line that has begun
pub inputs_end : (begun xs : List ℕ) (x : ℕ) → x ≡ 10 → inputs_after begun (xs ++ x ∷ []) ≡ inputs_after begun xs ++ input_of (begun_after begun xs) ∷ []
inputs_end begun xs x e =
    inputs_more begun xs (x ∷ []) ∙ ap (λ y. inputs_after begun xs ++ inputs_after (begun_after begun xs) (y ∷ [])) e

pub begun_end : (begun xs : List ℕ) (x : ℕ) → x ≡ 10 → begun_after begun (xs ++ x ∷ []) ≡ []
begun_end begun xs x e = begun_more begun xs (x ∷ []) ∙ ap (λ y. begun_after (begun_after begun xs) (y ∷ [])) e

-- any other byte is kept
not-ten : (x : ℕ) → (x ≡ 10 → ⊥) → (x == 10) ≡ false
not-ten x h = grind (arith, h)

pub inputs_keep : (begun xs : List ℕ) (x : ℕ) → (x ≡ 10 → ⊥) → inputs_after begun (xs ++ x ∷ []) ≡ inputs_after begun xs
inputs_keep begun xs x h =
    inputs_more begun xs (x ∷ []) ∙ ap (λ b. inputs_after begun xs ++ map input_of (cond b (begun_after begun xs ∷ []) [])) (not-ten x h)
    ∙ append-nil (inputs_after begun xs)

pub begun_keep : (begun xs : List ℕ) (x : ℕ) → (x ≡ 10 → ⊥) → begun_after begun (xs ++ x ∷ []) ≡ keep (begun_after begun xs) x
begun_keep begun xs x h =
    begun_more begun xs (x ∷ []) ∙ ap (λ b. cond b [] (keep (begun_after begun xs) x)) (not-ten x h)
