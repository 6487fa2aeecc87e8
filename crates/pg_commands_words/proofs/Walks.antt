-- The parser's walk over the words of a line, as far as each of them.
use Rattle.std.proofs.Common.{◌≡◌, ◌∙◌, ◌&&◌, ◌||◌, ◌⊎◌, inl, inr, Bool, cond, true, false, not, refl, sym, ap, subst, List, [], ◌∷◌, ◌++◌, codes, Option, Some, None}
use Rattle.std.specs.List.{fold, list_all}
use Rattle.std.specs.Prelude.{flat_map}
use Rattle.std.specs.Str.{bytes_eq}
use Rattle.std.proofs.lemmas.Slice.Eq.{bytes_eq-Decides}
use Rattle.clap.specs.Walk.{Held, Row, Rule, Waiting, Walk, has_row, idle, is_pending, option, positional_held, pushed, reacted, settled, used, walked}
use Rattle.clap.specs.Walk as clap
use Rattle.clap.specs.Takes.{settle_passes, turn_passes, walk_passes}
use Rattle.clap.specs.Simple.{Shape}
use Rattle.clap.proofs.OnLiterals.{clap_on_literals}
use Rattle.pg_commands_words.specs.Pieces.{Piece, Word, apart, begins_with_hyphen, flag, is_name, is_plain, joined, long_name, option_word, positional, positionals_of_end, takes_value, words_of_end, words_of_piece}
use Rattle.pg_commands_words.specs.Clap.{line_app}
use Rattle.pg_commands_words.specs.declared.names.OptionName.{OptionName}
use Rattle.pg_commands_words.specs.declared.names.OptionName.TheVariants.{Quantum, Seed, Free, Book, Only, Json}
use Rattle.pg_commands_words.proofs.Options.{Fresh, not-given}
use Rattle.pg_commands_words.proofs.Lines.{and-left, and-right, not-true}
use Rattle.pg_commands_words.proofs.Rows.{behind, built_option, built_words, given, has_option, line_rules, number-keeps, with_number, with_piece, with_use}

false≢true : false ≡ true → ⊥
false≢true e = cc

-- ---- a command as it is built; the name plays no part in the walk

abbrev pub line_shape : Shape
line_shape = record (line_app (codes "once")).top {
  rules = line_rules;
  no_binary_name = true;
  disable_help_flag = true;
  disable_help_subcommand = true;
  disable_version_flag = true;
  is_built = true;
}

-- ---- where the walk stands between two words

-- behind a positional, or behind another word
abbrev pub between : Bool → Waiting
between true = clap.positional
between false = idle

abbrev pub state : Held → Waiting → Bool → Walk
state held waiting trailing = record { held = held; waiting = waiting; position = 1; is_trailing = trailing; stopped = None }

-- the rows with the last use among them
abbrev pub rows_at : Held → List Row
rows_at h = (settled line_rules h).rows

abbrev pub CanSettle : Held → Type 0
CanSettle h = settle_passes line_rules false h ≡ true

-- the words pass from here, and leave these rows
pub record Reaches (w : Walk) (words : List Word) (end : List Row) : Type 0 where
  pub passes : walk_passes line_shape [] w words ≡ true
  pub settles : settle_passes line_rules false (fold (walked line_rules []) w words).held ≡ true
  pub rows : (settled line_rules (fold (walked line_rules []) w words).held).rows ≡ end

pub reaches-more : (w after : Walk) (word : Word) (words : List Word) (end : List Row) → walked line_rules [] w word ≡ after
    → turn_passes line_shape [] w word ≡ true → Reaches after words end → Reaches w (word ∷ words) end
unfolding walk_passes
reaches-more w after word words end moves turn r = record {
  passes = rw (turn, moves) r.passes;
  settles = subst (λ x. settle_passes line_rules false (fold (walked line_rules []) x words).held ≡ true) (sym moves) r.settles;
  rows = subst (λ x. (settled line_rules (fold (walked line_rules []) x words).held).rows ≡ end) (sym moves) r.rows;
}

pub reaches-end : (h : Held) (w : Waiting) (trailing : Bool) → CanSettle h → Reaches (state h w trailing) [] (rows_at h)
unfolding clap_on_literals
reaches-end h w trailing can = record { passes = refl; settles = can; rows = refl }

-- ---- a positional

-- what is held behind a positional
abbrev pub numbered : Held → Word → Held
numbered h word = record (settled line_rules h) { pending = Some (codes "words", word ∷ []) }

no-several : (b : Bool) → (b && false) ≡ false
no-several true = refl
no-several false = refl

goes-positional : (h : Held) (word : Word) → positional_held line_rules built_words word h ≡ numbered h word
goes-positional h word = ap (λ b. pushed (codes "words") word (cond b h (settled line_rules h))) (no-several (is_pending built_words h.pending))

settles-or : (b s : Bool) → s ≡ true → ((b && false) || s) ≡ true
settles-or true s e = e
settles-or false s e = e

plain-moves : (h : Held) (w : Bool) (word : Word) → begins_with_hyphen word ≡ false → walked line_rules [] (state h (between w) false) word ≡ state (numbered h word) clap.positional false
unfolding clap_on_literals
plain-moves h true [] plain = ap (λ k. state k clap.positional false) (goes-positional h [])
plain-moves h false [] plain = ap (λ k. state k clap.positional false) (goes-positional h [])
plain-moves h true (x ∷ xs) plain = rw plain (rw plain (ap (λ k. state k clap.positional false) (goes-positional h (x ∷ xs))))
plain-moves h false (x ∷ xs) plain = rw plain (rw plain (ap (λ k. state k clap.positional false) (goes-positional h (x ∷ xs))))

plain-passes : (h : Held) (w : Bool) (word : Word) → begins_with_hyphen word ≡ false → CanSettle h → turn_passes line_shape [] (state h (between w) false) word ≡ true
unfolding clap_on_literals
plain-passes h true [] plain can = settles-or (is_pending built_words h.pending) _ can
plain-passes h false [] plain can = settles-or (is_pending built_words h.pending) _ can
plain-passes h true (x ∷ xs) plain can = rw plain (rw plain (settles-or (is_pending built_words h.pending) _ can))
plain-passes h false (x ∷ xs) plain can = rw plain (rw plain (settles-or (is_pending built_words h.pending) _ can))

hyphen-moves : (h : Held) (w : Bool) → walked line_rules [] (state h (between w) false) (codes "-") ≡ state (numbered h (codes "-")) clap.positional false
unfolding clap_on_literals
hyphen-moves h true = ap (λ k. state k clap.positional false) (goes-positional h (codes "-"))
hyphen-moves h false = ap (λ k. state k clap.positional false) (goes-positional h (codes "-"))

hyphen-passes : (h : Held) (w : Bool) → CanSettle h → turn_passes line_shape [] (state h (between w) false) (codes "-") ≡ true
unfolding clap_on_literals
hyphen-passes h true can = settles-or (is_pending built_words h.pending) _ can
hyphen-passes h false can = settles-or (is_pending built_words h.pending) _ can

-- a name doesn't begin with `-`, or is `-`
name-cases : (word : Word) → is_name word ≡ true → (begins_with_hyphen word ≡ false) ⊎ (word ≡ codes "-")
name-cases word e = by (begins_with_hyphen word) refl e
  where
    by : (b : Bool) → begins_with_hyphen word ≡ b → (not b || bytes_eq word (codes "-")) ≡ true → (begins_with_hyphen word ≡ false) ⊎ (word ≡ codes "-")
    by false h e = inl h
    by true h e = inr ((bytes_eq-Decides word (codes "-")).0 e)

name-moves : (h : Held) (w : Bool) (word : Word) → (begins_with_hyphen word ≡ false) ⊎ (word ≡ codes "-")
    → walked line_rules [] (state h (between w) false) word ≡ state (numbered h word) clap.positional false
name-moves h w word (inl plain) = plain-moves h w word plain
name-moves h w word (inr is) = subst (λ x. walked line_rules [] (state h (between w) false) x ≡ state (numbered h x) clap.positional false) (sym is) (hyphen-moves h w)

name-passes : (h : Held) (w : Bool) (word : Word) → (begins_with_hyphen word ≡ false) ⊎ (word ≡ codes "-") → CanSettle h
    → turn_passes line_shape [] (state h (between w) false) word ≡ true
name-passes h w word (inl plain) can = plain-passes h w word plain can
name-passes h w word (inr is) can = subst (λ x. turn_passes line_shape [] (state h (between w) false) x ≡ true) (sym is) (hyphen-passes h w can)

numbered-settles : (h : Held) (word : Word) → CanSettle (numbered h word)
unfolding clap_on_literals
numbered-settles h word = refl

numbered-rows : (h : Held) (word : Word) → rows_at (numbered h word) ≡ with_number (rows_at h) word
numbered-rows h word = refl

-- ---- `--` and the words after it

trailing-moves : (h : Held) (w : Waiting) (word : Word) → walked line_rules [] (state h w true) word ≡ state (numbered h word) clap.positional true
unfolding clap_on_literals
trailing-moves h w word = ap (λ k. state k clap.positional true) (goes-positional h word)

trailing-passes : (h : Held) (w : Waiting) (word : Word) → CanSettle h → turn_passes line_shape [] (state h w true) word ≡ true
unfolding clap_on_literals
trailing-passes h w word can = settles-or (is_pending built_words h.pending) _ can

end-moves : (h : Held) (w : Bool) → walked line_rules [] (state h (between w) false) (codes "--") ≡ state h (between w) true
unfolding clap_on_literals
end-moves h true = refl
end-moves h false = refl

end-passes : (h : Held) (w : Bool) → turn_passes line_shape [] (state h (between w) false) (codes "--") ≡ true
unfolding clap_on_literals
end-passes h true = refl
end-passes h false = refl

trailing-reach : (words : List Word) (h : Held) (w : Waiting) → CanSettle h → Reaches (state h w true) words (fold with_number (rows_at h) words)
trailing-reach [] h w can = reaches-end h w true can
trailing-reach (word ∷ words) h w can =
    reaches-more _ _ word words _ (trailing-moves h w word) (trailing-passes h w word can)
    (subst (λ rows. Reaches (state (numbered h word) clap.positional true) words (fold with_number rows words)) (numbered-rows h word)
    (trailing-reach words (numbered h word) clap.positional (numbered-settles h word)))

pub end-reach : (end : Option (List Word)) (h : Held) (w : Bool) → CanSettle h
    → Reaches (state h (between w) false) (words_of_end end) (fold with_number (rows_at h) (positionals_of_end end))
end-reach None h w can = reaches-end h (between w) false can
end-reach (Some words) h w can =
    reaches-more _ _ (codes "--") words _ (end-moves h w) (end-passes h w) (trailing-reach words h (between w) can)

-- ---- options

flag-moves : (o : OptionName) (h : Held) (w : Bool) → takes_value o ≡ false
    → walked line_rules [] (state h (between w) false) (option_word o) ≡ state (reacted line_rules (built_option o) [] h) idle false
unfolding clap_on_literals
flag-moves Quantum h w e = absurd (false≢true (sym e))
flag-moves Seed h w e = absurd (false≢true (sym e))
flag-moves Free h true e = refl
flag-moves Free h false e = refl
flag-moves Book h w e = absurd (false≢true (sym e))
flag-moves Only h true e = refl
flag-moves Only h false e = refl
flag-moves Json h true e = refl
flag-moves Json h false e = refl

flag-passes : (o : OptionName) (h : Held) (w : Bool) → takes_value o ≡ false → CanSettle h → has_option o (rows_at h) ≡ false
    → turn_passes line_shape [] (state h (between w) false) (option_word o) ≡ true
unfolding clap_on_literals
flag-passes Quantum h w e can first = absurd (false≢true (sym e))
flag-passes Seed h w e can first = absurd (false≢true (sym e))
flag-passes Free h true e can first = rw (can, first) refl
flag-passes Free h false e can first = rw (can, first) refl
flag-passes Book h w e can first = absurd (false≢true (sym e))
flag-passes Only h true e can first = rw (can, first) refl
flag-passes Only h false e can first = rw (can, first) refl
flag-passes Json h true e can first = rw (can, first) refl
flag-passes Json h false e can first = rw (can, first) refl

joined-moves : (o : OptionName) (h : Held) (w : Bool) (value : Word) → takes_value o ≡ true
    → walked line_rules [] (state h (between w) false) (option_word o ++ (codes "=" ++ value)) ≡ state (reacted line_rules (built_option o) (value ∷ []) h) idle false
unfolding clap_on_literals
joined-moves Quantum h true value e = refl
joined-moves Quantum h false value e = refl
joined-moves Seed h true value e = refl
joined-moves Seed h false value e = refl
joined-moves Free h w value e = absurd (false≢true e)
joined-moves Book h true value e = refl
joined-moves Book h false value e = refl
joined-moves Only h w value e = absurd (false≢true e)
joined-moves Json h w value e = absurd (false≢true e)

joined-passes : (o : OptionName) (h : Held) (w : Bool) (value : Word) → takes_value o ≡ true → CanSettle h → has_option o (rows_at h) ≡ false
    → turn_passes line_shape [] (state h (between w) false) (option_word o ++ (codes "=" ++ value)) ≡ true
unfolding clap_on_literals
joined-passes Quantum h true value e can first = rw (can, first) refl
joined-passes Quantum h false value e can first = rw (can, first) refl
joined-passes Seed h true value e can first = rw (can, first) refl
joined-passes Seed h false value e can first = rw (can, first) refl
joined-passes Free h w value e can first = absurd (false≢true e)
joined-passes Book h true value e can first = rw (can, first) refl
joined-passes Book h false value e can first = rw (can, first) refl
joined-passes Only h w value e can first = absurd (false≢true e)
joined-passes Json h w value e can first = absurd (false≢true e)

reacted-settles : (a : Rule) (values : List Word) (h : Held) → CanSettle (reacted line_rules a values h)
unfolding clap_on_literals
reacted-settles a values h = refl

-- between an option and its value
abbrev waits : OptionName → Held → Walk
waits o h = state (record (settled line_rules h) { pending = Some (long_name o, []) }) (option (long_name o)) false

-- behind the value
abbrev valued : OptionName → Word → Held → Held
valued o value h = record (settled line_rules h) { pending = Some (long_name o, value ∷ []) }

apart-moves : (o : OptionName) (h : Held) (w : Bool) → takes_value o ≡ true → walked line_rules [] (state h (between w) false) (option_word o) ≡ waits o h
unfolding clap_on_literals
apart-moves Quantum h true e = refl
apart-moves Quantum h false e = refl
apart-moves Seed h true e = refl
apart-moves Seed h false e = refl
apart-moves Free h w e = absurd (false≢true e)
apart-moves Book h true e = refl
apart-moves Book h false e = refl
apart-moves Only h w e = absurd (false≢true e)
apart-moves Json h w e = absurd (false≢true e)

apart-passes : (o : OptionName) (h : Held) (w : Bool) → takes_value o ≡ true → CanSettle h → turn_passes line_shape [] (state h (between w) false) (option_word o) ≡ true
unfolding clap_on_literals
apart-passes Quantum h true e can = rw can refl
apart-passes Quantum h false e can = rw can refl
apart-passes Seed h true e can = rw can refl
apart-passes Seed h false e can = rw can refl
apart-passes Free h w e can = absurd (false≢true e)
apart-passes Book h true e can = rw can refl
apart-passes Book h false e can = rw can refl
apart-passes Only h w e can = absurd (false≢true e)
apart-passes Json h w e can = absurd (false≢true e)

value-moves : (o : OptionName) (h : Held) (value : Word) → takes_value o ≡ true → begins_with_hyphen value ≡ false → walked line_rules [] (waits o h) value ≡ state (valued o value h) idle false
unfolding clap_on_literals
value-moves Quantum h [] e plain = refl
value-moves Quantum h (x ∷ xs) e plain = rw plain (rw plain refl)
value-moves Seed h [] e plain = refl
value-moves Seed h (x ∷ xs) e plain = rw plain (rw plain refl)
value-moves Free h value e plain = absurd (false≢true e)
value-moves Book h [] e plain = refl
value-moves Book h (x ∷ xs) e plain = rw plain (rw plain refl)
value-moves Only h value e plain = absurd (false≢true e)
value-moves Json h value e plain = absurd (false≢true e)

value-passes : (o : OptionName) (h : Held) (value : Word) → begins_with_hyphen value ≡ false → turn_passes line_shape [] (waits o h) value ≡ true
unfolding clap_on_literals
value-passes o h [] plain = refl
value-passes o h (x ∷ xs) plain = rw plain (rw plain refl)

valued-settles : (o : OptionName) (value : Word) (h : Held) → takes_value o ≡ true → has_option o (rows_at h) ≡ false → CanSettle (valued o value h)
unfolding clap_on_literals
valued-settles Quantum value h e first = rw first refl
valued-settles Seed value h e first = rw first refl
valued-settles Free value h e first = absurd (false≢true e)
valued-settles Book value h e first = rw first refl
valued-settles Only value h e first = absurd (false≢true e)
valued-settles Json value h e first = absurd (false≢true e)

valued-rows : (o : OptionName) (value : Word) (h : Held) → takes_value o ≡ true → rows_at (valued o value h) ≡ with_use o (value ∷ []) (rows_at h)
valued-rows Quantum value h e = refl
valued-rows Seed value h e = refl
valued-rows Free value h e = absurd (false≢true e)
valued-rows Book value h e = refl
valued-rows Only value h e = absurd (false≢true e)
valued-rows Json value h e = absurd (false≢true e)

-- ---- pieces

-- from each state with these rows, the words reach others
abbrev pub FromEach : List Row → List Word → List Row → Type 0
FromEach start words end = (h : Held) (w : Bool) → CanSettle h → rows_at h ≡ start → Reaches (state h (between w) false) words end

-- a positional, and then others
name-reach : (word : Word) (words : List Word) (start end : List Row) → is_name word ≡ true → FromEach (with_number start word) words end → FromEach start (word ∷ words) end
name-reach word words start end plain from = λ h w can is.
    reaches-more _ _ word words end (name-moves h w word (name-cases word plain)) (name-passes h w word (name-cases word plain) can)
    (from (numbered h word) true (numbered-settles h word) (numbered-rows h word ∙ ap (λ rs. with_number rs word) is))

flag-reach : (o : OptionName) (words : List Word) (start end : List Row) → takes_value o ≡ false → has_option o start ≡ false
    → FromEach (with_use o [] start) words end → FromEach start (option_word o ∷ words) end
flag-reach o words start end is_flag first from = λ h w can is.
    reaches-more _ _ (option_word o) words end (flag-moves o h w is_flag) (flag-passes o h w is_flag can (ap (has_option o) is ∙ first))
    (from (reacted line_rules (built_option o) [] h) false (reacted-settles (built_option o) [] h) (ap (with_use o []) is))

joined-reach : (o : OptionName) (value : Word) (words : List Word) (start end : List Row) → takes_value o ≡ true → has_option o start ≡ false
    → FromEach (with_use o (value ∷ []) start) words end → FromEach start ((option_word o ++ (codes "=" ++ value)) ∷ words) end
joined-reach o value words start end takes first from = λ h w can is.
    reaches-more _ _ (option_word o ++ (codes "=" ++ value)) words end (joined-moves o h w value takes) (joined-passes o h w value takes can (ap (has_option o) is ∙ first))
    (from (reacted line_rules (built_option o) (value ∷ []) h) false (reacted-settles (built_option o) (value ∷ []) h) (ap (with_use o (value ∷ [])) is))

apart-reach : (o : OptionName) (value : Word) (words : List Word) (start end : List Row) → takes_value o ≡ true → begins_with_hyphen value ≡ false → has_option o start ≡ false
    → FromEach (with_use o (value ∷ []) start) words end → FromEach start (option_word o ∷ value ∷ words) end
apart-reach o value words start end takes plain first from = λ h w can is.
    reaches-more _ _ (option_word o) (value ∷ words) end (apart-moves o h w takes) (apart-passes o h w takes can)
    (reaches-more _ _ value words end (value-moves o h value takes plain) (value-passes o h value plain)
    (from (valued o value h) false (valued-settles o value h takes (ap (has_option o) is ∙ first)) (valued-rows o value h takes ∙ ap (with_use o (value ∷ [])) is)))

pub pieces-reach : (pieces : List Piece) (rest : List Word) (start end : List Row) → list_all is_plain pieces ≡ true → Fresh (given start) pieces
    → FromEach (fold with_piece start pieces) rest end → FromEach start (flat_map words_of_piece pieces ++ rest) end
pieces-reach [] rest start end plain fresh from = from
pieces-reach (positional word ∷ pieces) rest start end plain fresh from =
    name-reach word _ start end (and-left (is_name word) (list_all is_plain pieces) plain)
    (pieces-reach pieces rest (with_number start word) end (and-right (is_name word) (list_all is_plain pieces) plain)
    (λ o. ((λ h. (fresh o).0 (sym (number-keeps o start word) ∙ h)), (fresh o).1)) from)
pieces-reach (flag o ∷ pieces) rest start end plain fresh from =
    flag-reach o _ start end (not-true (takes_value o) (and-left (not (takes_value o)) (list_all is_plain pieces) plain)) (not-given (given start) o [] pieces fresh)
    (pieces-reach pieces rest (with_use o [] start) end (and-right (not (takes_value o)) (list_all is_plain pieces) plain) (behind start o [] [] pieces fresh) from)
pieces-reach (joined o value ∷ pieces) rest start end plain fresh from =
    joined-reach o value _ start end (and-left (takes_value o) (list_all is_plain pieces) plain) (not-given (given start) o value pieces fresh)
    (pieces-reach pieces rest (with_use o (value ∷ []) start) end (and-right (takes_value o) (list_all is_plain pieces) plain) (behind start o value (value ∷ []) pieces fresh) from)
pieces-reach (apart o value ∷ pieces) rest start end plain fresh from =
    let here = and-left (takes_value o && not (begins_with_hyphen value)) (list_all is_plain pieces) plain in
    let more = and-right (takes_value o && not (begins_with_hyphen value)) (list_all is_plain pieces) plain in
    apart-reach o value _ start end (and-left (takes_value o) (not (begins_with_hyphen value)) here) (not-true (begins_with_hyphen value) (and-right (takes_value o) (not (begins_with_hyphen value)) here))
    (not-given (given start) o value pieces fresh)
    (pieces-reach pieces rest (with_use o (value ∷ []) start) end more (behind start o value (value ∷ []) pieces fresh) from)
