-- The test of a line and what a line is.
use Rattle.std.proofs.Common.{◌≡◌, ◌∙◌, ◌&&◌, ◌⊎◌, inl, inr, ◌≤◌, Bool, cond, true, false, not, refl, sym, ap, subst, List, [], ◌∷◌, ◌++◌, length, drop, codes, arith, append_assoc, Option, Some, None}
use Rattle.std.specs.List.{list_all, starts_with}
use Rattle.std.specs.Option.{option_or}
use Rattle.std.specs.Prelude.{flat_map, nat_eq}
use Rattle.std.specs.Str.{bytes_eq}
use Rattle.std.proofs.lemmas.Slice.Eq.{bytes_eq-Decides, starts_is}
use Rattle.std.proofs.lemmas.Bool.Decides.{Decides-eqb}
use Rattle.pg_commands_words.specs.Pieces.{Line, Piece, Word, apart, begins_with_hyphen, flag, is_name, is_plain, joined, option_word, positional, takes_value, use_in, use_of, uses_of, words_of, words_of_end, words_of_piece}
use Rattle.pg_commands_words.specs.Lines.{IsLine, after_option, after_role, goes_on, has_seen, is_joined, is_line, is_line_from, nothing_seen, opening, option_role, role_as, role_of, seen_more, standing}
use Rattle.pg_commands_words.specs.declared.names.OptionName.{OptionName}
use Rattle.pg_commands_words.specs.declared.names.OptionName.TheVariants.{Quantum, Seed, Free, Book, Only, Json}
use Rattle.pg_commands_words.specs.declared.positions.Role.{Role}
use Rattle.pg_commands_words.specs.declared.positions.Role.TheVariants.{Plain, Whole, Opens}
use Rattle.pg_commands_words.specs.declared.positions.Seen.{Seen}
use Rattle.pg_commands_words.proofs.Options.{Fresh, FreshUse, either-way, fresh-less, fresh-more, more-seen, none-seen, not-given, or-left, or-right, same-itself}

false≢true : false ≡ true → ⊥
false≢true e = cc

pub and-left : (a b : Bool) → (a && b) ≡ true → a ≡ true
and-left true b e = refl
and-left false b e = e

pub and-right : (a b : Bool) → (a && b) ≡ true → b ≡ true
and-right true b e = e
and-right false b e = absurd (false≢true e)

pub both : (a b : Bool) → a ≡ true → b ≡ true → (a && b) ≡ true
both a b e f = rw (e, f) refl

pub not-true : (b : Bool) → not b ≡ true → b ≡ false
not-true true e = sym e
not-true false e = refl

not-false : (b : Bool) → b ≡ false → not b ≡ true
not-false b e = rw e refl

-- ---- what one word is

-- a word that is a use of an option
record IsUse (word : Word) (option : OptionName) : Type 0 where
  piece : Piece
  value : Word
  spelled : word ∷ [] ≡ words_of_piece piece
  plain : is_plain piece ≡ true
  uses : (o : OptionName) → use_in o piece ≡ use_of o option value

abbrev IsRole : Word → Role → Type 0
IsRole word Plain = ⊥
IsRole word (Whole option) = IsUse word option
IsRole word (Opens option) = (word ≡ option_word option) × (takes_value option ≡ true)

some-role : (a b : Role) → Some a ≡ Some b → a ≡ b
some-role a b e = cc

none≢role : (r : Role) → None ≡ Some r → ⊥
none≢role r e = cc

again : (front rest : Word) → (front ++ codes "=") ++ rest ≡ front ++ (codes "=" ++ rest)
again [] rest = refl
again (byte ∷ bytes) rest = ap (λ w. byte ∷ w) (again bytes rest)

role-by : (option : OptionName) (word : Word) (r : Role) → role_as option word ≡ Some r → IsRole word r
role-by option word r e = by-word (bytes_eq word (option_word option)) refl e
  where
    opened : (b : Bool) → takes_value option ≡ b → word ≡ option_word option → IsRole word (cond b (Opens option) (Whole option))
    opened true h is = (is, h)
    opened false h is = record { piece = flag option; value = []; spelled = ap (λ w. w ∷ []) is; plain = not-false (takes_value option) h; uses = λ o. refl }

    by-joined : (b : Bool) → is_joined option word ≡ b → cond b (Some (Whole option)) None ≡ Some r → IsRole word r
    by-joined true h e =
        let front = option_word option ++ codes "=" in
        let begins : starts_with nat_eq word front ≡ true = and-right (takes_value option) (starts_with nat_eq word front) h in
        let whole : word ≡ front ++ drop (length front) word = (starts_is Decides-eqb word front (starts_with nat_eq word front) refl).0 begins in
        let is_use : IsRole word (Whole option) = record {
          piece = joined option (drop (length front) word);
          value = drop (length front) word;
          spelled = ap (λ w. w ∷ []) (whole ∙ again (option_word option) (drop (length front) word));
          plain = and-left (takes_value option) (starts_with nat_eq word front) h;
          uses = λ o. refl;
        } in
        subst (IsRole word) (some-role (Whole option) r e) is_use
    by-joined false h e = absurd (none≢role r e)

    by-word : (b : Bool) → bytes_eq word (option_word option) ≡ b → cond b (Some (opening option)) (cond (is_joined option word) (Some (Whole option)) None) ≡ Some r → IsRole word r
    by-word true h e = subst (IsRole word) (some-role (opening option) r e) (opened (takes_value option) refl ((bytes_eq-Decides word (option_word option)).0 h))
    by-word false h e = by-joined (is_joined option word) refl e

either : (a b : Option Role) (r : Role) → option_or a b ≡ Some r → (a ≡ Some r) ⊎ (b ≡ Some r)
either None b r e = inr e
either (Some x) b r e = inl e

role-found : (word : Word) (r : Role) → option_role word ≡ Some r → IsRole word r
role-found word r e = json (either (option_or (option_or (option_or (option_or (role_as Quantum word) (role_as Seed word)) (role_as Free word)) (role_as Book word)) (role_as Only word)) (role_as Json word) r e)
  where
    quantum : (role_as Quantum word ≡ Some r) ⊎ (role_as Seed word ≡ Some r) → IsRole word r
    quantum (inl h) = role-by Quantum word r h
    quantum (inr h) = role-by Seed word r h

    free : (option_or (role_as Quantum word) (role_as Seed word) ≡ Some r) ⊎ (role_as Free word ≡ Some r) → IsRole word r
    free (inl h) = quantum (either (role_as Quantum word) (role_as Seed word) r h)
    free (inr h) = role-by Free word r h

    book : (option_or (option_or (role_as Quantum word) (role_as Seed word)) (role_as Free word) ≡ Some r) ⊎ (role_as Book word ≡ Some r) → IsRole word r
    book (inl h) = free (either (option_or (role_as Quantum word) (role_as Seed word)) (role_as Free word) r h)
    book (inr h) = role-by Book word r h

    only : (option_or (option_or (option_or (role_as Quantum word) (role_as Seed word)) (role_as Free word)) (role_as Book word) ≡ Some r) ⊎ (role_as Only word ≡ Some r) → IsRole word r
    only (inl h) = book (either (option_or (option_or (role_as Quantum word) (role_as Seed word)) (role_as Free word)) (role_as Book word) r h)
    only (inr h) = role-by Only word r h

    json : (option_or (option_or (option_or (option_or (role_as Quantum word) (role_as Seed word)) (role_as Free word)) (role_as Book word)) (role_as Only word) ≡ Some r) ⊎ (role_as Json word ≡ Some r) → IsRole word r
    json (inl h) = only (either (option_or (option_or (option_or (role_as Quantum word) (role_as Seed word)) (role_as Free word)) (role_as Book word)) (role_as Only word) r h)
    json (inr h) = role-by Json word r h

-- a plain word, or an option
role-is : (word : Word) (r : Role) → role_of word ≡ Some r → ((is_name word ≡ true) × (r ≡ Plain)) ⊎ IsRole word r
role-is word r e = by (is_name word) refl e
  where
    by : (b : Bool) → is_name word ≡ b → cond b (Some Plain) (option_role word) ≡ Some r → ((is_name word ≡ true) × (r ≡ Plain)) ⊎ IsRole word r
    by true h e = inl (h, sym (some-role Plain r e))
    by false h e = inr (role-found word r e)

-- ---- what the test lets through

-- words of a line that has each option at most once, and none that was seen
record Found (seen : Seen) (words : List Word) : Type 0 where
  line : Line
  spelled : words ≡ words_of line
  plain : list_all is_plain line.pieces ≡ true
  fresh : Fresh (has_seen seen) line.pieces

abbrev FoundFrom : Seen → Bool → List Word → Type 0
FoundFrom seen false words = Found seen words
FoundFrom seen true words = (value : Word) × (rest : List Word) × (words ≡ value ∷ rest) × (begins_with_hyphen value ≡ false) × Found seen rest

found-none : (seen : Seen) → Found seen []
found-none seen = record { line = record { pieces = []; end = None }; spelled = refl; plain = refl; fresh = λ o. ((λ h. refl), omega arith) }

found-end : (seen : Seen) (word : Word) (words : List Word) → bytes_eq word (codes "--") ≡ true → Found seen (word ∷ words)
found-end seen word words e = record {
  line = record { pieces = []; end = Some words };
  spelled = ap (λ w. w ∷ words) ((bytes_eq-Decides word (codes "--")).0 e);
  plain = refl;
  fresh = λ o. ((λ h. refl), omega arith);
}

found-name : (seen : Seen) (word : Word) (words : List Word) → is_name word ≡ true → Found seen words → Found seen (word ∷ words)
found-name seen word words e f = record {
  line = record { pieces = positional word ∷ f.line.pieces; end = f.line.end };
  spelled = ap (λ l. word ∷ l) f.spelled;
  plain = both _ _ e f.plain;
  fresh = f.fresh;
}

-- a use of an option that wasn't seen
use-fresh : (seen : Seen) (option : OptionName) (value : Word) (pieces : List Piece) → has_seen seen option ≡ false → Fresh (has_seen (seen_more seen option)) pieces
    → FreshUse (has_seen seen) option value pieces
use-fresh seen option value pieces first f =
    fresh-less (has_seen seen) (has_seen (seen_more seen option)) option value pieces
    (λ o h. more-seen seen option o ∙ or-right _ _ h) (more-seen seen option option ∙ or-left _ _ (same-itself option)) first f

piece-fresh : (given : OptionName → Bool) (option : OptionName) (value : Word) (piece : Piece) (pieces : List Piece) → ((o : OptionName) → use_in o piece ≡ use_of o option value)
    → FreshUse given option value pieces → Fresh given (piece ∷ pieces)
piece-fresh given option value piece pieces uses f = λ o. rw (uses o) (f o)

found-whole : (seen : Seen) (word : Word) (words : List Word) (option : OptionName) → IsUse word option → has_seen seen option ≡ false → Found (seen_more seen option) words
    → Found seen (word ∷ words)
found-whole seen word words option u first f = record {
  line = record { pieces = u.piece ∷ f.line.pieces; end = f.line.end };
  spelled = ap (λ ws. ws ++ words) u.spelled ∙ ap (λ ws. words_of_piece u.piece ++ ws) f.spelled ∙ sym (append_assoc (words_of_piece u.piece) _ _);
  plain = both _ _ u.plain f.plain;
  fresh = piece-fresh (has_seen seen) option u.value u.piece f.line.pieces u.uses (use-fresh seen option u.value f.line.pieces first f.fresh);
}

found-opens : (seen : Seen) (word : Word) (words : List Word) (option : OptionName) → word ≡ option_word option → takes_value option ≡ true → has_seen seen option ≡ false
    → FoundFrom (seen_more seen option) true words → Found seen (word ∷ words)
found-opens seen word words option is takes first f = record {
  line = record { pieces = apart option f.0 ∷ f.4.line.pieces; end = f.4.line.end };
  spelled = ap (λ w. w ∷ words) is ∙ ap (λ l. option_word option ∷ l) (f.2 ∙ ap (λ l. f.0 ∷ l) f.4.spelled);
  plain = both _ _ (both _ _ takes (not-false (begins_with_hyphen f.0) f.3)) f.4.plain;
  fresh = use-fresh seen option f.0 f.4.line.pieces first f.4.fresh;
}

whole-no-plain : (o : OptionName) → Whole o ≡ Plain → ⊥
whole-no-plain o e = cc

opens-no-plain : (o : OptionName) → Opens o ≡ Plain → ⊥
opens-no-plain o e = cc

-- one word more where no value is missing, behind which the words are found
found-first : (seen : Seen) (word : Word) (words : List Word) → ((next : Seen) (waits : Bool) → is_line_from (standing next waits) words ≡ true → FoundFrom next waits words)
    → is_line_from (standing seen false) (word ∷ words) ≡ true → Found seen (word ∷ words)
found-first seen word words more e = by-end (bytes_eq word (codes "--")) refl e
  where
    whole : (option : OptionName) (b : Bool) → has_seen seen option ≡ b → IsUse word option
        → goes_on (λ next. is_line_from next words) (cond b None (Some (standing (seen_more seen option) false))) ≡ true → Found seen (word ∷ words)
    whole option true h u e = absurd (false≢true e)
    whole option false h u e = found-whole seen word words option u h (more (seen_more seen option) false e)

    opens : (option : OptionName) (b : Bool) → has_seen seen option ≡ b → (word ≡ option_word option) × (takes_value option ≡ true)
        → goes_on (λ next. is_line_from next words) (cond b None (Some (standing (seen_more seen option) true))) ≡ true → Found seen (word ∷ words)
    opens option true h u e = absurd (false≢true e)
    opens option false h u e = found-opens seen word words option u.0 u.1 h (more (seen_more seen option) true e)

    by-role : (r : Role) → ((is_name word ≡ true) × (r ≡ Plain)) ⊎ IsRole word r → goes_on (λ next. is_line_from next words) (after_role seen (Some r)) ≡ true → Found seen (word ∷ words)
    by-role Plain (inl h) e = found-name seen word words h.0 (more seen false e)
    by-role Plain (inr h) e = absurd h
    by-role (Whole option) (inl h) e = absurd (whole-no-plain option h.1)
    by-role (Whole option) (inr h) e = whole option (has_seen seen option) refl h e
    by-role (Opens option) (inl h) e = absurd (opens-no-plain option h.1)
    by-role (Opens option) (inr h) e = opens option (has_seen seen option) refl h e

    by-some : (r : Option Role) → role_of word ≡ r → goes_on (λ next. is_line_from next words) (after_role seen r) ≡ true → Found seen (word ∷ words)
    by-some None h e = absurd (false≢true e)
    by-some (Some r) h e = by-role r (role-is word r h) e

    by-end : (b : Bool) → bytes_eq word (codes "--") ≡ b → cond b true (goes_on (λ next. is_line_from next words) (after_role seen (role_of word))) ≡ true → Found seen (word ∷ words)
    by-end true h e = found-end seen word words h
    by-end false h e = by-some (role_of word) refl e

found-value : (seen : Seen) (word : Word) (words : List Word) → (is_line_from (standing seen false) words ≡ true → Found seen words)
    → is_line_from (standing seen true) (word ∷ words) ≡ true → FoundFrom seen true (word ∷ words)
found-value seen word words rest e = by (begins_with_hyphen word) refl e
  where
    by : (b : Bool) → begins_with_hyphen word ≡ b → goes_on (λ next. is_line_from next words) (cond b None (Some (standing seen false))) ≡ true → FoundFrom seen true (word ∷ words)
    by true h e = absurd (false≢true e)
    by false h e = (word, words, refl, h, rest e)

found : (words : List Word) (seen : Seen) (waits : Bool) → is_line_from (standing seen waits) words ≡ true → FoundFrom seen waits words
found [] seen false e = found-none seen
found [] seen true e = absurd (false≢true e)
found (word ∷ words) seen false e = found-first seen word words (found words) e
found (word ∷ words) seen true e = found-value seen word words (found words seen false) e

pub line-found : (words : List Word) → is_line words ≡ true → IsLine words
line-found words e =
    let f = found words nothing_seen false e in
    record { line = f.line; spelled = f.spelled; plain = f.plain; once = λ o. (f.fresh o).1 }

-- ---- a line passes the test

name-no-end : (word : Word) → is_name word ≡ true → bytes_eq word (codes "--") ≡ false
name-no-end word e = by (bytes_eq word (codes "--")) refl
  where
    by : (b : Bool) → bytes_eq word (codes "--") ≡ b → b ≡ false
    by false h = refl
    by true h = absurd (false≢true (subst (λ w. is_name w ≡ true) ((bytes_eq-Decides word (codes "--")).0 h) e))

flag-role : (o : OptionName) → takes_value o ≡ false → role_of (option_word o) ≡ Some (Whole o)
flag-role Quantum e = absurd (false≢true (sym e))
flag-role Seed e = absurd (false≢true (sym e))
flag-role Free e = refl
flag-role Book e = absurd (false≢true (sym e))
flag-role Only e = refl
flag-role Json e = refl

opening-role : (o : OptionName) → takes_value o ≡ true → role_of (option_word o) ≡ Some (Opens o)
opening-role Quantum e = refl
opening-role Seed e = refl
opening-role Free e = absurd (false≢true e)
opening-role Book e = refl
opening-role Only e = absurd (false≢true e)
opening-role Json e = absurd (false≢true e)

joined-role : (o : OptionName) (value : Word) → takes_value o ≡ true → role_of (option_word o ++ (codes "=" ++ value)) ≡ Some (Whole o)
joined-role Quantum value e = refl
joined-role Seed value e = refl
joined-role Free value e = absurd (false≢true e)
joined-role Book value e = refl
joined-role Only value e = absurd (false≢true e)
joined-role Json value e = absurd (false≢true e)

option-no-end : (o : OptionName) → bytes_eq (option_word o) (codes "--") ≡ false
option-no-end Quantum = refl
option-no-end Seed = refl
option-no-end Free = refl
option-no-end Book = refl
option-no-end Only = refl
option-no-end Json = refl

joined-no-end : (o : OptionName) (value : Word) → bytes_eq (option_word o ++ (codes "=" ++ value)) (codes "--") ≡ false
joined-no-end Quantum value = refl
joined-no-end Seed value = refl
joined-no-end Free value = refl
joined-no-end Book value = refl
joined-no-end Only value = refl
joined-no-end Json value = refl

-- one word goes on to how the line stands behind it
steps : (seen : Seen) (word : Word) (words : List Word) (r : Role) → bytes_eq word (codes "--") ≡ false → role_of word ≡ Some r
    → goes_on (λ next. is_line_from next words) (after_role seen (Some r)) ≡ true → is_line_from (standing seen false) (word ∷ words) ≡ true
steps seen word words r no_end is e =
    ap (λ b. cond b true (goes_on (λ next. is_line_from next words) (after_role seen (role_of word)))) no_end
    ∙ ap (λ o. goes_on (λ next. is_line_from next words) (after_role seen o)) is ∙ e

first-seen : (seen : Seen) (option : OptionName) (waits : Bool) (words : List Word) → has_seen seen option ≡ false → is_line_from (standing (seen_more seen option) waits) words ≡ true
    → goes_on (λ next. is_line_from next words) (after_option seen option waits) ≡ true
first-seen seen option waits words first e = ap (λ b. goes_on (λ next. is_line_from next words) (cond b None (Some (standing (seen_more seen option) waits)))) first ∙ e

-- behind a use of an option
behind : (seen : Seen) (option : OptionName) (value : Word) (pieces : List Piece) → FreshUse (has_seen seen) option value pieces → Fresh (has_seen (seen_more seen option)) pieces
behind seen option value pieces f =
    fresh-more (has_seen seen) (has_seen (seen_more seen option)) option value pieces (λ o h. either-way _ _ (sym (more-seen seen option o) ∙ h)) f

passes : (pieces : List Piece) (end : Option (List Word)) (seen : Seen) → list_all is_plain pieces ≡ true → Fresh (has_seen seen) pieces
    → is_line_from (standing seen false) (flat_map words_of_piece pieces ++ words_of_end end) ≡ true
passes [] None seen plain fresh = refl
passes [] (Some words) seen plain fresh = refl
passes (positional word ∷ pieces) end seen plain fresh =
    let name = and-left (is_name word) (list_all is_plain pieces) plain in
    let more = passes pieces end seen (and-right (is_name word) (list_all is_plain pieces) plain) fresh in
    steps seen word _ Plain (name-no-end word name) (ap (λ b. cond b (Some Plain) (option_role word)) name) more
passes (flag o ∷ pieces) end seen plain fresh =
    let is_flag = not-true (takes_value o) (and-left (not (takes_value o)) (list_all is_plain pieces) plain) in
    let more = passes pieces end (seen_more seen o) (and-right (not (takes_value o)) (list_all is_plain pieces) plain) (behind seen o [] pieces fresh) in
    steps seen (option_word o) _ (Whole o) (option-no-end o) (flag-role o is_flag) (first-seen seen o false _ (not-given (has_seen seen) o [] pieces fresh) more)
passes (joined o value ∷ pieces) end seen plain fresh =
    let takes = and-left (takes_value o) (list_all is_plain pieces) plain in
    let more = passes pieces end (seen_more seen o) (and-right (takes_value o) (list_all is_plain pieces) plain) (behind seen o value pieces fresh) in
    steps seen (option_word o ++ (codes "=" ++ value)) _ (Whole o) (joined-no-end o value) (joined-role o value takes)
    (first-seen seen o false _ (not-given (has_seen seen) o value pieces fresh) more)
passes (apart o value ∷ pieces) end seen plain fresh =
    let here = and-left (takes_value o && not (begins_with_hyphen value)) (list_all is_plain pieces) plain in
    let takes = and-left (takes_value o) (not (begins_with_hyphen value)) here in
    let no_hyphen = not-true (begins_with_hyphen value) (and-right (takes_value o) (not (begins_with_hyphen value)) here) in
    let rest = flat_map words_of_piece pieces ++ words_of_end end in
    let more = passes pieces end (seen_more seen o) (and-right (takes_value o && not (begins_with_hyphen value)) (list_all is_plain pieces) plain) (behind seen o value pieces fresh) in
    let value_passes : is_line_from (standing (seen_more seen o) true) (value ∷ rest) ≡ true =
    ap (λ b. goes_on (λ next. is_line_from next rest) (cond b None (Some (standing (seen_more seen o) false)))) no_hyphen ∙ more in
    steps seen (option_word o) (value ∷ rest) (Opens o) (option-no-end o) (opening-role o takes)
    (first-seen seen o true (value ∷ rest) (not-given (has_seen seen) o value pieces fresh) value_passes)

true-no-false : (b : Bool) → b ≡ false → b ≡ true → ⊥
true-no-false true e h = false≢true (sym e)
true-no-false false e h = false≢true h

pub line-passes : (line : Line) → list_all is_plain line.pieces ≡ true → ((o : OptionName) → length (uses_of o line.pieces) ≤ 1) → is_line (words_of line) ≡ true
line-passes line plain once = passes line.pieces line.end nothing_seen plain (λ o. ((λ h. absurd (true-no-false (has_seen nothing_seen o) (none-seen o) h)), once o))
