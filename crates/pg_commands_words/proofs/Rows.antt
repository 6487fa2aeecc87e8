-- What the rows of a line's uses say: the options that are given and the positionals, in order.
use Rattle.std.proofs.Common.{◌≡◌, ◌∙◌, ◌||◌, ◌⊎◌, inl, inr, Bool, cond, true, false, not, ◌&&◌, refl, sym, ap, ◌≤◌, List, [], ◌∷◌, ◌++◌, map, codes, length, Option, Some, None, is_some, append_assoc, append-nil}
use Rattle.std.specs.List.{cons_option, filter_map, find, fold, list_all}
use Rattle.std.specs.Option.{option_map, option_or, unwrap_or}
use Rattle.std.specs.Prelude.{option_and_then, slice_get}
use Rattle.std.specs.Str.{bytes_eq}
use Rattle.std.proofs.lemmas.Slice.Eq.{bytes_eq-Decides}
use Rattle.std.proofs.lemmas.List.Folds.{find-append}
use Rattle.clap.specs.Simple.{filled, with_index}
use Rattle.clap.specs.Walk.{Row, Rule, at_row, has_row, more_values, reading_by, stronger, used, with_default, without}
use Rattle.clap.specs.declared.parser.matches.ValueSource.{ValueSource}
use Rattle.clap.specs.declared.parser.matches.ValueSource.TheVariants.{CommandLine, DefaultValue}
use Rattle.pg_commands_words.specs.Clap.{given_of_rows, is_set, option_rule, text_in, words_in, words_rule}
use Rattle.pg_commands_words.specs.Pieces.{Given, Line, Piece, Word, apart, begins_with_hyphen, first_use, flag, given_in, is_name, is_plain, joined, long_name, positional, positional_in, positionals_of, positionals_of_end, same_option, takes_value, use_of, uses_of}
use Rattle.pg_commands_words.specs.declared.names.OptionName.{OptionName}
use Rattle.pg_commands_words.specs.declared.names.OptionName.TheVariants.{Quantum, Seed, Free, Book, Only, Json}
use Rattle.pg_commands_words.proofs.Lines.{and-left, and-right, not-true}
use Rattle.pg_commands_words.proofs.Options.{Fresh, FreshUse, either-way, fresh-more, names-apart, no-words, not-given, same-is, words-no}

false≢true : false ≡ true → ⊥
false≢true e = cc

-- ---- the rules of a command as it is built

abbrev pub built_option : OptionName → Rule
built_option o = filled (option_rule (long_name o) (takes_value o))

abbrev pub built_words : Rule
built_words = with_index 1 (filled words_rule)

abbrev pub all_options : List OptionName
all_options = Quantum ∷ Seed ∷ Free ∷ Book ∷ Only ∷ Json ∷ []

abbrev pub line_rules : List Rule
line_rules = map built_option all_options ++ built_words ∷ []

-- ---- uses

abbrev pub with_number : List Row → Word → List Row
with_number rows word = used built_words (word ∷ []) rows

-- a use of an option with these values
abbrev pub with_use : OptionName → List Word → List Row → List Row
with_use o values rows = used (built_option o) values rows

-- the rows with a piece among them
abbrev pub with_piece : List Row → Piece → List Row
with_piece rows (positional word) = with_number rows word
with_piece rows (flag o) = with_use o [] rows
with_piece rows (apart o value) = with_use o (value ∷ []) rows
with_piece rows (joined o value) = with_use o (value ∷ []) rows

abbrev pub has_option : OptionName → List Row → Bool
has_option o rows = has_row (long_name o) rows

-- where an id has no row, a new one stands at the end
at_row-new : (id : Word) (change : Row → List Row) (missing : List Row) (rows : List Row) → has_row id rows ≡ false
    → at_row id change missing rows ≡ rows ++ missing
at_row-new id change missing [] none = refl
at_row-new id change missing (r ∷ rs) none = by (bytes_eq r.id id) none (at_row-new id change missing rs)
  where
    by : (b : Bool) → (b || has_row id rs) ≡ false → (has_row id rs ≡ false → at_row id change missing rs ≡ rs ++ missing)
        → cond b (change r ++ rs) (r ∷ at_row id change missing rs) ≡ r ∷ (rs ++ missing)
    by true e more = absurd (false≢true (sym e))
    by false e more = ap (λ xs. r ∷ xs) (more e)

-- the row of a first use
abbrev row_of_use : OptionName → ValueSource → List Word → Row
row_of_use o source values = record { id = long_name o; values = values; count = None; source = Some source; reading = reading_by (built_option o) }

-- the text of an option that is given with this value; that of a flag is `true`
abbrev text_of_use : Bool → Word → Word
text_of_use true value = value
text_of_use false value = codes "true"

set-new : (o : OptionName) (values : List Word) (rows : List Row) → has_option o rows ≡ false
    → at_row (long_name o) (more_values CommandLine values) (row_of_use o CommandLine values ∷ []) (without (long_name o) rows) ≡ rows ++ row_of_use o CommandLine values ∷ []
set-new o values rows none =
    let same : without (long_name o) rows ≡ rows = at_row-new (long_name o) (λ _. []) [] rows none ∙ append-nil rows in
    rw same (at_row-new (long_name o) (more_values CommandLine values) (row_of_use o CommandLine values ∷ []) rows none)

value-new : (o : OptionName) (value : Word) (rows : List Row) → takes_value o ≡ true → has_option o rows ≡ false
    → with_use o (value ∷ []) rows ≡ rows ++ row_of_use o CommandLine (value ∷ []) ∷ []
value-new Quantum value rows e none = set-new Quantum (value ∷ []) rows none
value-new Seed value rows e none = set-new Seed (value ∷ []) rows none
value-new Free value rows e none = absurd (false≢true e)
value-new Book value rows e none = set-new Book (value ∷ []) rows none
value-new Only value rows e none = absurd (false≢true e)
value-new Json value rows e none = absurd (false≢true e)

flag-new : (o : OptionName) (rows : List Row) → takes_value o ≡ false → has_option o rows ≡ false → with_use o [] rows ≡ rows ++ row_of_use o CommandLine (codes "true" ∷ []) ∷ []
flag-new Quantum rows e none = absurd (false≢true (sym e))
flag-new Seed rows e none = absurd (false≢true (sym e))
flag-new Free rows e none = set-new Free (codes "true" ∷ []) rows none
flag-new Book rows e none = absurd (false≢true (sym e))
flag-new Only rows e none = set-new Only (codes "true" ∷ []) rows none
flag-new Json rows e none = set-new Json (codes "true" ∷ []) rows none

-- any use of an option without a row adds one
use-new : (o : OptionName) (values : List Word) (rows : List Row) → has_option o rows ≡ false → (r : Row) × (r.id ≡ long_name o) × (with_use o values rows ≡ rows ++ r ∷ [])
use-new Quantum [] rows none = (row_of_use Quantum CommandLine [], refl, set-new Quantum [] rows none)
use-new Seed [] rows none = (row_of_use Seed CommandLine [], refl, set-new Seed [] rows none)
use-new Book [] rows none = (row_of_use Book CommandLine [], refl, set-new Book [] rows none)
use-new Free [] rows none = (row_of_use Free CommandLine (codes "true" ∷ []), refl, set-new Free (codes "true" ∷ []) rows none)
use-new Only [] rows none = (row_of_use Only CommandLine (codes "true" ∷ []), refl, set-new Only (codes "true" ∷ []) rows none)
use-new Json [] rows none = (row_of_use Json CommandLine (codes "true" ∷ []), refl, set-new Json (codes "true" ∷ []) rows none)
use-new Quantum (v ∷ vs) rows none = (row_of_use Quantum CommandLine (v ∷ vs), refl, set-new Quantum (v ∷ vs) rows none)
use-new Seed (v ∷ vs) rows none = (row_of_use Seed CommandLine (v ∷ vs), refl, set-new Seed (v ∷ vs) rows none)
use-new Free (v ∷ vs) rows none = (row_of_use Free CommandLine (v ∷ vs), refl, set-new Free (v ∷ vs) rows none)
use-new Book (v ∷ vs) rows none = (row_of_use Book CommandLine (v ∷ vs), refl, set-new Book (v ∷ vs) rows none)
use-new Only (v ∷ vs) rows none = (row_of_use Only CommandLine (v ∷ vs), refl, set-new Only (v ∷ vs) rows none)
use-new Json (v ∷ vs) rows none = (row_of_use Json CommandLine (v ∷ vs), refl, set-new Json (v ∷ vs) rows none)

has-append : (id : Word) (rows : List Row) (r : Row) → has_row id (rows ++ r ∷ []) ≡ (has_row id rows || bytes_eq r.id id)
has-append id [] r = by (bytes_eq r.id id)
  where
    by : (b : Bool) → (b || false) ≡ b
    by true = refl
    by false = refl
has-append id (x ∷ xs) r = by (bytes_eq x.id id) (has-append id xs r)
  where
    by : (b : Bool) → has_row id (xs ++ r ∷ []) ≡ (has_row id xs || bytes_eq r.id id) → (b || has_row id (xs ++ r ∷ [])) ≡ ((b || has_row id xs) || bytes_eq r.id id)
    by true e = refl
    by false e = e

-- behind a use no more options have a row than it and those before
pub use-grows : (o p : OptionName) (values : List Word) (rows : List Row) → has_option o rows ≡ false → has_option p (with_use o values rows) ≡ true
    → (same_option p o ≡ true) ⊎ (has_option p rows ≡ true)
use-grows o p values rows none h =
    let n = use-new o values rows none in
    turn n.0 (either-way _ _ (sym (has-append (long_name p) rows n.0) ∙ (ap (has_option p) (sym n.2) ∙ h))) n.1
  where
    turn : (r : Row) → (has_row (long_name p) rows ≡ true) ⊎ (bytes_eq r.id (long_name p) ≡ true) → r.id ≡ long_name o → (same_option p o ≡ true) ⊎ (has_option p rows ≡ true)
    turn r (inl before) e = inr before
    turn r (inr here) e = inl (sym (names-apart o p) ∙ ap (λ id. bytes_eq id (long_name p)) (sym e) ∙ here)

-- ---- one more number

pub number-keeps : (o : OptionName) (rows : List Row) (word : Word) → has_option o (with_number rows word) ≡ has_option o rows
number-keeps o [] word = ap (λ b. b || false) (words-no o)
number-keeps o (r ∷ rs) word = by (bytes_eq r.id (codes "words")) (number-keeps o rs word)
  where
    by : (b : Bool) → has_option o (with_number rs word) ≡ has_option o rs
        → has_option o (cond b (more_values CommandLine (word ∷ []) r ++ rs) (r ∷ with_number rs word)) ≡ (bytes_eq r.id (long_name o) || has_option o rs)
    by true e = refl
    by false e = ap (λ b. bytes_eq r.id (long_name o) || b) e

words-number : (rows : List Row) (word : Word) → words_in (with_number rows word) ≡ words_in rows ++ word ∷ []
words-number [] word = refl
words-number (r ∷ rs) word = by (bytes_eq r.id (codes "words")) refl (words-number rs word)
  where
    by : (b : Bool) → bytes_eq r.id (codes "words") ≡ b → words_in (with_number rs word) ≡ words_in rs ++ word ∷ []
        → words_in (with_number (r ∷ rs) word) ≡ words_in (r ∷ rs) ++ word ∷ []
    by true h e = rw h (rw h refl)
    by false h e = rw h (rw h e)

-- the text of the first row that a test finds
abbrev first_text : Option Row → Option Word
first_text o = option_and_then (λ (r : Row). slice_get r.values 0) o

abbrev is_of : OptionName → Row → Bool
is_of o r = bytes_eq r.id (long_name o)

abbrev words_row : Word → Row
words_row word = record { id = codes "words"; values = word ∷ []; count = None; source = Some CommandLine; reading = reading_by built_words }

abbrev more_row : Row → Word → Row
more_row r word = record r { values = r.values ++ word ∷ []; source = Some (stronger r.source CommandLine) }

text-number : (o : OptionName) (rows : List Row) (word : Word) → text_in o (with_number rows word) ≡ text_in o rows
text-number o [] word = ap (λ b. first_text (cond b (Some (words_row word)) None)) (words-no o)
text-number o (r ∷ rs) word = by (bytes_eq r.id (codes "words")) refl (text-number o rs word)
  where
    step : (b : Bool) → text_in o (with_number rs word) ≡ text_in o rs
        → first_text (cond b (Some r) (find (is_of o) (with_number rs word))) ≡ first_text (cond b (Some r) (find (is_of o) rs))
    step true e = refl
    step false e = e

    other : bytes_eq r.id (codes "words") ≡ true → bytes_eq r.id (long_name o) ≡ false
    other h = ap (λ id. bytes_eq id (long_name o)) ((bytes_eq-Decides r.id (codes "words")).0 h) ∙ words-no o

    by : (b : Bool) → bytes_eq r.id (codes "words") ≡ b → text_in o (with_number rs word) ≡ text_in o rs
        → first_text (find (is_of o) (cond b (more_values CommandLine (word ∷ []) r ++ rs) (r ∷ with_number rs word))) ≡ first_text (cond (is_of o r) (Some r) (find (is_of o) rs))
    by true h e =
        ap (λ b. first_text (cond b (Some (more_row r word)) (find (is_of o) rs))) (other h) ∙ sym (ap (λ b. first_text (cond b (Some r) (find (is_of o) rs))) (other h))
    by false h e = step (is_of o r) e

-- ---- one more row of an option

no-find : (o : OptionName) (rows : List Row) → has_option o rows ≡ false → find (is_of o) rows ≡ None
no-find o [] none = refl
no-find o (r ∷ rs) none = by (bytes_eq r.id (long_name o)) none (no-find o rs)
  where
    by : (b : Bool) → (b || has_option o rs) ≡ false → (has_option o rs ≡ false → find (is_of o) rs ≡ None) → cond b (Some r) (find (is_of o) rs) ≡ None
    by true e more = absurd (false≢true (sym e))
    by false e more = more e

or-none : {X : Type 0} (o : Option X) → option_or o None ≡ o
or-none None = refl
or-none (Some x) = refl

-- what is found with one row more
find-more : (o p : OptionName) (source : ValueSource) (values : List Word) (rows : List Row)
    → find (is_of p) (rows ++ row_of_use o source values ∷ []) ≡ option_or (find (is_of p) rows) (cond (same_option p o) (Some (row_of_use o source values)) None)
find-more o p source values rows =
    find-append (is_of p) rows (row_of_use o source values ∷ [])
    ∙ ap (λ b. option_or (find (is_of p) rows) (cond b (Some (row_of_use o source values)) None)) (names-apart o p)

-- another option's text stays
text-other : (o p : OptionName) (source : ValueSource) (values : List Word) (rows : List Row) → same_option p o ≡ false
    → text_in p (rows ++ row_of_use o source values ∷ []) ≡ text_in p rows
text-other o p source values rows differ =
    ap first_text (find-more o p source values rows ∙ ap (λ b. option_or (find (is_of p) rows) (cond b (Some (row_of_use o source values)) None)) differ ∙ or-none (find (is_of p) rows))

-- its own text is the first value
text-own : (o p : OptionName) (source : ValueSource) (values : List Word) (rows : List Row) → same_option p o ≡ true → has_option p rows ≡ false
    → text_in p (rows ++ row_of_use o source values ∷ []) ≡ slice_get values 0
text-own o p source values rows same none =
    ap first_text (find-more o p source values rows ∙ ap (λ b. option_or (find (is_of p) rows) (cond b (Some (row_of_use o source values)) None)) same
    ∙ ap (λ f. option_or f (Some (row_of_use o source values))) (no-find p rows none))

words-more : (o : OptionName) (source : ValueSource) (values : List Word) (rows : List Row) → words_in (rows ++ row_of_use o source values ∷ []) ≡ words_in rows
words-more o source values rows =
    ap (λ f. unwrap_or (option_map (λ (r : Row). r.values) f) [])
    (find-append (λ (r : Row). bytes_eq r.id (codes "words")) rows (row_of_use o source values ∷ [])
    ∙ ap (λ b. option_or (find (λ (r : Row). bytes_eq r.id (codes "words")) rows) (cond b (Some (row_of_use o source values)) None)) (no-words o) ∙ or-none _)

-- ---- all of a line

-- the text of the first use
abbrev shown : Bool → List Word → Option Word
shown takes [] = None
shown takes (value ∷ values) = Some (text_of_use takes value)

-- the text so far, or that of the uses that follow
abbrev text_then : OptionName → List Row → List Word → Option Word
text_then p rows uses = option_or (text_in p rows) (shown (takes_value p) uses)

-- one use and then others
then-use : (o p : OptionName) (value : Word) (source : ValueSource) (rows : List Row) (uses : List Word) → has_option o rows ≡ false
    → text_then p (rows ++ row_of_use o source (text_of_use (takes_value o) value ∷ []) ∷ []) uses ≡ text_then p rows (cons_option (use_of p o value) uses)
then-use o p value source rows uses none = by (same_option p o) refl
  where
    by : (b : Bool) → same_option p o ≡ b
        → text_then p (rows ++ row_of_use o source (text_of_use (takes_value o) value ∷ []) ∷ []) uses ≡ text_then p rows (cons_option (cond b (Some value) None) uses)
    by false h = ap (λ t. option_or t (shown (takes_value p) uses)) (text-other o p source (text_of_use (takes_value o) value ∷ []) rows h)
    by true h =
        let is : p ≡ o = same-is p o h in
        let free : has_option p rows ≡ false = ap (λ q. has_option q rows) is ∙ none in
        ap (λ t. option_or t (shown (takes_value p) uses)) (text-own o p source (text_of_use (takes_value o) value ∷ []) rows h free)
        ∙ ap (λ q. Some (text_of_use (takes_value q) value)) (sym is)
        ∙ ap (λ f. option_or (first_text f) (Some (text_of_use (takes_value p) value))) (sym (no-find p rows free))

abbrev pub given : List Row → OptionName → Bool
given rows o = has_option o rows

pub behind : (rows : List Row) (o : OptionName) (value : Word) (values : List Word) (pieces : List Piece) → FreshUse (given rows) o value pieces → Fresh (given (with_use o values rows)) pieces
behind rows o value values pieces f = fresh-more (given rows) (given (with_use o values rows)) o value pieces (λ p h. use-grows o p values rows (not-given (given rows) o value pieces f) h) f

-- a use is one of its option's
abbrev IsOne : OptionName → List Word → Word → Type 0
IsOne o values value = ((takes_value o ≡ true) × (values ≡ value ∷ [])) ⊎ ((takes_value o ≡ false) × (values ≡ []))

one-new : (o : OptionName) (values : List Word) (value : Word) (rows : List Row) → IsOne o values value → has_option o rows ≡ false
    → with_use o values rows ≡ rows ++ row_of_use o CommandLine (text_of_use (takes_value o) value ∷ []) ∷ []
one-new o values value rows (inl e) none =
    ap (λ vs. with_use o vs rows) e.1 ∙ value-new o value rows e.0 none ∙ ap (λ b. rows ++ row_of_use o CommandLine (text_of_use b value ∷ []) ∷ []) (sym e.0)
one-new o values value rows (inr e) none =
    ap (λ vs. with_use o vs rows) e.1 ∙ flag-new o rows e.0 none ∙ ap (λ b. rows ++ row_of_use o CommandLine (text_of_use b value ∷ []) ∷ []) (sym e.0)

-- each piece is plain
abbrev ArePlain : List Piece → Type 0
ArePlain pieces = list_all is_plain pieces ≡ true

text-pieces : (p : OptionName) (pieces : List Piece) (rows : List Row) → ArePlain pieces → Fresh (given rows) pieces → text_in p (fold with_piece rows pieces) ≡ text_then p rows (uses_of p pieces)
text-pieces p [] rows plain fresh = sym (or-none (text_in p rows))
text-pieces p (positional word ∷ pieces) rows plain fresh =
    text-pieces p pieces (with_number rows word) (and-right (is_name word) (list_all is_plain pieces) plain) (λ o. ((λ h. (fresh o).0 (sym (number-keeps o rows word) ∙ h)), (fresh o).1))
    ∙ ap (λ t. option_or t (shown (takes_value p) (uses_of p pieces))) (text-number p rows word)
text-pieces p (flag o ∷ pieces) rows plain fresh =
    let none = not-given (given rows) o [] pieces fresh in
    let is_flag = not-true (takes_value o) (and-left (not (takes_value o)) (list_all is_plain pieces) plain) in
    text-pieces p pieces (with_use o [] rows) (and-right (not (takes_value o)) (list_all is_plain pieces) plain) (behind rows o [] [] pieces fresh)
    ∙ ap (λ rs. text_then p rs (uses_of p pieces)) (one-new o [] [] rows (inr (is_flag, refl)) none) ∙ then-use o p [] CommandLine rows (uses_of p pieces) none
text-pieces p (joined o value ∷ pieces) rows plain fresh =
    let none = not-given (given rows) o value pieces fresh in
    let takes = and-left (takes_value o) (list_all is_plain pieces) plain in
    text-pieces p pieces (with_use o (value ∷ []) rows) (and-right (takes_value o) (list_all is_plain pieces) plain) (behind rows o value (value ∷ []) pieces fresh)
    ∙ ap (λ rs. text_then p rs (uses_of p pieces)) (one-new o (value ∷ []) value rows (inl (takes, refl)) none) ∙ then-use o p value CommandLine rows (uses_of p pieces) none
text-pieces p (apart o value ∷ pieces) rows plain fresh =
    let none = not-given (given rows) o value pieces fresh in
    let here = and-left (takes_value o && not (begins_with_hyphen value)) (list_all is_plain pieces) plain in
    let takes = and-left (takes_value o) (not (begins_with_hyphen value)) here in
    text-pieces p pieces (with_use o (value ∷ []) rows) (and-right (takes_value o && not (begins_with_hyphen value)) (list_all is_plain pieces) plain) (behind rows o value (value ∷ []) pieces fresh)
    ∙ ap (λ rs. text_then p rs (uses_of p pieces)) (one-new o (value ∷ []) value rows (inl (takes, refl)) none) ∙ then-use o p value CommandLine rows (uses_of p pieces) none

words-use : (o : OptionName) (values : List Word) (rows : List Row) → has_option o rows ≡ false → words_in (with_use o values rows) ≡ words_in rows
words-use o values rows none = by (use-new o values rows none)
  where
    by : ((r : Row) × (r.id ≡ long_name o) × (with_use o values rows ≡ rows ++ r ∷ [])) → words_in (with_use o values rows) ≡ words_in rows
    by n =
        ap words_in n.2
        ∙ ap (λ f. unwrap_or (option_map (λ (r : Row). r.values) f) [])
        (find-append (λ (r : Row). bytes_eq r.id (codes "words")) rows (n.0 ∷ [])
        ∙ ap (λ b. option_or (find (λ (r : Row). bytes_eq r.id (codes "words")) rows) (cond b (Some n.0) None)) (ap (λ id. bytes_eq id (codes "words")) n.1 ∙ no-words o)
        ∙ or-none _)

words-pieces : (pieces : List Piece) (rows : List Row) → Fresh (given rows) pieces → words_in (fold with_piece rows pieces) ≡ words_in rows ++ filter_map positional_in pieces
words-pieces [] rows fresh = sym (append-nil (words_in rows))
words-pieces (positional word ∷ pieces) rows fresh =
    words-pieces pieces (with_number rows word) (λ o. ((λ h. (fresh o).0 (sym (number-keeps o rows word) ∙ h)), (fresh o).1))
    ∙ ap (λ xs. xs ++ filter_map positional_in pieces) (words-number rows word) ∙ append_assoc (words_in rows) (word ∷ []) (filter_map positional_in pieces)
words-pieces (flag o ∷ pieces) rows fresh =
    words-pieces pieces (with_use o [] rows) (behind rows o [] [] pieces fresh)
    ∙ ap (λ xs. xs ++ filter_map positional_in pieces) (words-use o [] rows (not-given (given rows) o [] pieces fresh))
words-pieces (apart o value ∷ pieces) rows fresh =
    words-pieces pieces (with_use o (value ∷ []) rows) (behind rows o value (value ∷ []) pieces fresh)
    ∙ ap (λ xs. xs ++ filter_map positional_in pieces) (words-use o (value ∷ []) rows (not-given (given rows) o value pieces fresh))
words-pieces (joined o value ∷ pieces) rows fresh =
    words-pieces pieces (with_use o (value ∷ []) rows) (behind rows o value (value ∷ []) pieces fresh)
    ∙ ap (λ xs. xs ++ filter_map positional_in pieces) (words-use o (value ∷ []) rows (not-given (given rows) o value pieces fresh))

words-numbers : (words : List Word) (rows : List Row) → words_in (fold with_number rows words) ≡ words_in rows ++ words
words-numbers [] rows = sym (append-nil (words_in rows))
words-numbers (word ∷ words) rows =
    words-numbers words (with_number rows word) ∙ ap (λ xs. xs ++ words) (words-number rows word) ∙ append_assoc (words_in rows) (word ∷ []) words

text-numbers : (p : OptionName) (words : List Word) (rows : List Row) → text_in p (fold with_number rows words) ≡ text_in p rows
text-numbers p [] rows = refl
text-numbers p (word ∷ words) rows = text-numbers p words (with_number rows word) ∙ text-number p rows word

abbrev pub rows_of_line : Line → List Row
rows_of_line line = fold with_number (fold with_piece [] line.pieces) (positionals_of_end line.end)

-- ---- defaults

same-rows : (b : Bool) (rows : List Row) → cond b rows rows ≡ rows
same-rows true rows = refl
same-rows false rows = refl

-- an option gets no default, or a flag that isn't given is `false`
abbrev DefaultOf : OptionName → List Row → Type 0
DefaultOf o rows = (with_default rows (built_option o) ≡ rows)
    ⊎ ((has_option o rows ≡ false) × (takes_value o ≡ false) × (with_default rows (built_option o) ≡ rows ++ row_of_use o DefaultValue (codes "false" ∷ []) ∷ []))

flag-default : (o : OptionName) (rows : List Row) (b : Bool) → has_option o rows ≡ b
    → (cond b rows (at_row (long_name o) (more_values DefaultValue (codes "false" ∷ [])) (row_of_use o DefaultValue (codes "false" ∷ []) ∷ []) rows) ≡ rows)
    ⊎ ((has_option o rows ≡ false) × (cond b rows (at_row (long_name o) (more_values DefaultValue (codes "false" ∷ [])) (row_of_use o DefaultValue (codes "false" ∷ []) ∷ []) rows) ≡ rows ++ row_of_use o DefaultValue (codes "false" ∷ []) ∷ []))
flag-default o rows true h = inl refl
flag-default o rows false h = inr (h, at_row-new (long_name o) (more_values DefaultValue (codes "false" ∷ [])) (row_of_use o DefaultValue (codes "false" ∷ []) ∷ []) rows h)

default-of : (o : OptionName) (rows : List Row) → DefaultOf o rows
default-of Quantum rows = inl (same-rows (has_option Quantum rows) rows)
default-of Seed rows = inl (same-rows (has_option Seed rows) rows)
default-of Free rows = elim (flag-default Free rows (has_option Free rows) refl) [
  | inl e ↦ inl e
  | inr e ↦ inr (e.0, refl, e.1)
]
default-of Book rows = inl (same-rows (has_option Book rows) rows)
default-of Only rows = elim (flag-default Only rows (has_option Only rows) refl) [
  | inl e ↦ inl e
  | inr e ↦ inr (e.0, refl, e.1)
]
default-of Json rows = elim (flag-default Json rows (has_option Json rows) refl) [
  | inl e ↦ inl e
  | inr e ↦ inr (e.0, refl, e.1)
]

default-text : (o p : OptionName) (rows : List Row) → takes_value p ≡ true → text_in p (with_default rows (built_option o)) ≡ text_in p rows
default-text o p rows takes = elim (default-of o rows) [
  | inl e ↦ ap (text_in p) e
  | inr e ↦ ap (text_in p) e.2 ∙ text-other o p DefaultValue (codes "false" ∷ []) rows (differ (same_option p o) refl e.1)
]
  where
    differ : (b : Bool) → same_option p o ≡ b → takes_value o ≡ false → b ≡ false
    differ false h e = refl
    differ true h e = absurd (false≢true (sym e ∙ ap takes_value (sym (same-is p o h)) ∙ takes))

default-flag : (o p : OptionName) (rows : List Row) → is_set (text_in p (with_default rows (built_option o))) ≡ is_set (text_in p rows)
default-flag o p rows = elim (default-of o rows) [
  | inl e ↦ ap (λ rs. is_set (text_in p rs)) e
  | inr e ↦ ap (λ rs. is_set (text_in p rs)) e.2 ∙ by (same_option p o) refl e.0
]
  where
    by : (b : Bool) → same_option p o ≡ b → has_option o rows ≡ false → is_set (text_in p (rows ++ row_of_use o DefaultValue (codes "false" ∷ []) ∷ [])) ≡ is_set (text_in p rows)
    by false h none = ap is_set (text-other o p DefaultValue (codes "false" ∷ []) rows h)
    by true h none =
        let free : has_option p rows ≡ false = ap (λ q. has_option q rows) (same-is p o h) ∙ none in
        ap is_set (text-own o p DefaultValue (codes "false" ∷ []) rows h free) ∙ ap (λ f. is_set (first_text f)) (sym (no-find p rows free))

default-words : (o : OptionName) (rows : List Row) → words_in (with_default rows (built_option o)) ≡ words_in rows
default-words o rows = elim (default-of o rows) [
  | inl e ↦ ap words_in e
  | inr e ↦ ap words_in e.2 ∙ words-more o DefaultValue (codes "false" ∷ []) rows
]

-- what each default keeps, all of them keep
all-keep : {X : Type 0} (read : List Row → X) → ((o : OptionName) (rows : List Row) → read (with_default rows (built_option o)) ≡ read rows) → (options : List OptionName) (rows : List Row)
    → read (fold with_default rows (map built_option options ++ built_words ∷ [])) ≡ read rows
all-keep read each [] rows = ap read (same-rows (has_row (codes "words") rows) rows)
all-keep read each (o ∷ options) rows = all-keep read each options (with_default rows (built_option o)) ∙ each o rows

-- the rows that the parser has at the end of a line
abbrev pub rows_found : Line → List Row
rows_found line = fold with_default (rows_of_line line) line_rules

abbrev pub IsFine : Line → Type 0
IsFine line = (list_all is_plain line.pieces ≡ true) × ((o : OptionName) → length (uses_of o line.pieces) ≤ 1)

pub fresh-start : (line : Line) → IsFine line → Fresh (given []) line.pieces
fresh-start line f = λ o. ((λ h. absurd (false≢true h)), f.1 o)

pub words-found : (line : Line) → IsFine line → words_in (rows_found line) ≡ positionals_of line
words-found line f =
    all-keep words_in default-words all_options (rows_of_line line)
    ∙ words-numbers (positionals_of_end line.end) (fold with_piece [] line.pieces)
    ∙ ap (λ xs. xs ++ positionals_of_end line.end) (words-pieces line.pieces [] (fresh-start line f))

line-text : (p : OptionName) (line : Line) → IsFine line → text_in p (rows_of_line line) ≡ shown (takes_value p) (uses_of p line.pieces)
line-text p line f = text-numbers p (positionals_of_end line.end) (fold with_piece [] line.pieces) ∙ text-pieces p line.pieces [] f.0 (fresh-start line f)

shown-value : (values : List Word) → shown true values ≡ first_use values
shown-value [] = refl
shown-value (value ∷ values) = refl

shown-flag : (values : List Word) → is_set (shown false values) ≡ is_some (first_use values)
shown-flag [] = refl
shown-flag (value ∷ values) = refl

value-found : (p : OptionName) (line : Line) → IsFine line → takes_value p ≡ true → text_in p (rows_found line) ≡ first_use (uses_of p line.pieces)
value-found p line f takes =
    all-keep (text_in p) (λ o rows. default-text o p rows takes) all_options (rows_of_line line) ∙ line-text p line f
    ∙ ap (λ b. shown b (uses_of p line.pieces)) takes ∙ shown-value (uses_of p line.pieces)

flag-found : (p : OptionName) (line : Line) → IsFine line → takes_value p ≡ false → is_set (text_in p (rows_found line)) ≡ is_some (first_use (uses_of p line.pieces))
flag-found p line f is_flag =
    all-keep (λ rows. is_set (text_in p rows)) (λ o rows. default-flag o p rows) all_options (rows_of_line line) ∙ ap is_set (line-text p line f)
    ∙ ap (λ b. is_set (shown b (uses_of p line.pieces))) is_flag ∙ shown-flag (uses_of p line.pieces)

abbrev pub given_by : Option Word → Option Word → Bool → Option Word → Bool → Bool → Given
given_by quantum seed free book only json = record { quantum = quantum; seed = seed; free = free; book = book; only = only; json = json }

pub same-given : {q q' s s' b b' : Option Word} {f f' o o' j j' : Bool} → q ≡ q' → s ≡ s' → f ≡ f' → b ≡ b' → o ≡ o' → j ≡ j' → given_by q s f b o j ≡ given_by q' s' f' b' o' j'
same-given e1 e2 e3 e4 e5 e6 = rw (e1, e2, e3, e4, e5, e6) refl

pub given-found : (line : Line) → IsFine line → given_of_rows (rows_found line) ≡ given_in line
given-found line f =
    same-given (value-found Quantum line f refl) (value-found Seed line f refl) (flag-found Free line f refl)
    (value-found Book line f refl) (flag-found Only line f refl) (flag-found Json line f refl)
