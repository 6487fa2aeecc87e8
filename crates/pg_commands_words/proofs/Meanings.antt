-- What the parser's matches of a line say is what the line is.
use Rattle.std.proofs.Common.{◌≡◌, ◌≤◌, ◌<◌, ◌^◌, ◌-◌, arith, ◌∙◌, ◌&&◌, ℕ, ℤ, Bool, cond, true, false, refl, sym, ap, subst, List, [], ◌∷◌, map, codes, Option}
use Rattle.std.proofs.Common.{Some, None, IfSome, IfNone}
use Rattle.std.specs.Option.{option_map}
use Rattle.std.specs.Str.{bytes_eq}
use Rattle.std.proofs.lemmas.Slice.Eq.{bytes_eq-Decides}
use Rattle.std.proofs.lemmas.Bool.{leb-true}
use Rattle.std.specs.Prelude.{nat_le}
use Rattle.clap.specs.Simple.{subcommand_of}
use Rattle.clap.specs.Takes.{takes}
use Rattle.clap.specs.Walk.{Row}
use Rattle.pg_num.specs.Decimal.{are_digits, natural_of}
use Rattle.pg_num.specs.declared.limits.TheConstants.{QUANTUM_LIMIT}
use Rattle.pg_session_trial.specs.declared.line.TheConstants.{TRIAL_LIMIT}
use Rattle.pg_commands_words.specs.declared.commands.RecordingWay.{RecordingWay}
use Rattle.pg_commands_words.specs.declared.commands.RecordingWay.TheVariants.{Rotating, Free, Seeded}
use Rattle.pg_commands_words.specs.declared.values.TheConstants.{DEFAULT_QUANTUM}
use Rattle.pg_commands_words.specs.declared.names.Name.{Name}
use Rattle.pg_commands_words.specs.declared.names.Name.TheVariants.{Once, Serve, Book, Show, Conditions, Trial}
use Rattle.pg_commands_words.specs.Clap.{HasNoValues, HasValuesOf, Reads, ReadsNone, SaysNone, SaysOf, given_of_rows, program_app, words_in}
use Rattle.pg_commands_words.specs.Commands.{HasFileAndNumbers, HasNumbers, HasSession, HasTrial, HasValues, IsWay, IsWithin, Meaning, Means, NoCommand, Says, are_allowed, name_of, name_word, once, serve, book, show, conditions, trial}
use Rattle.pg_commands_words.specs.Pieces.{Given, Word, given_in, positionals_of, words_of}
use Rattle.pg_commands_words.specs.Values.{chosen_way, number_of, quantum_of, seed_of, trial_of, way_of}
use Rattle.pg_commands_words.specs.Lines.{IsLine, is_line, name_of_line, named}
use Rattle.pg_commands_words.proofs.Lines.{line-found, line-passes}
use Rattle.pg_commands_words.proofs.Rows.{IsFine, given-found, rows_found, words-found}
use Rattle.pg_commands_words.proofs.Found.{line-rows, line-taken}

false≢true : false ≡ true → ⊥
false≢true e = cc

-- ---- the name and a line

-- the words are this name and a line
pub record IsNamed (words : List Word) (name : Name) : Type 0 where
  pub rest : List Word
  pub spelled : words ≡ name_word name ∷ rest
  pub line : IsLine rest

some-name : (m n : Name) → Some m ≡ Some n → m ≡ n
some-name m n e = cc

none≢name : (n : Name) → None ≡ Some n → ⊥
none≢name n e = cc

is-named : (word : Word) (name : Name) → named word ≡ Some name → word ≡ name_word name
is-named word name e = once-or (bytes_eq word (codes "once")) refl e
  where
    trial-or : (b : Bool) → bytes_eq word (codes "trial") ≡ b → cond b (Some Trial) None ≡ Some name → word ≡ name_word name
    trial-or true h e = (bytes_eq-Decides word (codes "trial")).0 h ∙ ap name_word (some-name Trial name e)
    trial-or false h e = absurd (none≢name name e)

    conditions-or : (b : Bool) → bytes_eq word (codes "conditions") ≡ b → cond b (Some Conditions) (cond (bytes_eq word (codes "trial")) (Some Trial) None) ≡ Some name → word ≡ name_word name
    conditions-or true h e = (bytes_eq-Decides word (codes "conditions")).0 h ∙ ap name_word (some-name Conditions name e)
    conditions-or false h e = trial-or (bytes_eq word (codes "trial")) refl e

    show-or : (b : Bool) → bytes_eq word (codes "show") ≡ b → cond b (Some Show) (cond (bytes_eq word (codes "conditions")) (Some Conditions) (cond (bytes_eq word (codes "trial")) (Some Trial) None)) ≡ Some name → word ≡ name_word name
    show-or true h e = (bytes_eq-Decides word (codes "show")).0 h ∙ ap name_word (some-name Show name e)
    show-or false h e = conditions-or (bytes_eq word (codes "conditions")) refl e

    book-or : (b : Bool) → bytes_eq word (codes "book") ≡ b → cond b (Some Book) (cond (bytes_eq word (codes "show")) (Some Show) (cond (bytes_eq word (codes "conditions")) (Some Conditions) (cond (bytes_eq word (codes "trial")) (Some Trial) None))) ≡ Some name → word ≡ name_word name
    book-or true h e = (bytes_eq-Decides word (codes "book")).0 h ∙ ap name_word (some-name Book name e)
    book-or false h e = show-or (bytes_eq word (codes "show")) refl e

    serve-or : (b : Bool) → bytes_eq word (codes "serve") ≡ b → cond b (Some Serve) (cond (bytes_eq word (codes "book")) (Some Book) (cond (bytes_eq word (codes "show")) (Some Show) (cond (bytes_eq word (codes "conditions")) (Some Conditions) (cond (bytes_eq word (codes "trial")) (Some Trial) None)))) ≡ Some name → word ≡ name_word name
    serve-or true h e = (bytes_eq-Decides word (codes "serve")).0 h ∙ ap name_word (some-name Serve name e)
    serve-or false h e = book-or (bytes_eq word (codes "book")) refl e

    once-or : (b : Bool) → bytes_eq word (codes "once") ≡ b → cond b (Some Once) (cond (bytes_eq word (codes "serve")) (Some Serve) (cond (bytes_eq word (codes "book")) (Some Book) (cond (bytes_eq word (codes "show")) (Some Show) (cond (bytes_eq word (codes "conditions")) (Some Conditions) (cond (bytes_eq word (codes "trial")) (Some Trial) None))))) ≡ Some name → word ≡ name_word name
    once-or true h e = (bytes_eq-Decides word (codes "once")).0 h ∙ ap name_word (some-name Once name e)
    once-or false h e = serve-or (bytes_eq word (codes "serve")) refl e

name-found : (words : List Word) (name : Name) → name_of_line words ≡ Some name → IsNamed words name
name-found [] name e = absurd (none≢name name e)
name-found (word ∷ words) name e = by (is_line words) refl e
  where
    by : (b : Bool) → is_line words ≡ b → cond b (named word) None ≡ Some name → IsNamed (word ∷ words) name
    by true h e = record { rest = words; spelled = ap (λ w. w ∷ words) (is-named word name e); line = line-found words h }
    by false h e = absurd (none≢name name e)

named-word : (name : Name) → named (name_word name) ≡ Some name
named-word Once = refl
named-word Serve = refl
named-word Book = refl
named-word Show = refl
named-word Conditions = refl
named-word Trial = refl

-- the words of a command begin with its name
pub name-passes : (words : List Word) (meaning : Meaning) → Means words meaning → name_of_line words ≡ Some (name_of meaning)
name-passes words meaning m =
    ap name_of_line m.spelled ∙ ap (λ b. cond b (named (name_word (name_of meaning))) None) (line-passes m.line m.plain m.at_most_once) ∙ named-word (name_of meaning)

pub taken : (words : List Word) (name : Name) → name_of_line words ≡ Some name → takes program_app words ≡ true
taken words name e = let l = name-found words name e in ap (takes program_app) l.spelled ∙ line-taken name l.rest l.line

-- ---- what the matches say

pub name-read : (words : List Word) (name : Name) (meaning : Meaning) → name_of_line words ≡ Some name → Reads name (subcommand_of program_app words) meaning → Means words meaning
name-read words name meaning e r =
    let l = name-found words name e in
    let line = l.line.line in
    let fine : IsFine line = (l.line.plain, l.line.once) in
    let found : subcommand_of program_app words ≡ Some (name_word name, rows_found line) = ap (subcommand_of program_app) l.spelled ∙ line-rows name l.rest l.line in
    let g : SaysOf name (given_of_rows (rows_found line)) (words_in (rows_found line)) meaning = subst (λ f. Reads name f meaning) found r in
    let h : Says (given_in line) (positionals_of line) meaning =
    subst (λ o. Says o (positionals_of line) meaning) (given-found line fine) (subst (λ ws. Says (given_of_rows (rows_found line)) ws meaning) (words-found line fine) g.1) in
    record {
      line = line;
      spelled = l.spelled ∙ ap (λ ws. name_word name ∷ ws) l.line.spelled ∙ ap (λ n. name_word n ∷ words_of line) (sym g.0);
      plain = l.line.plain;
      at_most_once = l.line.once;
      says = h;
    }

-- the matches of the words of a command say what it is
pub reads : (words : List Word) (meaning : Meaning) → Means words meaning → Reads (name_of meaning) (subcommand_of program_app words) meaning
reads words meaning m =
    let line = m.line in
    let fine : IsFine line = (m.plain, m.at_most_once) in
    let l : IsLine (words_of line) = record { line = line; spelled = refl; plain = m.plain; once = m.at_most_once } in
    let found : subcommand_of program_app words ≡ Some (name_word (name_of meaning), rows_found line) =
    ap (subcommand_of program_app) m.spelled ∙ line-rows (name_of meaning) (words_of line) l in
    let h : Says (given_of_rows (rows_found line)) (words_in (rows_found line)) meaning =
    subst (λ o. Says o (words_in (rows_found line)) meaning) (sym (given-found line fine)) (subst (λ ws. Says (given_in line) ws meaning) (sym (words-found line fine)) m.says) in
    subst (λ f. Reads (name_of meaning) f meaning) (sym found) (refl, h)

-- words write nothing
pub none-read : (words : List Word) (name : Name) → name_of_line words ≡ Some name → ReadsNone name (subcommand_of program_app words) → NoCommand words
none-read words name e none meaning m =
    let same : name_of meaning ≡ name = some-name (name_of meaning) name (sym (name-passes words meaning m) ∙ e) in
    none meaning (subst (λ n. Reads n (subcommand_of program_app words) meaning) same (reads words meaning m))

pub no-line : (words : List Word) → name_of_line words ≡ None → NoCommand words
no-line words e meaning m = none≢name (name_of meaning) (sym e ∙ name-passes words meaning m)

-- ---- words are one command

same-numbers : (ns ms : List ℤ) → map Some ns ≡ map Some ms → ns ≡ ms
same-numbers [] [] e = refl
same-numbers [] (m ∷ ms) e = absurd cc
same-numbers (n ∷ ns) [] e = absurd cc
same-numbers (n ∷ ns) (m ∷ ms) e = cc (same-numbers ns ms (cc))

same-quantum : (q r : ℕ) → Some q ≡ Some r → q ≡ r
same-quantum q r e = cc

same-way : (w v : RecordingWay) → Some w ≡ Some v → w ≡ v
same-way w v e = cc

same-rotation : (q r : ℕ) → Some (Rotating q) ≡ Some (Rotating r) → q ≡ r
same-rotation q r e = cc

first-word : (x y : Word) (xs ys : List Word) → x ∷ xs ≡ y ∷ ys → (x ≡ y) × (xs ≡ ys)
first-word x y xs ys e = (cc, cc)

numbers-same : (ws vs : List Word) (ns ms : List ℤ) → ws ≡ vs → HasNumbers ws ns → HasNumbers vs ms → ns ≡ ms
numbers-same ws vs ns ms e g h = same-numbers ns ms (sym g.has_numbers ∙ ap (map number_of) e ∙ h.has_numbers)

file-same : (ws : List Word) (f d : Word) → ws ≡ f ∷ [] → ws ≡ d ∷ [] → f ≡ d
file-same ws f d g h = (first-word f d [] [] (sym g ∙ h)).0

both-same : (ws : List Word) (f d : Word) (ns ms : List ℤ) → HasFileAndNumbers ws f ns → HasFileAndNumbers ws d ms → (f ≡ d) × (ns ≡ ms)
both-same ws f d ns ms g h =
    let w = first-word f d g.texts h.texts (sym g.has_file ∙ h.has_file) in
    (w.0, numbers-same g.texts h.texts ns ms w.1 g.has_numbers h.has_numbers)

-- options and positionals have the values of one command of a name
one-values : (o : Given) (ws : List Word) (a b : Meaning) → name_of a ≡ name_of b → HasValues o ws a → HasValues o ws b → a ≡ b
one-values o ws (once q ns) (once r ms) e g h = rw (same-rotation q r (sym g.0 ∙ h.0), numbers-same ws ws ns ms refl g.1 h.1) refl
one-values o ws (serve f w n y j) (serve d v m z k) e g h =
    rw (file-same ws f d g.has_file h.has_file, same-way w v (sym g.has_way ∙ h.has_way), sym g.has_book ∙ h.has_book, sym g.has_only ∙ h.has_only, sym g.has_json ∙ h.has_json) refl
one-values o ws (book f w) (book d v) e g h = rw (file-same ws f d g.1 h.1, same-way w v (sym g.0 ∙ h.0)) refl
one-values o ws (show f w ns) (show d v ms) e g h =
    let b = both-same ws f d ns ms g.1 h.1 in
    rw (b.0, same-way w v (sym g.0 ∙ h.0), b.1) refl
one-values o ws (conditions f w ns) (conditions d v ms) e g h =
    let b = both-same ws f d ns ms g.1 h.1 in
    rw (b.0, same-way w v (sym g.0 ∙ h.0), b.1) refl
one-values o ws (trial n) (trial m) e g h =
    let t = file-same ws g.text h.text g.has_text h.has_text in
    rw (same-quantum n m (sym g.has_number ∙ ap trial_of t ∙ h.has_number)) refl
one-values o ws (once q ns) (serve d v m z k) e g h = absurd cc
one-values o ws (once q ns) (book d v) e g h = absurd cc
one-values o ws (once q ns) (show d v ms) e g h = absurd cc
one-values o ws (once q ns) (conditions d v ms) e g h = absurd cc
one-values o ws (once q ns) (trial m) e g h = absurd cc
one-values o ws (serve f w n y j) (once r ms) e g h = absurd cc
one-values o ws (serve f w n y j) (book d v) e g h = absurd cc
one-values o ws (serve f w n y j) (show d v ms) e g h = absurd cc
one-values o ws (serve f w n y j) (conditions d v ms) e g h = absurd cc
one-values o ws (serve f w n y j) (trial m) e g h = absurd cc
one-values o ws (book f w) (once r ms) e g h = absurd cc
one-values o ws (book f w) (serve d v m z k) e g h = absurd cc
one-values o ws (book f w) (show d v ms) e g h = absurd cc
one-values o ws (book f w) (conditions d v ms) e g h = absurd cc
one-values o ws (book f w) (trial m) e g h = absurd cc
one-values o ws (show f w ns) (once r ms) e g h = absurd cc
one-values o ws (show f w ns) (serve d v m z k) e g h = absurd cc
one-values o ws (show f w ns) (book d v) e g h = absurd cc
one-values o ws (show f w ns) (conditions d v ms) e g h = absurd cc
one-values o ws (show f w ns) (trial m) e g h = absurd cc
one-values o ws (conditions f w ns) (once r ms) e g h = absurd cc
one-values o ws (conditions f w ns) (serve d v m z k) e g h = absurd cc
one-values o ws (conditions f w ns) (book d v) e g h = absurd cc
one-values o ws (conditions f w ns) (show d v ms) e g h = absurd cc
one-values o ws (conditions f w ns) (trial m) e g h = absurd cc
one-values o ws (trial n) (once r ms) e g h = absurd cc
one-values o ws (trial n) (serve d v m z k) e g h = absurd cc
one-values o ws (trial n) (book d v) e g h = absurd cc
one-values o ws (trial n) (show d v ms) e g h = absurd cc
one-values o ws (trial n) (conditions d v ms) e g h = absurd cc

one-read : (found : Option (Word × List Row)) (n : Name) (a b : Meaning) → Reads n found a → Reads n found b → a ≡ b
one-read None n a b g h = absurd g
one-read (Some f) n a b g h = one-values (given_of_rows f.1) (words_in f.1) a b (g.0 ∙ sym h.0) g.1.has_values h.1.has_values

pub one-command : (words : List Word) (a b : Meaning) → Means words a → Means words b → a ≡ b
one-command words a b m n =
    let same : name_of b ≡ name_of a = some-name (name_of b) (name_of a) (sym (name-passes words b n) ∙ name-passes words a m) in
    one-read (subcommand_of program_app words) (name_of a) a b (reads words a m) (subst (λ k. Reads k (subcommand_of program_app words) b) same (reads words b n))

-- ---- values are in their ranges

none≢way : (w : RecordingWay) → None ≡ Some w → ⊥
none≢way w e = cc

in-range : (a b d : Bool) (n q : ℕ) → cond (a && (b && d)) (Some n) None ≡ Some q → (b ≡ true) × (d ≡ true) × (n ≡ q)
in-range true true true n q e = (refl, refl, same-quantum n q e)
in-range true true false n q e = absurd cc
in-range true false d n q e = absurd cc
in-range false b d n q e = absurd cc

value-range : (word : Word) (q : ℕ) → quantum_of word ≡ Some q → (1 ≤ q) × (q ≤ QUANTUM_LIMIT)
value-range word q e =
    let r = in-range (are_digits word) (nat_le 1 (natural_of word)) (nat_le (natural_of word) QUANTUM_LIMIT) (natural_of word) q e in
    let least = leb-true 1 (natural_of word) r.0 in
    let most = leb-true (natural_of word) QUANTUM_LIMIT r.1 in
    (omega (arith, least, r.2), omega (arith, most, r.2))

up-to : (word : Word) (high n : ℕ) → cond (are_digits word && nat_le (natural_of word) high) (Some (natural_of word)) None ≡ Some n → n ≤ high
up-to word high n e = go (are_digits word) (nat_le (natural_of word) high) refl e
  where
    go : (a b : Bool) → nat_le (natural_of word) high ≡ b → cond (a && b) (Some (natural_of word)) None ≡ Some n → n ≤ high
    go true true h e =
        let most = leb-true (natural_of word) high h in
        let is = same-quantum (natural_of word) n e in
        omega (arith, most, is)
    go true false h e = absurd cc
    go false b h e = absurd cc

rotating-way : (o : Option ℕ) → ((q : ℕ) → o ≡ Some q → (1 ≤ q) × (q ≤ QUANTUM_LIMIT)) → (w : RecordingWay) → option_map Rotating o ≡ Some w → IsWay w
rotating-way None f w e = absurd (none≢way w e)
rotating-way (Some q) f w e = subst IsWay (same-way (Rotating q) w e) (f q refl)

seeded-way : (o : Option ℕ) → ((s : ℕ) → o ≡ Some s → s < 2 ^ 64) → (w : RecordingWay) → option_map Seeded o ≡ Some w → IsWay w
seeded-way None f w e = absurd (none≢way w e)
seeded-way (Some s) f w e = subst IsWay (same-way (Seeded s) w e) (f s refl)

seed-range : (text : Word) (s : ℕ) → seed_of text ≡ Some s → s < 2 ^ 64
seed-range text s e = let most = up-to text (2 ^ 64 - 1) s e in omega (arith, most)

default-way : IsWay (Rotating DEFAULT_QUANTUM)
default-way = (omega arith, omega arith)

free-way : IsWay Free
free-way = tt

is-way : (q s : Option Word) (f : Bool) (w : RecordingWay) → way_of q s f ≡ Some w → IsWay w
is-way None None false w e = subst IsWay (same-way (Rotating DEFAULT_QUANTUM) w e) default-way
is-way (Some text) None false w e = rotating-way (quantum_of text) (value-range text) w e
is-way None (Some text) false w e = seeded-way (seed_of text) (seed-range text) w e
is-way None None true w e = subst IsWay (same-way Free w e) free-way
is-way (Some text) (Some other) true w e = absurd (none≢way w e)
is-way (Some text) (Some other) false w e = absurd (none≢way w e)
is-way (Some text) None true w e = absurd (none≢way w e)
is-way None (Some text) true w e = absurd (none≢way w e)

chosen : (o : Given) (w : RecordingWay) → chosen_way o ≡ Some w → IsWay w
chosen o w e = is-way o.quantum o.seed o.free w e

has-within : (o : Given) (ws : List Word) (meaning : Meaning) → HasValues o ws meaning → IsWithin meaning
has-within o ws (once quantum numbers) h = let r = chosen o (Rotating quantum) h.0 in (r.0, r.1, h.1.few)
has-within o ws (serve file way named only json) h = chosen o way h.has_way
has-within o ws (book file way) h = chosen o way h.0
has-within o ws (show file way numbers) h = (chosen o way h.0, h.1.has_numbers.few)
has-within o ws (conditions file way numbers) h = (chosen o way h.0, h.1.has_numbers.few)
has-within o ws (trial number) h = up-to h.text TRIAL_LIMIT number h.has_number

-- a command's values are within their limits
pub within : (words : List Word) (meaning : Meaning) → Means words meaning → IsWithin meaning
within words meaning m = has-within (given_in m.line) (positionals_of m.line) meaning m.says.has_values

-- ---- clauses about a value that may be there

pub IfSome-weaker : {X : Type 0} (o : Option X) (P Q : X → Type 0) → ((x : X) → P x → Q x) → IfSome o P → IfSome o Q
IfSome-weaker None P Q f h = h
IfSome-weaker (Some x) P Q f h = f x h

pub IfNone-weaker : {X : Type 0} (o : Option X) (P Q : Type 0) → (P → Q) → IfNone o P → IfNone o Q
IfNone-weaker None P Q f h = f h
IfNone-weaker (Some x) P Q f h = h

-- ---- one command of a name alone has its values

-- the values of this name are those of these meanings
abbrev pub none_of : Name → Given → List Word → Type 0
none_of Once o ws = (quantum : ℕ) (numbers : List ℤ) → HasValues o ws (once quantum numbers) → ⊥
none_of Serve o ws = (file : Word) (way : RecordingWay) (named : Option Word) (only json : Bool) → HasSession o ws file way named only json → ⊥
none_of Book o ws = (file : Word) (way : RecordingWay) → HasValues o ws (book file way) → ⊥
none_of Show o ws = (file : Word) (way : RecordingWay) (numbers : List ℤ) → HasValues o ws (show file way numbers) → ⊥
none_of Conditions o ws = (file : Word) (way : RecordingWay) (numbers : List ℤ) → HasValues o ws (conditions file way numbers) → ⊥
none_of Trial o ws = (number : ℕ) → HasTrial ws number → ⊥

none-by : (o : Given) (ws : List Word) (meaning : Meaning) → none_of (name_of meaning) o ws → HasValues o ws meaning → ⊥
none-by o ws (once quantum numbers) f h = f quantum numbers h
none-by o ws (serve file way named only json) f h = f file way named only json h
none-by o ws (book file way) f h = f file way h
none-by o ws (show file way numbers) f h = f file way numbers h
none-by o ws (conditions file way numbers) f h = f file way numbers h
none-by o ws (trial number) f h = f number h

pub no-values : (name : Name) (o : Given) (ws : List Word) → none_of name o ws → HasNoValues name o ws
no-values name o ws f meaning h = none-by o ws meaning (subst (λ n. none_of n o ws) (sym h.0) f) h.1

-- values and options that a command may have
pub says-by : (name : Name) (o : Given) (ws : List Word) (meaning : Meaning) → are_allowed name o ≡ true → HasValuesOf name o ws meaning → SaysOf name o ws meaning
says-by name o ws meaning allowed h = (h.0, record { allowed = ap (λ n. are_allowed n o) h.0 ∙ allowed; has_values = h.1 })

pub says-none : (name : Name) (o : Given) (ws : List Word) → HasNoValues name o ws → SaysNone name o ws
says-none name o ws f meaning h = f meaning (h.0, h.1.has_values)

pub none-allowed : (name : Name) (o : Given) (ws : List Word) → are_allowed name o ≡ false → SaysNone name o ws
none-allowed name o ws refused meaning h = false≢true (sym refused ∙ ap (λ n. are_allowed n o) (sym h.0) ∙ h.1.allowed)
