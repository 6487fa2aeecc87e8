-- What the parser finds in a line: it takes it, and has the texts of its options and its positionals.
use Rattle.std.proofs.Common.{◌≡◌, ◌∙◌, ◌&&◌, true, false, refl, sym, ap, subst, List, [], ◌∷◌, ◌++◌, codes, Some, is_some}
use Rattle.std.specs.List.{fold}
use Rattle.clap.specs.Walk.{Names, Row, Text, Walk, idle, nothing_held, settled, walk, walk_from, walked, with_default}
use Rattle.clap.specs.Simple.{Shape, built, entered, subcommand_of}
use Rattle.clap.specs.Takes.{entered_passes, level_passes, takes, turn_passes, walk_passes, settle_passes}
use Rattle.clap.proofs.OnLiterals.{clap_on_literals}
use Rattle.clap.proofs.WalkLemmas.{walk_stopped}
use Rattle.pg_commands_words.specs.Clap.{program_app}
use Rattle.pg_commands_words.specs.Pieces.{Line, Word, positionals_of_end, words_of, words_of_end}
use Rattle.pg_commands_words.specs.Commands.{name_word}
use Rattle.pg_commands_words.specs.Lines.{IsLine}
use Rattle.pg_commands_words.specs.declared.names.Name.{Name}
use Rattle.pg_commands_words.specs.declared.names.Name.TheVariants.{Once, Serve, Book, Show, Conditions, Trial}
use Rattle.pg_commands_words.proofs.Lines.{both}
use Rattle.pg_commands_words.proofs.Walks.{Reaches, between, end-reach, line_shape, pieces-reach, state}
use Rattle.pg_commands_words.proofs.Rows.{IsFine, fresh-start, line_rules, rows_found, rows_of_line, with_number}

-- ---- a whole line

pub line-reach : (line : Line) → IsFine line → Reaches (state nothing_held idle false) (words_of line) (rows_of_line line)
line-reach line fine =
    pieces-reach line.pieces (words_of_end line.end) [] (rows_of_line line) fine.0 (fresh-start line fine)
    (λ h w can is. subst (Reaches (state h (between w) false) (words_of_end line.end)) (ap (λ rs. fold with_number rs (positionals_of_end line.end)) is) (end-reach line.end h w can))
    nothing_held false refl refl

-- ---- the words after the command word are left to the subcommand

abbrev names : Names
names = (codes "once", []) ∷ (codes "serve", []) ∷ (codes "book", []) ∷ (codes "show", []) ∷ (codes "conditions", []) ∷ (codes "trial", []) ∷ []

abbrev stands : Name → List Word → Walk
stands name words = record (walk_from nothing_held) { stopped = Some (name_word name, words) }

walk-stands : (name : Name) (words : List Word) → walk [] names nothing_held (name_word name ∷ words) ≡ stands name words
unfolding walked
walk-stands Once words = sym (walk_stopped [] names (walk_from nothing_held) (codes "once") [] words)
walk-stands Serve words = sym (walk_stopped [] names (walk_from nothing_held) (codes "serve") [] words)
walk-stands Book words = sym (walk_stopped [] names (walk_from nothing_held) (codes "book") [] words)
walk-stands Show words = sym (walk_stopped [] names (walk_from nothing_held) (codes "show") [] words)
walk-stands Conditions words = sym (walk_stopped [] names (walk_from nothing_held) (codes "conditions") [] words)
walk-stands Trial words = sym (walk_stopped [] names (walk_from nothing_held) (codes "trial") [] words)

fine : (words : List Word) (l : IsLine words) → IsFine l.line
fine words l = (l.plain, l.once)

line-reaches : (words : List Word) (l : IsLine words) → Reaches (state nothing_held idle false) words (rows_of_line l.line)
line-reaches words l = subst (λ ws. Reaches (state nothing_held idle false) ws (rows_of_line l.line)) (sym l.spelled) (line-reach l.line (fine words l))

-- what a subcommand finds in a line
found-there : (words : List Word) (l : IsLine words) → fold with_default (settled line_rules (walk line_rules [] nothing_held words).held).rows line_rules ≡ rows_found l.line
found-there words l = ap (λ rows. fold with_default rows line_rules) (line-reaches words l).rows

pub line-rows : (name : Name) (words : List Word) (l : IsLine words) → subcommand_of program_app (name_word name ∷ words) ≡ Some (name_word name, rows_found l.line)
line-rows Once words l = ap (λ (w : Walk). entered (built program_app) w.stopped) (walk-stands Once words) ∙ ap (λ rows. Some (codes "once", rows)) (found-there words l)
line-rows Serve words l = ap (λ (w : Walk). entered (built program_app) w.stopped) (walk-stands Serve words) ∙ ap (λ rows. Some (codes "serve", rows)) (found-there words l)
line-rows Book words l = ap (λ (w : Walk). entered (built program_app) w.stopped) (walk-stands Book words) ∙ ap (λ rows. Some (codes "book", rows)) (found-there words l)
line-rows Show words l = ap (λ (w : Walk). entered (built program_app) w.stopped) (walk-stands Show words) ∙ ap (λ rows. Some (codes "show", rows)) (found-there words l)
line-rows Conditions words l = ap (λ (w : Walk). entered (built program_app) w.stopped) (walk-stands Conditions words) ∙ ap (λ rows. Some (codes "conditions", rows)) (found-there words l)
line-rows Trial words l = ap (λ (w : Walk). entered (built program_app) w.stopped) (walk-stands Trial words) ∙ ap (λ rows. Some (codes "trial", rows)) (found-there words l)

passes-stopped : (w : Walk) (stop : Text × List Text) (words : List Word)
    → walk_passes (built program_app).top names (record w { stopped = Some stop }) words ≡ true
unfolding walk_passes walked
passes-stopped w stop [] = refl
passes-stopped w stop (word ∷ words) = passes-stopped w (stop.0, stop.1 ++ word ∷ []) words

-- the command's own level takes the words
top-takes : (name : Name) (words : List Word) → level_passes (built program_app).top names nothing_held (name_word name ∷ words) true ≡ true
unfolding clap_on_literals
top-takes Once words = both _ _ (passes-stopped (walk_from nothing_held) (codes "once", []) words)
    (ap (λ (w : Walk). settle_passes [] false w.held && true) (walk-stands Once words))
top-takes Serve words = both _ _ (passes-stopped (walk_from nothing_held) (codes "serve", []) words)
    (ap (λ (w : Walk). settle_passes [] false w.held && true) (walk-stands Serve words))
top-takes Book words = both _ _ (passes-stopped (walk_from nothing_held) (codes "book", []) words)
    (ap (λ (w : Walk). settle_passes [] false w.held && true) (walk-stands Book words))
top-takes Show words = both _ _ (passes-stopped (walk_from nothing_held) (codes "show", []) words)
    (ap (λ (w : Walk). settle_passes [] false w.held && true) (walk-stands Show words))
top-takes Conditions words = both _ _ (passes-stopped (walk_from nothing_held) (codes "conditions", []) words)
    (ap (λ (w : Walk). settle_passes [] false w.held && true) (walk-stands Conditions words))
top-takes Trial words = both _ _ (passes-stopped (walk_from nothing_held) (codes "trial", []) words)
    (ap (λ (w : Walk). settle_passes [] false w.held && true) (walk-stands Trial words))

-- the level of a subcommand takes a line, whatever its name
abbrev shape_of_name : Text → Shape
shape_of_name name = record line_shape { name = name }

same-walk : (name : Text) (w : Walk) (words : List Word) → walk_passes (shape_of_name name) [] w words ≡ walk_passes line_shape [] w words
unfolding walk_passes
same-walk name w [] = refl
same-walk name w (word ∷ words) = ap (λ b. turn_passes line_shape [] w word && b) (same-walk name (walked line_rules [] w word) words)

line-takes : (name : Text) (words : List Word) (rows : List Row) → Reaches (state nothing_held idle false) words rows → level_passes (shape_of_name name) [] nothing_held words false ≡ true
line-takes name words rows r = both _ _ (same-walk name (state nothing_held idle false) words ∙ r.passes) (both _ _ r.settles refl)

taken-there : (name : Name) (words : List Word) (l : IsLine words) → entered_passes (built program_app) (Some (name_word name, words)) ≡ true
taken-there Once words l = line-takes (codes "once") words (rows_of_line l.line) (line-reaches words l)
taken-there Serve words l = line-takes (codes "serve") words (rows_of_line l.line) (line-reaches words l)
taken-there Book words l = line-takes (codes "book") words (rows_of_line l.line) (line-reaches words l)
taken-there Show words l = line-takes (codes "show") words (rows_of_line l.line) (line-reaches words l)
taken-there Conditions words l = line-takes (codes "conditions") words (rows_of_line l.line) (line-reaches words l)
taken-there Trial words l = line-takes (codes "trial") words (rows_of_line l.line) (line-reaches words l)

is-entered : (name : Name) (words : List Word) → is_some (entered (built program_app) (Some (name_word name, words))) ≡ true
is-entered Once words = refl
is-entered Serve words = refl
is-entered Book words = refl
is-entered Show words = refl
is-entered Conditions words = refl
is-entered Trial words = refl

takes-by : (name : Name) (words : List Word) → takes program_app (name_word name ∷ words)
    ≡ (entered_passes (built program_app) (Some (name_word name, words))
    && level_passes (built program_app).top names nothing_held (name_word name ∷ words) (is_some (entered (built program_app) (Some (name_word name, words)))))
takes-by name words =
    ap (λ (w : Walk). entered_passes (built program_app) w.stopped && level_passes (built program_app).top names nothing_held (name_word name ∷ words)
    (is_some (entered (built program_app) w.stopped)))
    (walk-stands name words)

pub line-taken : (name : Name) (words : List Word) (l : IsLine words) → takes program_app (name_word name ∷ words) ≡ true
line-taken name words l =
    takes-by name words
    ∙ both _ _ (taken-there name words l) (ap (level_passes (built program_app).top names nothing_held (name_word name ∷ words)) (is-entered name words) ∙ top-takes name words)
