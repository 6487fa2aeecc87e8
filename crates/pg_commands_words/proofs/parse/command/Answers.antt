-- The words are a name and a line, or write nothing; of a line the parser's matches say what it is.
use Rattle.std.proofs.Common.{◌≡◌, ◌∙◌, map, string_bytes, subst, sym, Some}
use Rattle.std.proofs.lemmas.Result.{IfOk-weaker}
use Rattle.pg_commands_words.specs.Clap.{Reads, ReadsNone}
use Rattle.pg_commands_words.specs.Commands.{meaning_of}
use Rattle.pg_commands_words.specs.Lines.{name_of_line}
use Rattle.pg_commands_words.proofs.Meanings.{IfNone-weaker, IfSome-weaker, name-read, no-line, none-read, taken, within}
use Rattle.pg_commands_words.proofs.parse.command.Goals as goal

pub returns-in_default-clause-none : goal.returns-in_default-clause-none
returns-in_default-clause-none c = no-line (map string_bytes c.args.words.now) (sym c.name_of_line.ensures ∙ c.in_default.is)

pub matches-requires : goal.matches-requires
matches-requires c = record { taken = taken (map string_bytes c.args.words.now) c.in-Some.name (sym c.name_of_line.ensures ∙ c.in-Some.is) }

pub returns-clause-some : goal.returns-clause-some
returns-clause-some c =
    let words = map string_bytes c.args.words.now in
    let named : name_of_line words ≡ Some c.in-Some.name = sym c.name_of_line.ensures ∙ c.in-Some.is in
    IfOk-weaker c.command_in.result _ _ (λ found h. IfSome-weaker found _ _
    (λ command r. name-read words c.in-Some.name (meaning_of command) named (subst (λ f. Reads c.in-Some.name f (meaning_of command)) c.in_ok-matches.ensures r)) h)
    c.command_in.ensures.some

pub returns-clause-none : goal.returns-clause-none
returns-clause-none c =
    let words = map string_bytes c.args.words.now in
    let named : name_of_line words ≡ Some c.in-Some.name = sym c.name_of_line.ensures ∙ c.in-Some.is in
    IfOk-weaker c.command_in.result _ _ (λ found h. IfNone-weaker found _ _
    (λ none. none-read words c.in-Some.name named (subst (ReadsNone c.in-Some.name) c.in_ok-matches.ensures none)) h)
    c.command_in.ensures.none

pub returns-clause-within : goal.returns-clause-within
returns-clause-within c =
    let words = map string_bytes c.args.words.now in
    let named : name_of_line words ≡ Some c.in-Some.name = sym c.name_of_line.ensures ∙ c.in-Some.is in
    IfOk-weaker c.command_in.result _ _ (λ found h. IfSome-weaker found _ _
    (λ command r. within words (meaning_of command)
    (name-read words c.in-Some.name (meaning_of command) named (subst (λ f. Reads c.in-Some.name f (meaning_of command)) c.in_ok-matches.ensures r))) h)
    c.command_in.ensures.some
