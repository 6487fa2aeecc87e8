-- The positionals are those of the rows.
use Rattle.std.proofs.Common.{◌≡◌, ◌∙◌, ap, map, codes, []}
use Rattle.std.specs.Prelude.{unwrap_or}
use Rattle.clap.specs.Words.{found_of, rows_of}
use Rattle.clap.proofs.WalkLemmas.{raw_values-rows}
use Rattle.pg_commands_words.specs.Clap.{words_in}
use Rattle.pg_commands_words.proofs.parse.command_of.Goals as goal

pub returns-in-Some-clause-some : goal.returns-in-Some-clause-some
returns-in-Some-clause-some c =
    let texts : map (λ t. t.now) c.in-Some.texts.now ≡ words_in (rows_of (found_of c.args.found.now)) =
    ap (λ o. unwrap_or o []) ((rw c.in-Some.is at c.get_raw.ensures) ∙ raw_values-rows (found_of c.args.found.now) (codes "words")) in
    rw (← texts, ← c.options_found-options.ensures) c.command_with.ensures.some

pub returns-in-Some-clause-none : goal.returns-in-Some-clause-none
returns-in-Some-clause-none c =
    let texts : map (λ t. t.now) c.in-Some.texts.now ≡ words_in (rows_of (found_of c.args.found.now)) =
    ap (λ o. unwrap_or o []) ((rw c.in-Some.is at c.get_raw.ensures) ∙ raw_values-rows (found_of c.args.found.now) (codes "words")) in
    rw (← texts, ← c.options_found-options.ensures) c.command_with.ensures.none

pub returns-in-None-clause-some : goal.returns-in-None-clause-some
returns-in-None-clause-some c =
    let texts : [] ≡ words_in (rows_of (found_of c.args.found.now)) =
    ap (λ o. unwrap_or o []) ((rw c.in-None.is at c.get_raw.ensures) ∙ raw_values-rows (found_of c.args.found.now) (codes "words")) in
    rw (← texts, ← c.options_found-options.ensures) c.command_with-in-None.ensures.some

pub returns-in-None-clause-none : goal.returns-in-None-clause-none
returns-in-None-clause-none c =
    let texts : [] ≡ words_in (rows_of (found_of c.args.found.now)) =
    ap (λ o. unwrap_or o []) ((rw c.in-None.is at c.get_raw.ensures) ∙ raw_values-rows (found_of c.args.found.now) (codes "words")) in
    rw (← texts, ← c.options_found-options.ensures) c.command_with-in-None.ensures.none
