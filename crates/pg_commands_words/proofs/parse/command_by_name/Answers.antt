-- Nothing else has the name of the command.
use Rattle.std.proofs.Common.{map, subst, sym}
use Rattle.pg_commands_words.specs.Clap.{HasNoValues, given_of}
use Rattle.pg_commands_words.specs.declared.names.Name.TheVariants.{Show, Conditions, Trial}
use Rattle.pg_commands_words.proofs.Meanings.{no-values}
use Rattle.pg_commands_words.proofs.parse.command_by_name.Goals as goal

pub returns-in-None-4-clause-none : goal.returns-in-None-4-clause-none
returns-in-None-4-clause-none c =
    let given = given_of c.args.options.now in
    let words = map (λ text. text.now) c.args.texts.now in
    subst (λ n. HasNoValues n given words) (sym c.in-Show.is) (no-values Show given words (rw c.in-None-4.is at c.in_ok-show-in-Show.ensures.none))

pub returns-in-None-5-clause-none : goal.returns-in-None-5-clause-none
returns-in-None-5-clause-none c =
    let given = given_of c.args.options.now in
    let words = map (λ text. text.now) c.args.texts.now in
    subst (λ n. HasNoValues n given words) (sym c.in-Conditions.is) (no-values Conditions given words (rw c.in-None-5.is at c.in_ok-conditions-in-Conditions.ensures.none))

pub returns-in-Some-trial_with-clause-some : goal.returns-in-Some-trial_with-clause-some
returns-in-Some-trial_with-clause-some c = (sym c.in-Trial.is, c.in-Some-trial_with.ensures.some)

pub returns-in-None-trial_with-clause-none : goal.returns-in-None-trial_with-clause-none
returns-in-None-trial_with-clause-none c =
    let given = given_of c.args.options.now in
    let words = map (λ text. text.now) c.args.texts.now in
    subst (λ n. HasNoValues n given words) (sym c.in-Trial.is) (no-values Trial given words c.in-None-trial_with.ensures.none)
