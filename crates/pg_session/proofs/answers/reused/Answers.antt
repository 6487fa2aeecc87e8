use Rattle.std.proofs.Common.{◌∙◌, ap, sym, subst}
use Rattle.std.specs.Option.{option_copied}
use Rattle.pg_session.specs.Sessions.{IsEntryOf, admits_by}
use Rattle.pg_session.proofs.KeptEntries.{entry_of, kept_value, same_some, some_apart}
use Rattle.pg_session.proofs.answers.reused.Goals as goal

pub unreachable-requires : goal.unreachable-requires
unreachable-requires g c =
    let k = kept_value (admits_by g.R.Entry.Admits.meaning g.R.Entry.Admits.test) c.args.cache.now c.args.input.now c.args.number c.requires.least in
    some_apart k.value (sym k.is_value ∙ sym c.value.ensures ∙ ap option_copied c.in_default.is)

pub run_along-requires-clause-entry : goal.run_along-requires-clause-entry
run_along-requires-clause-entry g c =
    let k = kept_value (admits_by g.R.Entry.Admits.meaning g.R.Entry.Admits.test) c.args.cache.now c.args.input.now c.args.number c.requires.least in
    let runs = g.R.Runner.runs (g.R.Runner.subject c.args.runner.now) in
    let same = same_some k.value c.in-Some.entry.now (sym k.is_value ∙ sym c.value.ensures ∙ ap option_copied c.in-Some.is) in
    subst (IsEntryOf runs) same (entry_of runs c.args.cache.now _ k.value c.requires.stands k.among)

pub run_along-requires-clause-admitted : goal.run_along-requires-clause-admitted
run_along-requires-clause-admitted g c =
    let k = kept_value (admits_by g.R.Entry.Admits.meaning g.R.Entry.Admits.test) c.args.cache.now c.args.input.now c.args.number c.requires.least in
    let same = same_some k.value c.in-Some.entry.now (sym k.is_value ∙ sym c.value.ensures ∙ ap option_copied c.in-Some.is) in
    ap (λ v. g.R.Entry.Admits.test (g.R.Entry.Admits.meaning v) c.args.input.now) (sym same) ∙ k.admitted
