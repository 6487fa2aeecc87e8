use Rattle.std.proofs.Common.{◌≡◌, ◌∙◌, ap, sym, subst}
use Rattle.std.specs.Prelude.{IfOk, OnErr}
use Rattle.pg_cache.specs.Kept.{Kept}
use Rattle.pg_session.specs.Progress.{Stands}
use Rattle.pg_session.specs.Sessions.{Answers, admits_by, found}
use Rattle.pg_session.specs.Views.{answer_of}
use Rattle.pg_session.proofs.KeptEntries.{on_err, search_stays}
use Rattle.pg_session.proofs.answers.answer_to.Goals as goal

pub reused-requires-clause-stands : goal.reused-requires-clause-stands
reused-requires-clause-stands g c = λ _ _.
    let same = search_stays g.R.Entry.Admits.meaning c.args.cache.now c.find.new.self c.requires.exact c.find.ensures.counts c.find.ensures.stays in
    subst (Stands (g.R.Runner.runs (g.R.Runner.subject c.args.runner.now))) (sym same) c.requires.stands

pub reused-requires-clause-least : goal.reused-requires-clause-least
reused-requires-clause-least g c = λ _ _.
    let same = search_stays g.R.Entry.Admits.meaning c.args.cache.now c.find.new.self c.requires.exact c.find.ensures.counts c.find.ensures.stays in
    ap (λ k. found (admits_by g.R.Entry.Admits.meaning g.R.Entry.Admits.test) k c.args.input.now) same ∙ sym c.in-Some.ensures.least

pub recorded-requires-clause-stands : goal.recorded-requires-clause-stands
recorded-requires-clause-stands g c = λ _ _.
    let same = search_stays g.R.Entry.Admits.meaning c.args.cache.now c.find.new.self c.requires.exact c.find.ensures.counts c.find.ensures.stays in
    subst (Stands (g.R.Runner.runs (g.R.Runner.subject c.args.runner.now))) (sym same) c.requires.stands

pub recorded-requires-clause-none : goal.recorded-requires-clause-none
recorded-requires-clause-none g c = λ _ _.
    let same = search_stays g.R.Entry.Admits.meaning c.args.cache.now c.find.new.self c.requires.exact c.find.ensures.counts c.find.ensures.stays in
    ap (λ k. found (admits_by g.R.Entry.Admits.meaning g.R.Entry.Admits.test) k c.args.input.now) same ∙ sym c.in-None.ensures.least

pub returns-in-Some-clause-answer : goal.returns-in-Some-clause-answer
returns-in-Some-clause-answer g c =
    let same = search_stays g.R.Entry.Admits.meaning c.args.cache.now c.find.new.self c.requires.exact c.find.ensures.counts c.find.ensures.stays in
    subst (λ (k : Kept _). IfOk c.reused.result (λ a. Answers (admits_by g.R.Entry.Admits.meaning g.R.Entry.Admits.test)
    (g.R.Runner.runs (g.R.Runner.subject c.args.runner.now)) k c.args.input.now (answer_of a) c.find.new.self))
    same c.reused.ensures.answer

pub returns-in-Some-clause-err : goal.returns-in-Some-clause-err
returns-in-Some-clause-err g c =
    let same = search_stays g.R.Entry.Admits.meaning c.args.cache.now c.find.new.self c.requires.exact c.find.ensures.counts c.find.ensures.stays in
    on_err c.reused.result same

pub returns-in-None-clause-answer : goal.returns-in-None-clause-answer
returns-in-None-clause-answer g c =
    let same = search_stays g.R.Entry.Admits.meaning c.args.cache.now c.find.new.self c.requires.exact c.find.ensures.counts c.find.ensures.stays in
    subst (λ (k : Kept _). IfOk c.recorded.result (λ a. Answers (admits_by g.R.Entry.Admits.meaning g.R.Entry.Admits.test)
    (g.R.Runner.runs (g.R.Runner.subject c.args.runner.now)) k c.args.input.now (answer_of a) c.recorded.new.cache))
    same c.recorded.ensures.answer

pub returns-in-None-clause-err : goal.returns-in-None-clause-err
returns-in-None-clause-err g c =
    let same = search_stays g.R.Entry.Admits.meaning c.args.cache.now c.find.new.self c.requires.exact c.find.ensures.counts c.find.ensures.stays in
    subst (λ (k : Kept _). OnErr c.recorded.result (c.recorded.new.cache ≡ k)) same c.recorded.ensures.err
