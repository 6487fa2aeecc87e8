use Rattle.std.proofs.Common.{◌≡◌, ◌≤◌, ◌∙◌, ℕ, ℤ, List, Vec, Global, sym, subst, arith, length, rules}
use Rattle.pg_num.specs.declared.limits.TheConstants.{NUMBERS_LIMIT}
use Rattle.pg_session_trial.specs.Lines.{trial_line}
use Rattle.pg_session_trial.specs.declared.line.TheConstants.{TRIAL_LINES}
use Rattle.pg_session.specs.Counts.{TrialCounted}
use Rattle.pg_session.specs.Progress.{Stands}
use Rattle.pg_session.specs.Sessions.{Answers, admits_by}
use Rattle.pg_session.specs.Trials.{counts_text}
use Rattle.pg_session.specs.Views.{answer_of}
use Rattle.pg_session.proofs.TrialCounts.{few_numbers, if_ok, tallied_all, tallied_first, tallied_more}
use Rattle.pg_session.proofs.trials.trial.Goals as goal

pub answer_to-requires-clause-few : goal.answer_to-requires-clause-few
answer_to-requires-clause-few g c = λ _ _. subst (λ l. length l ≤ NUMBERS_LIMIT) (sym (c.deref.ensures.value ∙ c.in_ok-input.ensures)) (few_numbers c.args.number c.loop-i.i)

pub answer_to-requires-clause-stands : goal.answer_to-requires-clause-stands
answer_to-requires-clause-stands g c = λ _ _. subst (λ s. Stands (g.R.Runner.runs s) c.loop-i.cache) (sym c.loop-i.invariant.subject) c.loop-i.invariant.tallied.stands

pub answer_to-requires-clause-count : goal.answer_to-requires-clause-count
answer_to-requires-clause-count g c = λ _ _. let b = c.loop-i.invariant.tallied.few_kept in omega (arith, b, c.loop-i-test.true)

pub loop-i-init : goal.loop-i-init
loop-i-init g c = record {
  tallied = rw c.in_ok-cache.ensures (tallied_first (admits_by g.R.Entry.Admits.meaning g.R.Entry.Admits.test) (g.R.Runner.runs (g.R.Runner.subject c.args.runner.now)) c.args.number (g.R.Runner.counts c.args.runner.now));
  subject = search rules;
}

pub loop-i-preserved : goal.loop-i-preserved
loop-i-preserved g c =
    let admits = admits_by g.R.Entry.Admits.meaning g.R.Entry.Admits.test in
    let runs = g.R.Runner.runs (g.R.Runner.subject c.args.runner.now) in
    let answer = answer_of c.in_ok-answer.answer in
    let line = trial_line c.args.number c.loop-i.i in
    let before = c.loop-i.counts in
    let after = c.counted-counts.result in
    let by_input = subst (λ (l : List ℤ). Answers admits (g.R.Runner.runs (g.R.Runner.subject c.loop-i.runner)) c.loop-i.cache l answer c.answer_to.new.cache)
    (c.deref.ensures.value ∙ c.in_ok-input.ensures) c.in_ok-answer.ensures.answer in
    record {
      tallied = tallied_more admits runs c.args.number c.loop-i.i c.loop-i.cache c.answer_to.new.cache answer
          before.recorded before.reused before.refused before.turns before.sum after.recorded after.reused after.refused after.turns after.sum
          (g.R.Runner.counts c.args.runner.now) (g.R.Runner.counts c.loop-i.runner) (g.R.Runner.counts c.answer_to.new.runner)
          (subst (λ s. Answers admits (g.R.Runner.runs s) c.loop-i.cache line answer c.answer_to.new.cache) c.loop-i.invariant.subject by_input)
          c.counted-counts.ensures.recorded c.counted-counts.ensures.reused c.counted-counts.ensures.refused
          c.counted-counts.ensures.turns c.counted-counts.ensures.few_turns c.counted-counts.ensures.sum
          c.in_ok-answer.ensures.counted c.loop-i.invariant.tallied;
      subject = c.in_ok-answer.ensures.stays ∙ c.loop-i.invariant.subject;
    }

pub returns-clause-text : goal.returns-clause-text
returns-clause-text g c =
    let admits = admits_by g.R.Entry.Admits.meaning g.R.Entry.Admits.test in
    let runs = g.R.Runner.runs (g.R.Runner.subject c.args.runner.now) in
    let counts = c.loop-i.counts in
    let all : c.loop-i.i ≡ TRIAL_LINES = omega (arith, c.loop-i-test.false, c.loop-i.auto.i-end) in
    if_ok (λ (v : Vec ℕ Global). v.items ≡ counts_text c.args.number counts.recorded counts.reused counts.refused counts.turns counts.sum)
    (λ (v : Vec ℕ Global). TrialCounted admits runs c.args.number (g.R.Runner.counts c.args.runner.now) (g.R.Runner.counts c.loop-i.runner) v.items)
    (λ v is. tallied_all admits runs c.args.number c.loop-i.i c.loop-i.cache counts.recorded counts.reused counts.refused counts.turns counts.sum v.items _ _ all c.loop-i.invariant.tallied is)
    c.counts_text.result c.counts_text.ensures
