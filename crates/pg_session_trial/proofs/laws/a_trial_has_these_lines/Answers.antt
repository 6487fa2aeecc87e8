use Rattle.std.proofs.Common.{◌≡◌, ◌<◌, ◌+◌, ◌*◌, ◌%◌, Some, subst, ap, ◌∙◌, arith}
use Rattle.pg_session_trial.specs.Lines.{trial_line}
use Rattle.pg_session_trial.proofs.Numbers.{from-length, from-at, lines-length, lines-at}
use Rattle.pg_session_trial.proofs.laws.a_trial_has_these_lines.Goals as goal

pub returns-clause-all : goal.returns-clause-all
returns-clause-all c = λ n. lines-length n 0 500

pub returns-clause-line : goal.returns-clause-line
returns-clause-line c = λ n i h.
    let e : 0 + i ≡ i = omega arith in
    lines-at n 0 500 i h ∙ ap (λ k. Some (trial_line n k)) e

pub returns-clause-count : goal.returns-clause-count
returns-clause-count c = λ n i. from-length n ((37 * i + n) % 500 + 1)

pub returns-clause-number : goal.returns-clause-number
returns-clause-number c = λ n i j h.
    from-at n ((37 * i + n) % 500 + 1) j (subst (λ k. j < k) (from-length n ((37 * i + n) % 500 + 1)) h)
