use Rattle.std.proofs.Common.{◌≡◌, ◌∙◌, ◌++◌, ap, codes}
use Rattle.pg_session_trial.specs.declared.line.TheConstants.{TRIAL_LINES}
use Rattle.pg_session.specs.Trials.{count_line, sum_line}
use Rattle.pg_session.proofs.TrialCounts.{seven_joined}
use Rattle.pg_session.proofs.trials.counts_text.Goals as goal

pub returns : goal.returns
returns c =
    let counts = c.args.counts in
    let l1 = count_line (codes "trial") c.args.number in
    let l2 = count_line (codes "lines") TRIAL_LINES in
    let l3 = count_line (codes "recorded") counts.recorded in
    let l4 = count_line (codes "reused") counts.reused in
    let l5 = count_line (codes "refused") counts.refused in
    let l6 = count_line (codes "turns") counts.turns in
    let l7 = sum_line counts.sum in
    let t1 : c.add_count.new.text.items ≡ l1 = c.in_ok-add_count.ensures ∙ ap (λ t. t ++ l1) c.new-text.ensures.items in
    let t2 : c.add_count-2.new.text.items ≡ l1 ++ l2 = c.in_ok-add_count-2.ensures
    ∙ ap (λ n. c.add_count.new.text.items ++ count_line (codes "lines") n) c.from.ensures ∙ ap (λ t. t ++ l2) t1 in
    let t3 : c.add_count-3.new.text.items ≡ (l1 ++ l2) ++ l3 = c.in_ok-add_count-3.ensures ∙ ap (λ t. t ++ l3) t2 in
    let t4 : c.add_count-4.new.text.items ≡ ((l1 ++ l2) ++ l3) ++ l4 = c.in_ok-add_count-4.ensures ∙ ap (λ t. t ++ l4) t3 in
    let t5 : c.add_count-5.new.text.items ≡ (((l1 ++ l2) ++ l3) ++ l4) ++ l5 = c.in_ok-add_count-5.ensures ∙ ap (λ t. t ++ l5) t4 in
    let t6 : c.add_count-6.new.text.items ≡ ((((l1 ++ l2) ++ l3) ++ l4) ++ l5) ++ l6 = c.in_ok-add_count-6.ensures ∙ ap (λ t. t ++ l6) t5 in
    c.in_ok-extend_from_slice.ensures.items ∙ ap (λ b. c.add_count-6.new.text.items ++ b) (c.as_bytes.ensures.value ∙ c.in_ok-line.ensures)
    ∙ ap (λ t. t ++ l7) t6 ∙ seven_joined l1 l2 l3 l4 l5 l6 l7
