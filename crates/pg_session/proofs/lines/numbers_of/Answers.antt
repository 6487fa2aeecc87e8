use Rattle.std.proofs.Common.{◌≡◌, ℤ, ◌+◌, List, [], ◌∷◌, ◌++◌, drop, sym, ap, ◌∙◌, subst, rules, Some, FitsSigned, w64, to_z-of_z}
use Rattle.pg_session.specs.Lines.{number_of, numbers_of}
use Rattle.pg_session.proofs.LineNumbers.{Told, to_end, told_blank, told_last, told_plain, words_some}
use Rattle.pg_session.proofs.lines.numbers_of.Goals as goal
use Rattle.pg_session.proofs.lines.numbers_of.Goals.{then-is_blank+in-Some+in_ok-push, else-is_blank}

pub loop-at-preserved : goal.loop-at-preserved
loop-at-preserved c =
    elim c.if-is_blank.branch [
      | then-is_blank+in-Some+in_ok-push w ↦
          let fits : FitsSigned w64 w.in-Some.number = search rules in
          let items = w.in_ok-push.ensures.items in
          let told = told_blank c.args.line.now c.loop-at.numbers.items c.loop-at.start c.loop-at.at w.in-Some.number c.loop-at-test.true (sym c.is_blank.ensures
          ∙ w.if-is_blank.true) (sym w.in-Some.ensures) c.loop-at.invariant in
          subst (λ s. Told c.args.line.now c.if-is_blank.numbers.items s (c.loop-at.at + 1)) (sym w.start-is)
          (subst (λ (n : List ℤ). Told c.args.line.now n (c.loop-at.at + 1) (c.loop-at.at + 1)) (sym (ap (λ v. v.items) w.numbers-is
          ∙ items ∙ ap (λ (z : ℤ). c.loop-at.numbers.items ++ z ∷ []) (to_z-of_z fits))) told)
      | else-is_blank w ↦ subst (λ (n : List ℤ). Told c.args.line.now n c.if-is_blank.start (c.loop-at.at + 1)) (ap (λ v. v.items) (sym w.numbers-is))
          (subst (λ s. Told c.args.line.now c.loop-at.numbers.items s (c.loop-at.at + 1)) (sym w.start-is)
          (told_plain c.args.line.now c.loop-at.numbers.items c.loop-at.start c.loop-at.at c.loop-at-test.true (sym c.is_blank.ensures ∙ w.if-is_blank.false) c.loop-at.invariant))
    ]

pub returns : goal.returns
returns c =
    let fits : FitsSigned w64 c.in-Some-digits_in_i64.number = search rules in
    let items = c.in_ok-push-2.ensures.items in
    let last : number_of (drop c.loop-at.start c.args.line.now) ≡ Some c.in-Some-digits_in_i64.number =
    ap number_of (sym (to_end c.args.line.now c.loop-at.start)) ∙ sym c.in-Some-digits_in_i64.ensures in
    ap Some (items ∙ ap (λ (z : ℤ). c.loop-at.numbers.items ++ z ∷ []) (to_z-of_z fits))
    ∙ sym (told_last c.args.line.now c.loop-at.numbers.items c.loop-at.start c.loop-at.at c.in-Some-digits_in_i64.number c.loop-at-test.false c.loop-at.auto.at-end last c.loop-at.invariant)
    ∙ ap numbers_of (words_some c.args.line.now (sym c.is_empty.ensures ∙ c.if-is_empty.false))
