use Rattle.std.proofs.Common.{◌≡◌, ◌+◌, ◌++◌, ◌∷◌, [], arith, sym, subst, Bool, true, false, if◌then◌else◌}
use Rattle.std.proofs.lemmas.List.{drop_all}
use Rattle.pg_read_lex.specs.Tokens.{IsWithin, IsAscending}
use Rattle.pg_read_lex.specs.declared.token.Token.{Token}
use Rattle.pg_read_lex.proofs.Tokenize.{stands_gap, stands_whole, stands_bad, stands_open, stands_end, Stands, ascending_more, ascending_on}
use Rattle.pg_read_lex.proofs.lexer.lex.Goals as goal

pub lexing-preserved-in-Gap : goal.lexing-preserved-in-Gap
unfolding IsWithin
lexing-preserved-in-Gap c = let i = c.lexing.invariant in let w = c.in-Gap.ensures.within in (
  omega (arith, i.0, w.1),
  stands_gap c.args.text.now c.lexing.found.items c.lexing.at c.in-Gap.size i.1 c.lexing-test.true c.in-Gap.ensures.exact,
  ascending_on 0 (c.lexing.at + c.in-Gap.size) c.lexing.at c.lexing.found.items i.2 (omega arith),
)

pub lexing-preserved : goal.lexing-preserved
unfolding IsWithin
lexing-preserved c =
    let i = c.lexing.invariant in
    let w = c.in-Whole.ensures.within in
    let xs = c.lexing.found.items in
    let token : Token = record { kind = c.in-Whole.kind; span = record { start = c.lexing.at; end = c.lexing.at + c.in-Whole.size } } in
    let pushed : c.push.new.self.items ≡ xs ++ token ∷ [] = chosen _ (xs ++ token ∷ []) xs c.push.new.self.items c.push.ensures.items c.if-is_err.ensures.negation in (
      omega (arith, i.0, w.1),
      subst (λ found. Stands c.args.text.now found (c.lexing.at + c.in-Whole.size)) (sym pushed)
          (stands_whole c.args.text.now xs c.lexing.at c.in-Whole.size c.in-Whole.kind i.1 c.lexing-test.true c.in-Whole.ensures.exact),
      subst (λ found. IsAscending 0 found (c.lexing.at + c.in-Whole.size)) (sym pushed) (ascending_more 0 c.lexing.at c.in-Whole.size c.in-Whole.kind xs i.2 w.0),
    )
  where
    chosen : {A : Type 0} (b : Bool) (x y z : A) → z ≡ (if b then x else y) → b ≡ true → z ≡ x
    chosen true x y z e h = e
    chosen false x y z e h = absurd cc

pub returns-in-Bad-clause-refused : goal.returns-in-Bad-clause-refused
returns-in-Bad-clause-refused c = λ _. stands_bad c.args.text.now c.lexing.found.items c.lexing.at c.lexing.invariant.1 c.lexing-test.true c.in-Bad.ensures.exact

pub returns-in-Open-clause-refused : goal.returns-in-Open-clause-refused
returns-in-Open-clause-refused c = λ _. stands_open c.args.text.now c.lexing.found.items c.lexing.at c.in-Open.before c.lexing.invariant.1 c.lexing-test.true c.in-Open.ensures.exact

pub returns-clause-found : goal.returns-clause-found
returns-clause-found c = stands_end c.args.text.now c.lexing.found.items c.lexing.at c.lexing.invariant.1 (drop_all c.lexing.at c.args.text.now c.lexing-test.false)
