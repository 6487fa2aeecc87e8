-- No place, and none that is the earliest.
use Rattle.std.proofs.Common.{◌≡◌, Bool, true, false, not, cond, List, [], ◌∷◌, Option, Some, None, is_some, nat_lt, refl, sym, ap, ◌∙◌}
use Rattle.std.proofs.Math.Bool.{not-not}
use Rattle.pg_read_lex.specs.declared.token.Span.{Span}
use Rattle.pg_check_rules.specs.Earliest.{earlier, earliest}
use Rattle.pg_check_rules.specs.Conditions.{is_nowhere}

pub is_nowhere_none : (ss : List Span) → is_some (earliest ss) ≡ not (is_nowhere ss)
unfolding earliest
is_nowhere_none [] = refl
is_nowhere_none (s ∷ ss) = by (earliest ss)
  where
    by : (o : Option Span) → is_some (earlier (Some s) o) ≡ true
    by None = refl
    by (Some x) = pick (nat_lt x.start s.start)
      where
        pick : (b : Bool) → is_some (cond b (Some x) (Some s)) ≡ true
        pick true = refl
        pick false = refl

-- there is none just where the earliest is none
pub nowhere : (ss : List Span) (o : Option Span) (b : Bool) → o ≡ earliest ss → is_some o ≡ not b → b ≡ is_nowhere ss
nowhere ss o b e h = sym (not-not b) ∙ ap not (sym h ∙ ap (λ (p : Option Span). is_some p) e ∙ is_nowhere_none ss) ∙ not-not (is_nowhere ss)
