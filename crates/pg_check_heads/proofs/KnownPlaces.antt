-- The first of refusals, where one is known before.
use Rattle.std.proofs.Common.{◌≡◌, ◌==◌, Bool, true, false, cond, List, [], ◌∷◌, ◌++◌, Option, Some, None, refl, ap, ◌∙◌, append_assoc, inl, arith}
use Rattle.std.proofs.lemmas.Bool.Decides.{nat_tests}
use Rattle.pg_read_lex.specs.declared.token.Span.{Span}
use Rattle.pg_check_rules.specs.declared.fault.CheckKind.{CheckKind}
use Rattle.pg_check_rules.specs.declared.refusals.CheckRefusal.{CheckRefusal}
use Rattle.pg_check_rules.specs.Conditions.{RefusedPlaces, at_if, rank}
use Rattle.pg_check_rules.specs.Earliest.{earliest, only, joined, IsFirstIn}
use Rattle.pg_check_rules.proofs.FirstRefusals.{same_places, back_none, kind_first, one_first}
use Rattle.pg_check_heads.specs.Circles.{is_behind}

-- no places more
pub no_more : (p : RefusedPlaces) (kind : CheckKind) (places : List Span) (o : Option CheckRefusal) → places ≡ [] → IsFirstIn p o → IsFirstIn (joined p (only kind places)) o
no_more p kind places o e h = back_none p (only kind places) o h (record { none = λ k. by (rank kind == rank k) })
  where
    by : (b : Bool) → cond b places [] ≡ []
    by true = e
    by false = refl

-- places of one kind, in two rows
pub more_places : (p : RefusedPlaces) (kind : CheckKind) (xs ys : List Span) (o : Option CheckRefusal) → IsFirstIn (joined (joined p (only kind xs)) (only kind ys)) o
    → IsFirstIn (joined p (only kind (xs ++ ys))) o
more_places p kind xs ys o h =
    same_places (joined (joined p (only kind xs)) (only kind ys)) (joined p (only kind (xs ++ ys))) o
    (λ k. append_assoc (p k) (only kind xs k) (only kind ys k) ∙ ap (λ ss. p k ++ ss) (by (rank kind == rank k))) h
  where
    by : (b : Bool) → cond b xs [] ++ cond b ys [] ≡ cond b (xs ++ ys) []
    by true = refl
    by false = refl

-- a place behind the refusal that is known
pub behind_known : (p : RefusedPlaces) (kind : CheckKind) (known : Option CheckRefusal) (place : Span) (b : Bool) → is_behind known place ≡ true → IsFirstIn p known
    → IsFirstIn (joined p (only kind (at_if b place))) known
unfolding earliest
behind_known p kind None place b e h = absurd cc
behind_known p kind (Some r) place true e h =
    one_first p (only kind (place ∷ [])) r (record { kind = kind; span = place }) h (kind_first kind (place ∷ []) place refl) (inl (grind (arith, nat_tests)))
behind_known p kind (Some r) place false e h = no_more p kind [] (Some r) refl h
