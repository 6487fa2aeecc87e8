-- Phases one after the other.
use Rattle.std.proofs.Common.{◌≡◌, List, [], ◌∷◌, ◌++◌, Option, Some, None, inl, inr, subst}
use Rattle.pg_read_lex.specs.declared.token.Span.{Span}
use Rattle.pg_read_ast.specs.Syntax.{Tree}
use Rattle.pg_check_rules.specs.declared.fault.CheckKind.{CheckKind}
use Rattle.pg_check_rules.specs.declared.refusals.CheckRefusal.{CheckRefusal}
use Rattle.pg_check_rules.specs.Conditions.{RefusedPlaces, phases, IsFirstOf, RefuseNothing, IsFirstRefusal, IsUnrefused}
use Rattle.pg_check_rules.specs.Earliest.{IsFirstIn, IsFirstAmong}
use Rattle.pg_check.specs.Checked.{IsFoundIn}

first_of_front : (xs ys : List RefusedPlaces) (kind : CheckKind) (span : Span) → IsFirstOf xs kind span → IsFirstOf (xs ++ ys) kind span
first_of_front [] ys kind span f = absurd f
first_of_front (x ∷ xs) ys kind span (inl e) = inl e
first_of_front (x ∷ xs) ys kind span (inr r) = inr (r.0, first_of_front xs ys kind span r.1)

first_of_back : (xs ys : List RefusedPlaces) (kind : CheckKind) (span : Span) → RefuseNothing xs → IsFirstOf ys kind span → IsFirstOf (xs ++ ys) kind span
first_of_back [] ys kind span n f = f
first_of_back (x ∷ xs) ys kind span n f = inr (n.0, first_of_back xs ys kind span n.1 f)

nothing_more : (xs ys : List RefusedPlaces) → RefuseNothing xs → RefuseNothing ys → RefuseNothing (xs ++ ys)
nothing_more [] ys n m = m
nothing_more (x ∷ xs) ys n m = (n.0, nothing_more xs ys n.1 m)

-- a refusal among the first phases
pub first_in_front : (xs ys : List RefusedPlaces) (o : Option CheckRefusal) (r : CheckRefusal) → o ≡ Some r → IsFirstAmong xs o → IsFirstAmong (xs ++ ys) (Some r)
first_in_front xs ys o r e h = first_of_front xs ys r.kind r.span (subst (λ x. IsFirstAmong xs x) e h)

-- none among the first phases, and one phase more
pub first_at_end : (xs : List RefusedPlaces) (p : RefusedPlaces) (o last : Option CheckRefusal) → o ≡ None → IsFirstAmong xs o → IsFirstIn p last → IsFirstAmong (xs ++ p ∷ []) last
first_at_end xs p o None e h f = nothing_more xs (p ∷ []) (subst (λ x. IsFirstAmong xs x) e h) (f, tt)
first_at_end xs p o (Some r) e h f = first_of_back xs (p ∷ []) r.kind r.span (subst (λ x. IsFirstAmong xs x) e h) (inl f)

pub found_in : (m : Tree) (o : Option CheckRefusal) → IsFirstAmong (phases m) o → IsFoundIn m o
unfolding IsFirstRefusal IsUnrefused
found_in m None h = h
found_in m (Some r) h = h
