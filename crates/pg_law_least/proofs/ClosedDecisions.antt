-- Decisions are closed where nothing is asked for; all of them are.
use Rattle.std.proofs.Common.{◌≡◌, Bool, true, false, List, [], ◌++◌, refl, subst, sym, ◌∙◌}
use Rattle.std.specs.Prelude.{Contains}
use Rattle.std.proofs.lemmas.List.Elements.{Contains-append_left, Contains-append_right}
use Rattle.std.proofs.lemmas.Bool.{true≢false}
use Rattle.pg_slice_rules.specs.declared.decision.Decision.{Decision}
use Rattle.pg_slice_rules.specs.declared.decision.Decision.TheVariants.{Pinned, Exact}
use Rattle.pg_slice_rules.specs.Known.{Reference, Seen, Taken, has, seen_in}
use Rattle.pg_slice_rules.specs.Rules.{all_of, asks_disturbed, asks_bounds, asks_pins, asks_shared, asks_values}
use Rattle.pg_slice_rules.specs.Closed.{IsClosed, IsSlice, asks, asks_at}
use Rattle.pg_law_least.specs.Keeps.{every}
use Rattle.pg_law_least.proofs.AlikeLists.{all_none}
use Rattle.pg_region_paths.proofs.Elements.{none_in}
use Rattle.pg_law_least.proofs.AskedDecisions.{By_disturbed, By_bounds, By_pins, By_shared, By_values, IsAskedBy, asked_by, in_all_of, none_asked, of_all}
use Rattle.pg_law_least.proofs.AskedAreMissing.{asks_new}

none_of : (f g : Seen → List Decision) (all : List Seen) → ((y : Seen) (x : Decision) → Contains (f y) x → Contains (g y) x) → ((x : Decision) → Contains (all_of g all) x → ⊥) →
    all_of f all ≡ []
none_of f g all h k = all_none (all_of f all) (λ x c. let q = in_all_of f all x c in k x (of_all g all q.0 x q.1 (h q.0 x q.2)))

pub closed_if : (R : Reference) (d : Taken) → ((x : Decision) → Contains (asks R d) x → ⊥) → IsClosed R d
unfolding asks
closed_if R d h = record {
  pins = none_of (asks_pins d) (asks_at R d all) all (λ y x c. Contains-append_left (asks_pins d y ++ asks_values R d y ++ asks_bounds R y ++ asks_disturbed d all y) (asks_shared d all y) x
      (Contains-append_left (asks_pins d y ++ asks_values R d y ++ asks_bounds R y) (asks_disturbed d all y) x
      (Contains-append_left (asks_pins d y ++ asks_values R d y) (asks_bounds R y) x (Contains-append_left (asks_pins d y) (asks_values R d y) x c)))) h;
  values = none_of (asks_values R d) (asks_at R d all) all (λ y x c. Contains-append_left (asks_pins d y ++ asks_values R d y ++ asks_bounds R y ++ asks_disturbed d all y) (asks_shared d all y) x
      (Contains-append_left (asks_pins d y ++ asks_values R d y ++ asks_bounds R y) (asks_disturbed d all y) x
      (Contains-append_left (asks_pins d y ++ asks_values R d y) (asks_bounds R y) x (Contains-append_right (asks_pins d y) (asks_values R d y) x c)))) h;
  bounds = none_of (asks_bounds R) (asks_at R d all) all (λ y x c. Contains-append_left (asks_pins d y ++ asks_values R d y ++ asks_bounds R y ++ asks_disturbed d all y) (asks_shared d all y) x
      (Contains-append_left (asks_pins d y ++ asks_values R d y ++ asks_bounds R y) (asks_disturbed d all y) x
      (Contains-append_right (asks_pins d y ++ asks_values R d y) (asks_bounds R y) x c))) h;
  disturbed = none_of (asks_disturbed d all) (asks_at R d all) all (λ y x c. Contains-append_left (asks_pins d y ++ asks_values R d y ++ asks_bounds R y ++ asks_disturbed d all y)
      (asks_shared d all y) x
      (Contains-append_right (asks_pins d y ++ asks_values R d y ++ asks_bounds R y) (asks_disturbed d all y) x c)) h;
  shared = none_of (asks_shared d all) (asks_at R d all) all (λ y x c. Contains-append_right (asks_pins d y ++ asks_values R d y ++ asks_bounds R y ++ asks_disturbed d all y)
      (asks_shared d all y) x c) h;
}
  where
    all : List Seen
    all = seen_in R d

-- what closed decisions ask for
closed_none : (R : Reference) (d : Taken) → IsClosed R d → (y : Seen) (x : Decision) → Contains (seen_in R d) y → IsAskedBy R d (seen_in R d) y x → ⊥
closed_none R d closed y x c (By_pins a) = none_asked (asks_pins d) (seen_in R d) y closed.pins c x a
closed_none R d closed y x c (By_values a) = none_asked (asks_values R d) (seen_in R d) y closed.values c x a
closed_none R d closed y x c (By_bounds a) = none_asked (asks_bounds R) (seen_in R d) y closed.bounds c x a
closed_none R d closed y x c (By_disturbed a) = none_asked (asks_disturbed d (seen_in R d)) (seen_in R d) y closed.disturbed c x a
closed_none R d closed y x c (By_shared a) = none_asked (asks_shared d (seen_in R d)) (seen_in R d) y closed.shared c x a

pub asks_none : (R : Reference) (d : Taken) → IsClosed R d → asks R d ≡ []
unfolding asks
asks_none R d closed = all_none (all_of (asks_at R d (seen_in R d)) (seen_in R d)) (λ x c.
    let q = in_all_of (asks_at R d (seen_in R d)) (seen_in R d) x c in
    closed_none R d closed q.0 x q.1 (asked_by R d (seen_in R d) q.0 x q.2))

pub closed_where : (R : Reference) (d : Taken) → asks R d ≡ [] → IsClosed R d
closed_where R d h = closed_if R d (λ x c. none_in x (subst (λ (xs : List Decision). Contains xs x) h c))

pub in_every : (x : Decision) → has every x ≡ true
in_every (Pinned n) = refl
in_every (Exact n) = refl

pub all_closed : (R : Reference) → IsClosed R every
all_closed R = closed_if R every (λ x c. true≢false (sym (in_every x) ∙ (asks_new R every x c).0))

-- two slices
pub one_slice : (R : Reference) (d e : Taken) → IsSlice R d → IsSlice R e → (x : Decision) → has d x ≡ has e x
one_slice R d e f g x = go (has d x) (has e x) refl refl
  where
    go : (a b : Bool) → has d x ≡ a → has e x ≡ b → has d x ≡ has e x
    go true b p q = p ∙ sym (f.least e g.closed x p)
    go false true p q = g.least d f.closed x q ∙ sym q
    go false false p q = p ∙ sym q
