-- Kept nodes are needed.
use Rattle.std.proofs.Common.{◌≡◌, ℕ, zero, suc, ◌<◌, Bool, true, List, [], ◌∷◌, length, map, take, Option, Some, None, refl, sym, ap, ◌∙◌, subst, arith}
use Rattle.std.specs.Prelude.{IfSome, slice_get}
use Rattle.std.specs.List.{AllByRecursion}
use Rattle.pg_precondition.specs.declared.check.Check.{Check}
use Rattle.pg_precondition.specs.Nodes.{Conditions}
use Rattle.pg_precondition.specs.Kept.{kept, renamed, renamed_check}
use Rattle.pg_precondition.specs.Marks.{AreMarks, is_set, place}
use Rattle.pg_precondition.specs.Names.{AreNeeded, IsChecked, IsNeededIn}
use Rattle.pg_precondition.proofs.RenamedNodes.{kept_from, kept_get, names_renamed}
use Rattle.pg_precondition.proofs.NumberedLists.{get_below}
use Rattle.pg_precondition.proofs.MarkPlaces.{kept_length, place_lt}
use Rattle.std.proofs.lemmas.List.{take_all}

map_get : {A B : Type 0} (h : A → B) (xs : List A) (i : ℕ) (x : A) → slice_get xs i ≡ Some x → slice_get (map h xs) i ≡ Some (h x)
map_get h [] i x e = absurd (cc)
map_get h (y ∷ xs) zero x e = let q : y ≡ x = cc in ap (λ z. Some (h z)) q
map_get h (y ∷ xs) (suc i) x e = map_get h xs i x e

set_below : (marks : List Bool) (a : ℕ) → is_set marks a ≡ true → a < length marks
set_below [] a h = absurd (cc)
set_below (m ∷ marks) zero h = omega arith
set_below (m ∷ marks) (suc a) h = let l = set_below marks a h in omega (arith, l)

module _ (c : Conditions) (M : List Bool) (f : ℕ → ℕ) (m : AreMarks c M 0) (places : (i : ℕ) → i < length M → f i ≡ place M i) where
  abbrev after : Conditions
  after = record { nodes = kept f M c.nodes; checks = map (renamed_check f) c.checks }

  -- a way from a check leads along marked nodes, and stays a way
  record Way (k i : ℕ) : Type 0 where
    way : IsNeededIn k after (f i)
    marked : is_set M i ≡ true

  along : (k i : ℕ) → IsNeededIn k c i → Way k i
  along zero i h = record {
    way = record { number = h.number; check = renamed_check f h.check; at = map_get (renamed_check f) c.checks h.number h.check h.at; names = ap f h.names };
    marked = m.checks i h;
  }
  along (suc k) i h =
      let w = along k h.0 h.1 in
      let n = h.2 in
      let l = get_below c.nodes h.0 n.by_node n.at in
      let p = places h.0 (let q = m.as_many in omega (arith, l, q)) in
      record {
        way = (
          f h.0,
          w.way,
          record {
            by_node = renamed f n.by_node;
            at = ap (slice_get (kept f M c.nodes)) p ∙ kept_get f M c.nodes h.0 n.by_node n.at w.marked;
            names = names_renamed f i n.by_node n.names;
          },
        );
        marked = m.closed h.0 n.by_node n.at w.marked (omega arith) i n.names;
      }

  pub all_needed : AreNeeded after
  all_needed i h =
      let r = kept_from f M c.nodes i h in
      let n = m.sound r.number r.set' in
      let p = places r.number (let w = r.within in let q = m.as_many in omega (arith, w, q)) in
      (n.0, subst (IsNeededIn n.0 after) (p ∙ r.at) (along n.0 r.number n.1).way)

  checks_marked : (checks : List Check) → ((i : ℕ) → IsChecked checks i → is_set M i ≡ true) → AllByRecursion (λ (k : Check). is_set M k.node ≡ true) checks
  checks_marked [] g = tt
  checks_marked (k ∷ checks) g = (
    g k.node (record { number = 0; check = k; at = refl; names = refl }),
    checks_marked checks (λ i h. g i (record { number = suc h.number; check = h.check; at = h.at; names = h.names })),
  )

  pub each_marked : AllByRecursion (λ (k : Check). is_set M k.node ≡ true) c.checks
  each_marked = checks_marked c.checks m.checks

  -- the place of a checked node is that of a kept one
  pub checks_fit : (i : ℕ) → IfSome (slice_get c.checks i) (λ (k : Check). f k.node < length (kept f M c.nodes))
  checks_fit i = go (slice_get c.checks i) refl
    where
      whole : length (kept f M c.nodes) ≡ place M (length M)
      whole =
          let l = m.as_many in
          sym (ap (λ l. length (kept f l (take (length M) c.nodes))) (take_all (length M) M (omega arith)) ∙ ap (λ l. length (kept f M l)) (take_all (length M) c.nodes (omega (arith, l))))
          ∙ kept_length f M c.nodes (length M) (omega arith) (omega (arith, l))

      go : (o : Option Check) → slice_get c.checks i ≡ o → IfSome o (λ (k : Check). f k.node < length (kept f M c.nodes))
      go None e = tt
      go (Some k) e =
          let s = m.checks k.node (record { number = i; check = k; at = e; names = refl }) in
          let b = set_below M k.node s in
          let p = places k.node b in
          let q = place_lt M k.node (length M) b s in
          let h = whole in
          omega (arith, p, q, h)
