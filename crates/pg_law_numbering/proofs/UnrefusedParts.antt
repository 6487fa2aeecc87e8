-- What an accepted tree has: each of its parts refuses nothing.
use Rattle.std.proofs.Common.{◌≡◌, ℕ, zero, suc, ◌+◌, List, [], ◌∷◌, ◌++◌, map, take, Bool, true, false, ◌||◌, not, refl, sym, ◌∙◌, subst, arith, if◌then◌else◌}
use Rattle.std.specs.Prelude.{slice_get, Option, Some, None, sum_by}
use Rattle.std.specs.List.{flat_map, enumerate_from}
use Rattle.std.specs.Option.{option_map}
use Rattle.std.proofs.lemmas.List.Sums.{sum_by-cons}
use Rattle.std.proofs.lemmas.Option.{slice_get-map, same_Some}
use Rattle.pg_read_lex.specs.declared.token.Span.{Span}
use Rattle.pg_read_ast.specs.Syntax.{NamedType, Variable, Declaration, Definition, Tree}
use Rattle.pg_read_ast.specs.Numbers.{numbered}
use Rattle.pg_check_rules.specs.declared.fault.CheckKind.{CheckKind}
use Rattle.pg_check_rules.specs.declared.fault.CheckKind.TheVariants.{NoMain}
use Rattle.pg_check_rules.specs.Names.{line_count, first_line}
use Rattle.pg_check_rules.specs.Numbered.{named_functions}
use Rattle.pg_check_rules.specs.Conditions.{RefusedPlaces, at_if, all_of, item_refused, global_refused, declaration_refused, definition_refused, body_refused, bodies, has_main, main_refused}
use Rattle.pg_check_rules.specs.Conditions.{heads_refused, phases, RefuseNothing, IsUnrefused}
use Rattle.pg_law_numbering.proofs.FlattenedLists.{enumerate_get, Numbered}
use Rattle.pg_law_numbering.proofs.ChoiceTests.{not_false}

-- ---- lists of refusals that are empty

pub front_none : {X : Type 0} (xs ys : List X) → xs ++ ys ≡ [] → xs ≡ []
front_none [] ys e = refl
front_none (x ∷ xs) ys e = absurd cc

pub behind_none : {X : Type 0} (xs ys : List X) → xs ++ ys ≡ [] → ys ≡ []
behind_none [] ys e = e
behind_none (x ∷ xs) ys e = absurd cc

pub each_none : {X A : Type 0} (f : X → List A) (xs : List X) (i : ℕ) (x : X) → flat_map f xs ≡ [] → slice_get xs i ≡ Some x → f x ≡ []
each_none f [] i x e g = absurd cc
each_none {X} f (y ∷ ys) zero x e g = subst (λ (q : X). f q ≡ []) (same_Some y x g) (front_none (f y) (flat_map f ys) e)
each_none f (y ∷ ys) (suc i) x e g = each_none f ys i x (behind_none (f y) (flat_map f ys) e) g

pub at_if_none : (b : Bool) (s : Span) → at_if b s ≡ [] → b ≡ false
at_if_none true s e = absurd cc
at_if_none false s e = refl

pub then_none : (b : Bool) (s : Span) → ◌≡◌ {A = List Span} (if b then s ∷ [] else []) [] → b ≡ false
then_none true s e = absurd cc
then_none false s e = refl

pub else_none : (b : Bool) (s : Span) → ◌≡◌ {A = List Span} (if b then [] else s ∷ []) [] → b ≡ true
else_none true s e = refl
else_none false s e = absurd cc

pub or_left : (a b : Bool) → (a || b) ≡ false → a ≡ false
or_left true b e = absurd cc
or_left false b e = refl

pub or_right : (a b : Bool) → (a || b) ≡ false → b ≡ false
or_right true b e = absurd cc
or_right false b e = e

-- ---- the parts of an accepted tree

pub items_pass : (m : Tree) → IsUnrefused m → (i : ℕ) (t : NamedType) → slice_get m.types i ≡ Some t → (k : CheckKind) → item_refused m.types t k ≡ []
unfolding IsUnrefused phases
items_pass m h i t e k = each_none (λ (x : NamedType). item_refused m.types x k) m.types i t (h.0.none k) e

pub globals_pass : (m : Tree) → IsUnrefused m → (i : ℕ) (v : Variable) → slice_get m.globals i ≡ Some v → (k : CheckKind) → global_refused m (i, v) k ≡ []
unfolding IsUnrefused phases
globals_pass m h i v e k =
    let z : 0 + i ≡ i = omega arith in
    subst (λ (q : ℕ). global_refused m (q, v) k ≡ []) z
    (each_none (λ (x : Numbered Variable). global_refused m x k) (enumerate_from 0 m.globals) i (0 + i, v) (h.1.0.none k) (enumerate_get 0 m.globals i v e))

heads_pass : (m : Tree) → IsUnrefused m → (k : CheckKind) → heads_refused m k ≡ []
unfolding IsUnrefused phases
heads_pass m h k = h.1.1.0.none k

pub declarations_pass : (m : Tree) → IsUnrefused m → (i : ℕ) (d : Declaration) → slice_get m.declares i ≡ Some d → (k : CheckKind) → declaration_refused m d k ≡ []
unfolding heads_refused
declarations_pass m h i d e k =
    each_none (λ (x : Declaration). declaration_refused m x k) m.declares i d
    (front_none (all_of (declaration_refused m) m.declares k) (all_of (definition_refused m) (enumerate_from 0 (map (numbered m.types) m.functions)) k) (heads_pass m h k)) e

pub definitions_pass : (m : Tree) → IsUnrefused m → (f : ℕ) (d : Definition) → slice_get (named_functions m) f ≡ Some d → (k : CheckKind) → definition_refused m (f, d) k ≡ []
unfolding heads_refused
definitions_pass m h f d e k =
    let z : 0 + f ≡ f = omega arith in
    subst (λ (q : ℕ). definition_refused m (q, d) k ≡ []) z
    (each_none (λ (x : Numbered Definition). definition_refused m x k) (enumerate_from 0 (named_functions m)) f (0 + f, d)
    (behind_none (all_of (declaration_refused m) m.declares k) (all_of (definition_refused m) (enumerate_from 0 (map (numbered m.types) m.functions)) k) (heads_pass m h k))
    (enumerate_get 0 (named_functions m) f d e))

-- ---- bodies

body_passes : (m : Tree) (ds : List Definition) (lines : ℕ) (rest : List RefusedPlaces) → RefuseNothing (bodies m ds lines ++ rest) → (f : ℕ) (d : Definition)
    → slice_get ds f ≡ Some d → (k : CheckKind) → body_refused m (lines + sum_by line_count (take f ds)) (numbered m.types d) k ≡ []
body_passes m [] lines rest h f d e k = absurd cc
body_passes m (x ∷ xs) lines rest h zero d e k =
    let z : lines ≡ lines + 0 = omega arith in
    subst (λ (q : Definition). body_refused m (lines + 0) (numbered m.types q) k ≡ []) (same_Some x d e)
    (subst (λ (q : ℕ). body_refused m q (numbered m.types x) k ≡ []) z (h.0.none k))
body_passes m (x ∷ xs) lines rest h (suc f) d e k =
    let z : lines + line_count x + sum_by line_count (take f xs) ≡ lines + sum_by line_count (x ∷ take f xs) = omega (arith, sum_by-cons line_count x (take f xs)) in
    subst (λ (q : ℕ). body_refused m q (numbered m.types d) k ≡ []) z (body_passes m xs (lines + line_count x) rest h.1 f d e k)

behind_bodies : (m : Tree) (ds : List Definition) (lines : ℕ) (rest : List RefusedPlaces) → RefuseNothing (bodies m ds lines ++ rest) → RefuseNothing rest
behind_bodies m [] lines rest h = h
behind_bodies m (x ∷ xs) lines rest h = behind_bodies m xs (lines + line_count x) rest h.1

-- the definition of which one with its names is made
pub record IsNamed (m : Tree) (f : ℕ) (d : Definition) : Type 0 where
  pub plain : Definition
  pub there : slice_get m.functions f ≡ Some plain
  pub named : d ≡ numbered m.types plain

pub named_from : (m : Tree) (f : ℕ) (d : Definition) → slice_get (named_functions m) f ≡ Some d → IsNamed m f d
named_from m f d e = by (slice_get m.functions f) refl (sym (slice_get-map (numbered m.types) m.functions f) ∙ e)
  where
    by : (o : Option Definition) → slice_get m.functions f ≡ o → option_map (numbered m.types) o ≡ Some d → IsNamed m f d
    by None g h = absurd cc
    by (Some x) g h = record { plain = x; there = g; named = sym (same_Some (numbered m.types x) d h) }

pub bodies_pass : (m : Tree) → IsUnrefused m → (f : ℕ) (d : Definition) → slice_get (named_functions m) f ≡ Some d → (k : CheckKind)
    → body_refused m (first_line m.functions f) d k ≡ []
unfolding IsUnrefused phases first_line
bodies_pass m h f d e k =
    let n = named_from m f d e in
    let z : 0 + sum_by line_count (take f m.functions) ≡ sum_by line_count (take f m.functions) = omega arith in
    subst (λ (q : Definition). body_refused m (sum_by line_count (take f m.functions)) q k ≡ []) (sym n.named)
    (subst (λ (q : ℕ). body_refused m q (numbered m.types n.plain) k ≡ []) z
    (body_passes m m.functions 0 (main_refused m ∷ []) h.1.1.1 f n.plain n.there k))

pub main_is : (m : Tree) → IsUnrefused m → has_main m ≡ true
unfolding IsUnrefused phases main_refused
main_is m h =
    not_false (has_main m) (at_if_none (not (has_main m)) (record { start = 0; end = 0 }) ((behind_bodies m m.functions 0 (main_refused m ∷ []) h.1.1.1).0.none NoMain))
