-- Numbers that are below the number of things that have one.
use Rattle.std.proofs.Common.{◌≡◌, ℕ, zero, suc, ◌+◌, ◌^◌, ◌<◌, ◌≤◌, Bool, true, false, cond, List, [], ◌∷◌, length, map, get_or, slice_get, Option, Some}
use Rattle.std.proofs.Common.{None, IfSome, sym, ap, ◌∙◌, subst, arith}
use Rattle.std.specs.List.{find, position, position_from, enumerate_from, filter_map, cons_option}
use Rattle.std.specs.Str.{bytes_eq}
use Rattle.std.proofs.lemmas.Iterator.Adapters.{position_from-zero}
use Rattle.indexmap.specs.IndexMap.{IndexMap}
use denote.Ref.{Bor}
use Rattle.pg_read_ast.specs.declared.names.Name.{Name}
use Rattle.pg_read_ast.specs.Syntax.{NamedType, Block, Variable, Declaration, Definition, Tree}
use Rattle.pg_read_ast.specs.Numbers.{numbered}
use Rattle.pg_check_types.specs.NameIndex.{known_place}
use Rattle.pg_law_numbering.proofs.NamedDefinitions.{blocks_kept}
use Rattle.pg_check_rules.specs.Names.{symbol, variable_as, defined_as, declared_as, label_number, labels_of}
use Rattle.pg_check_program.specs.Room.{HaveRoom, IsShort, FewSymbols, Each}

-- ---- what is read next of a list

pub mapped_there : {X Y : Type 0} (f : X → Y) (xs : List X) (k : ℕ) (x d : X) → k < length xs → x ≡ get_or xs k d → slice_get (map f xs) k ≡ Some (f x)
mapped_there f [] k x d l e = absurd (omega (arith, l))
mapped_there f (y ∷ ys) zero x d l e = ap (λ z. Some (f z)) (sym e)
mapped_there f (y ∷ ys) (suc k) x d l e = mapped_there f ys k x d (omega (arith, l)) e

pub one_fits : {X Y : Type 0} (P : Y → Type 0) (f : X → Y) (xs : List X) (k : ℕ) (x d : X) → Each P (map f xs) → k < length xs → x ≡ get_or xs k d → P (f x)
one_fits P f xs k x d h l e = h k (f x) (mapped_there f xs k x d l e)

-- ---- places of names

pub place_below : {X : Type 0} (t : X → Bool) (i : ℕ) (xs : List X) → IfSome (position_from t i xs) (λ p. p < i + length xs)
place_below t i [] = tt
place_below t i (x ∷ xs) = by (t x) (position_from t (i + 1) xs) (place_below t (i + 1) xs)
  where
    by : (b : Bool) (o : Option ℕ) → IfSome o (λ p. p < i + 1 + length xs) → IfSome (cond b (Some i) o) (λ p. p < i + length (x ∷ xs))
    by true o h = omega arith
    by false None h = tt
    by false (Some p) h = omega (arith, h)

name_below : (ns : List Name) (text : List ℕ) → IfSome (label_number ns text) (λ p. p < length ns)
unfolding label_number
name_below ns text =
    let none : 0 + length ns ≡ length ns = omega arith in
    subst (λ (n : ℕ). IfSome (position (λ (n : Name). bytes_eq n.text text) ns) (λ p. p < n)) none
    (subst (λ (o : Option ℕ). IfSome o (λ p. p < 0 + length ns)) (sym (position_from-zero (λ (n : Name). bytes_eq n.text text) ns))
    (place_below (λ (n : Name). bytes_eq n.text text) 0 ns))

-- names that are few enough have numbers of 32 bits
pub have_room : {S : Type 0} (first : ℕ) (places : IndexMap (Bor (List ℕ)) ℕ S) (ns : List Name) → ((text : List ℕ) → known_place places text ≡ label_number ns text)
    → first + length ns < 2 ^ 32 → HaveRoom first places
have_room first places ns known l text place e =
    let below : place < length ns = subst (λ (o : Option ℕ). IfSome o (λ p. p < length ns)) (sym (known text) ∙ e) (name_below ns text) in
    omega (arith, below, l)

pub fewer_kept : {X Y : Type 0} (h : X → Option Y) (xs : List X) → length (filter_map h xs) ≤ length xs
fewer_kept h [] = omega arith
fewer_kept h (x ∷ xs) = by (h x) (filter_map h xs) (fewer_kept h xs)
  where
    by : {Z : Type 0} (o : Option Z) (ys : List Z) → length ys ≤ length xs → length (cons_option o ys) ≤ length (x ∷ xs)
    by None ys l = omega (arith, l)
    by (Some y) ys l = omega (arith, l)

-- ---- symbols

found_below : {X : Type 0} (t : ℕ × X → Bool) (i : ℕ) (xs : List X) → IfSome (find t (enumerate_from i xs)) (λ r. r.0 < i + length xs)
found_below t i [] = tt
found_below {X} t i (x ∷ xs) = by (t (i, x)) (find t (enumerate_from (i + 1) xs)) (found_below t (i + 1) xs)
  where
    by : (b : Bool) (o : Option (ℕ × X)) → IfSome o (λ r. r.0 < i + 1 + length xs) → IfSome (cond b (Some (i, x)) o) (λ r. r.0 < i + length (x ∷ xs))
    by true o h = omega arith
    by false None h = tt
    by false (Some r) h = omega (arith, h)

pub symbol_short : (m : Tree) (text : List ℕ) → FewSymbols m → IsShort (symbol m text)
unfolding symbol
symbol_short m text few =
    by (find (λ (g : ℕ × Variable). bytes_eq g.1.name.text text) (enumerate_from 0 m.globals)) (find (λ (d : ℕ × Definition). bytes_eq d.1.name.text text) (enumerate_from 0 m.functions))
    (find (λ (d : Declaration). bytes_eq d.name.text text) m.declares)
    (found_below (λ (g : ℕ × Variable). bytes_eq g.1.name.text text) 0 m.globals) (found_below (λ (d : ℕ × Definition). bytes_eq d.1.name.text text) 0 m.functions)
  where
    by : (o : Option (ℕ × Variable)) (p : Option (ℕ × Definition)) (q : Option Declaration) → IfSome o (λ r. r.0 < 0 + length m.globals) → IfSome p (λ r. r.0 < 0 + length m.functions)
        → IsShort (variable_as o (defined_as p (declared_as q)))
    by (Some g) p q h k = omega (arith, h, few.globals)
    by None (Some d) q h k = omega (arith, k, few.functions)
    by None None (Some d) h k = tt
    by None None None h k = tt

-- ---- a function's own names

pub labels_few : (types : List NamedType) (d : Definition) → length (labels_of (numbered types d)) ≤ length d.blocks
labels_few types d = omega (arith, fewer_kept (λ (b : Block). b.label) (numbered types d).blocks, blocks_kept types d)
