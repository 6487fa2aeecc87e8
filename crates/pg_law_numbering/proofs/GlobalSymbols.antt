-- What a global name stands for is one of the tree's globals, definitions and declarations.
use Rattle.std.proofs.Common.{◌≡◌, ℕ, List, refl, subst, arith}
use Rattle.std.specs.Prelude.{slice_get, Option, Some, None}
use Rattle.std.specs.List.{find, enumerate_from}
use Rattle.std.specs.Str.{bytes_eq}
use Rattle.pg_read_ast.specs.Syntax.{Variable, Declaration, Definition, Tree}
use Rattle.pg_check_rules.specs.Names.{Symbol, VariableOf, DefinitionOf, DeclarationOf, NoSymbol, declared_as, defined_as, variable_as, symbol}
use Rattle.pg_law_numbering.proofs.FlattenedLists.{Numbered}
use Rattle.pg_law_numbering.proofs.FirstPassing.{from_find, enumerate_found}

numbered_one : {X : Type 0} (p : Numbered X → _) (xs : List X) (i : ℕ) (x : X) → find p (enumerate_from 0 xs) ≡ Some (i, x) → slice_get xs i ≡ Some x
numbered_one {X} p xs i x e =
    let f = from_find p (enumerate_from 0 xs) (i, x) e in
    let r = enumerate_found 0 xs f.0 (i, x) f.1.there in
    let z : f.0 ≡ i = omega (arith, r.1) in
    subst (λ (q : ℕ). slice_get xs q ≡ Some x) z r.0

-- what stands for a name is what was found of it
abbrev Stands : Tree → Symbol → Type 0
Stands m (VariableOf i v) = slice_get m.globals i ≡ Some v
Stands m (DefinitionOf f d) = slice_get m.functions f ≡ Some d
Stands m (DeclarationOf d) = (i : ℕ) × (slice_get m.declares i ≡ Some d)
Stands m NoSymbol = Unit {0}

declared_stands : (m : Tree) (text : List ℕ) (o : Option Declaration) → find (λ (d : Declaration). bytes_eq d.name.text text) m.declares ≡ o → Stands m (declared_as o)
declared_stands m text None e = tt
declared_stands m text (Some d) e = let f = from_find (λ (x : Declaration). bytes_eq x.name.text text) m.declares d e in (f.0, f.1.there)

defined_stands : (m : Tree) (text : List ℕ) (o : Option (Numbered Definition)) (other : Symbol)
    → find (λ (d : Numbered Definition). bytes_eq d.1.name.text text) (enumerate_from 0 m.functions) ≡ o → Stands m other → Stands m (defined_as o other)
defined_stands m text None other e h = h
defined_stands m text (Some d) other e h = numbered_one (λ (x : Numbered Definition). bytes_eq x.1.name.text text) m.functions d.0 d.1 e

variable_stands : (m : Tree) (text : List ℕ) (o : Option (Numbered Variable)) (other : Symbol)
    → find (λ (g : Numbered Variable). bytes_eq g.1.name.text text) (enumerate_from 0 m.globals) ≡ o → Stands m other → Stands m (variable_as o other)
variable_stands m text None other e h = h
variable_stands m text (Some g) other e h = numbered_one (λ (x : Numbered Variable). bytes_eq x.1.name.text text) m.globals g.0 g.1 e

stands : (m : Tree) (text : List ℕ) → Stands m (symbol m text)
unfolding symbol
stands m text =
    variable_stands m text (find (λ (g : Numbered Variable). bytes_eq g.1.name.text text) (enumerate_from 0 m.globals))
    (defined_as (find (λ (d : Numbered Definition). bytes_eq d.1.name.text text) (enumerate_from 0 m.functions))
    (declared_as (find (λ (d : Declaration). bytes_eq d.name.text text) m.declares))) refl
    (defined_stands m text (find (λ (d : Numbered Definition). bytes_eq d.1.name.text text) (enumerate_from 0 m.functions))
    (declared_as (find (λ (d : Declaration). bytes_eq d.name.text text) m.declares)) refl
    (declared_stands m text (find (λ (d : Declaration). bytes_eq d.name.text text) m.declares) refl))

pub variable_there : (m : Tree) (text : List ℕ) (i : ℕ) (v : Variable) → symbol m text ≡ VariableOf i v → slice_get m.globals i ≡ Some v
variable_there m text i v e = subst (Stands m) e (stands m text)

pub definition_there : (m : Tree) (text : List ℕ) (f : ℕ) (d : Definition) → symbol m text ≡ DefinitionOf f d → slice_get m.functions f ≡ Some d
definition_there m text f d e = subst (Stands m) e (stands m text)

pub declaration_there : (m : Tree) (text : List ℕ) (d : Declaration) → symbol m text ≡ DeclarationOf d → (i : ℕ) × (slice_get m.declares i ≡ Some d)
declaration_there m text d e = subst (Stands m) e (stands m text)
