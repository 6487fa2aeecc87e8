-- The words of pointers to globals.
use Rattle.std.proofs.Common.{◌≡◌, ℕ, zero, suc, ◌+◌, ◌<◌, ◌≤◌, List, [], ◌∷◌, ◌++◌, length, map, take, drop, get_or, slice_get, sum_by, unwrap_or, Option}
use Rattle.std.proofs.Common.{Some, None, refl, sym, ap, ◌∙◌, arith}
use Rattle.std.specs.Option.{option_map}
use Rattle.std.specs.List.{find, enumerate_from}
use Rattle.std.specs.Str.{bytes_eq}
use Rattle.std.proofs.lemmas.List.{append_assoc, append-nil}
use Rattle.std.proofs.lemmas.List.Sums.{sum_by-cons}
use Rattle.pg_num.specs.Pointers.{word_of}
use Rattle.pg_ir.specs.WellFormed.{granules_for}
use Rattle.pg_read_ast.specs.declared.nodes.GlobalItem.{GlobalItem}
use Rattle.pg_read_ast.specs.Syntax.{NamedType, Variable, Declaration, Definition, Tree}
use Rattle.pg_read_ast.specs.Views.{global_of}
use Rattle.pg_check_types.specs.Resolved.{resolved}
use Rattle.pg_check_types.specs.Layout.{size_or_none}
use Rattle.pg_check_types.specs.NameIndex.{first_place}
use Rattle.pg_check_rules.specs.Names.{Symbol, VariableOf, symbol, variable_as, defined_as, declared_as}
use Rattle.pg_check_rules.specs.Symbols.{placed, variable_text}
use Rattle.pg_check_rules.specs.Constants.{start_granule, symbol_word}
use Rattle.pg_check_constants.specs.Words.{words_from}
use Rattle.pg_check_rules.proofs.SymbolPlaces.{found_is}

abbrev pub size_in : List NamedType → Variable → ℕ
size_in types v = size_or_none (resolved types v.ty)

abbrev word_at : List NamedType → ℕ → Variable → ℕ
word_at types start v = word_of (record { start = start; length = size_in types v; offset = 0 })

-- the word at a place
word_in : (types : List NamedType) (start : ℕ) (vs : List Variable) (i : ℕ) (v : Variable) → slice_get vs i ≡ Some v
    → slice_get (words_from types start vs) i ≡ Some (word_at types (start + sum_by (λ (u : Variable). granules_for (size_in types u)) (take i vs)) v)
unfolding words_from
word_in types start [] i v e = cc
word_in types start (u ∷ vs) zero v e =
    let s : start ≡ start + 0 = omega arith in
    ap (λ o. Some (word_at types start (unwrap_or o v))) e ∙ ap (λ n. Some (word_at types n v)) s
word_in types start (u ∷ vs) (suc i) v e =
    let rest = sum_by (λ (u : Variable). granules_for (size_in types u)) (take i vs) in
    let s : start + granules_for (size_in types u) + rest ≡ start + (granules_for (size_in types u) + rest) = omega arith in
    word_in types (start + granules_for (size_in types u)) vs i v e
    ∙ ap (λ n. Some (word_at types n v)) (s ∙ ap (λ k. start + k) (sym (sum_by-cons (λ (u : Variable). granules_for (size_in types u)) u (take i vs))))

-- what is found stands at its place
found_at : {X : Type 0} (xs : List X) (o : Option ℕ) (i : ℕ) (x : X) → placed xs o ≡ Some (i, x) → slice_get xs i ≡ Some x
found_at xs None i x e = cc
found_at {X = X} xs (Some p) i x e = by (slice_get xs p) refl e
  where
    by : (o : Option X) → slice_get xs p ≡ o → option_map {U = ℕ × X} (λ y. (p, y)) o ≡ Some (i, x) → slice_get xs i ≡ Some x
    by None s e = cc
    by (Some y) s e =
        let n : p ≡ i = ap (λ (r : Option (ℕ × X)). (unwrap_or r (p, x)).0) e in
        let z : y ≡ x = ap (λ (r : Option (ℕ × X)). (unwrap_or r (p, x)).1) e in
        ap (λ k. slice_get xs k) (sym n) ∙ s ∙ ap (λ y. Some y) z

abbrev variable_of : ℕ × Variable → Symbol → ℕ × Variable
variable_of d (VariableOf i v) = (i, v)
variable_of d s = d

-- a variable is found where it stands
variable_at : (m : Tree) (text : List ℕ) (i : ℕ) (v : Variable) → symbol m text ≡ VariableOf i v → slice_get m.globals i ≡ Some v
unfolding symbol
variable_at m text i v e =
    by (find (λ (g : ℕ × Variable). bytes_eq g.1.name.text text) (enumerate_from 0 m.globals)) (find (λ (d : ℕ × Definition). bytes_eq d.1.name.text text) (enumerate_from 0 m.functions))
    (find (λ (d : Declaration). bytes_eq d.name.text text) m.declares) (found_is variable_text text m.globals) e
  where
    by : (o : Option (ℕ × Variable)) (p : Option (ℕ × Definition)) (q : Option Declaration) → o ≡ placed m.globals (first_place (map variable_text m.globals) text)
        → variable_as o (defined_as p (declared_as q)) ≡ VariableOf i v → slice_get m.globals i ≡ Some v
    by (Some g) p q f e = found_at m.globals (first_place (map variable_text m.globals) text) i v (sym f ∙ ap (λ s. Some (variable_of g s)) e)
    by None (Some d) q f e = cc
    by None None (Some d) f e = cc
    by None None None f e = cc

-- the word of a variable by its number
pub word_found : (m : Tree) (text : List ℕ) (i : ℕ) (v : Variable) → symbol m text ≡ VariableOf i v
    → unwrap_or (slice_get (words_from m.types 1 m.globals) i) 0 ≡ symbol_word m (VariableOf i v)
unfolding start_granule
word_found m text i v e = ap (λ o. unwrap_or o 0) (word_in m.types 1 m.globals i v (variable_at m text i v e))

-- one global more
pub word_step : (types : List NamedType) (start next word : ℕ) (front : List ℕ) (gs : List GlobalItem) (k : ℕ) (g d : GlobalItem) → k < length gs → g ≡ get_or gs k d
    → word ≡ word_at types start (global_of g) → next ≡ start + granules_for (size_in types (global_of g))
    → (front ++ word ∷ []) ++ words_from types next (map global_of (drop (k + 1) gs)) ≡ front ++ words_from types start (map global_of (drop k gs))
unfolding words_from
word_step types start next word front [] k g d l e a b = absurd (omega (arith, l))
word_step types start next word front (h ∷ gs) zero g d l e a b =
    append_assoc front (word ∷ []) (words_from types next (map global_of gs))
    ∙ ap (λ x. front ++ x ∷ words_from types next (map global_of gs)) a
    ∙ ap (λ x. front ++ word_at types start (global_of g) ∷ words_from types x (map global_of gs)) b
    ∙ ap (λ x. front ++ word_at types start (global_of x) ∷ words_from types (start + granules_for (size_in types (global_of x))) (map global_of gs)) e
word_step types start next word front (h ∷ gs) (suc k) g d l e a b =
    let more : suc k + 1 ≡ suc (k + 1) = omega arith in
    ap (λ m. (front ++ word ∷ []) ++ words_from types next (map global_of (drop m (h ∷ gs)))) more
    ∙ word_step types start next word front gs k g d (omega (arith, l)) e a b

-- no global left
pub words_end : (types : List NamedType) (start : ℕ) (front : List ℕ) (gs : List GlobalItem) (k : ℕ) → length gs ≤ k → front ≡ front ++ words_from types start (map global_of (drop k gs))
unfolding words_from
words_end types start front [] zero l = sym (append-nil front)
words_end types start front [] (suc k) l = sym (append-nil front)
words_end types start front (g ∷ gs) zero l = absurd (omega (arith, l))
words_end types start front (g ∷ gs) (suc k) l = words_end types start front gs k (omega (arith, l))
